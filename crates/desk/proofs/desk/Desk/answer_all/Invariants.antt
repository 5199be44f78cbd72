use Rattle.script.specs.Meaning.{meaning}
use Rattle.desk.specs.Desks.{Meant}
use Rattle.desk.proofs.Scripts.{Known}
use Rattle.desk.proofs.desk.Desk.answer_all.Given as goal

-- so far the lines were answered
abbrev pub invariant-loop : goal.invariant-loop
invariant-loop g l =
    Known (λ d line answer d'. Meant g.D.Device.meaning g.D.CuttableDevice.images g.D.CuttableDevice.below d (meaning line) answer d')
    (g.R.Read.remaining l.initial.input) (g.R.Read.remaining l.input) l.initial.desk.sitting.recorder l.desk.sitting.recorder
    (g.W.Write.contents l.initial.output) (g.W.Write.contents l.output)
