use Rattle.std.proofs.Common.{subst}
use Rattle.script.specs.Meaning.{meaning}
use Rattle.desk.specs.Desks.{Meant}
use Rattle.desk.proofs.Scripts.{meaning_kept, known_on, known_end}
use Rattle.desk.proofs.desk.Desk.answer_all.Goals as goal

pub returns-in-None : goal.returns-in-None
returns-in-None g c =
    let end = rw c.in-None.is at c.in_ok-next.ensures.answered in
    known_end (λ d line answer d'. Meant g.D.Device.meaning g.D.CuttableDevice.images g.D.CuttableDevice.below d (meaning line) answer d')
    (g.R.Read.remaining c.args.input.now) (g.R.Read.remaining c.loop.input) c.args.self.sitting.recorder c.loop.desk.sitting.recorder
    (g.W.Write.contents c.args.output.now) (g.W.Write.contents c.loop.output) (g.W.Write.contents c.answer_next.new.output)
    end.0 end.1 c.loop.invariant

pub loop-preserved : goal.loop-preserved
loop-preserved g c =
    let s = c.loop.desk.sitting.recorder in
    let s' = c.in-Some.next.sitting.recorder in
    known_on (λ d line answer d'. Meant g.D.Device.meaning g.D.CuttableDevice.images g.D.CuttableDevice.below d (meaning line) answer d')
    (g.R.Read.remaining c.args.input.now) (g.R.Read.remaining c.loop.input) (g.R.Read.remaining c.answer_next.new.input)
    c.args.self.sitting.recorder s s'
    (g.W.Write.contents c.args.output.now) (g.W.Write.contents c.loop.output) (g.W.Write.contents c.answer_next.new.output)
    (λ line answer. subst (λ said. Meant g.D.Device.meaning g.D.CuttableDevice.images g.D.CuttableDevice.below s said answer s') (meaning_kept line))
    (rw c.in-Some.is at c.in_ok-next.ensures.answered) c.in_ok-next.ensures.rest c.loop.invariant
