use Rattle.std.proofs.Common.{subst}
use Rattle.script.specs.Meaning.{meaning}
use Rattle.desk.specs.Desks.{Meant}
use Rattle.desk.proofs.desk.Desk.answer_next.Goals as goal

pub returns-clause-answered : goal.returns-clause-answered
returns-clause-answered g c = record {
  line = c.in-Some.line.items;
  answer = c.in_ok-desk.answer;
  first = rw c.in-Some.is at c.in_ok-line.ensures.line;
  did = subst (λ line. Meant g.D.Device.meaning g.D.CuttableDevice.images g.D.CuttableDevice.below c.args.self.sitting.recorder (meaning line) c.in_ok-desk.answer c.in_ok-desk.desk.sitting.recorder) c.deref.ensures.value c.in_ok-desk.ensures;
  told = c.in_ok-tell.ensures;
}
