use Rattle.takes.specs.declared.Outline.TheVariants.{Trailer}
use Rattle.journal.proofs.Tables.{keeps}
use Rattle.journal.proofs.table.Table.end.Goals as goal

pub invariant_of-self : goal.invariant_of-self
invariant_of-self c = keeps c.args.self.now 0 (Trailer c.args.take) _ _ c.requires (c.end.ensures 0)
