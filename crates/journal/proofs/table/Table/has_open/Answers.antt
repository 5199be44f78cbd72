use Rattle.std.proofs.Common.{◌∙◌, arith}
use Rattle.journal.proofs.Tables.{any_open}
use Rattle.journal.proofs.table.Table.has_open.Goals as goal

pub returns : goal.returns
returns c = c.has_open.ensures ∙ any_open c.args.self.now.inner.rows c.args.track c.args.self.now.inner.count (omega arith)
