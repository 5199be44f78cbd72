use Rattle.std.proofs.Common.{◌≡◌}
use Rattle.takes.specs.Table.{end_of}
use Rattle.journal.specs.Rows.{row_at}
use Rattle.journal.proofs.table.Table.end_of.Given as goal

abbrev pub invariant-loop-row : goal.invariant-loop-row
invariant-loop-row l = l.end ≡ end_of (row_at l.self.inner.rows) l.track l.row-index
