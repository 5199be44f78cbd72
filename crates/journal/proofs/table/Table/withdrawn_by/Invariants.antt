use Rattle.std.proofs.Common.{◌≡◌, ◌<◌, MatchOption}
use Rattle.takes.specs.Table.{withdrawn_by}
use Rattle.journal.specs.Rows.{row_at}
use Rattle.journal.proofs.table.Table.withdrawn_by.Given as goal

abbrev pub invariant-loop-i : goal.invariant-loop-i
invariant-loop-i l = MatchOption l.found (withdrawn_by (row_at l.self.inner.rows) l.track l.i ≡ 0) (λ k. (0 < k) × (withdrawn_by (row_at l.self.inner.rows) l.track l.i ≡ k))
