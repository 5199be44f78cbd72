use Rattle.std.proofs.Common.{◌≡◌, ℕ, ◌<◌, ◌≤◌, get_or}
use Rattle.takes.specs.Takes.{settled}
use Rattle.takes.specs.Steps.{row_in_state}
use Rattle.journal.specs.Rows.{blank_row}
use Rattle.journal.proofs.table.Rows.settle.Given as goal

abbrev pub invariant-loop-row : goal.invariant-loop-row
invariant-loop-row l = record {
  before : (j : ℕ) → j < l.row-index → get_or l.row-items j blank_row ≡ row_in_state (settled (get_or l.fn.self.rows j blank_row).state) (get_or l.fn.self.rows j blank_row);
  after : (j : ℕ) → l.row-index ≤ j → get_or l.row-items j blank_row ≡ get_or l.fn.self.rows j blank_row;
}
