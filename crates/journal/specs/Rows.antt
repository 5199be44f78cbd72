-- A take table in memory: rows in an array, the first for take 1.
use Rattle.std.specs.Prelude.{◌≡◌, ℕ, zero, suc, ◌+◌, ◌*◌, ◌≤◌, List, slice_index_or}
use Rattle.takes.specs.declared.State.TheVariants.{Withdrawn}
use Rattle.takes.specs.declared.Row.{Row}
use Rattle.takes.specs.declared.Outline.{Outline}
use Rattle.takes.specs.Steps.{next_rows, next_count}
use Rattle.journal.specs.declared.header.Header.{Header}

-- what stands for a number that no take has
abbrev pub blank_row : Row
blank_row = record { track = 0; position = 0; len = 0; state = Withdrawn; start = 0; last = 0 }

-- the row of take k
abbrev pub row_at : List Row → ℕ → Row
row_at rows zero = blank_row
row_at rows (suc k) = slice_index_or rows k blank_row

-- the table and its number of takes after an entry at a place
abbrev pub Steps : ℕ → Outline → List Row → ℕ → List Row → ℕ → Type 0
Steps place o rows n rows' n' = (row_at rows' ≡ next_rows place n (row_at rows) o) × (n' ≡ next_count n o)

-- what m entries can make of a row: its track is one of the header's (or 0), a block has added 240 elements at most, and its sectors are among theirs
abbrev pub RowWithin : Header → ℕ → Row → Type 0
RowWithin hd m r = (r.track ≤ hd.tracks) × (r.position + r.len ≤ 240 * m) × (r.start ≤ m) × (r.last ≤ m)

-- what m entries can make of a table
pub record Within (hd : Header) (m : ℕ) (rows : List Row) : Type 0 where
  pub each : (k : ℕ) → RowWithin hd m (row_at rows k)
