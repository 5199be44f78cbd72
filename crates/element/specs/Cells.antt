-- Cells: what a slice can be filled with.
use Rattle.std.specs.Prelude.{ℕ, List, slice_index}

-- the byte that one byte says: itself
abbrev pub byte_of : List ℕ → ℕ
byte_of bs = slice_index bs 0
