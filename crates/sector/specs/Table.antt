-- The rule of the tables, as one test over all of their entries.
use Rattle.std.specs.Prelude.{ℕ, suc, ◌+◌, Bool, true, ◌&&◌, List, [], ◌∷◌, length, ◌==◌}
use Rattle.sector.specs.Crc.{steps}

-- each entry, counted from k, is its own place after n steps
abbrev pub row_holds : ℕ → ℕ → List ℕ → Bool
row_holds n k [] = true
row_holds n k (x ∷ xs) = x == steps n k && row_holds n (suc k) xs

-- each table has 256 entries, made by eight steps more than those of the table before it
abbrev pub tables_hold : ℕ → List (List ℕ) → Bool
tables_hold n [] = true
tables_hold n (xs ∷ xss) = (length xs == 256 && row_holds n 0 xs) && tables_hold (8 + n) xss
