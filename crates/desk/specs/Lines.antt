-- Lines of a text.
use Rattle.std.specs.Prelude.{ℕ, List, [], ◌∷◌, take, Option, None, Some, ◌==◌, if◌then◌else◌}

-- the bytes before the first line feed, which is 10; or all, where there is none
abbrev pub line : List ℕ → List ℕ
line [] = []
line (byte ∷ bytes) = if byte == 10 then [] else byte ∷ line bytes

-- the bytes behind the first line feed
abbrev pub rest : List ℕ → List ℕ
rest [] = []
rest (byte ∷ bytes) = if byte == 10 then bytes else rest bytes

-- what is kept of the first line of a text: 2,049 bytes at most; an empty text has no line
abbrev pub first_line : List ℕ → Option (List ℕ)
first_line [] = None
first_line (byte ∷ bytes) = Some (take 2049 (line (byte ∷ bytes)))

-- the byte ahead of the first line
abbrev pub ahead : ℕ → List (List ℕ) → List (List ℕ)
ahead byte [] = (byte ∷ []) ∷ []
ahead byte (line ∷ lines) = (byte ∷ line) ∷ lines

-- the lines of a text; the last one needs no line feed
abbrev pub lines : List ℕ → List (List ℕ)
lines [] = []
lines (byte ∷ bytes) = if byte == 10 then [] ∷ lines bytes else ahead byte (lines bytes)
