-- The bytes of an image taken as sectors of 512 bytes, and which of them are sick.
use Rattle.std.specs.Prelude.{ℕ, ◌*◌, ◌/◌, min, Bool, false, cond, List, ◌++◌, length, take, drop, Some, None, Ok, Err, Option, ◌==◌, nat_lt}
use Rattle.std.specs.List.{list_any}
use Rattle.device.specs.Faults.{Answer, out_of_range, sick_at}

-- how many whole sectors the bytes have, 65,536 at most
abbrev pub whole : List ℕ → ℕ
whole bytes = min (length bytes / 512) 65536

-- the content of sector s
abbrev pub content : List ℕ → ℕ → List ℕ
content bytes s = take 512 (drop (512 * s) bytes)

-- the bytes with b as the content of sector s
abbrev pub over : List ℕ → ℕ → List ℕ → List ℕ
over bytes s b = take (512 * s) bytes ++ (b ++ drop 512 (drop (512 * s) bytes))

-- an entry names sector s
abbrev pub names : ℕ → Option ℕ → Bool
names s None = false
names s (Some k) = k == s

-- one of the entries names sector s
abbrev pub is_sick : List (Option ℕ) → ℕ → Bool
is_sick sick s = list_any (names s) sick

-- whether sector s may be read and written: range first, then sickness
abbrev pub ready : ℕ → ℕ → List (Option ℕ) → ℕ → Answer
ready layer size sick s = cond (nat_lt s size) (cond (is_sick sick s) (Err (sick_at layer s)) (Ok tt)) (Err (out_of_range layer s))
