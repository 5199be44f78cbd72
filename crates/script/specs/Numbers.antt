-- Numbers as the words of a line write them.
use Rattle.std.specs.Prelude.{ℕ, ◌+◌, ◌-◌, ◌*◌, Bool, ◌&&◌, List, [], ◌∷◌, length, ℤ, pos, neg_ℤ, Option, Some, None, nat_lt, nat_le, ◌==◌, if◌then◌else◌}
use Rattle.std.specs.List.{list_all}
use Rattle.std.specs.Option.{option_map, option_and_then}

-- a byte is a decimal digit: from `0`, which is 48, to `9`, which is 57
abbrev pub is_digit : ℕ → Bool
is_digit byte = nat_le 48 byte && nat_le byte 57

-- one digit or more, and nothing else
abbrev pub is_numeral : List ℕ → Bool
is_numeral word = nat_lt 0 (length word) && list_all is_digit word

-- the number that digits write after the number n
abbrev pub value_after : ℕ → List ℕ → ℕ
value_after n [] = n
value_after n (digit ∷ digits) = value_after (n * 10 + (digit - 48)) digits

-- the number that digits write
abbrev pub value : List ℕ → ℕ
value digits = value_after 0 digits

-- the number that a word writes, if it writes one, and no more than the most
abbrev pub natural : ℕ → List ℕ → Option ℕ
natural most word = if is_numeral word && nat_le (value word) most then Some (value word) else None

-- the number below 0 with this number after its minus; there is no -0
abbrev pub negative : ℕ → Option ℤ
negative n = if n == 0 then None else Some (neg_ℤ (pos n))

-- the number from -32,768 to 32,767 that a word writes, if it writes one; a minus is 45
abbrev pub sample : List ℕ → Option ℤ
sample [] = None
sample (byte ∷ bytes) =
    if byte == 45
    then option_and_then negative (natural 32768 bytes)
    else option_map pos (natural 32767 (byte ∷ bytes))

-- the number of a field of one byte
abbrev pub byte : List ℕ → Option ℕ
byte word = natural 255 word

-- of two bytes
abbrev pub two_bytes : List ℕ → Option ℕ
two_bytes word = natural 65535 word

-- of four bytes
abbrev pub four_bytes : List ℕ → Option ℕ
four_bytes word = natural 4294967295 word
