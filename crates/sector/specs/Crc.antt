-- CRC-32 of IEEE 802.3, bit by bit. The register is reflected: its lowest bit is the next to leave.
use Rattle.std.specs.Prelude.{ℕ, zero, suc, ◌*◌, ◌/◌, ◌%◌, List, [], ◌∷◌, bit_xor}

-- one bit leaves the register; where it was a 1, the polynomial is added
unfoldable pub step : ℕ → ℕ
step c = bit_xor (c / 2) (c % 2 * 0xEDB88320)

-- that many bits leave
unfoldable pub steps : ℕ → ℕ → ℕ
steps zero c = c
steps (suc k) c = steps k (step c)

-- the register after bytes, each added to it and moved through by its eight bits
unfoldable pub register : ℕ → List ℕ → ℕ
register c [] = c
register c (b ∷ bs) = register (steps 8 (bit_xor c b)) bs

-- the check of bytes
abbrev pub crc32 : List ℕ → ℕ
crc32 bs = bit_xor (register 0xFFFFFFFF bs) 0xFFFFFFFF
