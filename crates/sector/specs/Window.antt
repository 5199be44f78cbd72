-- The register of the check spread over five words of 64 bits, the lowest first.
use Rattle.std.specs.Prelude.{◌≡◌, ℕ, ◌*◌, ◌^◌, List, [], ◌∷◌, ◌++◌, bit_xor}
use Rattle.sector.specs.Crc.{steps, register}

-- a word, and what stands above it
abbrev pub above : ℕ → ℕ → ℕ
above low high = bit_xor low (high * 2 ^ 64)

-- the register that a window stands for
unfoldable pub value : List ℕ → ℕ
value [] = 0
value (x ∷ xs) = above x (value xs)

-- to take these eight bytes in is to add the word to the register and let 64 bits leave
abbrev pub Loads : List ℕ → ℕ → Type 0
Loads chunk word = (c : ℕ) → register c chunk ≡ steps 64 (bit_xor c word)

-- to take in these eight bytes and a word, over the register c from below the word, leaves this register below what stands above
abbrev pub Takes : ℕ → ℕ → List ℕ → ℕ → Type 0
Takes word c chunk left = (s : ℕ) (rest : List ℕ) → register (bit_xor c (above word s)) (chunk ++ rest) ≡ register (bit_xor left s) rest
