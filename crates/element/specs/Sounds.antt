-- Sound: samples from -32,768 to 32,767, two bytes each, in two's complement.
use Rattle.std.specs.Prelude.{ℕ, ◌+◌, ◌*◌, Bool, List, ℤ, pos, negsuc, nat_lt, slice_index}
use Rattle.std.specs.Int.{w16}
use Rattle.std.proofs.Common.{of_z, to_z}
use Rattle.little_endian.specs.Little.{le16}

-- within the range of a sample
abbrev pub sample_lawful : ℤ → Bool
sample_lawful (pos n) = nat_lt n 32768
sample_lawful (negsuc n) = nat_lt n 32768

-- a sample's two bytes
abbrev pub sample_bytes : ℤ → List ℕ
sample_bytes x = le16 (of_z w16 x)

-- the sample that two bytes say
abbrev pub sample_of : List ℕ → ℤ
sample_of bs = to_z w16 (slice_index bs 0 + slice_index bs 1 * 256)
