-- A WAVE file of 16-bit mono sound: a header of 44 bytes, then two bytes for each sample.
use Rattle.std.specs.Prelude.{◌≡◌, ℕ, ◌+◌, ◌*◌, ◌/◌, ◌%◌, ◌<◌, ◌≤◌, ◌⊎◌, List, ◌++◌, length, ℤ, codes, slice_index, unsigned_abs}
use Rattle.std.specs.Int.{w16, from_le_bytes}
use Rattle.std.proofs.Common.{to_z}
use Rattle.little_endian.specs.Little.{le16, le32}

-- the header of n samples at a rate: form 1 (PCM), one channel, 2 × rate bytes a second, 2 bytes and 16 bits a sample
unfoldable pub header_bytes : ℕ → ℕ → List ℕ
header_bytes rate n =
    codes "RIFF" ++ le32 (36 + 2 * n) ++ codes "WAVE"
    ++ codes "fmt " ++ le32 16 ++ le16 1 ++ le16 1 ++ le32 rate ++ le32 (2 * rate) ++ le16 2 ++ le16 16
    ++ codes "data" ++ le32 (2 * n)

-- how many samples so many bytes hold; an odd last byte is none
abbrev pub sample_count : List ℕ → ℕ
sample_count bytes = length bytes / 2

-- a file that an export writes: a lawful rate, at most 15,727,920 samples, all of them whole, after their header
pub record Exported (file : List ℕ) (rate : ℕ) (samples : List ℕ) : Type 0 where
  pub low : 8000 ≤ rate
  pub high : rate ≤ 48000
  pub few : sample_count samples ≤ 15727920
  pub whole : length samples % 2 ≡ 0
  pub laid : file ≡ header_bytes rate (sample_count samples) ++ samples

-- sample k: its low byte, then its high byte, in two's complement
abbrev pub sample_at : List ℕ → ℕ → ℤ
sample_at bytes k = to_z w16 (slice_index bytes (2 * k) + slice_index bytes (2 * k + 1) * 256)

-- how far the number that stands in two bytes is from 0
abbrev pub distance : List ℕ → ℕ
distance pair = unsigned_abs (to_z w16 (from_le_bytes w16 pair))

-- the length of n samples in milliseconds, rounded down; 0 at a rate of 0, as any quotient by 0 is
abbrev pub duration : ℕ → ℕ → ℕ
duration rate n = 1000 * n / rate

-- r is the largest distance of a sample from 0, and 0 if there is no sample
pub record Peak (bytes : List ℕ) (r : ℕ) : Type 0 where
  pub above : (k : ℕ) → k < sample_count bytes → unsigned_abs (sample_at bytes k) ≤ r
  pub reached : (r ≡ 0) ⊎ ((k : ℕ) × (k < sample_count bytes) × (unsigned_abs (sample_at bytes k) ≡ r))
