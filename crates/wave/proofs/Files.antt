-- What a file that an export writes holds, and where.
use Rattle.std.proofs.Common.{◌≡◌, ℕ, ◌+◌, ◌<◌, List, ◌++◌, length, take, drop, sym, refl, ap, ◌∙◌, ap₂, arith, length-append}
use Rattle.std.specs.Int.{w32, from_le_bytes}
use Rattle.std.proofs.lemmas.List.{take_at, drop_at, take-append-drop}
use Rattle.std.proofs.lemmas.Nat.{from_le_bytes-to_le_bytes_4}
use Rattle.wave.specs.Export.{header_bytes, sample_count, Exported}

header_length : (rate n : ℕ) → length (header_bytes rate n) ≡ 44
unfolding header_bytes
header_length rate n = refl

rate_back : (rate n : ℕ) → rate < 4294967296 → from_le_bytes w32 (take 4 (take 20 (drop 24 (header_bytes rate n)))) ≡ rate
unfolding header_bytes
rate_back rate n h = from_le_bytes-to_le_bytes_4 rate h

module _ (file : List ℕ) (rate : ℕ) (samples : List ℕ) (ex : Exported file rate samples) where
  pub file_length : length file ≡ 44 + length samples
  file_length =
      ap length ex.laid ∙ length-append (header_bytes rate (sample_count samples)) samples
      ∙ ap (λ n. n + length samples) (header_length rate (sample_count samples))

  pub front_is : take 44 file ≡ header_bytes rate (sample_count samples)
  front_is =
      ap (take 44) ex.laid
      ∙ take_at (header_bytes rate (sample_count samples)) samples 44 (header_length rate (sample_count samples))

  pub rest_is : drop 44 file ≡ samples
  rest_is =
      ap (drop 44) ex.laid
      ∙ drop_at (header_bytes rate (sample_count samples)) samples 44 (header_length rate (sample_count samples))

  -- the number that stands at byte 24 of the header is the rate
  pub rate_is : (head word : List ℕ) (r : ℕ) → head ≡ take 44 file → word ≡ take 4 (take 20 (drop 24 head)) → r ≡ from_le_bytes w32 word → r ≡ rate
  rate_is head word r eh ew e =
      e ∙ ap (from_le_bytes w32) (ew ∙ ap (λ h. take 4 (take 20 (drop 24 h))) (eh ∙ front_is))
      ∙ rate_back rate (sample_count samples) (omega (arith, ex.high))

  -- the first 44 bytes are the header of the rate and of the rest
  pub own_header : (head rest : List ℕ) (r n : ℕ) → head ≡ take 44 file → rest ≡ drop 44 file → r ≡ rate → n ≡ sample_count rest → head ≡ header_bytes r n
  own_header head rest r n eh er e en = eh ∙ front_is ∙ sym (ap₂ header_bytes e (en ∙ ap sample_count (er ∙ rest_is)))

-- a file whose first 44 bytes are the header of the rest
pub laid_out : (file head rest : List ℕ) (rate n : ℕ) → head ≡ take 44 file → rest ≡ drop 44 file → head ≡ header_bytes rate n → n ≡ sample_count rest
    → file ≡ header_bytes rate (sample_count rest) ++ rest
laid_out file head rest rate n eh er e en =
    sym (take-append-drop 44 file) ∙ ap₂ (λ (x y : List ℕ). x ++ y) (sym eh ∙ e ∙ ap (header_bytes rate) en) (sym er)
