-- The samples of a file's bytes, two by two.
use Rattle.std.proofs.Common.{◌≡◌, ℕ, zero, suc, ◌+◌, ◌*◌, ◌<◌, ◌≤◌, List, [], length, get_or, take, drop, unsigned_abs, Option, Some, None, All, Any, IsNone, IfSome, unwrap_or, inl, inr, refl, ap, ◌∙◌, sym, arith}
use Rattle.std.specs.Int.{w16, from_le_bytes}
use Rattle.std.specs.Simd.{first_chunks}
use Rattle.std.proofs.lemmas.List.{get_or-take, get_or-drop, drop-drop}
use Rattle.wave.specs.Export.{sample_count, sample_at, distance, Peak}

-- the number in two bytes at place k
pair_at : (bytes : List ℕ) (k : ℕ) → from_le_bytes w16 (take 2 (drop k bytes)) ≡ get_or bytes k 0 + get_or bytes (k + 1) 0 * 256
pair_at bytes k =
    let low : get_or (take 2 (drop k bytes)) 0 0 ≡ get_or bytes (k + 0) 0 = get_or-take 2 (drop k bytes) 0 0 (omega arith) ∙ get_or-drop k bytes 0 0 in
    let high : get_or (take 2 (drop k bytes)) 1 0 ≡ get_or bytes (k + 1) 0 = get_or-take 2 (drop k bytes) 1 0 (omega arith) ∙ get_or-drop k bytes 1 0 in
    grind arith

-- pair k of all pairs stands at byte 2 * k
pair_is : (bytes : List ℕ) (n k : ℕ) (d : List ℕ) → k < n → get_or (first_chunks 2 n bytes) k d ≡ take 2 (drop (2 * k) bytes)
pair_is bytes zero k d h = elim h [ ]
pair_is bytes (suc n) zero d h = refl
pair_is bytes (suc n) (suc k) d h =
    pair_is (drop 2 bytes) n k d (omega arith) ∙ ap (take 2) (drop-drop (2 * k) 2 bytes ∙ ap (λ j. drop j bytes) (omega arith))

-- so its number is sample k
sample_is : (bytes : List ℕ) (pairs : List (List ℕ)) (n k : ℕ) (d : List ℕ) → pairs ≡ first_chunks 2 n bytes → k < n → distance (get_or pairs k d) ≡ unsigned_abs (sample_at bytes k)
sample_is bytes pairs n k d e h = rw (e, pair_is bytes n k d h, pair_at bytes (2 * k))

-- the largest distance of the pairs, or 0 if there is none, is the peak
pub peak_is : (bytes : List ℕ) (pairs : List (List ℕ)) (r : Option ℕ) (p : ℕ) → pairs ≡ first_chunks 2 (sample_count bytes) bytes → length pairs ≡ sample_count bytes
    → (IsNone r → length pairs ≡ 0) → IfSome r (λ m. All (λ pair. distance pair ≤ m) pairs) → IfSome r (λ m. Any (λ pair. distance pair ≡ m) pairs) → p ≡ unwrap_or r 0 → Peak bytes p
peak_is bytes pairs None p e l none bound reached u = let empty = none refl in record { above = λ k lt. absurd (omega arith); reached = inl u }
peak_is bytes pairs (Some m) p e l none bound (k, x, lt, at, top) u =
    let within : k < sample_count bytes = omega arith in
    record {
      above = λ j below. omega (arith, bound j [] (omega arith), sample_is bytes pairs _ j [] e below);
      reached = inr (k, within, sym (sample_is bytes pairs _ k x e within) ∙ ap distance at ∙ top ∙ sym u);
    }
