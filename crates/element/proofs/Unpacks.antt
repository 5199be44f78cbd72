-- Elements read from bytes, one after the other.
use Rattle.std.proofs.Common.{◌≡◌, ℕ, zero, suc, ◌+◌, ◌-◌, ◌*◌, ◌<◌, ◌≤◌, Bool, true, List, [], ◌∷◌, ◌++◌, length, get_or, take, drop, set, refl, sym, ap, ◌∙◌, ap₂, subst, zero-add, zero-mul, suc-add, suc-mul, append_assoc, drop-drop, arith}
use native.Mathlib.Nat.{add-sub_cancel_left}
use Rattle.std.proofs.lemmas.List.{take_at, drop_at, drop_more}
use Rattle.std.proofs.Math.Seq.{set-append_seam}
use Rattle.std.proofs.lemmas.List.Elements.{All-head, All-tail}
use Rattle.std.specs.List.{flat_map, AllPass}
use Rattle.element.specs.Payload.{unpacked}

module _ {X : Type 0} (v : List ℕ → X) (w : ℕ) where
  pub length-unpacked : (n : ℕ) (bs : List ℕ) → length (unpacked v w n bs) ≡ n
  length-unpacked zero bs = refl
  length-unpacked (suc n) bs = ap suc (length-unpacked n (drop w bs))

  -- n more come from the bytes behind those of the first m
  pub unpacked_append : (m n : ℕ) (bs : List ℕ) → unpacked v w (m + n) bs ≡ unpacked v w m bs ++ unpacked v w n (drop (m * w) bs)
  unpacked_append zero n bs = rw (zero-add, zero-mul)
  unpacked_append (suc m) n bs =
      let e : drop (m * w) (drop w bs) ≡ drop (suc m * w) bs = drop-drop (m * w) w bs ∙ ap (λ (k : ℕ). drop k bs) (omega (arith, suc-mul m w)) in
      rw (suc-add, ← e) (ap (λ (xs : List X). v (take w bs) ∷ xs) (unpacked_append m n (drop w bs)))

  -- one element more was read
  pub unpack_more : (i at : ℕ) (bs : List ℕ) (o out : List X) (x : X) → i < length o → at ≡ i * w → out ≡ unpacked v w i bs ++ drop i o → x ≡ v (take (at + w - at) (drop at bs))
      → set out i x ≡ unpacked v w (i + 1) bs ++ drop (i + 1) o
  unpack_more i at bs o out x h ea f ex =
      let U : List X = unpacked v w i bs in
      let D : List X = drop (i + 1) o in
      let same : x ≡ v (take w (drop (i * w) bs)) = ex ∙ ap₂ (λ (n k : ℕ). v (take n (drop k bs))) (add-sub_cancel_left at w) ea in
      let seam : set (U ++ (get_or o i x ∷ D)) i x ≡ U ++ (x ∷ D) = subst (λ (k : ℕ). set (U ++ (get_or o i x ∷ D)) k x ≡ U ++ (x ∷ D)) (length-unpacked i bs) (set-append_seam U (get_or o i x) D x) in
      ap (λ (l : List X). set l i x) (f ∙ ap (λ (r : List X). U ++ r) (drop_more o i x h)) ∙ seam ∙ rw (unpacked_append i 1 bs, ← same, append_assoc)

  -- a slice of which the first i were filled, once the next was set to what the next bytes say
  pub filled_more : (i : ℕ) (bs left chunk after : List ℕ) (o out : List X) (x : X) → out ≡ unpacked v w i bs ++ drop i o → i < length o → left ≡ drop (i * w) bs → left ≡ chunk ++ after → length chunk ≡ w → x ≡ v chunk
      → set out i x ≡ unpacked v w (i + 1) bs ++ drop (i + 1) o
  filled_more i bs left chunk after o out x f h l e wide ex =
      let first : take (i * w + w - i * w) (drop (i * w) bs) ≡ chunk =
      ap (λ (n : ℕ). take n (drop (i * w) bs)) (add-sub_cancel_left (i * w) w) ∙ ap (take w) (sym l ∙ e) ∙ take_at chunk after w wide in
      unpack_more i (i * w) bs o out x h refl f (ex ∙ ap v (sym first))

-- elements that were packed are read as they were
module _ {X : Type 0} (f : X → List ℕ) (v : List ℕ → X) (ok : X → Bool) (w : ℕ) (wide : (x : X) → length (f x) ≡ w) (told : (x : X) → ok x ≡ true → v (f x) ≡ x) where
  unpacked_back : (xs : List X) (n : ℕ) (bs rest : List ℕ) (o : List X) → AllPass ok xs → bs ≡ flat_map f xs ++ rest → length xs ≤ n → take (length xs) (unpacked v w n bs ++ o) ≡ xs
  unpacked_back [] n bs rest o h e l = refl
  unpacked_back (x ∷ xs) zero bs rest o h e l = absurd (omega arith)
  unpacked_back (x ∷ xs) (suc n) bs rest o h e l =
      let split : bs ≡ f x ++ (flat_map f xs ++ rest) = e ∙ append_assoc (f x) (flat_map f xs) rest in
      ap₂ (λ (y : X) (ys : List X). y ∷ ys)
      (ap (λ (r : List ℕ). v (take w r)) split ∙ ap v (take_at (f x) (flat_map f xs ++ rest) w (wide x)) ∙ told x (All-head (λ (y : X). ok y ≡ true) x xs h))
      (unpacked_back xs n (drop w bs) rest o (All-tail (λ (y : X). ok y ≡ true) x xs h) (ap (drop w) split ∙ drop_at (f x) (flat_map f xs ++ rest) w (wide x)) (omega arith))

  pub read_back : (n : ℕ) (bs : List ℕ) (out o : List X) → out ≡ unpacked v w n bs ++ o
      → (xs : List X) (rest : List ℕ) → AllPass ok xs → bs ≡ flat_map f xs ++ rest → length xs ≤ n → take (length xs) out ≡ xs
  read_back n bs out o e xs rest h s l = ap (take (length xs)) e ∙ unpacked_back xs n bs rest o h s l
