-- Elements packed one after the other.
use Rattle.std.proofs.Common.{◌≡◌, ℕ, zero, suc, ◌+◌, ◌-◌, ◌*◌, ◌<◌, List, [], ◌∷◌, ◌++◌, length, get_or, take, drop, sym, ap, ◌∙◌, append_assoc, append-nil, suc-mul, zero-mul, arith, length-append, drop-drop}
use native.Mathlib.Nat.{add-sub_cancel_left}
use borrow.Rule.Slice.PartMut.{put_mid}
use Rattle.std.specs.List.{flat_map}
use Rattle.little_endian.proofs.Parts.{put_next}

-- one element more is its bytes more
pub packed_more : {X : Type 0} (f : X → List ℕ) (xs : List X) (i : ℕ) (x : X) → i < length xs → x ≡ get_or xs i x → flat_map f (take (suc i) xs) ≡ flat_map f (take i xs) ++ f x
packed_more f [] i x h e = absurd (omega arith)
packed_more f (y ∷ ys) zero x h e = append-nil (f y) ∙ ap f (sym e)
packed_more f (y ∷ ys) (suc i) x h e = ap (λ r. f y ++ r) (packed_more f ys i x (omega arith) e) ∙ sym (append_assoc (f y) (flat_map f (take i ys)) (f x))

-- the part of w bytes from `at` on now holds b
pub put_more : (front p b : List ℕ) (at w : ℕ) → length front ≡ at → length b ≡ w → put_mid at (at + w - at) (front ++ drop at p) b ≡ (front ++ b) ++ drop (at + w) p
put_more front p b at w lf lb =
    put_next front (drop at p) b at (at + w - at) lf
    ∙ ap (λ (k : ℕ). (front ++ b) ++ drop k (drop at p)) (add-sub_cancel_left at w) ∙ ap (λ r. (front ++ b) ++ r) (drop-drop w at p)

-- elements of one width
pub packed_length : {X : Type 0} (f : X → List ℕ) (w : ℕ) → ((x : X) → length (f x) ≡ w) → (xs : List X) → length (flat_map f xs) ≡ length xs * w
packed_length f w wide [] = sym (zero-mul w)
packed_length f w wide (x ∷ xs) =
    let e = wide x in
    let k = packed_length f w wide xs in
    let m = suc-mul (length xs) w in
    simp length-append (omega arith)
