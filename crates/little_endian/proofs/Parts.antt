-- Parts of a list: written one after the other from the front on, and spelled out element by element.
use Rattle.std.proofs.Common.{◌≡◌, ℕ, zero, suc, ◌+◌, ◌≤◌, List, [], ◌∷◌, ◌++◌, length, get_or, take, drop, sym, refl, ap, ◌∙◌, ap₂, append_assoc, arith, drop-cons}
use borrow.Rule.Slice.PartMut.{put_mid}
use Rattle.std.proofs.lemmas.List.{take_at, drop_at}

-- a part is written where what was written before it ends
pub put_next : {X : Type 0} (front rest ys : List X) (a k : ℕ) → length front ≡ a → put_mid a k (front ++ rest) ys ≡ (front ++ ys) ++ drop k rest
put_next front rest ys a k e =
    ap₂ (λ x y. x ++ (ys ++ drop k y)) (take_at front rest a e) (drop_at front rest a e) ∙ sym (append_assoc front ys (drop k rest))

-- n elements from place i on
abbrev pub spelled : ℕ → ℕ → List ℕ → List ℕ
spelled zero i xs = []
spelled (suc n) i xs = get_or xs i 0 ∷ spelled n (suc i) xs

pub spelled_is : (n i : ℕ) (xs : List ℕ) → i + n ≤ length xs → spelled n i xs ≡ take n (drop i xs)
spelled_is zero i xs h = refl
spelled_is (suc n) i xs h =
    ap (λ (ys : List ℕ). get_or xs i 0 ∷ ys) (spelled_is n (suc i) xs (omega arith)) ∙ ap (take (suc n)) (sym (drop-cons xs i 0 (omega arith)))
