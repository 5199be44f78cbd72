-- A cut by a plan keeps the general rule, and lists of devices are cut one by one.
use Rattle.std.proofs.Common.{◌≡◌, ℕ, zero, suc, ◌⊎◌, List, [], ◌∷◌, ◌++◌, length, get_or, replicate, sym, refl, subst, inl, inr, ⊎_elim, arith}
use mathlib.Core.List.{Memᴰ}
use lib.ListN.{length-replicate}
use Rattle.sector.specs.Layout.{Sound}
use Rattle.device.specs.Meaning.{Sector, sick, held, Meaning}
use Rattle.device.specs.Cuts.{CutSector, Cut, chosen, cut_by, EachCut}

pub zeros_unsound : Sound (replicate 512 0) → ⊥
zeros_unsound h = omega (arith, h.low)

picked : (xs : List (List ℕ)) (k : ℕ)
    → Memᴰ (get_or xs k (replicate 512 0)) xs ⊎ ((length (get_or xs k (replicate 512 0)) ≡ 512) × (Sound (get_or xs k (replicate 512 0)) → ⊥))
picked [] k = inr (length-replicate {A = ℕ} 512 0, zeros_unsound)
picked (x ∷ xs) zero = inl (Memᴰ.head refl)
picked (x ∷ xs) (suc k) = ⊎_elim (λ m. inl (Memᴰ.tail m)) (λ u. inr u) (picked xs k)

pub cut_chosen : (k : ℕ) (t : Sector) → CutSector t (chosen k t)
cut_chosen k (sick f) = refl
cut_chosen k (held [] new) = (refl, refl)
cut_chosen k (held (o ∷ old) new) = (refl, picked ((o ∷ old) ++ (new ∷ [])) k)

pub cut_by_plan : (plan : List ℕ) (m n : Meaning) → n ≡ cut_by plan m → Cut m n
cut_by_plan plan m n e =
    subst (λ (x : Meaning). Cut m x) (sym e) (record { size = refl; power = refl; each = λ s. cut_chosen (get_or plan s 0) (m.sector s) })

pub each_append : (xs xs' ys ys' : List Meaning) → EachCut xs xs' → EachCut ys ys' → EachCut (xs ++ ys) (xs' ++ ys')
each_append [] [] ys ys' h k = k
each_append [] (x ∷ xs) ys ys' h k = absurd h
each_append (x ∷ xs) [] ys ys' h k = absurd h
each_append (x ∷ xs) (x' ∷ xs') ys ys' h k = (h.0, each_append xs xs' ys ys' h.1 k)
