-- Lists of contents: what remains, what is kept and what is worn.
use Rattle.std.proofs.Common.{◌≡◌, ℕ, List, [], ◌∷◌, ◌++◌, sym, refl, subst, inl, inr, ⊎_elim}
use Rattle.device.specs.Meaning.{Sector, sick, held}
use Rattle.device.specs.Calls.{Remains, Kept, Worn, settled}

pub remains_append : (xs ys : List (List ℕ)) → Remains xs (xs ++ ys)
remains_append [] ys = tt
remains_append (x ∷ xs) ys = inl (refl, remains_append xs ys)

pub remains_refl : (xs : List (List ℕ)) → Remains xs xs
remains_refl [] = tt
remains_refl (x ∷ xs) = inl (refl, remains_refl xs)

pub remains_more : (x : List ℕ) (xs : List (List ℕ)) → Remains xs (x ∷ xs)
remains_more x [] = tt
remains_more x (y ∷ ys) = inr (remains_refl (y ∷ ys))

remains_last : (xs ys : List (List ℕ)) (z : List ℕ) → Remains xs ys → Remains (xs ++ (z ∷ [])) (ys ++ (z ∷ []))
remains_last [] [] z h = inl (refl, tt)
remains_last [] (y ∷ ys) z h = inr (remains_last [] ys z tt)
remains_last (x ∷ xs) [] z h = absurd h
remains_last (x ∷ xs) (y ∷ ys) z h =
    ⊎_elim (λ p. inl (p.0, remains_last xs ys z p.1)) (λ q. inr (remains_last (x ∷ xs) ys z q)) h

pub worn_refl : (t : Sector) → Worn t t
worn_refl (sick f) = refl
worn_refl (held old new) = remains_refl (old ++ (new ∷ []))

pub kept_refl : (t : Sector) → Kept t t
kept_refl (sick f) = refl
kept_refl (held old new) = (refl, remains_refl old)

pub kept_worn : (s t : Sector) → Kept s t → Worn s t
kept_worn (sick f) t h = h
kept_worn (held old new) (sick f) h = absurd h
kept_worn (held old new) (held old' new') h =
    let P : List ℕ → Type 0 = λ v. Remains (old' ++ (v ∷ [])) (old ++ (new ∷ [])) in
    subst P (sym h.0) (remains_last old' old new h.1)

settled_kept_self : (s : Sector) → Kept s (settled s)
settled_kept_self (sick f) = refl
settled_kept_self (held old new) = (refl, tt)

pub settled_kept : (s t : Sector) → t ≡ settled s → Kept s t
settled_kept s t e = let P : Sector → Type 0 = λ v. Kept s v in subst P (sym e) (settled_kept_self s)
