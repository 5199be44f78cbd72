-- One history begins another. Histories are lists with the latest entry first.
use Rattle.std.proofs.Common.{◌≡◌, ℕ, suc, ◌-◌, ◌<◌, ◌≤◌, ◌⊎◌, List, [], ◌∷◌, length, drop, refl, ap, ◌∙◌, subst, inl, inr, arith}
use Rattle.sitting.specs.Books.{first}

infix 4 ◌⊑◌
pub data ◌⊑◌ {A : Type 0} (F : List A) : List A → Type 0 where
  here : F ⊑ F
  more : {e : A} {G : List A} → F ⊑ G → F ⊑ (e ∷ G)

module _ {A : Type 0} where
  pub ⊑_length : {F G : List A} → F ⊑ G → length F ≤ length G
  ⊑_length here = omega arith
  ⊑_length (more h) = let k = ⊑_length h in omega arith

  pub ⊑_trans : {F G H : List A} → F ⊑ G → G ⊑ H → F ⊑ H
  ⊑_trans h here = h
  ⊑_trans h (more k) = more (⊑_trans h k)

  pub ⊑_cases : {F G : List A} → F ⊑ G → (F ≡ G) ⊎ (length F < length G)
  ⊑_cases here = inl refl
  ⊑_cases (more h) = let k = ⊑_length h in inr (omega arith)

  pub ⊑_anti : {F G : List A} → F ⊑ G → G ⊑ F → F ≡ G
  ⊑_anti {F} {G} h k = go (⊑_cases h)
    where
      go : (F ≡ G) ⊎ (length F < length G) → F ≡ G
      go (inl e) = e
      go (inr l) = let n = ⊑_length k in absurd (omega arith)

  pub first_⊑ : {F G : List A} → F ⊑ G → first (length F) G ≡ F
  first_⊑ {F} here = let e : length F - length F ≡ 0 = omega arith in ap (λ (n : ℕ). drop n F) e
  first_⊑ {F} (more {e} {G} h) =
      let k = ⊑_length h in
      let q : suc (length G) - length F ≡ suc (length G - length F) = omega arith in
      ap (λ (n : ℕ). drop n (e ∷ G)) q ∙ first_⊑ h

  pub ⊑_under : {e : A} {G F : List A} → F ⊑ (e ∷ G) → (F ≡ e ∷ G) ⊎ (F ⊑ G)
  ⊑_under here = inl refl
  ⊑_under (more h) = inr h

  pub ⊑_none : (G : List A) → [] ⊑ G
  ⊑_none [] = here
  ⊑_none (e ∷ G) = more (⊑_none G)

  -- what begins G is G, or goes on within G
  pub ⊑_next : {F G : List A} → F ⊑ G → (F ≡ G) ⊎ ((e : A) × ((e ∷ F) ⊑ G))
  ⊑_next here = inl refl
  ⊑_next {F} (more {e} {G} h) = go (⊑_next h)
    where
      go : (F ≡ G) ⊎ ((x : A) × ((x ∷ F) ⊑ G)) → (F ≡ e ∷ G) ⊎ ((x : A) × ((x ∷ F) ⊑ (e ∷ G)))
      go (inl i) = inr (e, subst (λ (H : List A). (e ∷ F) ⊑ (e ∷ H)) i here)
      go (inr t) = inr (t.0, more t.1)
