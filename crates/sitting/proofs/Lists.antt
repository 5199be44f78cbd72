-- What the device's calls and a cut do to the contents that one sector may hold.
use Rattle.std.proofs.Common.{◌≡◌, ℕ, ◌⊎◌, List, [], ◌∷◌, ◌++◌, Option, Some, sym, refl, ap, subst, inl, inr, arith}
use Rattle.sitting.proofs.Disks.{Sub, done, keep, lose, In, last_of, newest, only_newest, Settled, Thinned, Left}

module _ {C : Type 0} where
  -- a list that loses members gains none
  pub sub_in : {k l : List C} (c : C) → Sub k l → In c k → In c l
  sub_in c done h = h
  sub_in c (keep s) (inl e) = inl e
  sub_in c (keep s) (inr h) = inr (sub_in c s h)
  sub_in c (lose s) h = inr (sub_in c s h)

  -- what a list of one leaves is nothing or itself
  pub sub_one : {k : List C} {c : C} → Sub k (c ∷ []) → (k ≡ []) ⊎ (k ≡ c ∷ [])
  sub_one (keep done) = inr refl
  sub_one (lose done) = inl refl

  -- a list of one is not thinned
  pub thinned_one : (l l' : List C) (c : C) → Thinned l l' → l ≡ c ∷ [] → l' ≡ c ∷ []
  thinned_one l l' c t e = go (sub_one (rw e at t.0))
    where
      go : (l' ≡ []) ⊎ (l' ≡ c ∷ []) → l' ≡ c ∷ []
      go (inl n) = cc (t.1 n)
      go (inr y) = y

  -- a list that keeps its newest is not emptied
  pub settled_thinned : (l l' : List C) → Settled l l' → Thinned l l'
  settled_thinned [] l' (s, n) = (s, λ e. refl)
  settled_thinned (x ∷ l) [] t = (t.0, λ e. cc t.1)
  settled_thinned (x ∷ l) (y ∷ l') t = (t.0, λ e. cc)

  -- the newest is a member
  pub in_last : (x : C) (l : List C) → In (last_of x l) (x ∷ l)
  in_last x [] = inl refl
  in_last x (y ∷ l) = inr (in_last y l)

  pub newest_in : (l : List C) (c : C) → newest l ≡ Some c → In c l
  newest_in [] c e = let z : ◌≡◌ {A = ℕ} 0 1 = cc in omega arith
  newest_in (x ∷ l) c e = let e' : last_of x l ≡ c = cc in subst (λ (z : C). In z (x ∷ l)) e' (in_last x l)

  -- a flush leaves the newest alone, and adds nothing
  pub flushed_one : (l : List C) (c : C) → newest l ≡ Some c → only_newest l ≡ c ∷ []
  flushed_one [] c e = cc
  flushed_one (x ∷ l) c e = cc

  pub flushed_in : (l : List C) (c : C) → In c (only_newest l) → In c l
  flushed_in [] c h = h
  flushed_in (x ∷ l) c (inl e) = subst (λ (z : C). In z (x ∷ l)) (sym e) (in_last x l)
  flushed_in (x ∷ l) c (inr h) = absurd h

  -- with one content more: a member is an old one or that one, which is the newest
  pub in_snoc : (k : List C) (c x : C) → In x (k ++ (c ∷ [])) → In x k ⊎ (x ≡ c)
  in_snoc [] c x (inl e) = inr e
  in_snoc [] c x (inr h) = absurd h
  in_snoc (y ∷ k) c x (inl e) = inl (inl e)
  in_snoc (y ∷ k) c x (inr h) = go (in_snoc k c x h)
    where
      go : In x k ⊎ (x ≡ c) → In x (y ∷ k) ⊎ (x ≡ c)
      go (inl a) = inl (inr a)
      go (inr e) = inr e

  last_snoc : (x : C) (k : List C) (c : C) → last_of x (k ++ (c ∷ [])) ≡ c
  last_snoc x [] c = refl
  last_snoc x (y ∷ k) c = last_snoc y k c

  pub newest_snoc : (k : List C) (c : C) → newest (k ++ (c ∷ [])) ≡ Some c
  newest_snoc [] c = refl
  newest_snoc (x ∷ k) c = ap {B = Option C} Some (last_snoc x k c)

  module _ (Sound : C → Type 0) where
    -- a cut leaves nothing, or one content: a member, or one that is not sound
    pub left : (l l' : List C) → Left Sound l l' → (l' ≡ []) ⊎ ((x : C) × (l' ≡ x ∷ []) × (In x l ⊎ (¬ (Sound x))))
    left [] l' h = inl h
    left (c ∷ []) l' h = inr (c, h, inl (inl refl))
    left (a ∷ b ∷ l) l' h = inr h

    -- what a cut leaves is a member, or it is not sound
    pub left_in : (l l' : List C) (c : C) → Left Sound l l' → In c l' → In c l ⊎ (¬ (Sound c))
    left_in l l' c h m = go (left l l' h)
      where
        go : (l' ≡ []) ⊎ ((x : C) × (l' ≡ x ∷ []) × (In x l ⊎ (¬ (Sound x)))) → In c l ⊎ (¬ (Sound c))
        go (inl e) = absurd (subst (In c) e m)
        go (inr t) = same (subst (In c) t.1 m)
          where
            same : In c (t.0 ∷ []) → In c l ⊎ (¬ (Sound c))
            same (inl q) = subst (λ (y : C). In y l ⊎ (¬ (Sound y))) (sym q) t.2
            same (inr n) = absurd n

    -- a cut leaves a list of one as it is
    pub left_one : (l l' : List C) (c : C) → Left Sound l l' → l ≡ c ∷ [] → l' ≡ c ∷ []
    left_one [] l' c h e = cc
    left_one (a ∷ []) l' c h e = cc
    left_one (a ∷ b ∷ l) l' c h e = cc
