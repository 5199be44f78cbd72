-- What a device means, and what its calls and a cut may do to it.
-- A disk gives each sector the contents that it may hold, newest last. A sick sector, or one past the end, has None.
use Rattle.std.specs.Prelude.{◌≡◌, ℕ, ◌⊎◌, List, [], ◌∷◌, ◌++◌}
use Rattle.std.specs.Prelude.{Option, None, Some}

pub data Sub {C : Type 0} : List C → List C → Type 0 where
  done : Sub [] []
  keep : {x : C} {k l : List C} → Sub k l → Sub (x ∷ k) (x ∷ l)
  lose : {x : C} {k l : List C} → Sub k l → Sub k (x ∷ l)

module _ {C : Type 0} where
  abbrev pub In : C → List C → Type 0
  In c [] = ⊥
  In c (x ∷ l) = (c ≡ x) ⊎ In c l

  abbrev pub last_of : C → List C → C
  last_of x [] = x
  last_of x (y ∷ l) = last_of y l

  abbrev pub newest : List C → Option C
  newest [] = None
  newest (x ∷ l) = Some (last_of x l)

  abbrev pub only_newest : List C → List C
  only_newest [] = []
  only_newest (x ∷ l) = last_of x l ∷ []

  -- one list: it loses members and never its newest; it loses members and stays nonempty
  abbrev pub Settled : List C → List C → Type 0
  Settled l l' = Sub l' l × (newest l' ≡ newest l)

  abbrev pub Thinned : List C → List C → Type 0
  Thinned l l' = Sub l' l × (l' ≡ [] → l ≡ [])

  -- an accepted call that writes nothing
  abbrev pub Settles : (ℕ → List C) → (ℕ → List C) → Type 0
  Settles D D' = (p : ℕ) → Settled (D p) (D' p)

  -- a call that loses power, answers the fault and writes nothing
  abbrev pub Thins : (ℕ → List C) → (ℕ → List C) → Type 0
  Thins D D' = (p : ℕ) → Thinned (D p) (D' p)

  -- an accepted flush
  abbrev pub Flushes : (ℕ → List C) → (ℕ → List C) → Type 0
  Flushes D D' = (p : ℕ) → D' p ≡ only_newest (D p)

  -- an accepted write of c at q
  pub record Writes (q : ℕ) (c : C) (D D' : ℕ → List C) : Type 0 where
    pub well : ¬ (D q ≡ [])
    pub others : (p : ℕ) → ¬ (p ≡ q) → Settled (D p) (D' p)
    pub older : List C
    pub lost : Sub older (D q)
    pub added : D' q ≡ older ++ (c ∷ [])

  -- a write of c at q that loses power and answers the fault
  pub record Tears (q : ℕ) (c : C) (D D' : ℕ → List C) : Type 0 where
    pub well : ¬ (D q ≡ [])
    pub others : (p : ℕ) → ¬ (p ≡ q) → Thinned (D p) (D' p)
    pub there : Thinned (D q ++ (c ∷ [])) (D' q)

  -- a cut: a list of one stays; a longer one leaves any member, or any content that is not sound
  module _ (Sound : C → Type 0) where
    abbrev pub Left : List C → List C → Type 0
    Left [] l' = l' ≡ []
    Left (c ∷ []) l' = l' ≡ c ∷ []
    Left (a ∷ b ∷ l) l' = (x : C) × (l' ≡ x ∷ []) × (In x (a ∷ b ∷ l) ⊎ (¬ (Sound x)))

    abbrev pub Cuts : (ℕ → List C) → (ℕ → List C) → Type 0
    Cuts D D' = (p : ℕ) → Left (D p) (D' p)
