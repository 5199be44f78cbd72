-- A table with what it has for one number changed.
use Rattle.std.proofs.Common.{◌≡◌, ℕ, refl, ◌==◌, eq-eqb, ne_eqb, eqb-true}
use Rattle.std.proofs.lemmas.Bool.{cond_both, eqb-false}
use Rattle.takes.specs.Takes.{changed}

module _ {A : Type 0} where
  -- at that number
  pub changed_same : (j : ℕ) (f : A → A) (T : ℕ → A) (i : ℕ) → i ≡ j → changed j f T i ≡ f (T i)
  changed_same j f T i e = rw (eq-eqb i j e)

  -- at another
  pub changed_other : (j : ℕ) (f : A → A) (T : ℕ → A) (i : ℕ) → (i ≡ j → ⊥) → changed j f T i ≡ T i
  changed_other j f T i h = rw (ne_eqb i j h)

  -- what holds of the changed one there, and of what was there elsewhere, holds in the changed table
  pub changed_by : (P : ℕ → A → Type 0) (j : ℕ) (f : A → A) (T : ℕ → A) (i : ℕ) → (i ≡ j → P i (f (T i))) → ((i ≡ j → ⊥) → P i (T i)) → P i (changed j f T i)
  changed_by P j f T i y n = cond_both (i == j) (f (T i)) (T i) (P i) (λ e. y (eqb-true i j e)) (λ e. n (eqb-false i j e))

  -- what the change keeps is the same in the changed table
  pub changed_keeps : {B : Type 0} (g : A → B) (j : ℕ) (f : A → A) (T : ℕ → A) (i : ℕ) → ((r : A) → g (f r) ≡ g r) → g (changed j f T i) ≡ g (T i)
  changed_keeps g j f T i h = changed_by (λ k r. g r ≡ g (T k)) j f T i (λ e. h (T i)) (λ e. refl)
