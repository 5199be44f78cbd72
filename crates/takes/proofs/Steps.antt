-- An entry changes the table, the number of takes and the epoch as specs/Steps says.
use Rattle.std.proofs.Common.{◌≡◌, ℕ, suc, Bool, true, false, cond, ◌∷◌, length, refl, length-append, ◌==◌}
use Rattle.takes.specs.declared.State.TheVariants.{Withdrawn, Standing}
use Rattle.takes.specs.declared.Row.{Row}
use Rattle.takes.specs.Entries.{Entry, opening, begin, block, trailer, withdrawal, History, outline, next_place, epoch}
use Rattle.takes.specs.Takes.{Take, fresh, longer, in_state, changed, count, takes, row, rows}
use Rattle.takes.specs.Steps.{fresh_row, longer_row, row_in_state, next_rows, next_count, next_epoch}

module _ {X : Type 0} where
  -- the row of a changed take is the changed row
  row_changed : (j : ℕ) (f : Take X → Take X) (g : Row → Row) (T : ℕ → Take X) (k : ℕ) → ((r : Take X) → row (f r) ≡ g (row r)) → row (changed j f T k) ≡ changed j g (λ i. row (T i)) k
  row_changed j f g T k h = go (k == j)
    where
      go : (b : Bool) → row (cond b (f (T k)) (T k)) ≡ cond b (g (row (T k))) (row (T k))
      go true = h (T k)
      go false = refl

  -- the table after an entry
  pub rows_step : (h : History X) (e : Entry X) (k : ℕ) → rows (e ∷ h) k ≡ next_rows (next_place h) (count h) (rows h) (outline e) k
  rows_step h opening k = refl
  rows_step h (begin t p) k = row_changed (suc (count h)) (λ r. fresh t p (next_place h)) (λ r. fresh_row t p (next_place h)) (takes h) k (λ r. refl)
  rows_step h (block j xs) k = row_changed j (longer xs (next_place h)) (longer_row (length xs) (next_place h)) (takes h) k (λ r. rw length-append)
  rows_step h (trailer j) k = row_changed j (in_state Standing) (row_in_state Standing) (takes h) k (λ r. refl)
  rows_step h (withdrawal t j) k = row_changed j (in_state Withdrawn) (row_in_state Withdrawn) (takes h) k (λ r. refl)

  -- the number of takes after an entry
  pub count_step : (h : History X) (e : Entry X) → count (e ∷ h) ≡ next_count (count h) (outline e)
  count_step h opening = refl
  count_step h (begin t p) = refl
  count_step h (block k xs) = refl
  count_step h (trailer k) = refl
  count_step h (withdrawal t k) = refl

  -- the epoch after an entry
  pub epoch_step : (h : History X) (e : Entry X) → epoch (e ∷ h) ≡ next_epoch (epoch h) (outline e)
  epoch_step h opening = refl
  epoch_step h (begin t p) = refl
  epoch_step h (block k xs) = refl
  epoch_step h (trailer k) = refl
  epoch_step h (withdrawal t k) = refl
