-- What the rules of the table say of its rows.
use Rattle.std.proofs.Common.{◌≡◌, ℕ, zero, suc, ◌<◌, ◌≤◌, Bool, true, false, cond, ◌&&◌, ◌==◌, sym, refl, ◌∙◌, inl, inr, arith, eq-eqb, eqb-true}
use Rattle.std.proofs.lemmas.Bool.{cases_eq, or_parts, and_parts, false≢true}
use Rattle.takes.specs.declared.Row.{Row}
use Rattle.takes.specs.declared.State.TheVariants.{Open, Standing}
use Rattle.takes.specs.Table.{is_open, is_standing, open_on, withdrawn_by}
use Rattle.takes.proofs.States.{standing_from}

-- where the rules find no open take on a track, none of its takes is open
pub none_open : (R : ℕ → Row) (t n : ℕ) → open_on R t n ≡ false → (i : ℕ) → 0 < i → i ≤ n → (R i).state ≡ Open → (R i).track ≡ t → ⊥
none_open R t zero h i a b o e = omega arith
none_open R t (suc n) h i a b o e =
    let w = or_parts ((R (suc n)).track == t && is_open (R (suc n)).state) (open_on R t n) h in
    elim (cases_eq i (suc n)) [
      | inl q ↦ false≢true (sym w.0 ∙ rw (← q, o, eq-eqb (R i).track t e))
      | inr q ↦ none_open R t n w.1 i a (omega arith) o e
    ]

-- take k is the highest standing one of track t among the first n, or 0 where none is
pub record Highest (R : ℕ → Row) (t n k : ℕ) : Type 0 where
  pub stands : 0 < k → ((R k).track ≡ t) × ((R k).state ≡ Standing) × (k ≤ n)
  pub above : (i : ℕ) → 0 < i → i ≤ n → (R i).track ≡ t → (R i).state ≡ Standing → i ≤ k

-- a withdrawal takes the highest standing one
pub withdraws_highest : (R : ℕ → Row) (t n : ℕ) → Highest R t n (withdrawn_by R t n)
withdraws_highest R t zero = record { stands = λ h. absurd (omega arith); above = λ i a b. absurd (omega arith) }
withdraws_highest R t (suc n) = go ((R (suc n)).track == t && is_standing (R (suc n)).state) refl (withdraws_highest R t n)
  where
    go : (b : Bool) → ((R (suc n)).track == t && is_standing (R (suc n)).state) ≡ b → Highest R t n (withdrawn_by R t n) → Highest R t (suc n) (cond b (suc n) (withdrawn_by R t n))
    go true e u =
        let w = and_parts _ _ e in
        record { stands = λ h. (eqb-true _ _ w.0, standing_from _ w.1, omega arith); above = λ i a b et es. b }
    go false e u = record {
      stands = λ h. let w = u.stands h in (w.0, w.1, omega (arith, w.2));
      above = λ i a b et es. elim (cases_eq i (suc n)) [
        | inl q ↦ absurd (false≢true (sym e ∙ rw (← q, es, eq-eqb (R i).track t et)))
        | inr q ↦ u.above i a (omega arith) et es
      ];
    }
