-- Take tables in memory, and what an entry that a table allows keeps of one.
use Rattle.std.proofs.Common.{◌≡◌, ℕ, zero, suc, ◌<◌, ◌≤◌, Bool, ◌&&◌, ◌||◌, ◌==◌, List, length, take, replicate, sym, refl, ap, ◌∙◌, subst, inl, inr, add-one, arith}
use Rattle.std.proofs.Math.Bool.{or_comm}
use Rattle.std.proofs.lemmas.Bool.{cases_lt}
use Rattle.std.proofs.lemmas.List.Folds.{list_any_more}
use Rattle.std.specs.List.{list_any}
use Rattle.takes.specs.declared.State.TheVariants.{Withdrawn, Open, Standing}
use Rattle.takes.specs.declared.Row.{Row}
use Rattle.takes.specs.declared.Outline.{Outline}
use Rattle.takes.specs.declared.Outline.TheVariants.{Opening, Begin, Block, Trailer, Withdrawal}
use Rattle.takes.specs.Table.{is_open, open_on, end_of, Allows, OneOpen, NoGap}
use Rattle.takes.specs.Steps.{fresh_row, longer_row, row_in_state, next_rows, next_count}
use Rattle.takes.proofs.States.{withdrawn_not_open}
use Rattle.takes.proofs.Changed.{changed_other}
use Rattle.takes.proofs.Bounds.{withdrawn_at_most}
use Rattle.takes.proofs.Keeps.{one_open_step, no_gap_step}
use Rattle.journal.specs.declared.table.Table.{Table}
use Rattle.journal.specs.Rows.{blank_row, row_at, Steps}

-- number 0, which no take has, has the blank row
pub row_zero : (rows : List Row) → row_at rows 0 ≡ blank_row
row_zero rows = refl

-- in blank rows each number has the blank row
pub row_blank : (n k : ℕ) → row_at (replicate n blank_row) k ≡ blank_row
row_blank n zero = refl
row_blank zero (suc k) = refl
row_blank (suc n) (suc zero) = refl
row_blank (suc n) (suc (suc k)) = row_blank n (suc k)

-- a test of the rows of the takes that were begun tells whether one is open on a track
pub any_open : (rows : List Row) (t n : ℕ) → n ≤ length rows → list_any (λ (r : Row). r.track == t && is_open r.state) (take n rows) ≡ open_on (row_at rows) t n
any_open rows t zero h = refl
any_open rows t (suc n) h =
    let test : Row → Bool = λ r. r.track == t && is_open r.state in
    let before = list_any test (take n rows) in
    let here = test (row_at rows (suc n)) in
    let more : list_any test (take (suc n) rows) ≡ (before || here) = rw (← add-one) (list_any_more test rows n blank_row (omega arith)) in
    more ∙ or_comm before here ∙ ap (λ b. here || b) (any_open rows t n (omega arith))

-- an open take is one of those that were begun
pub open_begun : (rows : List Row) (n k : ℕ) → ((j : ℕ) → n < j → row_at rows j ≡ blank_row) → (row_at rows k).state ≡ Open → (1 ≤ k) × (k ≤ n)
open_begun rows n zero rest o = absurd (withdrawn_not_open o)
open_begun rows n (suc k) rest o = elim (cases_lt n (suc k)) [
  | inl l ↦ absurd (withdrawn_not_open (sym (ap (λ (r : Row). r.state) (rest (suc k) l)) ∙ o))
  | inr l ↦ (omega arith, l)
]

-- after an entry that a table allows it has 64 takes at most
few_step : (n : ℕ) (R : ℕ → Row) (end : ℕ → ℕ) (o : Outline) → n ≤ 64 → Allows R n end o → next_count n o ≤ 64
few_step n R end Opening h a = h
few_step n R end (Begin t p) h a = omega (arith, a.2)
few_step n R end (Block k c) h a = h
few_step n R end (Trailer k) h a = h
few_step n R end (Withdrawal t k) h a = h

-- and each number that no take has still has the blank row
rest_step : (place n : ℕ) (rows : List Row) (end : ℕ → ℕ) (o : Outline) → ((k : ℕ) → n < k → row_at rows k ≡ blank_row) → Allows (row_at rows) n end o
    → (k : ℕ) → next_count n o < k → next_rows place n (row_at rows) o k ≡ blank_row
rest_step place n rows end Opening rest a k l = rw (rest k l)
rest_step place n rows end (Begin t p) rest a k l = changed_other (suc n) (λ r. fresh_row t p place) (row_at rows) k (λ e. omega arith) ∙ rest k (omega arith)
rest_step place n rows end (Block j c) rest a k l = changed_other j (longer_row c place) (row_at rows) k (λ e. let w = open_begun rows n j rest a in omega arith) ∙ rest k l
rest_step place n rows end (Trailer j) rest a k l = changed_other j (row_in_state Standing) (row_at rows) k (λ e. let w = open_begun rows n j rest a in omega arith) ∙ rest k l
rest_step place n rows end (Withdrawal t j) rest a k l = changed_other j (row_in_state Withdrawn) (row_at rows) k (λ e. let w = withdrawn_at_most (row_at rows) t n in omega (arith, a.2)) ∙ rest k l

-- an entry that a table allows keeps what the table's type says
pub keeps : (t : Table) (place : ℕ) (o : Outline) (rows' : List Row) (n' : ℕ) → Allows (row_at t.inner.rows) t.inner.count (λ i. end_of (row_at t.inner.rows) i t.inner.count) o
    → Steps place o t.inner.rows t.inner.count rows' n'
    → record { few : n' ≤ 64; rest : (k : ℕ) → n' < k → row_at rows' k ≡ blank_row; one_open : OneOpen (row_at rows') n'; no_gap : NoGap (row_at rows') n' }
keeps t place o rows' n' a s =
    let R : ℕ → Row = row_at t.inner.rows in
    let n = t.inner.count in
    record {
      few = rw s.1 (few_step n R _ o t.few a);
      rest = λ k l. ap (λ (f : ℕ → Row). f k) s.0 ∙ rest_step place n t.inner.rows _ o t.rest a k (rw s.1 at l);
      one_open = subst (λ (f : ℕ → Row). OneOpen f n') (sym s.0) (rw s.1 (one_open_step place n R o refl t.one_open a));
      no_gap = subst (λ (f : ℕ → Row). NoGap f n') (sym s.0) (rw s.1 (no_gap_step place n R o t.no_gap a));
    }
