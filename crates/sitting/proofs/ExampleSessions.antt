-- Every log of admitted entries has a session that is in step with it.
use Rattle.std.proofs.Common.{◌≡◌, ℕ, zero, suc, ◌<◌, ◌≤◌, ◌⊎◌, List, [], ◌∷◌, length, get_or, sym, refl, ap, ◌∙◌, subst, inl, inr, arith}
use Rattle.std.proofs.Math.Path.{fun_ext}
use Rattle.takes.specs.declared.State.TheVariants.{Standing, Withdrawn}
use Rattle.takes.specs.declared.Row.{Row}
use Rattle.takes.specs.Entries.{opening, begin, block, trailer, withdrawal, next_place, epoch}
use Rattle.takes.specs.Takes.{blank, fresh, longer, in_state, count, takes, row, rows}
use Rattle.takes.specs.Table.{OneOpen, NoGap}
use Rattle.takes.specs.Tracks.{TableRun}
use Rattle.takes.proofs.Changed.{changed_other}
use Rattle.takes.proofs.Bounds.{withdrawn_at_most, parts}
use Rattle.takes.proofs.Ordered.{ordered, kept}
use Rattle.journal.specs.declared.header.Header.{Header}
use Rattle.journal.specs.declared.table.Table.{Table}
use Rattle.journal.specs.declared.session.Session.{Session}
use Rattle.journal.specs.Headers.{Lawful as LawfulHeader}
use Rattle.journal.specs.Log.{Log, Run}
use Rattle.journal.specs.Rows.{blank_row, row_at, RowWithin}
use Rattle.journal.specs.Sessions.{InStep}
use Rattle.journal.proofs.InStep.{table_run}
use Rattle.sitting.proofs.LogFits.{log_within}

-- the rows of takes 1 to n
listed : (ℕ → Row) → ℕ → List Row
listed R zero = []
listed R (suc n) = R 1 ∷ listed (λ i. R (suc i)) n

-- each has its row, where every later take has the blank one
listed_at : (n : ℕ) (R : ℕ → Row) → ((k : ℕ) → n < k → R k ≡ blank_row) → (k : ℕ) → get_or (listed R n) k blank_row ≡ R (suc k)
unfolding listed
listed_at zero R rest k = sym (rest (suc k) (omega arith))
listed_at (suc n) R rest zero = refl
listed_at (suc n) R rest (suc k) = listed_at n (λ i. R (suc i)) (λ i l. rest (suc i) (omega arith)) k

-- number 0 has the blank row too
row_listed : (n : ℕ) (R : ℕ → Row) → R 0 ≡ blank_row → ((k : ℕ) → n < k → R k ≡ blank_row) → (k : ℕ) → row_at (listed R n) k ≡ R k
row_listed n R none rest zero = sym none
row_listed n R none rest (suc k) = listed_at n R rest k

-- k is no number of one of n takes
abbrev Outside : ℕ → ℕ → Type 0
Outside n k = (k ≡ 0) ⊎ (n < k)

-- so it is none of theirs, and none of fewer takes
other : (n k j : ℕ) → Outside n k → 0 < j → j ≤ n → k ≡ j → ⊥
other n k j (inl z) l m e = omega arith
other n k j (inr o) l m e = omega arith

earlier : (n k : ℕ) → Outside (suc n) k → Outside n k
earlier n k (inl z) = inl z
earlier n k (inr o) = inr (omega arith)

-- a number that no take has stands for a blank one
take_blank : (h : Log) → TableRun h → (k : ℕ) → Outside (count h) k → takes h k ≡ blank
take_blank [] a k o = refl
take_blank (opening ∷ h) (a, b) k o = rw (take_blank h a k o)
take_blank (begin t p ∷ h) (a, b) k o =
    rw (changed_other (suc (count h)) (λ r. fresh t p (next_place h)) (takes h) k (other (suc (count h)) k (suc (count h)) o (omega arith) (omega arith)))
    (take_blank h a k (earlier (count h) k o))
take_blank (block j xs ∷ h) (a, b) k o =
    let w = (ordered h a).within j b in
    rw (changed_other j (longer xs (next_place h)) (takes h) k (other (count h) k j o w.0 w.1)) (take_blank h a k o)
take_blank (trailer j ∷ h) (a, b) k o =
    let w = (ordered h a).within j b in
    rw (changed_other j (in_state Standing) (takes h) k (other (count h) k j o w.0 w.1)) (take_blank h a k o)
take_blank (withdrawal t j ∷ h) (a, b) k o =
    let l : j ≤ count h = omega (arith, b.2, withdrawn_at_most (rows h) t (count h)) in
    rw (changed_other j (in_state Withdrawn) (takes h) k (other (count h) k j o b.1 l)) (take_blank h a k o)

-- there are 64 takes at most
count_few : (h : Log) → TableRun h → count h ≤ 64
count_few [] a = omega arith
count_few (opening ∷ h) (a, b) = count_few h a
count_few (begin t p ∷ h) (a, b) = omega (arith, b.2)
count_few (block k xs ∷ h) (a, b) = count_few h a
count_few (trailer k ∷ h) (a, b) = count_few h a
count_few (withdrawal t k ∷ h) (a, b) = count_few h a

-- and no more entries than there are sector numbers
length_few : (hd : Header) (h : Log) → Run hd h → length h ≤ 65535
length_few hd [] r = omega arith
length_few hd (e ∷ h) (r, a) = omega (arith, a.0.0)

-- every log of admitted entries has a session
pub session_of : (hd : Header) → LawfulHeader hd → (h : Log) → Run hd h → (s : Session) × InStep s h × (s.header ≡ hd)
session_of hd ok h r =
    let a = table_run hd h r in
    let few = count_few h a in
    let off : (k : ℕ) → Outside (count h) k → rows h k ≡ blank_row = λ k o. ap row (take_blank h a k o) in
    let same = row_listed 64 (rows h) (off 0 (inl refl)) (λ k l. off k (inr (omega arith))) in
    let all : row_at (listed (rows h) 64) ≡ rows h = fun_ext same in
    let table : Table = record {
      inner = record { rows = listed (rows h) 64; count = count h };
      few = few;
      rest = λ k l. same k ∙ off k (inr l);
      one_open = subst (λ (R : ℕ → Row). OneOpen R (count h)) (sym all) (kept h a).0;
      no_gap = subst (λ (R : ℕ → Row). NoGap R (count h)) (sym all) (kept h a).1;
    } in
    let session : Session = record {
      header = hd;
      entries = length h;
      epoch = epoch h;
      table = table;
      small = (ok.sitting, omega (arith, ok.few));
      few = length_few hd h r;
      low = omega (arith, parts h);
      within = record { each = λ k. subst (RowWithin hd (length h)) (sym (same k)) (log_within hd h r k) };
    } in
    (session, record { run = r; entries = refl; epoch = refl; count = refl; rows = same }, refl)
