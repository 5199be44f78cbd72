-- What holds of the table of every history whose entries the take table admits.
use Rattle.std.proofs.Common.{◌≡◌, ℕ, zero, suc, ◌+◌, ◌<◌, ◌≤◌, max, ◌≢◌, Bool, true, false, cond, ◌⊎◌, List, [], ◌∷◌, length, sym, refl, ◌∙◌, subst, inl, inr, arith, eqb-true, length-append, length-take, length-drop}
use Rattle.std.proofs.Math.Path.{fun_ext}
use Rattle.std.proofs.lemmas.Bool.{cases_lt, and_parts}
use Rattle.takes.specs.declared.State.TheVariants.{Open}
use Rattle.takes.specs.declared.Row.{Row}
use Rattle.takes.specs.declared.Outline.{Outline}
use Rattle.takes.specs.declared.Outline.TheVariants.{Opening, Begin, Block, Trailer, Withdrawal}
use Rattle.takes.specs.Entries.{Entry, History, outline, next_place}
use Rattle.takes.specs.Takes.{Take, changed, count, takes, row, rows}
use Rattle.takes.specs.Table.{heard_on, end_of, Allows, OneOpen, NoGap}
use Rattle.takes.specs.Tracks.{splice, content, track, TableAdmits, TableRun}
use Rattle.takes.specs.Steps.{fresh_row, next_rows, next_count}
use Rattle.takes.proofs.States.{withdrawn_not_open}
use Rattle.takes.proofs.Changed.{changed_by}
use Rattle.takes.proofs.Rules.{none_open}
use Rattle.takes.proofs.Keeps.{Continues, track_same, open_before, no_gap_step}
use Rattle.takes.proofs.Steps.{rows_step, count_step}

-- an open take is one of the n takes, no later take is on the track of an open one, and no heard take begins beyond the end of its
-- track's earlier heard takes
pub record Ordered (R : ℕ → Row) (n : ℕ) : Type 0 where
  pub within : (i : ℕ) → (R i).state ≡ Open → (0 < i) × (i ≤ n)
  pub last : (i j : ℕ) → (R i).state ≡ Open → i < j → j ≤ n → (R j).track ≢ (R i).track
  pub laid : NoGap R n

-- so no two takes are open on one track
pub one_open : (R : ℕ → Row) (n : ℕ) → Ordered R n → OneOpen R n
one_open R n L i j (li, lj, oi, oj, e) = go (cases_lt i j) (cases_lt j i)
  where
    go : (i < j) ⊎ (j ≤ i) → (j < i) ⊎ (i ≤ j) → i ≡ j
    go (inl l) b = absurd (L.last i j oi l lj (sym e))
    go (inr l) (inl m) = absurd (L.last j i oj m li e)
    go (inr l) (inr m) = omega arith

-- a begin, where no take is open on its track
ordered_begin : (place n t p : ℕ) (R : ℕ → Row) → Ordered R n → Allows R n (λ t. end_of R t n) (Begin t p) → Ordered (next_rows place n R (Begin t p)) (suc n)
ordered_begin place n t p R L a = record {
  within = λ i. changed_by (λ i r. r.state ≡ Open → (0 < i) × (i ≤ suc n)) (suc n) f R i
      (λ e q. (omega arith, omega arith))
      (λ e q. let w = L.within i q in (w.0, omega (arith, w.1)));
  last = λ i j. changed_by (λ i r. r.state ≡ Open → i < j → j ≤ suc n → (changed (suc n) f R j).track ≢ r.track) (suc n) f R i
      (λ e q l m x. omega arith)
      (λ e q l m. changed_by (λ j r. i < j → j ≤ suc n → r.track ≢ (R i).track) (suc n) f R j
      (λ ej l m x. let w = L.within i q in none_open R t n a.0 i w.0 w.1 q (sym x))
      (λ ej l m x. L.last i j q l (omega arith) x) l m);
  laid = no_gap_step place n R (Begin t p) L.laid a;
}
  where
    f : Row → Row
    f = λ r. fresh_row t p place

-- any other entry
ordered_continues : (place n : ℕ) (R : ℕ → Row) (o : Outline) → Continues o → Ordered R n → NoGap (next_rows place n R o) n → Ordered (next_rows place n R o) n
ordered_continues place n R o w L g = record {
  within = λ i q. L.within i (open_before place n R o w i q);
  last = λ i j q l m e. L.last i j (open_before place n R o w i q) l m (sym (track_same place n R o w j) ∙ e ∙ track_same place n R o w i);
  laid = g;
}

-- an admitted entry keeps it
ordered_step : (place n : ℕ) (R : ℕ → Row) (o : Outline) → Ordered R n → Allows R n (λ t. end_of R t n) o → Ordered (next_rows place n R o) (next_count n o)
ordered_step place n R Opening L a = ordered_continues place n R Opening tt L (no_gap_step place n R Opening L.laid a)
ordered_step place n R (Begin t p) L a = ordered_begin place n t p R L a
ordered_step place n R (Block k c) L a = ordered_continues place n R (Block k c) tt L (no_gap_step place n R (Block k c) L.laid a)
ordered_step place n R (Trailer k) L a = ordered_continues place n R (Trailer k) tt L (no_gap_step place n R (Trailer k) L.laid a)
ordered_step place n R (Withdrawal t k) L a = ordered_continues place n R (Withdrawal t k) tt L (no_gap_step place n R (Withdrawal t k) L.laid a)

-- the position rule, at a take that is heard on a track
pub begins_within : (R : ℕ → Row) (n : ℕ) → NoGap R n → (t k : ℕ) → k < n → heard_on t (R (suc k)) ≡ true → (R (suc k)).position ≤ end_of R t k
begins_within R n L t k l h = let w = and_parts _ _ h in subst (λ (s : ℕ). (R (suc k)).position ≤ end_of R s k) (eqb-true _ _ w.0) (L k (l, w.1))

module _ {X : Type 0} where
  -- how long a content is after a take that begins in it or at its end
  length_splice : (f : ℕ) (E C : List X) → f ≤ length C → length (splice f E C) ≡ max (length C) (f + length E)
  length_splice f E C h = simp (length-append, length-take, length-drop) (omega arith)

  -- a track is as long as the numbers of its takes say, also after the first n takes alone
  pub content_ends : (T : ℕ → Take X) (n : ℕ) → NoGap (λ k. row (T k)) n → (t : ℕ) → length (content T t n) ≡ end_of (λ k. row (T k)) t n
  content_ends T zero L t = refl
  content_ends T (suc n) L t = go (heard_on t (row (T (suc n)))) refl (content_ends T n (λ k (l, q). L k (omega arith, q)) t)
    where
      f : ℕ
      f = (T (suc n)).position

      E : List X
      E = (T (suc n)).elements

      go : (b : Bool) → heard_on t (row (T (suc n))) ≡ b → length (content T t n) ≡ end_of (λ k. row (T k)) t n
          → length (cond b (splice f E (content T t n)) (content T t n)) ≡ cond b (max (end_of (λ k. row (T k)) t n) (f + length E)) (end_of (λ k. row (T k)) t n)
      go true e i = let l = begins_within (λ k. row (T k)) (suc n) L t n (omega arith) e in length_splice f E (content T t n) (omega arith) ∙ rw i
      go false e i = i

  -- the rule asks for the lengths of the tracks: where no gap is left, that is where the rows say that they end
  pub same_rule : (h : History X) (e : Entry X) → NoGap (rows h) (count h)
      → (TableAdmits h e → Allows (rows h) (count h) (λ t. end_of (rows h) t (count h)) (outline e)) × (Allows (rows h) (count h) (λ t. end_of (rows h) t (count h)) (outline e) → TableAdmits h e)
  same_rule h e L =
      let same_ends = fun_ext {A = ℕ} (content_ends (takes h) (count h) L) in
      (subst (λ (f : ℕ → ℕ). Allows (rows h) (count h) f (outline e)) same_ends, subst (λ (f : ℕ → ℕ). Allows (rows h) (count h) f (outline e)) (sym same_ends))

  -- the table of an admitted history is ordered
  pub ordered : (h : History X) → TableRun h → Ordered (rows h) (count h)
  ordered [] a = record { within = λ i q. absurd (withdrawn_not_open q); last = λ i j q. absurd (withdrawn_not_open q); laid = λ k (l, q). absurd (omega arith) }
  ordered (e ∷ h) (a, b) =
      let L = ordered h a in
      let after = ordered_step (next_place h) (count h) (rows h) (outline e) L ((same_rule h e L.laid).0 b) in
      rw count_step (subst (λ (R : ℕ → Row). Ordered R (next_count (count h) (outline e))) (sym (fun_ext (rows_step h e))) after)

  -- no two takes are open on one track, and the position rule holds
  pub kept : (h : History X) → TableRun h → OneOpen (rows h) (count h) × NoGap (rows h) (count h)
  kept h a = let L = ordered h a in (one_open (rows h) (count h) L, L.laid)

  -- a track is as long as the numbers of its takes say
  pub ends : (h : History X) → TableRun h → (t : ℕ) → length (track h t) ≡ end_of (rows h) t (count h)
  ends h a t = content_ends (takes h) (count h) (ordered h a).laid t
