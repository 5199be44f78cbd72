-- An admitted entry keeps what holds of a take table. Nothing is asked of where the table comes from.
use Rattle.std.proofs.Common.{◌≡◌, ℕ, zero, suc, ◌<◌, ◌≤◌, true, false, sym, refl, ◌∙◌, subst, arith, ne_eqb}
use Rattle.std.proofs.lemmas.Bool.{false≢true}
use Rattle.takes.specs.declared.State.{State}
use Rattle.takes.specs.declared.State.TheVariants.{Withdrawn, Open, Standing}
use Rattle.takes.specs.declared.Row.{Row}
use Rattle.takes.specs.declared.Outline.{Outline}
use Rattle.takes.specs.declared.Outline.TheVariants.{Opening, Begin, Block, Trailer, Withdrawal}
use Rattle.takes.specs.Takes.{heard, changed}
use Rattle.takes.specs.Table.{open_on, end_of, Allows, OneOpen, NoGap}
use Rattle.takes.specs.Steps.{fresh_row, longer_row, row_in_state, next_rows, next_count}
use Rattle.takes.proofs.States.{standing_not_open, withdrawn_not_open, settled_not_open, heard_settled}
use Rattle.takes.proofs.Changed.{changed_by, changed_keeps}
use Rattle.takes.proofs.Rules.{none_open, Highest, withdraws_highest}
use Rattle.takes.proofs.Ends.{further, further_longer, further_standing, end_later, end_below, end_opening}

-- an entry that begins no take
abbrev pub Continues : Outline → Type 0
Continues Opening = Unit {0}
Continues (Begin t p) = ⊥
Continues (Block k c) = Unit {0}
Continues (Trailer k) = Unit {0}
Continues (Withdrawal t k) = Unit {0}

-- it leaves each take on its track
pub track_same : (place n : ℕ) (R : ℕ → Row) (o : Outline) → Continues o → (i : ℕ) → (next_rows place n R o i).track ≡ (R i).track
track_same place n R Opening w i = refl
track_same place n R (Begin t p) w i = absurd w
track_same place n R (Block k c) w i = changed_keeps (λ (r : Row). r.track) k (longer_row c place) R i (λ r. refl)
track_same place n R (Trailer k) w i = changed_keeps (λ (r : Row). r.track) k (row_in_state Standing) R i (λ r. refl)
track_same place n R (Withdrawal t k) w i = changed_keeps (λ (r : Row). r.track) k (row_in_state Withdrawn) R i (λ r. refl)

-- a take that is open after it was open before
pub open_before : (place n : ℕ) (R : ℕ → Row) (o : Outline) → Continues o → (i : ℕ) → (next_rows place n R o i).state ≡ Open → (R i).state ≡ Open
open_before place n R Opening w i o = absurd (settled_not_open (R i).state o)
open_before place n R (Begin t p) w i o = absurd w
open_before place n R (Block k c) w i o = sym (changed_keeps (λ (r : Row). r.state) k (longer_row c place) R i (λ r. refl)) ∙ o
open_before place n R (Trailer k) w i o = changed_by (λ j r. r.state ≡ Open → (R j).state ≡ Open) k (row_in_state Standing) R i (λ e o. absurd (standing_not_open o)) (λ e o. o) o
open_before place n R (Withdrawal t k) w i o = changed_by (λ j r. r.state ≡ Open → (R j).state ≡ Open) k (row_in_state Withdrawn) R i (λ e o. absurd (withdrawn_not_open o)) (λ e o. o) o

-- a begin, where no take is open on its track
one_open_begin : (place n t p : ℕ) (R : ℕ → Row) → (R 0).state ≡ Withdrawn → open_on R t n ≡ false → OneOpen R n → OneOpen (next_rows place n R (Begin t p)) (suc n)
one_open_begin place n t p R none free one i j (li, lj, oi, oj, e) =
    changed_by (λ i r. i ≤ suc n → r.state ≡ Open → r.track ≡ (changed (suc n) f R j).track → i ≡ j) (suc n) f R i
    (λ ei li oi e. changed_by (λ j r. j ≤ suc n → r.state ≡ Open → t ≡ r.track → i ≡ j) (suc n) f R j
    (λ ej lj oj e. omega arith)
    (λ nj lj oj e. absurd (alone j (omega arith) oj (sym e))) lj oj e)
    (λ ni li oi e. changed_by (λ j r. j ≤ suc n → r.state ≡ Open → (R i).track ≡ r.track → i ≡ j) (suc n) f R j
    (λ ej lj oj e. absurd (alone i (omega arith) oi e))
    (λ nj lj oj e. one i j (omega arith, omega arith, oi, oj, e)) lj oj e)
    li oi e
  where
    f : Row → Row
    f = λ r. fresh_row t p place

    alone : (i : ℕ) → i ≤ n → (R i).state ≡ Open → (R i).track ≡ t → ⊥
    alone zero l o e = withdrawn_not_open (sym none ∙ o)
    alone (suc i) l o e = none_open R t n free (suc i) (omega arith) l o e

-- any other entry opens no take
one_open_continues : (place n : ℕ) (R : ℕ → Row) (o : Outline) → Continues o → OneOpen R n → OneOpen (next_rows place n R o) n
one_open_continues place n R o w one i j (li, lj, oi, oj, e) =
    one i j (li, lj, open_before place n R o w i oi, open_before place n R o w j oj, sym (track_same place n R o w i) ∙ e ∙ track_same place n R o w j)

-- after an admitted entry at most one take is open on a track
pub one_open_step : (place n : ℕ) (R : ℕ → Row) (o : Outline) → (R 0).state ≡ Withdrawn → OneOpen R n → Allows R n (λ t. end_of R t n) o → OneOpen (next_rows place n R o) (next_count n o)
one_open_step place n R Opening none one a = one_open_continues place n R Opening tt one
one_open_step place n R (Begin t p) none one a = one_open_begin place n t p R none a.0 one
one_open_step place n R (Block k c) none one a = one_open_continues place n R (Block k c) tt one
one_open_step place n R (Trailer k) none one a = one_open_continues place n R (Trailer k) tt one
one_open_step place n R (Withdrawal t k) none one a = one_open_continues place n R (Withdrawal t k) tt one

-- a change of row j that keeps its track and position, makes nothing heard, and moves no end back where a later take begins
no_gap_changed : (j : ℕ) (f : Row → Row) (R : ℕ → Row) (n : ℕ) → ((r : Row) → (f r).track ≡ r.track) → ((r : Row) → (f r).position ≡ r.position)
    → (heard (f (R j)).state ≡ true → heard (R j).state ≡ true)
    → ((k : ℕ) → k < n → j ≤ k → heard (R (suc k)).state ≡ true → (a : ℕ) → further (R (suc k)).track (R j) a ≤ further (R (suc k)).track (f (R j)) a)
    → NoGap R n → NoGap (changed j f R) n
no_gap_changed j f R n tracks positions heard_before later h k (l, q) =
    changed_by (λ i r. heard r.state ≡ true → r.position ≤ end_of (changed j f R) r.track k) j f R (suc k)
    (λ e q. rw (end_below j f R (f (R (suc k))).track k (omega arith), tracks (R (suc k)), positions (R (suc k))) (h k (l, rw e (heard_before (rw e at q)))))
    (λ e q.
    let a = h k (l, q) in
    let b = end_later R (changed j f R) (R (suc k)).track k (λ i m a. changed_by (λ i r. further (R (suc k)).track (R i) a ≤ further (R (suc k)).track r a) j f R (suc i)
    (λ e. rw e (later k l (omega arith) q a)) (λ e. omega arith)) in
    omega arith)
    q

-- a begin at or before the end of its track
no_gap_begin : (place n t p : ℕ) (R : ℕ → Row) → p ≤ end_of R t n → NoGap R n → NoGap (next_rows place n R (Begin t p)) (suc n)
no_gap_begin place n t p R fits h k (l, q) =
    changed_by (λ i r. heard r.state ≡ true → r.position ≤ end_of (changed (suc n) f R) r.track k) (suc n) f R (suc k)
    (λ e q. let same : k ≡ n = omega arith in rw (end_below (suc n) f R t k (omega arith), same) fits)
    (λ e q. rw (end_below (suc n) f R (R (suc k)).track k (omega arith)) (h k (omega arith, q)))
    q
  where
    f : Row → Row
    f = λ r. fresh_row t p place

-- a withdrawal of the track's highest standing take, where none is open on it: no later heard take is on the track
no_gap_withdrawal : (place n t k : ℕ) (R : ℕ → Row) → Allows R n (λ t. end_of R t n) (Withdrawal t k) → NoGap R n → NoGap (next_rows place n R (Withdrawal t k)) n
no_gap_withdrawal place n t k R (free, some, taken) h =
    no_gap_changed k (row_in_state Withdrawn) R n (λ r. refl) (λ r. refl) (λ q. absurd (false≢true q))
    (λ m l b q a. rw (ne_eqb (R k).track (R (suc m)).track (alone m l b q)) (omega arith))
    h
  where
    top : Highest R t n k
    top = subst (Highest R t n) taken (withdraws_highest R t n)

    alone : (m : ℕ) → m < n → k ≤ m → heard (R (suc m)).state ≡ true → (R k).track ≡ (R (suc m)).track → ⊥
    alone m l b q e = go (R (suc m)).state refl
      where
        on_track : (R (suc m)).track ≡ t
        on_track = sym e ∙ (top.stands some).0

        go : (s : State) → (R (suc m)).state ≡ s → ⊥
        go Withdrawn es = false≢true (rw es at q)
        go Open es = none_open R t n free (suc m) (omega arith) (omega arith) es on_track
        go Standing es = omega (arith, top.above (suc m) (omega arith) (omega arith) on_track es)

-- after an admitted entry no heard take begins beyond the end of its track's earlier heard takes
pub no_gap_step : (place n : ℕ) (R : ℕ → Row) (o : Outline) → NoGap R n → Allows R n (λ t. end_of R t n) o → NoGap (next_rows place n R o) (next_count n o)
no_gap_step place n R Opening h a = λ k (l, q). rw (end_opening place n R (R (suc k)).track k) (h k (l, sym (heard_settled (R (suc k)).state) ∙ q))
no_gap_step place n R (Begin t p) h a = no_gap_begin place n t p R a.1 h
no_gap_step place n R (Block k c) h a = no_gap_changed k (longer_row c place) R n (λ r. refl) (λ r. refl) (λ q. q) (λ m l b q a. further_longer (R (suc m)).track a c place (R k)) h
no_gap_step place n R (Trailer k) h o =
    no_gap_changed k (row_in_state Standing) R n (λ r. refl) (λ r. refl) (λ q. rw o)
    (λ m l b q a. let e = further_standing (R (suc m)).track a (R k) o in omega arith) h
no_gap_step place n R (Withdrawal t k) h a = no_gap_withdrawal place n t k R a h
