-- Where the tracks of a table end, and how an entry moves it.
use Rattle.std.proofs.Common.{◌≡◌, ℕ, zero, suc, ◌+◌, ◌<◌, ◌≤◌, max, Bool, true, false, cond, refl, ap, subst, arith, ◌==◌, eqb-true}
use Rattle.std.proofs.lemmas.Bool.{cond_both, and_parts, and_right}
use Rattle.takes.specs.declared.Row.{Row}
use Rattle.takes.specs.declared.State.TheVariants.{Withdrawn, Open, Standing}
use Rattle.takes.specs.Takes.{settled, changed}
use Rattle.takes.specs.declared.Outline.{Outline}
use Rattle.takes.specs.declared.Outline.TheVariants.{Opening, Begin, Block, Trailer, Withdrawal}
use Rattle.takes.specs.Table.{heard_on, end_of, Allows}
use Rattle.takes.specs.Steps.{fresh_row, longer_row, row_in_state, next_rows, next_count}
use Rattle.takes.proofs.States.{heard_settled}
use Rattle.takes.proofs.Changed.{changed_same, changed_other, changed_by}

-- where track t ends after a row, if it ended at a before
abbrev pub further : ℕ → Row → ℕ → ℕ
further t r a = cond (heard_on t r) (max a (r.position + r.len)) a

-- a track that ends later before a row ends later after it
further_later : (t : ℕ) (r : Row) (a b : ℕ) → a ≤ b → further t r a ≤ further t r b
further_later t r a b h = go (heard_on t r)
  where
    go : (c : Bool) → cond c (max a (r.position + r.len)) a ≤ cond c (max b (r.position + r.len)) b
    go true = omega arith
    go false = h

-- a row moves no end back
further_not_less : (t : ℕ) (r : Row) (a : ℕ) → a ≤ further t r a
further_not_less t r a = cond_both (heard_on t r) (max a (r.position + r.len)) a (λ b. a ≤ b) (λ e. omega arith) (λ e. omega arith)

-- a longer take reaches at least as far
pub further_longer : (t a c place : ℕ) (r : Row) → further t r a ≤ further t (longer_row c place r) a
further_longer t a c place r = go (heard_on t r)
  where
    go : (b : Bool) → cond b (max a (r.position + r.len)) a ≤ cond b (max a (r.position + (r.len + c))) a
    go true = omega arith
    go false = omega arith

-- a take that ends reaches as far as before
pub further_standing : (t a : ℕ) (r : Row) → r.state ≡ Open → further t (row_in_state Standing r) a ≡ further t r a
further_standing t a r o = rw o

-- where rows reach further, the tracks end later
pub end_later : (R S : ℕ → Row) (t n : ℕ) → ((i : ℕ) → i < n → (a : ℕ) → further t (R (suc i)) a ≤ further t (S (suc i)) a) → end_of R t n ≤ end_of S t n
end_later R S t zero h = omega arith
end_later R S t (suc n) h =
    let a = h n (omega arith) (end_of S t n) in
    let b = further_later t (R (suc n)) _ _ (end_later R S t n (λ i l. h i (omega arith))) in
    omega arith

-- where rows reach equally far, the tracks end at the same place
pub end_same : (R S : ℕ → Row) (t n : ℕ) → ((i : ℕ) → i < n → (a : ℕ) → further t (R (suc i)) a ≡ further t (S (suc i)) a) → end_of R t n ≡ end_of S t n
end_same R S t n h =
    let a = end_later R S t n (λ i l a. let e = h i l a in omega arith) in
    let b = end_later S R t n (λ i l a. let e = h i l a in omega arith) in
    omega arith

-- a row with a higher number moves no end
pub end_below : (j : ℕ) (f : Row → Row) (R : ℕ → Row) (t n : ℕ) → n < j → end_of (changed j f R) t n ≡ end_of R t n
end_below j f R t n h = end_same (changed j f R) R t n (λ i l a. ap (λ (r : Row). further t r a) (changed_other j f R (suc i) (λ e. omega arith)))

-- an opening moves no end
pub end_opening : (place n : ℕ) (R : ℕ → Row) (t m : ℕ) → end_of (next_rows place n R Opening) t m ≡ end_of R t m
end_opening place n R t m = end_same (λ k. row_in_state (settled (R k).state) (R k)) R t m (λ i l a. rw (heard_settled (R (suc i)).state))

-- nor does a begin that is not beyond the end of its track
pub end_begin : (place n t p : ℕ) (R : ℕ → Row) → p ≤ end_of R t n → (u : ℕ) → end_of (next_rows place n R (Begin t p)) u (suc n) ≡ end_of R u n
end_begin place n t p R fits u =
    let b = end_below (suc n) (λ r. fresh_row t p place) R u n (omega arith) in
    rw (changed_same (suc n) (λ r. fresh_row t p place) R (suc n) refl, b)
    (cond_both (heard_on u (fresh_row t p place)) (max (end_of R u n) (p + 0)) (end_of R u n) (λ a. a ≡ end_of R u n)
    (λ e. let w = eqb-true t u (and_parts _ _ e).0 in let l : p ≤ end_of R u n = subst (λ (t : ℕ). p ≤ end_of R t n) w fits in omega arith)
    (λ e. refl))

-- a block moves an end on by at most the elements that it has
pub end_block : (place n k c : ℕ) (R : ℕ → Row) (t m : ℕ) → end_of (next_rows place n R (Block k c)) t m ≤ end_of R t m + c
end_block place n k c R t zero = omega arith
end_block place n k c R t (suc m) =
    changed_by (λ i r. further t r (end_of (next_rows place n R (Block k c)) t m) ≤ further t (R i) (end_of R t m) + c) k (longer_row c place) R (suc m)
    (λ e. by_at_most (heard_on t (R (suc m))) _ _ _ _ c (end_block place n k c R t m) (omega arith))
    (λ e. by_at_most (heard_on t (R (suc m))) _ _ _ _ c (end_block place n k c R t m) (omega arith))
  where
    by_at_most : (b : Bool) (a a' e e' c : ℕ) → a' ≤ a + c → e' ≤ e + c → cond b (max a' e') a' ≤ cond b (max a e) a + c
    by_at_most true a a' e e' c h l = omega arith
    by_at_most false a a' e e' c h l = h

-- a trailer of an open take moves no end
pub end_trailer : (place n k : ℕ) (R : ℕ → Row) → (R k).state ≡ Open → (t m : ℕ) → end_of (next_rows place n R (Trailer k)) t m ≡ end_of R t m
end_trailer place n k R o t m =
    end_same (changed k (row_in_state Standing) R) R t m
    (λ i l a. changed_by (λ j r. further t r a ≡ further t (R j) a) k (row_in_state Standing) R (suc i) (λ e. further_standing t a (R (suc i)) (rw e o)) (λ e. refl))

-- a withdrawal moves no end on
pub end_withdrawal : (place n u k : ℕ) (R : ℕ → Row) (t m : ℕ) → end_of (next_rows place n R (Withdrawal u k)) t m ≤ end_of R t m
end_withdrawal place n u k R t m =
    end_later (changed k (row_in_state Withdrawn) R) R t m
    (λ i l a. changed_by (λ j r. further t r a ≤ further t (R j) a) k (row_in_state Withdrawn) R (suc i)
    (λ e. rw (and_right ((R (suc i)).track == t) false refl) (further_not_less t (R (suc i)) a)) (λ e. omega arith))

-- how many elements an entry has
abbrev pub elements_in : Outline → ℕ
elements_in Opening = 0
elements_in (Begin t p) = 0
elements_in (Block k c) = c
elements_in (Trailer k) = 0
elements_in (Withdrawal t k) = 0

-- an admitted entry moves an end on by at most the elements that it has
pub end_step : (place n : ℕ) (R : ℕ → Row) (o : Outline) → Allows R n (λ t. end_of R t n) o → (t : ℕ) → end_of (next_rows place n R o) t (next_count n o) ≤ end_of R t n + elements_in o
end_step place n R Opening a t = let e = end_opening place n R t n in omega arith
end_step place n R (Begin u p) a t = let e = end_begin place n u p R a.1 t in omega arith
end_step place n R (Block k c) a t = end_block place n k c R t n
end_step place n R (Trailer k) a t = let e = end_trailer place n k R a t n in omega arith
end_step place n R (Withdrawal u k) a t = let e = end_withdrawal place n u k R t n in omega arith
