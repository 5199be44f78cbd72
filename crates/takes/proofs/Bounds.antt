-- How large the numbers of a table become.
use Rattle.std.proofs.Common.{ℕ, suc, ◌+◌, ◌*◌, ◌<◌, ◌≤◌, ◌⊎◌, [], ◌∷◌, length, sym, refl, subst, inl, inr, suc-mul, mul-suc, zero-mul, arith, length-append}
use Rattle.std.proofs.Math.Path.{fun_ext}
use Rattle.std.proofs.lemmas.Bool.{cases_lt}
use Rattle.takes.specs.declared.State.TheVariants.{Standing, Withdrawn}
use Rattle.takes.specs.declared.Row.{Row}
use Rattle.takes.specs.Entries.{Entry, opening, begin, block, trailer, withdrawal, History, outline, next_place, epoch}
use Rattle.takes.specs.Takes.{Take, fresh, longer, in_state, count, takes, rows}
use Rattle.takes.specs.Table.{withdrawn_by, end_of}
use Rattle.takes.specs.Tracks.{track, TableRun}
use Rattle.takes.specs.Steps.{next_count}
use Rattle.takes.specs.Claims.{Small, Opened}
use Rattle.takes.proofs.Changed.{changed_by, changed_keeps}
use Rattle.takes.proofs.Rules.{withdraws_highest}
use Rattle.takes.proofs.Ends.{elements_in, end_step}
use Rattle.takes.proofs.Steps.{rows_step, count_step}
use Rattle.takes.proofs.Ordered.{ordered, same_rule, ends}

-- a withdrawal among the first n takes takes one of them, or 0
pub withdrawn_at_most : (R : ℕ → Row) (t n : ℕ) → withdrawn_by R t n ≤ n
withdrawn_at_most R t n = go (cases_lt 0 (withdrawn_by R t n))
  where
    go : (0 < withdrawn_by R t n) ⊎ (withdrawn_by R t n ≤ 0) → withdrawn_by R t n ≤ n
    go (inl l) = ((withdraws_highest R t n).stands l).2
    go (inr l) = omega arith

module _ {X : Type 0} where
  -- how many blocks a history has
  abbrev pub blocks : History X → ℕ
  blocks [] = 0
  blocks (opening ∷ h) = blocks h
  blocks (begin t p ∷ h) = blocks h
  blocks (block k xs ∷ h) = suc (blocks h)
  blocks (trailer k ∷ h) = blocks h
  blocks (withdrawal t k ∷ h) = blocks h

  -- the ends after an admitted entry
  end_after : (h : History X) (e : Entry X) → TableRun (e ∷ h) → (t : ℕ) → end_of (rows (e ∷ h)) t (count (e ∷ h)) ≤ end_of (rows h) t (count h) + elements_in (outline e)
  end_after h e (a, b) t =
      let l = end_step (next_place h) (count h) (rows h) (outline e) ((same_rule h e (ordered h a).laid).0 b) t in
      rw (count_step h e) (subst (λ (R : ℕ → Row). end_of R t (next_count (count h) (outline e)) ≤ end_of (rows h) t (count h) + elements_in (outline e)) (sym (fun_ext (rows_step h e))) l)

  -- no track is longer than what all blocks hold
  end_by_blocks : (h : History X) → TableRun h → (m : ℕ) → Small X m h → (t : ℕ) → end_of (rows h) t (count h) ≤ blocks h * m
  end_by_blocks [] a m s t = omega (arith, zero-mul m)
  end_by_blocks (opening ∷ h) a m s t = omega (arith, end_by_blocks h a.0 m s t, end_after h opening a t)
  end_by_blocks (begin u p ∷ h) a m s t = omega (arith, end_by_blocks h a.0 m s t, end_after h (begin u p) a t)
  end_by_blocks (block k xs ∷ h) a m (l, s) t = omega (arith, end_by_blocks h a.0 m s t, end_after h (block k xs) a t, suc-mul (blocks h) m)
  end_by_blocks (trailer k ∷ h) a m s t = omega (arith, end_by_blocks h a.0 m s t, end_after h (trailer k) a t)
  end_by_blocks (withdrawal u k ∷ h) a m s t = omega (arith, end_by_blocks h a.0 m s t, end_after h (withdrawal u k) a t)

  -- blocks, begins and openings are entries
  pub parts : (h : History X) → blocks h + (count h + epoch h) ≤ suc (length h)
  parts [] = omega arith
  parts (opening ∷ h) = omega (arith, parts h)
  parts (begin t p ∷ h) = omega (arith, parts h)
  parts (block k xs ∷ h) = omega (arith, parts h)
  parts (trailer k ∷ h) = omega (arith, parts h)
  parts (withdrawal t k ∷ h) = omega (arith, parts h)

  -- no entry takes the epoch back
  pub epoch_rises : (e : Entry X) (h : History X) → epoch h ≤ epoch (e ∷ h)
  epoch_rises opening h = omega arith
  epoch_rises (begin t p) h = omega arith
  epoch_rises (block k xs) h = omega arith
  epoch_rises (trailer k) h = omega arith
  epoch_rises (withdrawal t k) h = omega arith

  -- a history that begins with an opening has one
  opened : (h : History X) → Opened X h → 0 < length h → 1 < epoch h
  opened [] o l = absurd (omega arith)
  opened (opening ∷ []) o l = omega arith
  opened (begin t p ∷ []) o l = absurd o
  opened (block k xs ∷ []) o l = absurd o
  opened (trailer k ∷ []) o l = absurd o
  opened (withdrawal t k ∷ []) o l = absurd o
  opened (e ∷ f ∷ h) o l = let i = opened (f ∷ h) o (omega arith) in omega (arith, epoch_rises e (f ∷ h))

  -- a history with a block has a take
  begun : (h : History X) → TableRun h → 0 < blocks h → 0 < count h
  begun [] a l = l
  begun (opening ∷ h) (a, b) l = begun h a l
  begun (begin t p ∷ h) (a, b) l = omega arith
  begun (block k xs ∷ h) (a, b) l = let w = (ordered h a).within k b in omega (arith, w.0, w.1)
  begun (trailer k ∷ h) (a, b) l = begun h a l
  begun (withdrawal t k ∷ h) (a, b) l = begun h a l

  -- a log of at most 65,535 entries with blocks of at most 240 elements has no track of more than 15,727,920: one entry at least is
  -- an opening, and one a begin
  pub longest : (h : History X) → TableRun h → Opened X h → length h ≤ 65535 → Small X 240 h → (t : ℕ) → length (track h t) ≤ 15727920
  longest h a o l s t = go (cases_lt 0 (blocks h))
    where
      go : (0 < blocks h) ⊎ (blocks h ≤ 0) → length (track h t) ≤ 15727920
      go (inl b) = omega (arith, ends h a t, end_by_blocks h a 240 s t, parts h, begun h a b, opened h o (omega (arith, parts h, begun h a b)))
      go (inr b) = omega (arith, ends h a t, end_by_blocks h a 240 s t)

  -- where no block has more than m elements, no take has more than m for each entry
  pub take_at_most : (h : History X) (m : ℕ) → Small X m h → (k : ℕ) → length (takes h k).elements ≤ m * length h
  take_at_most [] m s k = omega arith
  take_at_most (opening ∷ h) m s k = omega (arith, take_at_most h m s k, mul-suc m (length h))
  take_at_most (begin t p ∷ h) m s k =
      changed_by (λ i r. length r.elements ≤ m * suc (length h)) (suc (count h)) (λ r. fresh t p (next_place h)) (takes h) k
      (λ e. omega arith) (λ e. omega (arith, take_at_most h m s k, mul-suc m (length h)))
  take_at_most (block j xs ∷ h) m (l, s) k =
      changed_by (λ i r. length r.elements ≤ m * suc (length h)) j (longer xs (next_place h)) (takes h) k
      (λ e. simp length-append (omega (arith, take_at_most h m s k, mul-suc m (length h)))) (λ e. omega (arith, take_at_most h m s k, mul-suc m (length h)))
  take_at_most (trailer j ∷ h) m s k =
      let e = changed_keeps (λ (r : Take X). length r.elements) j (in_state Standing) (takes h) k (λ r. refl) in omega (arith, take_at_most h m s k, mul-suc m (length h))
  take_at_most (withdrawal t j ∷ h) m s k =
      let e = changed_keeps (λ (r : Take X). length r.elements) j (in_state Withdrawn) (takes h) k (λ r. refl) in omega (arith, take_at_most h m s k, mul-suc m (length h))
