-- The stretch of a take on its track: what lies below a heard take stays as it was at its begin, so an open take changes its own
-- stretch alone, and a withdrawal gives back what was there.
use Rattle.std.proofs.Common.{◌≡◌, ℕ, suc, ◌<◌, ◌≤◌, true, ◌⊎◌, List, [], ◌∷◌, ◌++◌, sym, refl, ap, ◌∙◌, subst, inl, inr, arith}
use Rattle.std.proofs.lemmas.Bool.{cases_eq, cases_lt, false≢true}
use Rattle.takes.specs.declared.State.{State}
use Rattle.takes.specs.declared.State.TheVariants.{Withdrawn, Open, Standing}
use Rattle.takes.specs.Entries.{Entry, opening, begin, block, trailer, withdrawal, History, next_place}
use Rattle.takes.specs.Takes.{Take, heard, fresh, longer, in_state, settled, changed, count, takes, rows}
use Rattle.takes.specs.Tracks.{lay, content, track, TableRun}
use Rattle.takes.specs.Claims.{Punches, Restores}
use Rattle.takes.proofs.States.{heard_settled}
use Rattle.takes.proofs.Changed.{changed_same, changed_other, changed_by, changed_keeps}
use Rattle.takes.proofs.Rules.{none_open}
use Rattle.takes.proofs.Ordered.{ordered}
use Rattle.takes.proofs.Contents.{lay_heard, lay_unheard, content_below, content_up_to, content_settled, content_ended, content_elsewhere, withdrawn_highest, withdrawn_on_track}

module _ {X : Type 0} where
  -- a take that began has its number for good
  pub begun_counts : (later b : History X) (t p : ℕ) → suc (count b) ≤ count (later ++ (begin t p ∷ b))
  begun_counts [] b t p = omega arith
  begun_counts (opening ∷ h) b t p = begun_counts h b t p
  begun_counts (begin u q ∷ h) b t p = let i = begun_counts h b t p in omega arith
  begun_counts (block k xs ∷ h) b t p = begun_counts h b t p
  begun_counts (trailer k ∷ h) b t p = begun_counts h b t p
  begun_counts (withdrawal u k ∷ h) b t p = begun_counts h b t p

  -- what neither a block nor a change of state touches of a take, as its track or its position, is what it was at its begin
  begun_keeps : (g : Take X → ℕ) → ((s : State) (r : Take X) → g (in_state s r) ≡ g r) → ((xs : List X) (n : ℕ) (r : Take X) → g (longer xs n r) ≡ g r)
      → (later b : History X) (t p : ℕ) → g (takes (later ++ (begin t p ∷ b)) (suc (count b))) ≡ g (fresh t p (next_place b))
  begun_keeps g s l [] b t p = ap g (changed_same (suc (count b)) (λ r. fresh t p (next_place b)) (takes b) (suc (count b)) refl)
  begun_keeps g s l (e ∷ later) b t p = one e ∙ begun_keeps g s l later b t p
    where
      h : History X
      h = later ++ (begin t p ∷ b)

      k : ℕ
      k = suc (count b)

      one : (e : Entry X) → g (takes (e ∷ h) k) ≡ g (takes h k)
      one opening = s (settled (takes h k).state) (takes h k)
      one (begin u q) = ap g (changed_other (suc (count h)) (λ r. fresh u q (next_place h)) (takes h) k (λ x. omega (arith, begun_counts later b t p)))
      one (block j xs) = changed_keeps g j (longer xs (next_place h)) (takes h) k (l xs (next_place h))
      one (trailer j) = changed_keeps g j (in_state Standing) (takes h) k (s Standing)
      one (withdrawal u j) = changed_keeps g j (in_state Withdrawn) (takes h) k (s Withdrawn)

  -- a take stays on the track on which it began
  pub begun_track : (h later b : History X) (t p : ℕ) → h ≡ later ++ (begin t p ∷ b) → (takes h (suc (count b))).track ≡ t
  begun_track h later b t p e = rw e (begun_keeps (λ r. r.track) (λ s r. refl) (λ xs n r. refl) later b t p)

  -- and at the position at which it began
  pub begun_position : (h later b : History X) (t p : ℕ) → h ≡ later ++ (begin t p ∷ b) → (takes h (suc (count b))).position ≡ p
  begun_position h later b t p e = rw e (begun_keeps (λ r. r.position) (λ s r. refl) (λ xs n r. refl) later b t p)

  -- a take that is heard after an entry was heard before it, if it had begun
  heard_before : (h : History X) (e : Entry X) (k : ℕ) → TableRun (e ∷ h) → k ≤ count h → heard (takes (e ∷ h) k).state ≡ true → heard (takes h k).state ≡ true
  heard_before h opening k a l q = sym (heard_settled (takes h k).state) ∙ q
  heard_before h (begin u p) k a l q =
      sym (ap (λ (r : Take X). heard r.state) (changed_other (suc (count h)) (λ r. fresh u p (next_place h)) (takes h) k (λ e. omega arith))) ∙ q
  heard_before h (block j xs) k a l q = sym (changed_keeps (λ (r : Take X). heard r.state) j (longer xs (next_place h)) (takes h) k (λ r. refl)) ∙ q
  heard_before h (trailer j) k (a, o) l q =
      changed_by (λ i r. heard r.state ≡ true → heard (takes h i).state ≡ true) j (in_state Standing) (takes h) k (λ e q. rw (e, o)) (λ e q. q) q
  heard_before h (withdrawal u j) k a l q =
      changed_by (λ i r. heard r.state ≡ true → heard (takes h i).state ≡ true) j (in_state Withdrawn) (takes h) k (λ e q. absurd (false≢true q)) (λ e q. q) q

  -- where no take is open on a track, a take on it that is above its highest standing one is not heard
  unheard_above : (h : History X) (t k : ℕ) → TableRun (withdrawal t k ∷ h) → (j : ℕ) → k < j → j ≤ count h → (takes h j).track ≡ t → heard (takes h j).state ≡ true → ⊥
  unheard_above h t k (a, b) j l m e q = go (takes h j).state refl
    where
      go : (s : State) → (takes h j).state ≡ s → ⊥
      go Withdrawn es = false≢true (rw es at q)
      go Open es = none_open (rows h) t (count h) b.0 j (omega arith) m es e
      go Standing es = omega (arith, (withdrawn_highest h t k (a, b)).above j (omega arith) m e es)

  -- an admitted entry leaves what lies below a heard take on its track
  below_stays : (h : History X) (e : Entry X) (t k n : ℕ) → TableRun (e ∷ h) → (takes h k).track ≡ t → n < k → k ≤ count h → heard (takes (e ∷ h) k).state ≡ true
      → content (takes (e ∷ h)) t n ≡ content (takes h) t n
  below_stays h opening t k n a w l m q = content_settled (takes h) t n
  below_stays h (begin u p) t k n a w l m q = content_below (suc (count h)) (λ r. fresh u p (next_place h)) (takes h) t n (omega arith)
  below_stays h (block j xs) t k n (a, o) w l m q = go (cases_eq (takes h j).track t) (cases_lt j k)
    where
      f : Take X → Take X
      f = longer xs (next_place h)

      go : ((takes h j).track ≡ t) ⊎ ((takes h j).track ≡ t → ⊥) → (j < k) ⊎ (k ≤ j) → content (changed j f (takes h)) t n ≡ content (takes h) t n
      go (inl e) (inl b) = absurd ((ordered h a).last j k o b m (w ∙ sym e))
      go (inl e) (inr b) = content_below j f (takes h) t n (omega arith)
      go (inr e) b = content_elsewhere j f (takes h) t n refl e
  below_stays h (trailer j) t k n (a, o) w l m q = content_ended j (takes h) t n o
  below_stays h (withdrawal u j) t k n a w l m q = go (cases_eq (takes h j).track t) (cases_lt j k)
    where
      f : Take X → Take X
      f = in_state Withdrawn

      go : ((takes h j).track ≡ t) ⊎ ((takes h j).track ≡ t → ⊥) → (j < k) ⊎ (k ≤ j) → content (changed j f (takes h)) t n ≡ content (takes h) t n
      go (inl e) (inl b) = absurd (unheard_above h u j a k b m (w ∙ sym e ∙ withdrawn_on_track h u j a) (heard_before h (withdrawal u j) k a m q))
      go (inl e) (inr b) = content_below j f (takes h) t n (omega arith)
      go (inr e) b = content_elsewhere j f (takes h) t n refl e

  -- so what lies below it is what its track was when it began, whatever entries came since
  below_since : (later b : History X) (t p : ℕ) → TableRun (later ++ (begin t p ∷ b)) → heard (takes (later ++ (begin t p ∷ b)) (suc (count b))).state ≡ true
      → content (takes (later ++ (begin t p ∷ b))) t (count b) ≡ track b t
  below_since [] b t p a q = content_below (suc (count b)) (λ r. fresh t p (next_place b)) (takes b) t (count b) (omega arith)
  below_since (e ∷ later) b t p (a, c) q =
      let h = later ++ (begin t p ∷ b) in
      let l = begun_counts later b t p in
      below_stays h e t (suc (count b)) (count b) (a, c) (begun_track h later b t p refl) (omega arith) l q
      ∙ below_since later b t p a (heard_before h e (suc (count b)) (a, c) l q)

  -- the same, of a history that is known to go on from that begin
  pub below : (h later b : History X) (t p : ℕ) → TableRun h → h ≡ later ++ (begin t p ∷ b) → heard (takes h (suc (count b))).state ≡ true
      → content (takes h) t (count b) ≡ track b t
  below h later b t p a e q = rw e (below_since later b t p (rw e at a) (rw e at q))

  -- an open take has changed its own stretch alone: no take above it is on its track
  pub punches : Punches X
  punches h later b t p a e o =
      above
      ∙ (lay_heard t (takes h k) (content (takes h) t (count b)) on (ap heard o)
      ∙ rw (begun_position h later b t p e, below h later b t p a e (ap heard o)))
    where
      k : ℕ
      k = suc (count b)

      on : (takes h k).track ≡ t
      on = begun_track h later b t p e

      above : track h t ≡ content (takes h) t k
      above =
          content_up_to (takes h) t k (count h) (rw e (begun_counts later b t p))
          (λ j l m C. lay_unheard t (takes h j) C (λ w q. (ordered h a).last k j o l m (w ∙ sym on)))

  -- a withdrawal is on the track on which its take began
  pub withdrawn_track : (h later b : History X) (t s p k : ℕ) → TableRun (withdrawal t k ∷ h) → h ≡ later ++ (begin s p ∷ b) → k ≡ suc (count b) → s ≡ t
  withdrawn_track h later b t s p k a e n = sym (begun_track h later b s p e) ∙ (ap (λ (i : ℕ). (takes h i).track) (sym n) ∙ withdrawn_on_track h t k a)

  -- a withdrawal gives back what was there before its take began: no take above that one is heard on its track
  pub restores : Restores X
  restores h later b t s p k a e n =
      above
      ∙ (content_below k f (takes h) t (count b) (omega arith)
      ∙ subst (λ (u : ℕ). content (takes h) u (count b) ≡ track b u) (withdrawn_track h later b t s p k a e n) (below h later b s p a.0 e stood))
    where
      f : Take X → Take X
      f = in_state Withdrawn

      stood : heard (takes h (suc (count b))).state ≡ true
      stood = rw (← n, ((withdrawn_highest h t k a).stands a.1.1).1)

      above : track (withdrawal t k ∷ h) t ≡ content (changed k f (takes h)) t (count b)
      above =
          content_up_to (changed k f (takes h)) t (count b) (count h) (rw e (let i = begun_counts later b s p in omega arith))
          (λ j l m C. changed_by (λ i r. lay t r C ≡ C) k f (takes h) j
          (λ i. lay_unheard t (f (takes h j)) C (λ w q. false≢true q))
          (λ i. lay_unheard t (takes h j) C (λ w q. unheard_above h t k a j (omega arith) m w q)))
