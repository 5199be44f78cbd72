-- What a change of the table does to the contents of its tracks, and which tracks an admitted entry leaves as they were.
use Rattle.std.proofs.Common.{◌≡◌, ℕ, zero, suc, ◌+◌, ◌<◌, ◌≤◌, ◌≢◌, Bool, true, false, cond, ◌&&◌, ◌==◌, List, [], ◌∷◌, sym, refl, ap, ◌∙◌, subst, inl, inr, arith, eq-eqb, eqb-true}
use Rattle.std.proofs.lemmas.Bool.{cases_eq, cond_both, and_parts}
use Rattle.std.proofs.lemmas.List.{take-append-drop}
use Rattle.takes.specs.declared.State.TheVariants.{Withdrawn, Open, Standing}
use Rattle.takes.specs.Entries.{opening, begin, block, trailer, withdrawal, History, next_place}
use Rattle.takes.specs.Takes.{Take, heard, fresh, longer, in_state, settled, changed, count, takes, row, rows}
use Rattle.takes.specs.Table.{heard_on}
use Rattle.takes.specs.Tracks.{splice, lay, content, TableRun}
use Rattle.takes.specs.Claims.{OthersStay}
use Rattle.takes.proofs.States.{heard_settled}
use Rattle.takes.proofs.Changed.{changed_same, changed_other, changed_by}
use Rattle.takes.proofs.Rules.{Highest, withdraws_highest}

module _ {X : Type 0} where
  -- a take that is heard on a track is laid there
  pub lay_heard : (t : ℕ) (r : Take X) (C : List X) → r.track ≡ t → heard r.state ≡ true → lay t r C ≡ splice r.position r.elements C
  lay_heard t r C e h = rw (eq-eqb r.track t e, h)

  -- any other is not
  pub lay_unheard : (t : ℕ) (r : Take X) (C : List X) → (r.track ≡ t → heard r.state ≡ true → ⊥) → lay t r C ≡ C
  lay_unheard t r C h =
      cond_both (heard_on t (row r)) (splice r.position r.elements C) C (λ D. D ≡ C)
      (λ e. let w = and_parts _ _ e in absurd (h (eqb-true _ _ w.0) w.1)) (λ e. refl)

  -- a take that has no elements yet changes nothing
  lay_fresh : (t u p n : ℕ) (C : List X) → lay t (fresh u p n) C ≡ C
  lay_fresh t u p n C = go (u == t && true)
    where
      go : (b : Bool) → cond b (splice p [] C) C ≡ C
      go true = let e : p + 0 ≡ p = omega arith in rw e (take-append-drop p C)
      go false = refl

  -- an opening lays each take as before
  lay_settled : (t : ℕ) (r : Take X) (C : List X) → lay t (in_state (settled r.state) r) C ≡ lay t r C
  lay_settled t r C = rw (heard_settled r.state)

  -- an open take that ends is laid as before
  lay_ended : (t : ℕ) (r : Take X) (C : List X) → r.state ≡ Open → lay t (in_state Standing r) C ≡ lay t r C
  lay_ended t r C o = rw o

  -- tables whose first n takes are laid the same way have the same content
  content_same : (T U : ℕ → Take X) (t n : ℕ) → ((i : ℕ) → i < n → (C : List X) → lay t (T (suc i)) C ≡ lay t (U (suc i)) C) → content T t n ≡ content U t n
  content_same T U t zero h = refl
  content_same T U t (suc n) h = h n (omega arith) (content T t n) ∙ ap (lay t (U (suc n))) (content_same T U t n (λ i l. h i (omega arith)))

  -- a change of a take that is laid the same way
  content_alike : (k : ℕ) (f : Take X → Take X) (T : ℕ → Take X) (t n : ℕ) → ((C : List X) → lay t (f (T k)) C ≡ lay t (T k) C) → content (changed k f T) t n ≡ content T t n
  content_alike k f T t n h =
      content_same (changed k f T) T t n
      (λ i l C. changed_by (λ j r. lay t r C ≡ lay t (T j) C) k f T (suc i) (λ e. rw e (h C)) (λ e. refl))

  -- a change of a take with a higher number
  pub content_below : (k : ℕ) (f : Take X → Take X) (T : ℕ → Take X) (t n : ℕ) → n < k → content (changed k f T) t n ≡ content T t n
  content_below k f T t n l =
      content_same (changed k f T) T t n (λ i m C. ap (λ (r : Take X). lay t r C) (changed_other k f T (suc i) (λ e. omega arith)))

  -- where no take past the first m is laid on a track, its content is that of the first m
  pub content_up_to : (T : ℕ → Take X) (t m n : ℕ) → m ≤ n → ((j : ℕ) → m < j → j ≤ n → (C : List X) → lay t (T j) C ≡ C) → content T t n ≡ content T t m
  content_up_to T t m zero l h = let e : m ≡ zero = omega arith in rw e
  content_up_to T t m (suc n) l h = elim (cases_eq m (suc n)) [
    | inl e ↦ rw e
    | inr e ↦ h (suc n) (omega arith) (omega arith) (content T t n) ∙ content_up_to T t m n (omega arith) (λ j a b. h j a (omega arith))
  ]

  -- an opening leaves each content as it was
  pub content_settled : (T : ℕ → Take X) (t n : ℕ) → content (λ k. in_state (settled (T k).state) (T k)) t n ≡ content T t n
  content_settled T t n = content_same (λ k. in_state (settled (T k).state) (T k)) T t n (λ i l C. lay_settled t (T (suc i)) C)

  -- so does the trailer of an open take
  pub content_ended : (k : ℕ) (T : ℕ → Take X) (t n : ℕ) → (T k).state ≡ Open → content (changed k (in_state Standing) T) t n ≡ content T t n
  content_ended k T t n o = content_alike k (in_state Standing) T t n (λ C. lay_ended t (T k) C o)

  -- and, on other tracks, a change that leaves a take where it is
  pub content_elsewhere : (k : ℕ) (f : Take X → Take X) (T : ℕ → Take X) (t n : ℕ) → (f (T k)).track ≡ (T k).track → (T k).track ≢ t → content (changed k f T) t n ≡ content T t n
  content_elsewhere k f T t n same other =
      content_alike k f T t n (λ C. lay_unheard t (f (T k)) C (λ e q. other (sym same ∙ e)) ∙ sym (lay_unheard t (T k) C (λ e q. other e)))

  -- the take that an admitted withdrawal names is the highest standing one of its track
  pub withdrawn_highest : (h : History X) (t k : ℕ) → TableRun (withdrawal t k ∷ h) → Highest (rows h) t (count h) k
  withdrawn_highest h t k (a, (free, some, taken)) = subst (Highest (rows h) t (count h)) taken (withdraws_highest (rows h) t (count h))

  -- so it is a take on that track
  pub withdrawn_on_track : (h : History X) (t k : ℕ) → TableRun (withdrawal t k ∷ h) → (takes h k).track ≡ t
  withdrawn_on_track h t k (a, b) = ((withdrawn_highest h t k (a, b)).stands b.1).0

  -- an entry changes at most one track: a block that of its take, a withdrawal its own
  pub others_stay : OthersStay X
  others_stay h opening t (a, b) w = content_settled (takes h) t (count h)
  others_stay h (begin u p) t (a, b) w =
      let f = λ (r : Take X). fresh u p (next_place h) in
      rw (changed_same (suc (count h)) f (takes h) (suc (count h)) refl)
      (lay_fresh t u p (next_place h) _ ∙ content_below (suc (count h)) f (takes h) t (count h) (omega arith))
  others_stay h (block k xs) t (a, b) w = content_elsewhere k (longer xs (next_place h)) (takes h) t (count h) refl w
  others_stay h (trailer k) t (a, b) w = content_ended k (takes h) t (count h) b
  others_stay h (withdrawal u k) t (a, b) w =
      content_elsewhere k (in_state Withdrawn) (takes h) t (count h) refl (λ e. w (sym (withdrawn_on_track h u k (a, b)) ∙ e))
