-- Painting the sectors of an admitted history in their order is painting its heard takes in the order of their numbers, which gives
-- the track.
use Rattle.std.proofs.Common.{◌≡◌, ℕ, zero, suc, ◌+◌, ◌*◌, ◌<◌, ◌≤◌, Bool, true, false, cond, List, [], ◌∷◌, ◌++◌, length, Some, None, Option, sym, refl, ap, ◌∙◌, inl, inr, mul-le-mul_right, add-mul, arith, eqb-true}
use Rattle.std.proofs.lemmas.Bool.{cases_eq, and_parts}
use Rattle.std.proofs.lemmas.Grind.{flat_map-append}
use Rattle.std.proofs.lemmas.Option.{cond_some}
use Rattle.std.specs.List.{flat_map}
use Rattle.takes.specs.declared.Row.{Row}
use Rattle.takes.specs.declared.State.TheVariants.{Open, Standing, Withdrawn}
use Rattle.takes.specs.Entries.{Entry, opening, begin, block, trailer, withdrawal, History, next_place}
use Rattle.takes.specs.Takes.{Take, fresh, longer, in_state, settled, changed, count, takes, row, rows}
use Rattle.takes.specs.Table.{heard_on, NoGap}
use Rattle.takes.specs.Tracks.{splice, content, track, TableRun}
use Rattle.takes.specs.Painting.{Content, Cells, Other, painted, spot_of, stroke, paint_one, paint, Passed, Says, Shows}
use Rattle.takes.specs.Claims.{PaintsTracks}
use Rattle.takes.proofs.Changed.{changed_same, changed_other, changed_by, changed_keeps}
use Rattle.takes.proofs.Ordered.{Ordered, ordered, begins_within, content_ends}
use Rattle.takes.proofs.Cells.{painted_nil, painted_append, painted_splice, painted_whole, length_cells, cells_splice}

-- spots are of takes on track t
abbrev pub OnTrack : {X : Type 0} → (ℕ → Option ℕ) → ℕ → History X → Type 0
OnTrack spot t h = (j f : ℕ) → spot j ≡ Some f → 0 < j → j ≤ count h → (takes h j).track ≡ t

-- and were so before an entry
pub on_track_before : {X : Type 0} (spot : ℕ → Option ℕ) (t : ℕ) (e : Entry X) (h : History X) → OnTrack spot t (e ∷ h) → OnTrack spot t h
on_track_before spot t opening h g j f q l m = g j f q l m
on_track_before {X} spot t (begin u p) h g j f q l m =
    sym (ap (λ (r : Take X). r.track) (changed_other (suc (count h)) (λ r. fresh u p (next_place h)) (takes h) j (λ z. omega arith))) ∙ g j f q l (omega arith)
on_track_before {X} spot t (block k xs) h g j f q l m = sym (changed_keeps (λ (r : Take X). r.track) k (longer xs (next_place h)) (takes h) j (λ r. refl)) ∙ g j f q l m
on_track_before {X} spot t (trailer k) h g j f q l m = sym (changed_keeps (λ (r : Take X). r.track) k (in_state Standing) (takes h) j (λ r. refl)) ∙ g j f q l m
on_track_before {X} spot t (withdrawal u k) h g j f q l m = sym (changed_keeps (λ (r : Take X). r.track) k (in_state Withdrawn) (takes h) j (λ r. refl)) ∙ g j f q l m

-- the spots of a track are of its takes
pub spot_on_track : (R : ℕ → Row) (t j f : ℕ) → spot_of R t j ≡ Some f → (R j).track ≡ t
spot_on_track R t j f q = let w = cond_some (heard_on t (R j)) (R j).position f q in eqb-true _ _ (and_parts _ _ w.0).0

module _ {X Y : Type 0} (per : ℕ) (v : X → List Y) (wide : (x : X) → length (v x) ≡ per) (spot : ℕ → Option ℕ) (from : ℕ) where
  -- the elements of a take that begins at a spot
  abbrev laid_on : Option ℕ → List X → List Y → List Y
  laid_on s E out = stroke per spot from s 0 (flat_map v E) out

  -- takes 1 to n, one after the other
  abbrev all_laid : (ℕ → Take X) → ℕ → List Y → List Y
  all_laid T zero out = out
  all_laid T (suc n) out = laid_on (spot (suc n)) (T (suc n)).elements (all_laid T n out)

  -- tables whose takes lay the same
  all_same : (T U : ℕ → Take X) (n : ℕ) (out : List Y)
      → ((i : ℕ) → i < n → (o : List Y) → laid_on (spot (suc i)) (T (suc i)).elements o ≡ laid_on (spot (suc i)) (U (suc i)).elements o)
      → all_laid T n out ≡ all_laid U n out
  all_same T U zero out h = refl
  all_same T U (suc n) out h = h n (omega arith) (all_laid T n out) ∙ ap (laid_on (spot (suc n)) (U (suc n)).elements) (all_same T U n out (λ i l. h i (omega arith)))

  -- a change of a take with a higher number
  all_below : (k : ℕ) (f : Take X → Take X) (T : ℕ → Take X) (n : ℕ) (out : List Y) → n < k → all_laid (changed k f T) n out ≡ all_laid T n out
  all_below k f T n out h = all_same (changed k f T) T n out (λ i l o. ap (λ (r : Take X). laid_on (spot (suc i)) r.elements o) (changed_other k f T (suc i) (λ e. omega arith)))

  -- a change that keeps the elements
  all_kept : (k : ℕ) (f : Take X → Take X) (T : ℕ → Take X) (n : ℕ) (out : List Y) → ((r : Take X) → (f r).elements ≡ r.elements) → all_laid (changed k f T) n out ≡ all_laid T n out
  all_kept k f T n out h =
      all_same (changed k f T) T n out
      (λ i l o. ap (λ (E : List X). laid_on (spot (suc i)) E o) (changed_keeps (λ (r : Take X). r.elements) k f T (suc i) h))

  -- a take without elements
  laid_nothing : (s : Option ℕ) (o : List Y) → laid_on s [] o ≡ o
  laid_nothing None o = refl
  laid_nothing (Some f) o = painted_nil ((f + 0) * per) from o

  -- a block at the end of a take
  laid_longer : (f : ℕ) (E xs : List X) (o : List Y) → laid_on (Some f) (E ++ xs) o ≡ stroke per spot from (Some f) (length E) (flat_map v xs) (laid_on (Some f) E o)
  laid_longer f E xs o =
      let e : (f + 0) * per + length (flat_map v E) ≡ (f + length E) * per = rw (length_cells per v wide E, add-mul f (length E) per) (omega arith) in
      rw (flat_map-append v E xs, painted_append, e)

  module _ (T : ℕ → Take X) (k : ℕ) (xs : List X) (place : ℕ) where
    -- a block of a take that is passed over
    block_passed : (n : ℕ) (out : List Y) → spot k ≡ None → all_laid (changed k (longer xs place) T) n out ≡ all_laid T n out
    block_passed n out s =
        all_same (changed k (longer xs place) T) T n out
        (λ i l o. changed_by (λ j r. laid_on (spot j) r.elements o ≡ laid_on (spot j) (T j).elements o) k (longer xs place) T (suc i) (λ e. rw (e, s)) (λ e. refl))

    -- a block of a take after which every other is passed over
    block_last : (f n : ℕ) (out : List Y) → 0 < k → k ≤ n → spot k ≡ Some f → ((j : ℕ) → k < j → j ≤ n → spot j ≡ None)
        → all_laid (changed k (longer xs place) T) n out ≡ stroke per spot from (Some f) (length (T k).elements) (flat_map v xs) (all_laid T n out)
    block_last f zero out a b s later = absurd (omega arith)
    block_last f (suc n) out a b s later =
        elim (cases_eq (suc n) k) [
          | inl e ↦ rw (all_below k (longer xs place) T n out (omega arith), changed_same k (longer xs place) T (suc n) e, e, s) (laid_longer f (T k).elements xs (all_laid T n out))
          | inr e ↦ rw (later (suc n) (omega arith) (omega arith)) (block_last f n out a (omega arith) s (λ j l m. later j l (omega arith)))
        ]

  -- a block of an open take: no later take is on its track
  block_laid : (t : ℕ) (h : History X) (k : ℕ) (xs : List X) → Ordered (rows h) (count h) → OnTrack spot t h → (takes h k).state ≡ Open → (out : List Y)
      → all_laid (changed k (longer xs (next_place h)) (takes h)) (count h) out ≡ stroke per spot from (spot k) (length (takes h k).elements) (flat_map v xs) (all_laid (takes h) (count h) out)
  block_laid t h k xs L g o out = go (spot k) refl
    where
      w : (0 < k) × (k ≤ count h)
      w = L.within k o

      go : (s : Option ℕ) → spot k ≡ s
          → all_laid (changed k (longer xs (next_place h)) (takes h)) (count h) out ≡ stroke per spot from s (length (takes h k).elements) (flat_map v xs) (all_laid (takes h) (count h) out)
      go None e = block_passed (takes h) k xs (next_place h) (count h) out e
      go (Some f) e = block_last (takes h) k xs (next_place h) f (count h) out w.0 w.1 e later
        where
          later : (j : ℕ) → k < j → j ≤ count h → spot j ≡ None
          later j l m = alone (spot j) refl
            where
              alone : (s : Option ℕ) → spot j ≡ s → s ≡ None
              alone None q = refl
              alone (Some d) q = absurd (L.last k j o l m (g j d q (omega arith) m ∙ sym (g k f e w.0 w.1)))

  -- a sector that is passed over
  passed : (c : Content Y) → Passed spot c → (o : List Y) → paint_one per spot from c o ≡ o
  passed (Cells k off ys) p o = rw p
  passed Other p o = refl

  -- the sector of a block
  said : (h : History X) (k : ℕ) (xs : List X) (c : Content Y) → Says v spot h (block k xs) c → (o : List Y) → paint_one per spot from c o ≡ stroke per spot from (spot k) (length (takes h k).elements) (flat_map v xs) o
  said h k xs c (a, b) o = go (spot k) refl
    where
      go : (s : Option ℕ) → spot k ≡ s → paint_one per spot from c o ≡ stroke per spot from s (length (takes h k).elements) (flat_map v xs) o
      go None e = passed c (b e) o
      go (Some f) e = rw (a f e, e)

  -- the sectors in their order give the takes in the order of their numbers
  paints_takes : (t : ℕ) (h : History X) → TableRun h → OnTrack spot t h → (C : ℕ → Content Y) → Shows v spot C h → (out : List Y) → paint per spot from C (length h) out ≡ all_laid (takes h) (count h) out
  paints_takes t [] a g C s out = refl
  paints_takes t (opening ∷ h) (a, b) g C (s, e) out =
      passed (C (next_place h)) e _ ∙ (paints_takes t h a g C s out ∙ sym (all_same (λ k. in_state (settled (takes h k).state) (takes h k)) (takes h) (count h) out (λ i l o. refl)))
  paints_takes t (begin u p ∷ h) (a, b) g C (s, e) out =
      let f = λ (r : Take X). fresh u p (next_place h) in
      passed (C (next_place h)) e _ ∙ (paints_takes t h a (on_track_before spot t (begin u p) h g) C s out
      ∙ sym (rw (changed_same (suc (count h)) f (takes h) (suc (count h)) refl) (laid_nothing (spot (suc (count h))) _ ∙ all_below (suc (count h)) f (takes h) (count h) out (omega arith))))
  paints_takes t (block k xs ∷ h) (a, b) g C (s, e) out =
      let g' : OnTrack spot t h = on_track_before spot t (block k xs) h g in
      said h k xs (C (next_place h)) e _
      ∙ (ap (stroke per spot from (spot k) (length (takes h k).elements) (flat_map v xs)) (paints_takes t h a g' C s out) ∙ sym (block_laid t h k xs (ordered h a) g' b out))
  paints_takes t (trailer k ∷ h) (a, b) g C (s, e) out =
      passed (C (next_place h)) e _ ∙ (paints_takes t h a (on_track_before spot t (trailer k) h g) C s out ∙ sym (all_kept k (in_state Standing) (takes h) (count h) out (λ r. refl)))
  paints_takes t (withdrawal u k ∷ h) (a, b) g C (s, e) out =
      passed (C (next_place h)) e _ ∙ (paints_takes t h a (on_track_before spot t (withdrawal u k) h g) C s out ∙ sym (all_kept k (in_state Withdrawn) (takes h) (count h) out (λ r. refl)))

module _ {X Y : Type 0} (per : ℕ) (v : X → List Y) (wide : (x : X) → length (v x) ≡ per) (from : ℕ) where
  -- the heard takes of a track in the order of their numbers give the track
  takes_give_track : (T : ℕ → Take X) (t n : ℕ) → NoGap (λ k. row (T k)) n → (out : List Y) → all_laid per v wide (spot_of (λ k. row (T k)) t) from T n out ≡ painted 0 (flat_map v (content T t n)) from out
  takes_give_track T t zero L out = sym (painted_nil 0 from out)
  takes_give_track T t (suc n) L out = go (heard_on t (row (T (suc n)))) refl (takes_give_track T t n below out)
    where
      below : NoGap (λ k. row (T k)) n
      below k (l, q) = L k (omega arith, q)

      spot : ℕ → Option ℕ
      spot = spot_of (λ k. row (T k)) t

      C : List X
      C = content T t n

      f : ℕ
      f = (T (suc n)).position

      E : List X
      E = (T (suc n)).elements

      go : (b : Bool) → heard_on t (row (T (suc n))) ≡ b → all_laid per v wide spot from T n out ≡ painted 0 (flat_map v C) from out
          → stroke per spot from (cond b (Some f) None) 0 (flat_map v E) (all_laid per v wide spot from T n out) ≡ painted 0 (flat_map v (cond b (splice f E C) C)) from out
      go true e i =
          let a = begins_within (λ k. row (T k)) (suc n) L t n (omega arith) e in
          let l : f ≤ length C = omega (arith, content_ends T n below t) in
          let fits : f * per ≤ length (flat_map v C) = rw (length_cells per v wide C) (mul-le-mul_right {m = f} {n = length C} per l) in
          let z : f + 0 ≡ f = omega arith in
          rw (i, cells_splice per v wide f E C, z) (sym (painted_splice (f * per) (flat_map v E) (flat_map v C) fits from out))
      go false e i = i

-- painting the sectors that show an admitted history gives its track
pub painted_tracks : {X Y : Type 0} → PaintsTracks X Y
painted_tracks per v wide h a t C s from out =
    paints_takes per v wide (spot_of (rows h) t) from t h a (λ j f q l m. spot_on_track (rows h) t j f q) C s out
    ∙ (takes_give_track per v wide from (takes h) t (count h) (ordered h a).laid out ∙ painted_whole (flat_map v (track h t)) from out)
