-- Lists of waiting writes: one more, one less, and those of one sector.
use Rattle.std.proofs.Common.{◌≡◌, ℕ, Bool, true, false, cond, eqb, ◌||◌, List, [], ◌∷◌, ◌++◌, map, reverse, length, append-nil, Some, None, sym, refl, ap, ◌∙◌, subst, arith, eqb-true, ⊎_elim}
use Rattle.std.proofs.lemmas.Bool.{cases_Bool}
use Rattle.std.specs.Prelude.{filter, slice_get}
use Rattle.std.specs.List.{list_any}
use Rattle.std.proofs.lemmas.List.Folds.{list_any-append}
use Rattle.std.specs.Borrow.{Bor}
use Rattle.std.specs.VecDeque.Iter.{deque_iter_steps_back, deque_iter_rest}
use Rattle.std.proofs.lemmas.List.{reverse-append, length-reverse}
use Rattle.std.proofs.lemmas.Option.{slice_get-map}
use Rattle.std.proofs.lemmas.Iterator.{YieldsList}
use Rattle.std.proofs.lemmas.Iterator.Consumers.{YieldsList-from_shown}
use Rattle.std.specs.Option.{option_map}
use Rattle.device.specs.Meaning.{Sector, sick, held}
use Rattle.device.specs.Calls.{added}
use Rattle.std.proofs.Math.Bool.{and-eq-true_iff}
use Rattle.images.specs.declared.queue.WaitingWrite.{WaitingWrite}
use Rattle.images.specs.Full.{all_full}
use Rattle.images.specs.Image.{waiting_for, older, listed}

older_added : (x b : List ℕ) (s : Sector) → older x (added b s) ≡ added b (older x s)
older_added x b (sick f) = refl
older_added x b (held old new) = refl

-- a waiting content more is one content more
pub listed_more : (x : List ℕ) (xs : List (List ℕ)) (b : List ℕ) → listed x (xs ++ (b ∷ [])) ≡ added b (listed x xs)
listed_more x [] b = refl
listed_more x (y ∷ ys) b = ap (older x) (listed_more y ys b) ∙ older_added x b (listed y ys)

waiting_cons : (e : Bool) (b : List ℕ) (m m' t : List (List ℕ)) → m' ≡ m ++ t → cond e (b ∷ m') m' ≡ cond e (b ∷ m) m ++ t
waiting_cons true b m m' t h = ap (λ (z : List (List ℕ)). b ∷ z) h
waiting_cons false b m m' t h = h

-- a write more waits for its sector alone
pub waiting_more : (s : ℕ) (queue : List WaitingWrite) (w : WaitingWrite) → waiting_for s (queue ++ (w ∷ [])) ≡ waiting_for s queue ++ cond (eqb s w.sector) (w.content ∷ []) []
waiting_more s [] w = refl
waiting_more s (v ∷ queue) w = waiting_cons (eqb s v.sector) v.content (waiting_for s queue) (waiting_for s (queue ++ (w ∷ []))) _ (waiting_more s queue w)

-- the contents that wait for a sector are those of the writes to it
pub waiting_filter : (s : ℕ) (queue : List WaitingWrite) → map (λ w. w.content) (filter (λ w. eqb s w.sector) queue) ≡ waiting_for s queue
waiting_filter s [] = refl
waiting_filter s (w ∷ queue) = ⊎_elim (λ e. rw e (ap (λ (z : List (List ℕ)). w.content ∷ z) (waiting_filter s queue))) (λ e. rw e (waiting_filter s queue)) (cases_Bool (eqb s w.sector))

pub waiting_at : (s k : ℕ) (queue : List WaitingWrite) → option_map (λ w. w.content) (slice_get (filter (λ w. eqb s w.sector) queue) k) ≡ slice_get (waiting_for s queue) k
waiting_at s k queue = sym (slice_get-map (λ w. w.content) (filter (λ w. eqb s w.sector) queue) k) ∙ ap (λ (z : List (List ℕ)). slice_get z k) (waiting_filter s queue)

-- a queue's iterator gives its items from the back too
back_none : (s t : _) → deque_iter_steps_back {X = WaitingWrite} s None t → length (reverse (deque_iter_rest s)) ≡ 0
back_none s t h = length-reverse (deque_iter_rest s) ∙ h.0

back_some : (s : _) (x : Bor WaitingWrite) (t : _) → deque_iter_steps_back s (Some x) t → reverse (deque_iter_rest s) ≡ x.now ∷ reverse (deque_iter_rest t)
back_some s x t h = ap reverse h ∙ reverse-append (deque_iter_rest t) (x.now ∷ [])

pub yields_back : (s : _) (queue : List WaitingWrite) → deque_iter_rest s ≡ queue → YieldsList (deque_iter_steps_back {X = WaitingWrite}) (λ y. y.now) s (reverse queue)
yields_back s queue e =
    subst (λ (z : List WaitingWrite). YieldsList (deque_iter_steps_back {X = WaitingWrite}) (λ y. y.now) s (reverse z)) e
    (YieldsList-from_shown deque_iter_steps_back (λ y. y.now) (λ i. reverse (deque_iter_rest i)) back_none back_some s)

-- each write has 512 bytes
pub full_first : (w : WaitingWrite) (queue : List WaitingWrite) → all_full (w ∷ queue) ≡ true → length w.content ≡ 512
full_first w queue h = eqb-true _ _ ((and-eq-true_iff (eqb (length w.content) 512) (all_full queue)).0 h).0

pub full_rest : (w : WaitingWrite) (queue : List WaitingWrite) → all_full (w ∷ queue) ≡ true → all_full queue ≡ true
full_rest w queue h = ((and-eq-true_iff (eqb (length w.content) 512) (all_full queue)).0 h).1

waits_step : (b rest : Bool) (x : List ℕ) (xs : List (List ℕ)) → (b || rest) ≡ false → (rest ≡ false → xs ≡ []) → cond b (x ∷ xs) xs ≡ []
waits_step true rest x xs h k = absurd (cc)
waits_step false rest x xs h k = k h

-- where no write is to the sector, nothing waits for it
pub none_waits : (s : ℕ) (queue : List WaitingWrite) → list_any (λ w. eqb s w.sector) queue ≡ false → waiting_for s queue ≡ []
none_waits s [] h = refl
none_waits s (w ∷ queue) h = waits_step (eqb s w.sector) (list_any (λ v. eqb s v.sector) queue) w.content (waiting_for s queue) h (none_waits s queue)

one_step : (b rest : Bool) (x : List ℕ) (xs : List (List ℕ)) → (b || rest) ≡ true → (rest ≡ true → (y : List ℕ) × (slice_get xs 0 ≡ Some y)) → (y : List ℕ) × (slice_get (cond b (x ∷ xs) xs) 0 ≡ Some y)
one_step true rest x xs h k = (x, refl)
one_step false rest x xs h k = k h

-- where one is, something waits
pub one_waits : (s : ℕ) (queue : List WaitingWrite) → list_any (λ w. eqb s w.sector) queue ≡ true → (y : List ℕ) × (slice_get (waiting_for s queue) 0 ≡ Some y)
one_waits s [] h = absurd (cc)
one_waits s (w ∷ queue) h = one_step (eqb s w.sector) (list_any (λ v. eqb s v.sector) queue) w.content (waiting_for s queue) h (one_waits s queue)

-- what is true of one of the first writes is true of one of all
pub any_ahead : (p : WaitingWrite → Bool) (first rest : List WaitingWrite) → list_any p first ≡ true → list_any p (first ++ rest) ≡ true
any_ahead p first rest h = list_any-append p first rest ∙ ap (λ (b : Bool). b || list_any p rest) h

-- one more write is gone over, and is no longer to come
pub done_more : (done : List (Bor WaitingWrite)) (w : Bor WaitingWrite) (rest : List WaitingWrite)
    → map (λ v. v.now) (done ++ (w ∷ [])) ++ rest ≡ map (λ v. v.now) done ++ (w.now ∷ rest)
done_more [] w rest = refl
done_more (v ∷ done) w rest = ap (λ (z : List WaitingWrite). v.now ∷ z) (done_more done w rest)

-- and its sector is one of those that are gone over
pub sector_more : (t : ℕ) (done : List (Bor WaitingWrite)) (w : Bor WaitingWrite)
    → list_any (λ v. eqb t v.sector) (map (λ v. v.now) (done ++ (w ∷ []))) ≡ (list_any (λ v. eqb t v.sector) (map (λ v. v.now) done) || eqb t w.now.sector)
sector_more t [] w = last (eqb t w.now.sector)
  where
    last : (b : Bool) → (b || false) ≡ b
    last true = refl
    last false = refl
sector_more t (v ∷ done) w = step (eqb t v.now.sector) _ _ _ (sector_more t done w)
  where
    step : (b x y e : Bool) → x ≡ (y || e) → (b || x) ≡ ((b || y) || e)
    step true x y e h = refl
    step false x y e h = h

-- where no write is to come, all are gone over
pub done_all : (done rest queue : List WaitingWrite) → done ++ rest ≡ queue → length rest ≡ 0 → done ≡ queue
done_all done [] queue h e = sym (append-nil done) ∙ h
done_all done (w ∷ rest) queue h e = absurd (cc)

-- of two tests the second, that a sector is itself, always passes
pub or_self : (b : Bool) (s : ℕ) → (b || eqb s s) ≡ true
or_self true s = refl
or_self false s = grind arith
