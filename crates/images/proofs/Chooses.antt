-- What a cut leaves of a queued image.
use Rattle.std.proofs.Common.{◌≡◌, ℕ, suc, ◌+◌, Bool, true, false, cond, eqb, ltb, ◌||◌, List, [], ◌∷◌, length, get_or, replicate, Some, None, Option, slice_get, unwrap_or, Bor, sym, refl, ap, ◌∙◌, arith, eqb-true, Ok, ⊎_elim}
use Rattle.std.proofs.lemmas.Bool.{cases_Bool}
use mathlib.Core.Path.{fun_ext}
use Rattle.std.specs.Option.{option_copied}
use Rattle.std.specs.List.{list_any}
use Rattle.std.proofs.lemmas.Grind.{common_steps}
use Rattle.device.specs.declared.fault.Fault.{Fault}
use Rattle.device.specs.Faults.{sick_at}
use Rattle.device.specs.Meaning.{Sector, sick, held, contents}
use Rattle.device.specs.Calls.{sick_fault}
use Rattle.device.specs.Cuts.{chosen, cut_by}
use Rattle.images.specs.declared.queue.WaitingWrite.{WaitingWrite}
use Rattle.images.specs.Sectors.{whole, content, is_sick}
use Rattle.images.specs.Image.{waiting_for, older, listed, sector_of, image_meaning}
use Rattle.images.specs.Queue.{left_of, left_at, cut_content}
use Rattle.images.proofs.Waits.{none_waits}
use Rattle.images.specs.Lawful.{listed_well}
use Rattle.images.proofs.Contents.{whole_same}

-- the contents of a list
contents_older : (x : List ℕ) (t : Sector) → sick_fault t ≡ None → contents (older x t) ≡ x ∷ contents t
contents_older x (sick f) e = absurd (cc)
contents_older x (held old new) e = refl

contents_listed : (x : List ℕ) (xs : List (List ℕ)) → contents (listed x xs) ≡ x ∷ xs
contents_listed x [] = refl
contents_listed x (y ∷ ys) = contents_older x (listed y ys) (listed_well y ys) ∙ ap (λ (z : List (List ℕ)). x ∷ z) (contents_listed y ys)

chosen_older : (c : ℕ) (x : List ℕ) (t : Sector) → sick_fault t ≡ None → held [] (get_or (x ∷ contents t) c (replicate 512 0)) ≡ chosen c (older x t)
chosen_older c x (sick f) e = absurd (cc)
chosen_older c x (held old new) e = refl

left_chosen : (c : ℕ) (x : List ℕ) (xs : List (List ℕ)) → held [] (left_of c x xs) ≡ chosen c (listed x xs)
left_chosen c x [] = refl
left_chosen c x (y ∷ ys) =
    ap (λ (z : List (List ℕ)). held [] (get_or (x ∷ z) c (replicate 512 0))) (sym (contents_listed y ys)) ∙ chosen_older c x (listed y ys) (listed_well y ys)

cut_at : (inside bad : Bool) (f : Fault) (x x' : List ℕ) (c : ℕ) (xs : List (List ℕ)) → x' ≡ cond inside (left_of c x xs) x → sector_of inside bad f x' [] ≡ chosen c (sector_of inside bad f x xs)
cut_at false bad f x x' c xs h = refl
cut_at true true f x x' c xs h = refl
cut_at true false f x x' c xs h = ap (held []) h ∙ left_chosen c x xs

-- the whole image is as the plan says
pub queued_cut : (layer : ℕ) (plan : List ℕ) (sick_ones : List (Option ℕ)) (bytes bytes' : List ℕ) (queue queue' : List WaitingWrite) → length bytes' ≡ length bytes → queue' ≡ []
    → ((t : ℕ) → content bytes' t ≡ cond (ltb t (whole bytes)) (left_at plan bytes queue t) (content bytes t))
    → image_meaning layer sick_ones bytes' queue' ≡ cut_by plan (image_meaning layer sick_ones bytes queue)
queued_cut layer plan sick_ones bytes bytes' queue queue' l e h =
    ap (image_meaning layer sick_ones bytes') e
    ∙ ap (λ (n : ℕ). record { size = n; power = Ok tt; sector = λ t. sector_of (ltb t n) (is_sick sick_ones t) (sick_at layer t) (content bytes' t) [] }) (whole_same bytes bytes' l)
    ∙ ap (λ (f : ℕ → Sector). record { size = whole bytes; power = Ok tt; sector = f })
    (fun_ext (λ t. cut_at (ltb t (whole bytes)) (is_sick sick_ones t) (sick_at layer t) (content bytes t) (content bytes' t) (get_or plan t 0) (waiting_for t queue) (h t)))

pub unwrap_copied : {A : Type 0} (o : Option (Bor A)) (d : Bor A) → (unwrap_or o d).now ≡ unwrap_or (option_copied o) d.now
unwrap_copied None d = refl
unwrap_copied (Some x) d = refl

-- a choice above 0, where others wait, leaves the one at its place, or zeros
pub left_other : (c k : ℕ) (x y : List ℕ) (xs : List (List ℕ)) → c ≡ k + 1 → slice_get xs 0 ≡ Some y → get_or xs k (replicate 512 0) ≡ left_of c x xs
left_other c k x y [] e h = absurd (cc)
left_other c k x y (z ∷ zs) e h = let p : suc k ≡ c = omega arith in ap (λ (i : ℕ). get_or (x ∷ z ∷ zs) i (replicate 512 0)) p

-- where a sector is left as it is, its content is what is left
pub same_left : (f : ℕ → List ℕ) (s : ℕ) (b : List ℕ) → f s ≡ b → (t : ℕ) → f t ≡ cond (eqb t s) b (f t)
same_left f s b h t =
    ⊎_elim
    (λ q. ap f (eqb-true t s q) ∙ h ∙ sym (ap (λ (v : Bool). cond v b (f t)) q))
    (λ q. sym (ap (λ (v : Bool). cond v b (f t)) q)) (cases_Bool (eqb t s))

-- one more sector is as the plan says
pub left_more : (left old now next : ℕ → List ℕ) (s : ℕ) → ((t : ℕ) → now t ≡ cond (ltb t s) (left t) (old t)) → ((t : ℕ) → next t ≡ cond (eqb t s) (left s) (now t))
    → (t : ℕ) → next t ≡ cond (ltb t (s + 1)) (left t) (old t)
left_more left old now next s h k t = grind (arith, common_steps, h t, k t)

-- one more write is gone over: its sector is as the plan says
pub left_next : (left old now next : ℕ → List ℕ) (done more : ℕ → Bool) (s : ℕ) → ((t : ℕ) → more t ≡ (done t || eqb t s))
    → ((t : ℕ) → now t ≡ cond (done t) (left t) (old t)) → ((t : ℕ) → next t ≡ cond (eqb t s) (left s) (now t))
    → (t : ℕ) → next t ≡ cond (more t) (left t) (old t)
left_next left old now next done more s m h k t = grind (arith, common_steps, m t, h t, k t)

-- a sector that the plan leaves as it is, be it done or not
left_alone : (done : Bool) (left old now : List ℕ) → now ≡ cond done left old → left ≡ old → now ≡ left
left_alone true left old now h e = h
left_alone false left old now h e = h ∙ sym e

-- one more sector is as the plan says where the plan leaves it as it is
pub left_stays : (left old now : ℕ → List ℕ) (done more : ℕ → Bool) (s : ℕ) → ((t : ℕ) → more t ≡ (done t || eqb t s))
    → ((t : ℕ) → now t ≡ cond (done t) (left t) (old t)) → left s ≡ old s
    → (t : ℕ) → now t ≡ cond (more t) (left t) (old t)
left_stays left old now done more s m h e = left_next left old now now done more s m h (same_left now s (left s) (left_alone (done s) (left s) (old s) (now s) (h s) e))

-- a sector that was gone over already stays as the plan says
pub left_again : (left old now : ℕ → List ℕ) (done more : ℕ → Bool) (s : ℕ) → ((t : ℕ) → more t ≡ (done t || eqb t s))
    → ((t : ℕ) → now t ≡ cond (done t) (left t) (old t)) → done s ≡ true
    → (t : ℕ) → now t ≡ cond (more t) (left t) (old t)
left_again left old now done more s m h e = left_next left old now now done more s m h (same_left now s (left s) (h s ∙ ap (λ (b : Bool). cond b (left s) (old s)) e))

-- choice 0 leaves the settled content
pub left_settled : (x : List ℕ) (xs : List (List ℕ)) → left_of 0 x xs ≡ x
left_settled x [] = refl
left_settled x (y ∷ ys) = refl

-- inside and outside of the whole sectors alike, a content that the plan leaves as it is
pub same_cond : (b : Bool) (x y : List ℕ) → y ≡ x → cond b y x ≡ x
same_cond true x y e = e
same_cond false x y e = refl

-- once the sectors of all writes are done, every sector is as the plan says
pub left_all : (plan bytes : List ℕ) (queue : List WaitingWrite) (t : ℕ)
    → cond (list_any (λ w. eqb t w.sector) queue) (cut_content plan bytes queue t) (content bytes t) ≡ cut_content plan bytes queue t
left_all plan bytes queue t =
    ⊎_elim
    (λ e. rw e refl)
    (λ e. rw e (sym (same_cond (ltb t (whole bytes)) (content bytes t) (left_at plan bytes queue t) (ap (left_of (get_or plan t 0) (content bytes t)) (none_waits t queue e)))))
    (cases_Bool (list_any (λ w. eqb t w.sector) queue))
