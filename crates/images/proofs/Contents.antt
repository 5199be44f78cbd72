-- Sectors of bytes, and what stands in the way of a read or a write of an image.
use Rattle.std.proofs.Common.{◌≡◌, ℕ, ◌+◌, ◌-◌, ◌*◌, ◌/◌, ◌<◌, ◌≤◌, min, Bool, true, false, cond, eqb, ltb, List, length, take, drop, Some, None, Ok, Err, Option, sym, refl, ap, ◌∙◌, ⊎_elim, arith, length-append, length-drop, length-take, length-take-le, take_at, drop_at, eqb-true}
use Rattle.std.proofs.lemmas.Bool.{cases_Bool, cases_order}
use borrow.Author.Tests.{eqb-false}
use Rattle.std.proofs.lemmas.Slice.{between_is, take-put_mid_below, drop-put_mid}
use Rattle.device.specs.declared.fault.Fault.{Fault}
use Rattle.device.specs.Faults.{Answer, out_of_range, sick_at}
use Rattle.device.specs.Meaning.{Meaning, newest}
use Rattle.device.specs.Calls.{Reads, answer_of, standing, sick_fault}
use Rattle.device.proofs.Lists.{kept_refl}
use Rattle.device.proofs.Steps.{reads_went}
use Rattle.images.specs.declared.queue.WaitingWrite.{WaitingWrite}
use Rattle.images.specs.Sectors.{whole, content, over, is_sick, ready}
use Rattle.images.specs.declared.sectors.Sectors.{Sectors}
use Rattle.images.specs.Rewrites.{Rewrites, Stores}
use Rattle.images.specs.Lawful.{listed_well}
use Rattle.images.specs.Image.{waiting_for, listed, sector_of, image_sector, image_meaning}

pub over_length : (bytes b : List ℕ) (s : ℕ) → 512 * s + 512 ≤ length bytes → length b ≡ 512 → length (over bytes s b) ≡ length bytes
over_length bytes b s h l = simp (length-append, length-take, length-drop) (omega arith)

content_is : (xs : List ℕ) (t : ℕ) → content xs t ≡ drop (512 * t) (take (512 * t + 512) xs)
content_is xs t =
    let e : 512 ≡ (512 * t + 512) - 512 * t = omega arith in
    ap (λ (n : ℕ). take n (drop (512 * t) xs)) e ∙ between_is xs (512 * t) (512 * t + 512)

over_same : (bytes b : List ℕ) (s : ℕ) → 512 * s + 512 ≤ length bytes → length b ≡ 512 → content (over bytes s b) s ≡ b
over_same bytes b s h l = ap (take 512) (drop_at (take (512 * s) bytes) _ (512 * s) (length-take-le _ _ (omega arith))) ∙ take_at b _ 512 l

over_after : (bytes b : List ℕ) (s t : ℕ) → 512 * s + 512 ≤ length bytes → length b ≡ 512 → s < t → content (over bytes s b) t ≡ content bytes t
over_after bytes b s t h l lt = ap (take 512) (drop-put_mid (512 * s) 512 bytes b (512 * t) (omega arith) (omega arith) l)

over_before : (bytes b : List ℕ) (s t : ℕ) → 512 * s + 512 ≤ length bytes → length b ≡ 512 → t < s → content (over bytes s b) t ≡ content bytes t
over_before bytes b s t h l lt =
    content_is (over bytes s b) t ∙ ap (drop (512 * t)) (take-put_mid_below (512 * s) 512 bytes b (512 * t + 512) (omega arith) (omega arith)) ∙ sym (content_is bytes t)

-- one sector is replaced, and no other changes
pub over_at : (bytes b : List ℕ) (s t : ℕ) → 512 * s + 512 ≤ length bytes → length b ≡ 512 → content (over bytes s b) t ≡ cond (eqb t s) b (content bytes t)
over_at bytes b s t h l =
    ⊎_elim
    (λ e. ap (content (over bytes s b)) (eqb-true t s e) ∙ over_same bytes b s h l ∙ sym (ap (λ (v : Bool). cond v b (content bytes t)) e))
    (λ e. ⊎_elim (λ z. absurd (eqb-false t s e z)) (⊎_elim (over_before bytes b s t h l) (over_after bytes b s t h l)) (cases_order t s) ∙ sym (ap (λ (v : Bool). cond v b (content bytes t)) e)) (cases_Bool (eqb t s))

pub whole_same : (bytes bytes' : List ℕ) → length bytes' ≡ length bytes → whole bytes' ≡ whole bytes
whole_same bytes bytes' h = ap (λ (k : ℕ). min (k / 512) 65536) h

pub over_whole : (bytes b : List ℕ) (s : ℕ) → s < whole bytes → length b ≡ 512 → whole (over bytes s b) ≡ whole bytes
over_whole bytes b s lt l = let h : 512 * s + 512 ≤ length bytes = omega arith in whole_same bytes (over bytes s b) (over_length bytes b s h l)

-- what a store does to the bytes it does to the contents
pub stores : (s n : Sectors) (k : ℕ) (b : List ℕ) → k < whole s.bytes.now → length b ≡ 512 → Rewrites s (over s.bytes.now k b) n → Stores s k b n
stores s n k b lt l r =
    let h : 512 * k + 512 ≤ length s.bytes.now = omega arith in
    record {
      rewrites = r;
      each = λ t. ap (λ (x : List ℕ). content x t) r.bytes ∙ over_at s.bytes.now b k t h l;
      long = ap length r.bytes ∙ over_length s.bytes.now b k h l;
    }

-- a sector is ready where it is in range and not sick
pub record Ready (bytes : List ℕ) (sick_ones : List (Option ℕ)) (s : ℕ) : Type 0 where
  pub inside : ltb s (whole bytes) ≡ true
  pub well : is_sick sick_ones s ≡ false

ready_at : (inside bad : Bool) (f g : Fault) → ◌≡◌ {A = Answer} (cond inside (cond bad (Err f) (Ok tt)) (Err g)) (Ok tt) → (inside ≡ true) × (bad ≡ false)
ready_at false bad f g e = absurd (cc)
ready_at true true f g e = absurd (cc)
ready_at true false f g e = (refl, refl)

pub ready_is : (layer : ℕ) (bytes : List ℕ) (sick_ones : List (Option ℕ)) (s : ℕ) → ready layer (whole bytes) sick_ones s ≡ Ok tt → Ready bytes sick_ones s
ready_is layer bytes sick_ones s e =
    let (inside, well) = ready_at (ltb s (whole bytes)) (is_sick sick_ones s) (sick_at layer s) (out_of_range layer s) e in
    record { inside = inside; well = well }

none_stands : (inside bad : Bool) (f g : Fault) (x : List ℕ) (xs : List (List ℕ)) → inside ≡ true → bad ≡ false → cond inside (sick_fault (sector_of inside bad f x xs)) (Some g) ≡ None
none_stands true false f g x xs e h = listed_well x xs
none_stands true true f g x xs e h = absurd (cc)
none_stands false bad f g x xs e h = absurd (cc)

-- nothing stands in the way of a sector that is ready
pub ready_stands : (layer : ℕ) (bytes : List ℕ) (sick_ones : List (Option ℕ)) (queue : List WaitingWrite) (s : ℕ) → Ready bytes sick_ones s → standing layer (image_meaning layer sick_ones bytes queue) s ≡ None
ready_stands layer bytes sick_ones queue s r = none_stands (ltb s (whole bytes)) (is_sick sick_ones s) (sick_at layer s) (out_of_range layer s) (content bytes s) (waiting_for s queue) r.inside r.well

refusal_at : (inside bad : Bool) (f g : Fault) (x : List ℕ) (xs : List (List ℕ))
    → ◌≡◌ {A = Answer} (cond inside (cond bad (Err f) (Ok tt)) (Err g)) (answer_of (cond inside (sick_fault (sector_of inside bad f x xs)) (Some g)))
refusal_at false bad f g x xs = refl
refusal_at true true f g x xs = refl
refusal_at true false f g x xs = sym (ap answer_of (listed_well x xs))

-- of an image only range and sickness stand in the way
pub refusal_stands : (layer : ℕ) (sick_ones : List (Option ℕ)) (bytes : List ℕ) (queue : List WaitingWrite) (s : ℕ) → ready layer (whole bytes) sick_ones s ≡ answer_of (standing layer (image_meaning layer sick_ones bytes queue) s)
refusal_stands layer sick_ones bytes queue s = refusal_at (ltb s (whole bytes)) (is_sick sick_ones s) (sick_at layer s) (out_of_range layer s) (content bytes s) (waiting_for s queue)

-- where nothing stands in the way, the sector is ready
pub stands_well : (layer : ℕ) (sick_ones : List (Option ℕ)) (bytes : List ℕ) (queue : List WaitingWrite) (s : ℕ) → standing layer (image_meaning layer sick_ones bytes queue) s ≡ None → Ready bytes sick_ones s
stands_well layer sick_ones bytes queue s e = ready_is layer bytes sick_ones s (refusal_stands layer sick_ones bytes queue s ∙ ap answer_of e)

listed_at : (inside bad : Bool) (f : Fault) (x : List ℕ) (xs : List (List ℕ)) → inside ≡ true → bad ≡ false → sector_of inside bad f x xs ≡ listed x xs
listed_at true false f x xs e h = refl
listed_at true true f x xs e h = absurd (cc)
listed_at false bad f x xs e h = absurd (cc)

-- a ready sector has its settled content and those that wait
pub ready_listed : (layer : ℕ) (bytes : List ℕ) (sick_ones : List (Option ℕ)) (queue : List WaitingWrite) (s : ℕ) → Ready bytes sick_ones s → image_sector layer sick_ones bytes queue s ≡ listed (content bytes s) (waiting_for s queue)
ready_listed layer bytes sick_ones queue s r = listed_at (ltb s (whole bytes)) (is_sick sick_ones s) (sick_at layer s) (content bytes s) (waiting_for s queue) r.inside r.well

-- a read that changes nothing
pub reads_same : (layer s : ℕ) (m : Meaning) (buffer buffer' : List ℕ) → standing layer m s ≡ None → buffer' ≡ newest (m.sector s) → Reads layer m s buffer (Ok tt) m buffer'
reads_same layer s m buffer buffer' e b = reads_went layer s m m buffer buffer' (Ok tt) e (record { size = refl; so = λ t. kept_refl (m.sector t) }) b

-- a read of a ready sector that changes nothing
pub ready_reads : (layer : ℕ) (bytes : List ℕ) (sick_ones : List (Option ℕ)) (queue : List WaitingWrite) (s : ℕ) (buffer buffer' : List ℕ) → Ready bytes sick_ones s
    → buffer' ≡ newest (image_sector layer sick_ones bytes queue s)
    → Reads layer (image_meaning layer sick_ones bytes queue) s buffer (Ok tt) (image_meaning layer sick_ones bytes queue) buffer'
ready_reads layer bytes sick_ones queue s buffer buffer' r b =
    reads_same layer s (image_meaning layer sick_ones bytes queue) buffer buffer' (ready_stands layer bytes sick_ones queue s r) b
