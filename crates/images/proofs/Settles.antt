-- What reads, writes and flushes of a queued image do to its lists.
use Rattle.std.proofs.Common.{◌≡◌, ℕ, ◌+◌, ◌*◌, ◌<◌, ◌≤◌, Bool, true, false, cond, eqb, ltb, List, [], ◌∷◌, ◌++◌, reverse, length, Some, None, Ok, Option, sym, refl, ap, ◌∙◌, subst, append-nil, arith, ltb-false, ltb-true, lt-ltb, ne_eqb, eqb-true, unwrap_or, ⊎_elim}
use Rattle.std.proofs.lemmas.Bool.{cases_Bool}
use Rattle.std.proofs.lemmas.List.{reverse-append, reverse-reverse}
use Rattle.std.specs.List.{find}
use Rattle.std.specs.Option.{option_map}
use borrow.Author.Tests.{both_ways}
use Rattle.device.specs.declared.fault.Fault.{Fault}
use Rattle.device.specs.Faults.{sick_at}
use Rattle.device.specs.Meaning.{Sector, sick, held, newest}
use Rattle.device.specs.Calls.{Writes, Flushes, Kept, sick_fault, written, added, settled}
use Rattle.device.proofs.Lists.{remains_more, kept_refl, kept_worn}
use Rattle.device.proofs.Steps.{writes_went, flushes_went}
use Rattle.images.specs.declared.queue.WaitingWrite.{WaitingWrite}
use Rattle.images.specs.Full.{all_full}
use Rattle.images.specs.Sectors.{whole, content, over, is_sick}
use Rattle.images.specs.Image.{waiting_for, older, listed, sector_of, image_sector, image_meaning}
use Rattle.images.specs.Queue.{without_oldest, settle_oldest, settle_all, without_first, settled_oldest, room_queue, room_bytes, room_sectors}
use Rattle.images.specs.Lawful.{listed_well}
use Rattle.images.proofs.Contents.{over_at, over_length, whole_same, Ready, ready_stands}
use Rattle.images.proofs.Waits.{listed_more, waiting_more, full_first, full_rest}

-- one content more is the newest
newest_added : (b : List ℕ) (t : Sector) → sick_fault t ≡ None → b ≡ newest (added b t)
newest_added b (sick f) e = absurd (cc)
newest_added b (held old new) e = refl

newest_more : (e : Bool) (b x : List ℕ) (xs : List (List ℕ)) (o : Option (List ℕ)) → unwrap_or o x ≡ newest (listed x xs) → unwrap_or (cond e (Some b) o) x ≡ newest (listed x (xs ++ cond e (b ∷ []) []))
newest_more true b x xs o h = newest_added b (listed x xs) (listed_well x xs) ∙ ap newest (sym (listed_more x xs b))
newest_more false b x xs o h = h ∙ ap (λ (z : List (List ℕ)). newest (listed x z)) (sym (append-nil xs))

contents_cond : (e : Bool) (w : WaitingWrite) (o : Option WaitingWrite) → option_map (λ v. v.content) (cond e (Some w) o) ≡ cond e (Some w.content) (option_map (λ v. v.content) o)
contents_cond true w o = refl
contents_cond false w o = refl

-- what a search from the newest on finds is the newest content, or else the settled one is
newest_back : (s : ℕ) (x : List ℕ) (back : List WaitingWrite) → unwrap_or (option_map (λ w. w.content) (find (λ w. eqb s w.sector) back)) x ≡ newest (listed x (waiting_for s (reverse back)))
newest_back s x [] = refl
newest_back s x (w ∷ back) =
    ap (λ (o : Option (List ℕ)). unwrap_or o x) (contents_cond (eqb s w.sector) w (find (λ v. eqb s v.sector) back))
    ∙ newest_more (eqb s w.sector) w.content x (waiting_for s (reverse back)) (option_map (λ v. v.content) (find (λ v. eqb s v.sector) back)) (newest_back s x back)
    ∙ ap (λ (z : List (List ℕ)). newest (listed x z)) (sym (ap (waiting_for s) (reverse-append (w ∷ []) back) ∙ waiting_more s (reverse back) w))

pub newest_found : (s : ℕ) (x : List ℕ) (queue : List WaitingWrite) → unwrap_or (option_map (λ w. w.content) (find (λ w. eqb s w.sector) (reverse queue))) x ≡ newest (listed x (waiting_for s queue))
newest_found s x queue = newest_back s x (reverse queue) ∙ ap (λ (z : List WaitingWrite). newest (listed x (waiting_for s z))) (reverse-reverse queue)

-- settling the oldest
first_older : (x : List ℕ) (t : Sector) → without_first (older x t) ≡ t
first_older x (sick f) = refl
first_older x (held old new) = refl

settle_at : (inside bad e : Bool) (f : Fault) (b c c' : List ℕ) (xs : List (List ℕ)) → (inside ≡ true → c' ≡ cond e b c)
    → sector_of inside bad f c' xs ≡ cond e (without_first (sector_of inside bad f c (cond e (b ∷ xs) xs))) (sector_of inside bad f c (cond e (b ∷ xs) xs))
settle_at false bad true f b c c' xs h = refl
settle_at false bad false f b c c' xs h = refl
settle_at true true true f b c c' xs h = refl
settle_at true true false f b c c' xs h = refl
settle_at true false true f b c c' xs h = ap (λ (z : List ℕ). listed z xs) (h refl) ∙ sym (first_older c (listed b xs))
settle_at true false false f b c c' xs h = ap (λ (z : List ℕ). listed z xs) (h refl)

settle_length : (bytes : List ℕ) (queue : List WaitingWrite) → all_full queue ≡ true → length (settle_oldest bytes queue) ≡ length bytes
settle_length bytes [] h = refl
settle_length bytes (w ∷ queue) h =
    let l = full_first w queue h in
    ⊎_elim
    (λ e. let lt : w.sector < whole bytes = ltb-true _ _ e in let k : 512 * w.sector + 512 ≤ length bytes = omega arith in
    ap (λ (b : Bool). length (cond b (over bytes w.sector w.content) bytes)) e ∙ over_length bytes w.content w.sector k l)
    (λ e. ap (λ (b : Bool). length (cond b (over bytes w.sector w.content) bytes)) e) (cases_Bool (ltb w.sector (whole bytes)))

settle_content : (bytes : List ℕ) (w : WaitingWrite) (queue : List WaitingWrite) (t : ℕ) → length w.content ≡ 512 → ltb t (whole bytes) ≡ true
    → content (settle_oldest bytes (w ∷ queue)) t ≡ cond (eqb t w.sector) w.content (content bytes t)
settle_content bytes w queue t l i =
    let lt : t < whole bytes = ltb-true _ _ i in
    ⊎_elim
    (λ e. let lt2 : w.sector < whole bytes = ltb-true _ _ e in let k : 512 * w.sector + 512 ≤ length bytes = omega arith in
    ap (λ (b : Bool). content (cond b (over bytes w.sector w.content) bytes) t) e ∙ over_at bytes w.content w.sector t k l)
    (λ e. let ge : whole bytes ≤ w.sector = ltb-false _ _ e in let ne : ¬ (t ≡ w.sector) = (λ z. omega arith) in
    ap (λ (b : Bool). content (cond b (over bytes w.sector w.content) bytes) t) e ∙ sym (ap (λ (b : Bool). cond b w.content (content bytes t)) (ne_eqb t w.sector ne))) (cases_Bool (ltb w.sector (whole bytes)))

settle_lists : (layer : ℕ) (sick_ones : List (Option ℕ)) (bytes : List ℕ) (queue : List WaitingWrite) (t : ℕ) → all_full queue ≡ true
    → image_sector layer sick_ones (settle_oldest bytes queue) (without_oldest queue) t ≡ settled_oldest queue (image_sector layer sick_ones bytes queue) t
settle_lists layer sick_ones bytes [] t h = refl
settle_lists layer sick_ones bytes (w ∷ queue) t h =
    ap (λ (n : ℕ). sector_of (ltb t n) (is_sick sick_ones t) (sick_at layer t) (content (settle_oldest bytes (w ∷ queue)) t) (waiting_for t queue))
    (whole_same bytes (settle_oldest bytes (w ∷ queue)) (settle_length bytes (w ∷ queue) h))
    ∙ settle_at (ltb t (whole bytes)) (is_sick sick_ones t) (eqb t w.sector) (sick_at layer t) w.content (content bytes t) (content (settle_oldest bytes (w ∷ queue)) t) (waiting_for t queue)
    (settle_content bytes w queue t (full_first w queue h))

-- adding a write
add_at : (inside bad e : Bool) (f : Fault) (b c : List ℕ) (xs : List (List ℕ)) → (e ≡ true → inside ≡ true)
    → sector_of inside bad f c (xs ++ cond e (b ∷ []) []) ≡ cond e (added b (sector_of inside bad f c xs)) (sector_of inside bad f c xs)
add_at inside bad false f b c xs h = ap (sector_of inside bad f c) (append-nil xs)
add_at false bad true f b c xs h = absurd (both_ways false refl (h refl))
add_at true true true f b c xs h = refl
add_at true false true f b c xs h = listed_more c xs b

add_lists : (layer : ℕ) (sick_ones : List (Option ℕ)) (bytes : List ℕ) (queue : List WaitingWrite) (w : WaitingWrite) (t : ℕ) → w.sector < whole bytes
    → image_sector layer sick_ones bytes (queue ++ (w ∷ [])) t ≡ written w.sector w.content (image_sector layer sick_ones bytes queue) t
add_lists layer sick_ones bytes queue w t lt =
    ap (sector_of (ltb t (whole bytes)) (is_sick sick_ones t) (sick_at layer t) (content bytes t)) (waiting_more t queue w)
    ∙ add_at (ltb t (whole bytes)) (is_sick sick_ones t) (eqb t w.sector) (sick_at layer t) w.content (content bytes t) (waiting_for t queue)
    (λ e. let z : t ≡ w.sector = eqb-true _ _ e in lt-ltb t (whole bytes) (omega arith))

-- losing the oldest keeps the newest
kept_first : (t : Sector) → Kept t (without_first t)
kept_first (sick f) = refl
kept_first (held [] new) = (refl, tt)
kept_first (held (x ∷ old) new) = (refl, remains_more x old)

kept_cond : (e : Bool) (t : Sector) → Kept t (cond e (without_first t) t)
kept_cond true t = kept_first t
kept_cond false t = kept_refl t

kept_settled : (queue : List WaitingWrite) (at : ℕ → Sector) (t : ℕ) → Kept (at t) (settled_oldest queue at t)
kept_settled [] at t = kept_refl (at t)
kept_settled (w ∷ queue) at t = kept_cond (eqb t w.sector) (at t)

kept_either : (e : Bool) (x y : Sector) → Kept x y → Kept x (cond e x y)
kept_either true x y h = kept_refl x
kept_either false x y h = h

kept_room : (queue : List WaitingWrite) (at : ℕ → Sector) (t : ℕ) → Kept (at t) (room_sectors queue at t)
kept_room queue at t = kept_either (ltb (length queue) 16) (at t) (settled_oldest queue at t) (kept_settled queue at t)

kept_added : (b : List ℕ) (x y : Sector) → Kept x y → Kept (added b x) (added b y)
kept_added b (sick f) y h = ap (added b) h
kept_added b (held old new) (sick f) h = absurd h
kept_added b (held old new) (held old' new') h = (refl, kept_worn (held old new) (held old' new') h)

kept_written : (e : Bool) (b : List ℕ) (x y : Sector) → Kept x y → Kept (cond e (added b x) x) (cond e (added b y) y)
kept_written true b x y h = kept_added b x y h
kept_written false b x y h = h

-- a write: room is made, and then it is added
room_at : (e : Bool) (layer : ℕ) (sick_ones : List (Option ℕ)) (bytes : List ℕ) (queue : List WaitingWrite) (t : ℕ) → all_full queue ≡ true
    → image_sector layer sick_ones (cond e bytes (settle_oldest bytes queue)) (cond e queue (without_oldest queue)) t ≡ cond e (image_sector layer sick_ones bytes queue t) (settled_oldest queue (image_sector layer sick_ones bytes queue) t)
room_at true layer sick_ones bytes queue t h = refl
room_at false layer sick_ones bytes queue t h = settle_lists layer sick_ones bytes queue t h

room_length : (e : Bool) (bytes : List ℕ) (queue : List WaitingWrite) → all_full queue ≡ true → length (cond e bytes (settle_oldest bytes queue)) ≡ length bytes
room_length true bytes queue h = refl
room_length false bytes queue h = settle_length bytes queue h

room_whole : (bytes : List ℕ) (queue : List WaitingWrite) → all_full queue ≡ true → whole (room_bytes bytes queue) ≡ whole bytes
room_whole bytes queue h = whole_same bytes (room_bytes bytes queue) (room_length (ltb (length queue) 16) bytes queue h)

pub write_lists : (layer : ℕ) (sick_ones : List (Option ℕ)) (bytes bytes' : List ℕ) (queue queue' : List WaitingWrite) (w : WaitingWrite) → all_full queue ≡ true
    → Ready bytes sick_ones w.sector → bytes' ≡ room_bytes bytes queue → queue' ≡ room_queue queue ++ (w ∷ [])
    → (t : ℕ) → image_sector layer sick_ones bytes' queue' t ≡ written w.sector w.content (room_sectors queue (image_sector layer sick_ones bytes queue)) t
write_lists layer sick_ones bytes bytes' queue queue' w h n eb eq t =
    let lt : w.sector < whole bytes = ltb-true _ _ n.inside in
    let lt2 : w.sector < whole (room_bytes bytes queue) = subst (λ (n : ℕ). w.sector < n) (sym (room_whole bytes queue h)) lt in
    ap (λ (x : List ℕ). image_sector layer sick_ones x queue' t) eb ∙ ap (λ (x : List WaitingWrite). image_sector layer sick_ones (room_bytes bytes queue) x t) eq
    ∙ add_lists layer sick_ones (room_bytes bytes queue) (room_queue queue) w t lt2
    ∙ ap (λ (x : Sector). cond (eqb t w.sector) (added w.content x) x) (room_at (ltb (length queue) 16) layer sick_ones bytes queue t h)

pub write_writes : (layer : ℕ) (sick_ones : List (Option ℕ)) (bytes bytes' : List ℕ) (queue queue' : List WaitingWrite) (w : WaitingWrite) → all_full queue ≡ true
    → Ready bytes sick_ones w.sector → bytes' ≡ room_bytes bytes queue → queue' ≡ room_queue queue ++ (w ∷ [])
    → Writes layer (image_meaning layer sick_ones bytes queue) w.sector w.content (Ok tt) (image_meaning layer sick_ones bytes' queue')
write_writes layer sick_ones bytes bytes' queue queue' w h n eb eq =
    let at = image_sector layer sick_ones bytes queue in
    writes_went layer w.sector (image_meaning layer sick_ones bytes queue) (image_meaning layer sick_ones bytes' queue') w.content (Ok tt) (ready_stands layer bytes sick_ones queue w.sector n)
    (record {
      size = ap whole eb ∙ room_whole bytes queue h;
      so = λ t. subst (λ (x : Sector). Kept (written w.sector w.content at t) x) (sym (write_lists layer sick_ones bytes bytes' queue queue' w h n eb eq t))
          (kept_written (eqb t w.sector) w.content (at t) (room_sectors queue at t) (kept_room queue at t));
    })

-- all settled
all_length : (bytes : List ℕ) (queue : List WaitingWrite) → all_full queue ≡ true → length (settle_all bytes queue) ≡ length bytes
all_length bytes [] h = refl
all_length bytes (w ∷ queue) h = all_length (settle_oldest bytes (w ∷ queue)) queue (full_rest w queue h) ∙ settle_length bytes (w ∷ queue) h

settled_at : (inside bad : Bool) (f : Fault) (c : List ℕ) → sector_of inside bad f c [] ≡ settled (sector_of inside bad f c [])
settled_at false bad f c = refl
settled_at true true f c = refl
settled_at true false f c = refl

settled_first : (t : Sector) → settled (without_first t) ≡ settled t
settled_first (sick f) = refl
settled_first (held [] new) = refl
settled_first (held (x ∷ old) new) = refl

settled_cond : (e : Bool) (t : Sector) → settled (cond e (without_first t) t) ≡ settled t
settled_cond true t = settled_first t
settled_cond false t = refl

all_lists : (layer : ℕ) (sick_ones : List (Option ℕ)) (bytes : List ℕ) (queue : List WaitingWrite) (t : ℕ) → all_full queue ≡ true
    → image_sector layer sick_ones (settle_all bytes queue) [] t ≡ settled (image_sector layer sick_ones bytes queue t)
all_lists layer sick_ones bytes [] t h = settled_at (ltb t (whole bytes)) (is_sick sick_ones t) (sick_at layer t) (content bytes t)
all_lists layer sick_ones bytes (w ∷ queue) t h =
    all_lists layer sick_ones (settle_oldest bytes (w ∷ queue)) queue t (full_rest w queue h)
    ∙ ap settled (settle_lists layer sick_ones bytes (w ∷ queue) t h)
    ∙ settled_cond (eqb t w.sector) (image_sector layer sick_ones bytes (w ∷ queue) t)

pub flush_lists : (layer : ℕ) (sick_ones : List (Option ℕ)) (bytes bytes' : List ℕ) (queue queue' : List WaitingWrite) → all_full queue ≡ true → bytes' ≡ settle_all bytes queue → queue' ≡ []
    → (t : ℕ) → image_sector layer sick_ones bytes' queue' t ≡ settled (image_sector layer sick_ones bytes queue t)
flush_lists layer sick_ones bytes bytes' queue queue' h eb eq t =
    ap (λ (x : List ℕ). image_sector layer sick_ones x queue' t) eb
    ∙ ap (λ (x : List WaitingWrite). image_sector layer sick_ones (settle_all bytes queue) x t) eq ∙ all_lists layer sick_ones bytes queue t h

pub flush_flushes : (layer : ℕ) (sick_ones : List (Option ℕ)) (bytes bytes' : List ℕ) (queue queue' : List WaitingWrite) → all_full queue ≡ true → bytes' ≡ settle_all bytes queue → queue' ≡ []
    → Flushes (image_meaning layer sick_ones bytes queue) (Ok tt) (image_meaning layer sick_ones bytes' queue')
flush_flushes layer sick_ones bytes bytes' queue queue' h eb eq =
    flushes_went (image_meaning layer sick_ones bytes queue) (image_meaning layer sick_ones bytes' queue') (Ok tt) refl
    (record { size = ap whole eb ∙ whole_same bytes (settle_all bytes queue) (all_length bytes queue h); so = flush_lists layer sick_ones bytes bytes' queue queue' h eb eq })
