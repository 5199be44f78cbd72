-- The sectors of a log say its entries to a painter, so painting them gives its tracks.
use Rattle.std.proofs.Common.{◌≡◌, ◌≢◌, ℕ, suc, ◌+◌, ◌-◌, ◌*◌, ◌/◌, ◌%◌, ◌<◌, ◌≤◌, Bool, ◌&&◌, ◌==◌, nat_le, List, [], ◌∷◌, ◌++◌, length, get_or, replicate, None, Option, sym, refl, ap, ap₂, ◌∙◌, append_assoc, mul_assoc, suc-mul, zero-mul, mod-eq_of_lt, arith, eq-eqb, ne_eqb, le-leb}
use Rattle.std.proofs.Math.Nat.{div_self, div-div-eq-div-mul}
use Rattle.std.proofs.lemmas.Bool.{cond_both}
use Rattle.std.proofs.lemmas.List.{take_all, take_at, drop_at}
use Rattle.std.proofs.lemmas.List.Elements.{All-head, All-tail}
use Rattle.std.specs.List.{flat_map, All}
use Rattle.little_endian.specs.Little.{le32}
use Rattle.sector.specs.Crc.{crc32}
use Rattle.sector.specs.declared.layout.Fields.{Fields}
use Rattle.sector.specs.declared.layout.Kind.TheVariants.{Block as BlockSector}
use Rattle.sector.specs.Layout.{kind_number, field_bytes, sector_bytes, payload_of}
use Rattle.sector.proofs.Loops.{flat}
use Rattle.element.specs.declared.kind.Kind.{Kind}
use Rattle.element.specs.Kinds.{width_of}
use Rattle.element.specs.Payload.{unpacked}
use Rattle.element.proofs.Unpacks.{length-unpacked, unpacked_append}
use Rattle.takes.specs.Entries.{opening, begin, block, trailer, withdrawal, outline, next_place, epoch}
use Rattle.takes.specs.declared.Row.{Row}
use Rattle.takes.specs.Takes.{count, takes, rows}
use Rattle.takes.specs.Tracks.{track}
use Rattle.takes.specs.Painting.{Content, Cells, Other, spot_of, paint, Passed, Says, Shows}
use Rattle.takes.specs.Claims.{Small}
use Rattle.takes.proofs.Bounds.{take_at_most}
use Rattle.takes.proofs.Ordered.{ordered}
use Rattle.takes.proofs.Paints.{OnTrack, on_track_before, spot_on_track, painted_tracks}
use Rattle.journal.specs.declared.header.Header.{Header}
use Rattle.journal.specs.declared.session.Session.{Session}
use Rattle.journal.specs.Headers.{kind_of, padded}
use Rattle.journal.specs.Log.{LogEntry, Log, LawfulElement, Run, entry_fields, entry_bytes}
use Rattle.journal.specs.Sessions.{table_of, InStep}
use Rattle.journal.specs.Painting.{two_at, four_at, take_of, content_of}
use Rattle.journal.specs.Shown.{InSectors, numbered, cells_each, shown, ShowsTrack}
use Rattle.journal.proofs.Payloads.{width_positive, room, lawful_width, flat_fits, length-padded}
use Rattle.journal.proofs.Within.{capacity_small}
use Rattle.journal.proofs.InStep.{table_run, rows_same}
use Rattle.journal.proofs.Fills.{unpacked_front}

-- a number that fits two bytes is the one that they say
two_told : (n : ℕ) → n < 65536 → n % 256 + n / 256 % 256 * 256 ≡ n
two_told n h = omega arith

-- and one that fits four
pub four_told : (n : ℕ) → n < 4294967296 → n % 256 + n / 256 % 256 * 256 + n / 65536 % 256 * 65536 + n / 16777216 % 256 * 16777216 ≡ n
four_told n h =
    let c : n / 16777216 < 256 = omega arith in
    let m : n / 16777216 % 256 ≡ n / 16777216 = mod-eq_of_lt c in
    omega (arith, div-div-eq-div-mul n 256 256, div-div-eq-div-mul n 65536 256)

-- what a painter reads of a sector that was written
record Written (s : List ℕ) (f : Fields) (p : List ℕ) : Type 0 where
  kind : get_or s 0 0 ≡ kind_number f.kind
  count : two_at s 2 ≡ f.count
  take : take_of s ≡ f.take
  offset : four_at s 20 ≡ f.a
  payload : payload_of s ≡ p

-- its first byte
first_written : (s : List ℕ) (f : Fields) (p : List ℕ) → s ≡ sector_bytes f p → get_or s 0 0 ≡ kind_number f.kind
unfolding field_bytes
first_written s f p e = ap (λ (x : List ℕ). get_or x 0 0) e

written : (s : List ℕ) (f : Fields) (p : List ℕ) → s ≡ sector_bytes f p → f.count < 65536 → f.take < 4294967296 → f.a < 4294967296 → length p ≡ 480 → Written s f p
unfolding field_bytes
written s f p e c t a l = record {
  kind = first_written s f p e;
  count = ap (λ (x : List ℕ). two_at x 2) e ∙ two_told f.count c;
  take = ap take_of e ∙ four_told f.take t;
  offset = ap (λ (x : List ℕ). four_at x 20) e ∙ four_told f.a a;
  payload = ap payload_of e ∙ take_at p (le32 (crc32 (field_bytes f ++ p))) 480 l;
}

-- no block of a log has more than 240 elements
pub small : (hd : Header) (h : Log) → Run hd h → Small (List ℕ) 240 h
small hd [] r = tt
small hd (opening ∷ h) (r, a) = small hd h r
small hd (begin t p ∷ h) (r, a) = small hd h r
small hd (block k xs ∷ h) (r, a) = (omega (arith, capacity_small (kind_of hd (rows h k).track), a.0.2.1), small hd h r)
small hd (trailer k ∷ h) (r, a) = small hd h r
small hd (withdrawal t k ∷ h) (r, a) = small hd h r

-- no more takes were begun than there are entries
count_at_most : (h : Log) → count h ≤ length h
count_at_most [] = omega arith
count_at_most (opening ∷ h) = omega (arith, count_at_most h)
count_at_most (begin t p ∷ h) = omega (arith, count_at_most h)
count_at_most (block k xs ∷ h) = omega (arith, count_at_most h)
count_at_most (trailer k ∷ h) = omega (arith, count_at_most h)
count_at_most (withdrawal t k ∷ h) = omega (arith, count_at_most h)

module _ {Y : Type 0} (v : List ℕ → Y) (w per : ℕ) where
  -- the cells of elements that bytes begin with
  cells_told : (kind : Kind) (xs : List (List ℕ)) (rest : List ℕ) → per * w ≡ width_of kind → All (LawfulElement kind) xs
      → unpacked v w (length xs * per) (flat xs ++ rest) ≡ flat_map (unpacked v w per) xs
  cells_told kind [] rest e h = rw zero-mul
  cells_told kind (x ∷ xs) rest e h =
      let more : suc (length xs) * per ≡ per + length xs * per = omega (arith, suc-mul (length xs) per) in
      let r : List ℕ = flat xs ++ rest in
      let l : length x ≡ per * w = lawful_width kind x (All-head (LawfulElement kind) x xs h) ∙ sym e in
      rw (more, append_assoc)
      (unpacked_append v w per (length xs * per) (x ++ r)
      ∙ ap₂ (λ (a b : List Y). a ++ b)
      (sym (unpacked_front v w per (x ++ r)) ∙ ap (unpacked v w per) (take_at x r (per * w) l))
      (ap (unpacked v w (length xs * per)) (drop_at x r (per * w) l) ∙ cells_told kind xs rest e (All-tail (LawfulElement kind) x xs h)))

  -- what a written block says
  block_said : (s : List ℕ) (f : Fields) (p : List ℕ) → Written s f p → f.kind ≡ BlockSector → f.count * per * w ≤ 480
      → content_of per v w s ≡ Cells f.take f.a (unpacked v w (f.count * per) p)
  block_said s f p b k fits = rw (eq-eqb (get_or s 0 0) 3 (b.kind ∙ ap kind_number k), b.count, le-leb (f.count * per * w) 480 fits, b.take, b.offset, b.payload)

  module _ (spot : ℕ → Option ℕ) (s : List ℕ) where
    -- a sector of a take that is not heard is passed over
    unheard_passed : spot (take_of s) ≡ None → Passed spot (content_of per v w s)
    unheard_passed n = cond_both is_block cells Other (Passed spot) (λ e. n) (λ e. tt)
      where
        is_block : Bool
        is_block = get_or s 0 0 == 3 && nat_le (two_at s 2 * per * w) 480

        cells : Content Y
        cells = Cells (take_of s) (four_at s 20) (unpacked v w (two_at s 2 * per) (payload_of s))

    -- so is a sector that is not of a block
    other_passed : (k : ℕ) → get_or s 0 0 ≡ k → k ≢ 3 → Passed spot (content_of per v w s)
    other_passed k e n = rw (ne_eqb (get_or s 0 0) 3 (λ q. n (sym e ∙ q))) tt

-- cells of w bytes each, `per` of them to an element of track t, whose takes begin at the spots that there are
module _ {Y : Type 0} (v : List ℕ → Y) (w per : ℕ) (hd : Header) (N : ℕ → List ℕ) (spot : ℕ → Option ℕ) (t : ℕ) (even : per * w ≡ width_of (kind_of hd t)) where
  -- what a sector says to a painter
  abbrev said : ℕ → Content Y
  said p = content_of per v w (N p)

  -- the sector of a block says the block
  block_shown : (h : Log) (k : ℕ) (xs : List (List ℕ)) → Run hd (block k xs ∷ h) → OnTrack spot t h → N (next_place h) ≡ entry_bytes hd h (block k xs)
      → Says (unpacked v w per) spot h (block k xs) (said (next_place h))
  block_shown h k xs (r, a) g e =
      let kind = kind_of hd (rows h k).track in
      let few = a.0.2.1 in
      let begun = (ordered h (table_run hd h r)).within k a.0.3 in
      let long = take_at_most h 240 (small hd h r) k in
      let many = count_at_most h in
      let f : Fields = entry_fields hd (next_place h) (epoch h) (count h) (rows h) (outline (block k xs)) in
      let all : List ℕ = padded (flat xs) in
      let b : Written (N (next_place h)) f all =
      written (N (next_place h)) f all e (omega (arith, capacity_small kind)) (omega (arith, a.0.0)) (omega (arith, a.0.0)) (length-padded (flat xs) (flat_fits kind xs a.1 few)) in (
        (λ p q.
            let same : kind ≡ kind_of hd t = ap (kind_of hd) (g k p q begun.0 begun.1) in
            let each : per * w ≡ width_of kind = even ∙ ap width_of (sym same) in
            let fits : length xs * per * w ≤ 480 = rw (mul_assoc (length xs) per w, each) (room kind (length xs) few) in
            block_said v w per (N (next_place h)) f all b refl fits
            ∙ ap (Cells k (length (takes h k).elements)) (cells_told v w per kind xs (replicate (480 - length (flat xs)) 0) each a.1)),
        (λ q. unheard_passed v w per spot (N (next_place h)) (ap spot b.take ∙ q)),
      )

  -- a sector of another kind says nothing
  passed_by : (h : Log) (e : LogEntry) (n : ℕ) → N (next_place h) ≡ entry_bytes hd h e → kind_number (entry_fields hd (next_place h) (epoch h) (count h) (rows h) (outline e)).kind ≡ n → n ≢ 3
      → Passed spot (said (next_place h))
  passed_by h e n q k z = other_passed v w per spot (N (next_place h)) n (first_written (N (next_place h)) _ _ q ∙ k) z

  -- the sectors that hold a log show it
  shows : (h : Log) → Run hd h → OnTrack spot t h → InSectors hd N h → Shows (unpacked v w per) spot said h
  shows [] r g s = tt
  shows (opening ∷ h) (r, a) g (s, e) = (shows h r (on_track_before spot t opening h g) s, passed_by h opening 6 e refl (λ z. omega arith))
  shows (begin u p ∷ h) (r, a) g (s, e) = (shows h r (on_track_before spot t (begin u p) h g) s, passed_by h (begin u p) 2 e refl (λ z. omega arith))
  shows (block k xs ∷ h) (r, a) g (s, e) =
      let before = on_track_before spot t (block k xs) h g in
      (shows h r before s, block_shown h k xs (r, a) before e)
  shows (trailer k ∷ h) (r, a) g (s, e) = (shows h r (on_track_before spot t (trailer k) h g) s, passed_by h (trailer k) 4 e refl (λ z. omega arith))
  shows (withdrawal u k ∷ h) (r, a) g (s, e) = (shows h r (on_track_before spot t (withdrawal u k) h g) s, passed_by h (withdrawal u k) 5 e refl (λ z. omega arith))

-- painting the sectors of a log gives its tracks
pub painted_log : {Y : Type 0} (v : List ℕ → Y) (w per : ℕ) (hd : Header) (h : Log) → Run hd h → (N : ℕ → List ℕ) → InSectors hd N h → (t : ℕ) → per * w ≡ width_of (kind_of hd t)
    → (from : ℕ) (out : List Y) → paint per (spot_of (rows h) t) from (λ p. content_of per v w (N p)) (length h) out ≡ shown from (flat_map (unpacked v w per) (track h t)) out
painted_log v w per hd h r N s t even from out =
    painted_tracks per (unpacked v w per) (length-unpacked v w per) h (table_run hd h r) t (λ p. content_of per v w (N p))
    (shows v w per hd N (spot_of (rows h) t) t even h r (λ j f q l m. spot_on_track (rows h) t j f q) s) from out

-- a session's table gives the same spots as its log
pub same_spots : (s : Session) (h : Log) → InStep s h → (t : ℕ) → spot_of (table_of s) t ≡ spot_of (rows h) t
same_spots s h i t = ap (λ (R : ℕ → Row). spot_of R t) (sym (rows_same s h i))

-- a slice over which all sectors of the session's log were painted shows a track
pub shows_track : {Y : Type 0} (s : Session) (v : List ℕ → Y) (w t from : ℕ) (sectors : List (List ℕ)) (out new : List Y)
    → new ≡ paint (cells_each s.header t w) (spot_of (table_of s) t) (from * cells_each s.header t w) (λ p. content_of (cells_each s.header t w) v w (numbered sectors p)) (length sectors) out
    → ShowsTrack s v w t from sectors out new
shows_track s v w t from sectors out new e = record {
  whole = λ h i held even.
      let per = cells_each s.header t w in
      e ∙ rw (same_spots s h i t, held.0) (painted_log v w per s.header h i.run (numbered sectors) held.1 t even (from * per) out);
}

-- of a type that is as wide as the track's elements, one cell makes up an element
pub one_cell : (hd : Header) (t w : ℕ) → w ≡ width_of (kind_of hd t) → cells_each hd t w ≡ 1
one_cell hd t w e = rw e (div_self (width_positive (kind_of hd t)))

-- which is one value
pub one_value : {Y : Type 0} (v : List ℕ → Y) (w : ℕ) (x : List ℕ) → length x ≡ w → unpacked v w 1 x ≡ v x ∷ []
one_value {Y} v w x l = ap (λ (bs : List ℕ). v bs ∷ []) (take_all w x (omega arith))
