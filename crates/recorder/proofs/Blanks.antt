-- What a format does to a device, call by call.
use Rattle.std.proofs.Common.{◌≡◌, ℕ, zero, suc, ◌+◌, ◌<◌, ◌≤◌, ◌==◌, Bool, true, false, cond, ◌⊎◌, List, [], ◌∷◌, ◌++◌, Some, None, Ok, Err, sym, refl, ap, ap₂, ◌∙◌, subst, inl, inr, ⊎_elim, add-one, arith, below_more, ne_eqb}
use Rattle.std.proofs.lemmas.Bool.{eq-eqb}
use mathlib.Core.List.{Memᴰ}
use Rattle.device.specs.declared.fault.Cause.TheVariants.{Sick}
use Rattle.device.specs.declared.fault.Fault.{Fault}
use Rattle.device.specs.Faults.{Answer}
use Rattle.device.specs.Meaning.{Sector, sick, held, Meaning, Lawful}
use Rattle.device.specs.Calls.{Remains, Kept, Worn, Writes, Flushes, standing, sick_fault, added, written, settled}
use Rattle.device.proofs.Lists.{kept_worn, settled_kept}
use Rattle.journal.specs.declared.header.Header.{Header}
use Rattle.journal.specs.Headers.{header_bytes}
use Rattle.recorder.specs.Devices.{Lost}
use Rattle.recorder.specs.Formats.{zeros, zeroed, formatted, well, Overwritten, Headed, LostInBlanks, LostInHeader, Prepared, Unblanked, ShowsZeros, Blanking, Wiped, AllZeroed, HeaderWritten}
use Rattle.recorder.proofs.Devices.{Stands, outside, unpowered, unwell, stands, HasWritten, wrote, LostWriting, not_written, HasFlushed, flushed, not_flushed, lost_cause, sick_cause}

member_push : (xs : List (List ℕ)) (y c : List ℕ) → Memᴰ c (xs ++ (y ∷ [])) → Memᴰ c xs ⊎ (c ≡ y)
member_push [] y c (Memᴰ.head e) = inr e
member_push [] y c (Memᴰ.tail m) = elim m [ ]
member_push (x ∷ xs) y c (Memᴰ.head e) = inl (Memᴰ.head e)
member_push (x ∷ xs) y c (Memᴰ.tail m) = ⊎_elim (λ k. inl (Memᴰ.tail k)) (λ e. inr e) (member_push xs y c m)

member_remains : (xs ys : List (List ℕ)) (c : List ℕ) → Remains xs ys → Memᴰ c xs → Memᴰ c ys
member_remains [] ys c h m = elim m [ ]
member_remains (x ∷ xs) [] c h m = absurd h
member_remains (x ∷ xs) (y ∷ ys) c h (Memᴰ.head e) = ⊎_elim (λ p. Memᴰ.head (e ∙ p.0)) (λ q. Memᴰ.tail (member_remains (x ∷ xs) ys c q (Memᴰ.head e))) h
member_remains (x ∷ xs) (y ∷ ys) c h (Memᴰ.tail m) = ⊎_elim (λ p. Memᴰ.tail (member_remains xs ys c p.1 m)) (λ q. Memᴰ.tail (member_remains (x ∷ xs) ys c q (Memᴰ.tail m))) h

-- what one content leaves is that content
one_remains : (xs : List (List ℕ)) (x y : List ℕ) → Remains (xs ++ (x ∷ [])) (y ∷ []) → (xs ≡ []) × (x ≡ y)
one_remains [] x y h = ⊎_elim (λ p. (refl, p.0)) (λ q. absurd q) h
one_remains (z ∷ []) x y h = ⊎_elim (λ p. absurd p.1) (λ q. absurd q) h
one_remains (z ∷ (w ∷ zs)) x y h = ⊎_elim (λ p. absurd p.1) (λ q. absurd q) h

-- a write to sector p leaves every other as it is
written_other : (t p : ℕ) (x : List ℕ) (at : ℕ → Sector) → (t ≡ p → ⊥) → written p x at t ≡ at t
written_other t p x at ne = ap (λ (b : Bool). cond b (added x (at t)) (at t)) (ne_eqb t p ne)

overwritten_refl : (s : Sector) → Overwritten s s
overwritten_refl (sick f) = refl
overwritten_refl (held old new) = λ c m. inl m

overwritten_worn : (r s s' : Sector) → Overwritten r s → Worn s s' → Overwritten r s'
overwritten_worn (sick f) s s' h k = subst (λ (v : Sector). Worn v s') h k
overwritten_worn (held old new) (sick f) s' h k = absurd h
overwritten_worn (held old new) (held a b) (sick f) h k = absurd k
overwritten_worn (held old new) (held a b) (held a' b') h k = λ c m. h c (member_remains (a' ++ (b' ∷ [])) (a ++ (b ∷ [])) c k m)

overwritten_added : (r s : Sector) → Overwritten r s → Overwritten r (added zeros s)
overwritten_added (sick f) s h = ap (added zeros) h
overwritten_added (held old new) (sick f) h = absurd h
overwritten_added (held old new) (held a b) h = λ c m. ⊎_elim (λ k. h c k) (λ e. inr e) (member_push (a ++ (b ∷ [])) zeros c m)

overwritten_by : (r s : Sector) (here : Bool) → Overwritten r s → Overwritten r (cond here (added zeros s) s)
overwritten_by r s true h = overwritten_added r s h
overwritten_by r s false h = h

-- a sector that is overwritten is as sick as it was
overwritten_sick : (r s : Sector) → Overwritten r s → sick_fault s ≡ sick_fault r
overwritten_sick (sick f) s h = ap sick_fault h
overwritten_sick (held old new) (sick f) h = absurd h
overwritten_sick (held old new) (held a b) h = refl

shows_sick : (r s : Sector) (f : Fault) → sick_fault s ≡ Some f → Overwritten r s → ShowsZeros r s
shows_sick (sick g) s f e h = h
shows_sick (held old new) (sick g) f e h = absurd h
shows_sick (held old new) (held a b) f e h = cc

shows_added : (r s : Sector) → Overwritten r s → ShowsZeros r (added zeros s)
shows_added (sick f) s h = ap (added zeros) h
shows_added (held old new) (sick f) h = absurd h
shows_added (held old new) (held a b) h = refl

-- what a sector shows after zeros were written: to it, or to another
shows_by : (t p : ℕ) (r s : Sector) (here : Bool) → (t == p) ≡ here → Overwritten r s → ((t ≡ p → ⊥) → ShowsZeros r s) → ShowsZeros r (cond here (added zeros s) s)
shows_by t p r s true e h other = shows_added r s h
shows_by t p r s false e h other = other (λ i. let b = eq-eqb t p i in cc)

shows_kept : (r s s' : Sector) → ShowsZeros r s → Kept s s' → ShowsZeros r s'
shows_kept (sick f) s s' h k = subst (λ (v : Sector). Kept v s') h k
shows_kept (held old new) (sick f) s' h k = absurd h
shows_kept (held old new) (held a b) (sick f) h k = absurd k
shows_kept (held old new) (held a b) (held a' b') h k = k.0 ∙ h

shows_settled : (r s : Sector) → ShowsZeros r s → settled s ≡ zeroed r
shows_settled (sick f) s h = ap settled h
shows_settled (held old new) (sick f) h = absurd h
shows_settled (held old new) (held a b) h = ap (held []) h

-- a sector of zeros alone has nothing to lose
zeroed_worn : (r s s' : Sector) → s ≡ zeroed r → Worn s s' → s' ≡ zeroed r
zeroed_worn r s s' e h = go r s' (subst (λ (v : Sector). Worn v s') e h)
  where
    go : (r s' : Sector) → Worn (zeroed r) s' → s' ≡ zeroed r
    go (sick f) s' h = h
    go (held old new) (sick f) h = absurd h
    go (held old new) (held a b) h = let one = one_remains a b zeros h in ap₂ held one.0 one.1

headed_zeroed : (hd : Header) (r s : Sector) → sick_fault r ≡ None → s ≡ zeroed r → Headed hd r s
headed_zeroed hd r s w e = subst (λ (v : Sector). Headed hd r v) (sym e) (go r w)
  where
    go : (r : Sector) → sick_fault r ≡ None → Headed hd r (zeroed r)
    go (sick f) w = cc
    go (held old new) w = λ c m. ⊎_elim (λ k. elim k [ ]) (λ e. inl e) (member_push [] zeros c m)

headed_worn : (hd : Header) (r s s' : Sector) → Headed hd r s → Worn s s' → Headed hd r s'
headed_worn hd (sick f) s s' h k = absurd h
headed_worn hd (held old new) (sick f) s' h k = absurd h
headed_worn hd (held old new) (held a b) (sick f) h k = absurd k
headed_worn hd (held old new) (held a b) (held a' b') h k = λ c m. h c (member_remains (a' ++ (b' ∷ [])) (a ++ (b ∷ [])) c k m)

headed_added : (hd : Header) (r s : Sector) → Headed hd r s → Headed hd r (added (header_bytes hd) s)
headed_added hd (sick f) s h = absurd h
headed_added hd (held old new) (sick f) h = absurd h
headed_added hd (held old new) (held a b) h = λ c m. ⊎_elim (λ k. h c k) (λ e. inr e) (member_push (a ++ (b ∷ [])) (header_bytes hd) c m)

headed_well : (hd : Header) (r s : Sector) → Headed hd r s → sick_fault s ≡ None
headed_well hd (sick f) s h = absurd h
headed_well hd (held old new) (sick f) h = absurd h
headed_well hd (held old new) (held a b) h = refl

-- the header was written to sector 0, and has settled
header_settled : (hd : Header) (r s s' : Sector) → Headed hd r s → Kept (added (header_bytes hd) s) s' → settled s' ≡ formatted hd 0 r
header_settled hd (sick f) s s' h k = absurd h
header_settled hd (held old new) (sick f) s' h k = absurd h
header_settled hd (held old new) (held a b) (sick f) h k = absurd k
header_settled hd (held old new) (held a b) (held a' b') h k = ap (held []) k.0

one_more : (s : Sector) (k : ℕ) → sick_fault s ≡ None → elim s [ sick f ↦ k | held old new ↦ suc k ] ≡ suc k
one_more (sick f) k e = cc
one_more (held old new) k e = refl

no_more : (s : Sector) (k : ℕ) (f : Fault) → sick_fault s ≡ Some f → elim s [ sick f ↦ k | held old new ↦ suc k ] ≡ k
no_more (sick g) k f e = refl
no_more (held old new) k f e = cc

well_more : (m : Meaning) (n : ℕ) → sick_fault (m.sector n) ≡ None → well m (n + 1) ≡ well m n + 1
well_more m n e = ap (well m) (add-one n) ∙ one_more (m.sector n) (well m n) e ∙ sym (add-one (well m n))

well_same : (m : Meaning) (n : ℕ) (f : Fault) → sick_fault (m.sector n) ≡ Some f → well m (n + 1) ≡ well m n
well_same m n f e = ap (well m) (add-one n) ∙ no_more (m.sector n) (well m n) f e

well_step : (s : Sector) (k n : ℕ) → k ≤ n → elim s [ sick f ↦ k | held old new ↦ suc k ] ≤ suc n
well_step (sick f) k n le = omega arith
well_step (held old new) k n le = omega arith

-- no more sectors are blanked than gone through
pub well_few : (m : Meaning) (n : ℕ) → well m n ≤ n
well_few m zero = omega arith
well_few m (suc n) = well_step (m.sector n) (well m n) n (well_few m n)

pub blanking_start : (m : Meaning) → Blanking m 0 0 m
blanking_start m =
    record {
      size = refl;
      each = λ t. overwritten_refl (m.sector t);
      blank = λ t lt. absurd (omega arith);
      count = refl;
      untouched = λ e. refl;
      begun = λ lt. absurd (omega arith);
    }

-- what holds of the first step by what holds at its start, and of a later one since the work was begun
by_place : (P : Type 0) (n : ℕ) → (n ≡ 0 → P) → (0 < n → P) → P
by_place P zero first later = first refl
by_place P (suc n) first later = later (omega arith)

-- The calls of the blanking, one after the other.
module _ (start m m' : Meaning) (n blanked : ℕ) (i : Blanking start n blanked m) where
  -- a sector after zeros were written to sector n
  overwritten_written : (t : ℕ) → Overwritten (start.sector t) (written n zeros m.sector t)
  overwritten_written t = overwritten_by (start.sector t) (m.sector t) (t == n) (i.each t)

  shows_written : (t : ℕ) → t < n + 1 → ShowsZeros (start.sector t) (written n zeros m.sector t)
  shows_written t lt = shows_by t n (start.sector t) (m.sector t) (t == n) refl (i.each t) (λ ne. i.blank t (omega arith))

  begun_by : m.power ≡ Ok tt → sick_fault (m.sector n) ≡ None → (start.power ≡ Ok tt) × (sick_fault (start.sector 0) ≡ None)
  begun_by power well =
      by_place ((start.power ≡ Ok tt) × (sick_fault (start.sector 0) ≡ None)) n
      (λ e.
      let same : start ≡ m = sym (i.untouched e) in
      (ap (λ (x : Meaning). x.power) same ∙ power, ap (λ (x : Meaning). sick_fault (x.sector 0)) same ∙ ap (λ (k : ℕ). sick_fault (m.sector k)) (sym e) ∙ well))
      (λ lt. i.begun lt)

  power_by : m.power ≡ Ok tt → start.power ≡ Ok tt
  power_by power = by_place (start.power ≡ Ok tt) n (λ e. ap (λ (x : Meaning). x.power) (sym (i.untouched e)) ∙ power) (λ lt. (i.begun lt).0)

  -- power was off before a later step than the first
  off_here : (f : Fault) → 0 < n → m.power ≡ Err f → m' ≡ m → LostInBlanks f start m'
  off_here f lt e same =
      subst (λ (x : Meaning). LostInBlanks f start x) (sym same) (record { size = i.size; before = (i.begun lt).0; after = e; each = λ t lt. i.each t })

  lost_flushing : (f : Fault) → Lost f m m' → LostInBlanks f start m'
  lost_flushing f l =
      record {
        size = l.size ∙ i.size;
        before = power_by l.before;
        after = l.after;
        each = λ t lt. overwritten_worn (start.sector t) (m.sector t) (m'.sector t) (i.each t) (l.each t);
      }

  lost_writing : (f : Fault) → LostWriting f m n zeros m' → LostInBlanks f start m'
  lost_writing f l =
      record {
        size = l.size ∙ i.size;
        before = power_by l.before;
        after = l.after;
        each = λ t lt. overwritten_worn (start.sector t) (written n zeros m.sector t) (m'.sector t) (overwritten_written t) (l.each t);
      }

  module _ (layer : ℕ) where
    wiped : HasWritten m n zeros m' → Wiped layer start n blanked (Ok true) m'
    wiped w =
        record {
          size = w.size ∙ i.size;
          each = λ t. overwritten_worn (start.sector t) (written n zeros m.sector t) (m'.sector t) (overwritten_written t) (kept_worn (written n zeros m.sector t) (m'.sector t) (w.each t));
          blank = λ t lt. shows_kept (start.sector t) (written n zeros m.sector t) (m'.sector t) (shows_written t lt) (w.each t);
          count = ap (λ (k : ℕ). k + 1) i.count ∙ sym (well_more start n (sym (overwritten_sick (start.sector n) (m.sector n) (i.each n)) ∙ w.free.readable.1));
          untouched = λ e. absurd (omega arith);
          begun = λ lt. begun_by w.free.power w.free.readable.1;
        }

    pub wipes : Writes layer m n zeros (Ok tt) m' → Wiped layer start n blanked (Ok true) m'
    wipes h = wiped (wrote layer m m' n zeros h)

    passed_over : (f : Fault) → 0 < n → sick_fault (m.sector n) ≡ Some f → m' ≡ m → Wiped layer start n blanked (Ok false) m'
    passed_over f lt e same =
        let here = shows_sick (start.sector n) (m.sector n) f e (i.each n) in
        let over : Blanking start (n + 1) (blanked + 0) m = record {
          size = i.size;
          each = i.each;
          blank = below_more (λ (t : ℕ). ShowsZeros (start.sector t) (m.sector t)) n i.blank here;
          count = (let h = i.count in omega arith) ∙ sym (well_same start n f (sym (overwritten_sick (start.sector n) (m.sector n) (i.each n)) ∙ e));
          untouched = λ z. absurd (omega arith);
          begun = λ z. i.begun lt;
        }
        in
        subst (λ (x : Meaning). Blanking start (n + 1) (blanked + 0) x) (sym same) over

    module _ (f : Fault) (law : Lawful m) (there : n < m.size) where
      -- a sick sector, or power that went off before, at a later sector than the first
      stood : Stands layer m n f → m' ≡ m → 0 < n → (f.cause ≡ Sick → ⊥) → Unblanked layer f start m'
      stood (outside le e) same lt well = absurd (omega arith)
      stood (unpowered le e) same lt well = inr (off_here f lt e same)
      stood (unwell le e s) same lt well = absurd (well (sick_cause m n f law there s))

      not_wiped : (0 < n → f.cause ≡ Sick → ⊥) → ((standing layer m n ≡ Some f) × (m' ≡ m)) ⊎ LostWriting f m n zeros m' → Unblanked layer f start m'
      not_wiped well h =
          ⊎_elim
          (λ a.
          by_place (Unblanked layer f start m') n
          (λ e.
          inl
          (ap (λ (x : Meaning). standing layer x 0) (sym (i.untouched e)) ∙ ap (λ (k : ℕ). standing layer m k) (sym e) ∙ a.0, a.1 ∙ i.untouched e))
          (λ lt. stood (stands layer m n f a.0) a.1 lt (well lt)))
          (λ l. inr (lost_writing f l)) h

      found_sick : Stands layer m n f → m' ≡ m → 0 < n → f.cause ≡ Sick → Wiped layer start n blanked (Ok false) m'
      found_sick (outside le e) same lt c = absurd (omega arith)
      found_sick (unpowered le e) same lt c = let lost = lost_cause m f law e in cc
      found_sick (unwell le e s) same lt c = passed_over f lt s same

      skipped : Lawful m' → 0 < n → f.cause ≡ Sick → ((standing layer m n ≡ Some f) × (m' ≡ m)) ⊎ LostWriting f m n zeros m'
          → Wiped layer start n blanked (Ok false) m'
      skipped law' lt c h = ⊎_elim (λ a. found_sick (stands layer m n f a.0) a.1 lt c) (λ l. let lost = lost_cause m' f law' l.after in cc) h

      pub wipe_fails : Writes layer m n zeros (Err f) m' → (0 < n → f.cause ≡ Sick → ⊥) → Unblanked layer f start m'
      wipe_fails h well = not_wiped well (not_written layer m m' n zeros f h)

      pub wipe_skips : Writes layer m n zeros (Err f) m' → Lawful m' → 0 < n → f.cause ≡ Sick → Wiped layer start n blanked (Ok false) m'
      wipe_skips h law' lt c = skipped law' lt c (not_written layer m m' n zeros f h)

-- The flush behind the blanks.
module _ (start m m' : Meaning) (blanked : ℕ) (some : 0 < start.size) (i : Blanking start start.size blanked m) where
  blank_by : HasFlushed m m' → AllZeroed start m'
  blank_by k =
      record {
        size = k.size ∙ i.size;
        power = (i.begun some).0;
        first = (i.begun some).1;
        each = λ t lt. k.each t ∙ shows_settled (start.sector t) (m.sector t) (i.blank t lt);
      }

  pub blanks_settle : Flushes m (Ok tt) m' → (blanked ≡ well start start.size) × AllZeroed start m'
  blanks_settle h = (i.count, blank_by (flushed m m' h))

  pub blanks_fail : (f : Fault) → Flushes m (Err f) m' → LostInBlanks f start m'
  blanks_fail f h =
      ⊎_elim (λ a. off_here start m m' start.size blanked i f some a.0 a.1) (λ l. lost_flushing start m m' start.size blanked i f l) (not_flushed m m' f h)

-- a device on which the header is being written
record Heading (hd : Header) (start m : Meaning) : Type 0 where
  size : m.size ≡ start.size
  power : start.power ≡ Ok tt
  first : Headed hd (start.sector 0) (m.sector 0)
  rest : (t : ℕ) → 0 < t → t < start.size → m.sector t ≡ zeroed (start.sector t)

heading : (hd : Header) (start m : Meaning) → 0 < start.size → AllZeroed start m → Heading hd start m
heading hd start m some b =
    record {
      size = b.size;
      power = b.power;
      first = headed_zeroed hd (start.sector 0) (m.sector 0) b.first (b.each 0 some);
      rest = λ t lt le. b.each t le;
    }

module _ (hd : Header) (start m : Meaning) (i : Heading hd start m) where
  lost_here : (f : Fault) → m.power ≡ Err f → LostInHeader hd f start m
  lost_here f e = record { size = i.size; before = i.power; after = e; first = i.first; rest = i.rest }

  -- sector 0 is there and well, so only power stands in the way of the header
  in_the_way : (layer : ℕ) (f : Fault) → 0 < start.size → Stands layer m 0 f → LostInHeader hd f start m
  in_the_way layer f some (outside le e) = absurd (omega (arith, i.size))
  in_the_way layer f some (unpowered le e) = lost_here f e
  in_the_way layer f some (unwell le e s) = let w = headed_well hd (start.sector 0) (m.sector 0) i.first in cc

  module _ (m' : Meaning) (same : m'.size ≡ m.size) where
    heading_worn : ((t : ℕ) → Worn (m.sector t) (m'.sector t)) → Heading hd start m'
    heading_worn h =
        record {
          size = same ∙ i.size;
          power = i.power;
          first = headed_worn hd (start.sector 0) (m.sector 0) (m'.sector 0) i.first (h 0);
          rest = λ t lt le. zeroed_worn (start.sector t) (m.sector t) (m'.sector t) (i.rest t lt le) (h t);
        }

    heading_written : ((t : ℕ) → Worn (written 0 (header_bytes hd) m.sector t) (m'.sector t)) → Heading hd start m'
    heading_written h =
        record {
          size = same ∙ i.size;
          power = i.power;
          first = headed_worn hd (start.sector 0) (added (header_bytes hd) (m.sector 0)) (m'.sector 0) (headed_added hd (start.sector 0) (m.sector 0) i.first) (h 0);
          rest = λ t lt le.
              zeroed_worn (start.sector t) (written 0 (header_bytes hd) m.sector t) (m'.sector t)
              (written_other t 0 (header_bytes hd) m.sector (λ e. absurd (omega arith)) ∙ i.rest t lt le) (h t);
        }

-- The header, on a device whose blanks have settled.
module _ (layer : ℕ) (hd : Header) (start m : Meaning) (some : 0 < start.size) (b : AllZeroed start m) where
  pub header_fails : (n : Meaning) (f : Fault) → Writes layer m 0 (header_bytes hd) (Err f) n → LostInHeader hd f start n
  header_fails n f h =
      let i = heading hd start m some b in
      ⊎_elim (λ a. subst (λ (x : Meaning). LostInHeader hd f start x) (sym a.1) (in_the_way hd start m i layer f some (stands layer m 0 f a.0)))
      (λ l. lost_here hd start n (heading_written hd start m i n l.size l.each) f l.after) (not_written layer m n 0 (header_bytes hd) f h)

  module _ (n : Meaning) (w : HasWritten m 0 (header_bytes hd) n) where
    after : Heading hd start n
    after = heading_written hd start m (heading hd start m some b) n w.size (λ t. kept_worn (written 0 (header_bytes hd) m.sector t) (n.sector t) (w.each t))

    unsettled : (last : Meaning) (f : Fault) → Flushes n (Err f) last → LostInHeader hd f start last
    unsettled last f h =
        ⊎_elim (λ a. subst (λ (x : Meaning). LostInHeader hd f start x) (sym a.1) (lost_here hd start n after f a.0))
        (λ l. lost_here hd start last (heading_worn hd start n after last l.size l.each) f l.after) (not_flushed n last f h)

    each : (last : Meaning) → HasFlushed n last → (t : ℕ) → t < start.size → last.sector t ≡ formatted hd t (start.sector t)
    each last l zero lt =
        l.each 0 ∙ header_settled hd (start.sector 0) (m.sector 0) (n.sector 0) (heading hd start m some b).first (w.each 0)
    each last l (suc t) lt =
        zeroed_worn (start.sector (suc t)) (n.sector (suc t)) (last.sector (suc t)) (after.rest (suc t) (omega arith) lt)
        (kept_worn (n.sector (suc t)) (last.sector (suc t)) (settled_kept (n.sector (suc t)) (last.sector (suc t)) (l.each (suc t))))

    has_settled : (last : Meaning) → HasFlushed n last → Prepared hd start last
    has_settled last l = record { size = l.size ∙ after.size; power = b.power; first = b.first; each = each last l }

    settles : (last : Meaning) (r : Answer) → Flushes n r last → HeaderWritten hd start r last
    settles last (Ok x) h = has_settled last (flushed n last h)
    settles last (Err f) h = unsettled last f h

  pub header_settles : (n last : Meaning) (r : Answer) → Writes layer m 0 (header_bytes hd) (Ok tt) n → Flushes n r last → HeaderWritten hd start r last
  header_settles n last r h k = settles n (wrote layer m n 0 (header_bytes hd) h) last r k
