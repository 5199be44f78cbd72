-- The calls of a sitting over a device of eight sectors that loses no content, each accepted.
use Rattle.std.proofs.Common.{◌≡◌, ℕ, zero, suc, ◌+◌, ◌<◌, ◌≤◌, Bool, true, false, not, ◌==◌, List, [], ◌∷◌, length, Option, None, Result, Ok, All, nat_le, nat_lt, sym, refl, ap, ◌∙◌, subst, subst₂, arith}
use Rattle.std.proofs.Math.Path.{fun_ext}
use lib.ListN.{length-replicate}
use Rattle.std.proofs.lemmas.Bool.{and_from, not_from_false, le-leb, lt-ltb, eq-eqb}
use Rattle.device.specs.Meaning.{Sector, held}
use Rattle.device.specs.Calls.{sick_fault, Writes, written}
use Rattle.device.proofs.Cuts.{cut_by_plan}
use Rattle.element.specs.declared.kind.Kind.{Kind}
use Rattle.element.specs.Kinds.{kind_number, capacity_of}
use Rattle.takes.specs.declared.Row.{Row}
use Rattle.takes.specs.declared.Outline.TheVariants.{Begin as BeginEntry, Block as BlockEntry}
use Rattle.takes.specs.Entries.{opening, begin, block, outline, next_place, epoch}
use Rattle.takes.specs.Takes.{count, rows}
use Rattle.takes.specs.Table.{is_open, open_on}
use Rattle.takes.specs.Steps.{next_rows, next_count, next_epoch}
use Rattle.takes.proofs.Steps.{rows_step, count_step, epoch_step}
use Rattle.sector.specs.declared.layout.Fields.{Fields}
use Rattle.sector.specs.Layout.{sector_bytes, Sound as SoundSector}
use Rattle.journal.specs.declared.header.Header.{Header}
use Rattle.journal.specs.declared.session.Session.{Session}
use Rattle.journal.specs.Headers.{kind_of, padded, header_bytes, Lawful as LawfulHeader}
use Rattle.journal.specs.Log.{LogEntry, Log, LawfulElement, Admits, Run, Continues, entry_fields, entry_bytes, payload}
use Rattle.journal.specs.Sessions.{table_of, SessionFollows, session_place, session_fields, Adds, InStep}
use Rattle.journal.proofs.Headers.{header_fits}
use Rattle.journal.proofs.Tables.{open_begun}
use Rattle.journal.proofs.InStep.{as_session, follows_session, fields_same}
use Rattle.recorder.specs.declared.armed.ArmedSession.{ArmedSession}
use Rattle.recorder.specs.declared.State.{State}
use Rattle.recorder.specs.declared.State.TheVariants.{Unmounted, Mounted, Armed}
use Rattle.recorder.specs.declared.refusal.Refusal.{Refusal}
use Rattle.recorder.specs.declared.refusal.Refusal.TheVariants.{Unlawful}
use Rattle.recorder.specs.declared.failed.Failed.{Failed}
use Rattle.recorder.specs.Refusals.{unless, passed, format_refusal, begin_refusal, record_refusal, has_track, has_take, has_place, has_room, track_end}
use Rattle.recorder.specs.Formats
use Rattle.recorder.specs.Formats.{zeros, header_of, Prepared}
use Rattle.recorder.specs.Mounts.{IsLog}
use Rattle.recorder.specs.Entries.{next_sector, Arms}
use Rattle.recorder.proofs.Decides.{decided, arms}
use Rattle.recorder.proofs.Devices.{settled_refl}
use Rattle.sitting.specs.Events.{Item, Mount, Arm, Begin, Record, called, cut, Events}
use Rattle.sitting.specs.Sittings.{Sitting, formatted, goes_on}
use Rattle.sitting.proofs.LogFits.{entry_fits}
use Rattle.sitting.proofs.LogScheme.{epoch_at, log_lawful, zeros_not_sound}
use Rattle.sitting.proofs.ExampleSessions.{session_of}
use Rattle.sitting.proofs.ExampleDevices.{device, Whole, whole_one, whole_lawful, whole_written, whole_flushed, whole_cut, flushed, after_cut, writes, flushes, sector_long}

-- a test that holds
passes : (b : Bool) (x : Refusal) (later : Option Refusal) → b ≡ true → passed later ≡ Ok tt → passed (unless b x later) ≡ Ok tt
passes true x later e l = l
passes false x later e l = cc

-- where the log admits the begin of a take, and there is room, no refusal is due
begin_due : (s : Session) (size t p : ℕ) → SessionFollows s (BeginEntry t p) → session_place s < size → passed (begin_refusal s size t p) ≡ Ok tt
begin_due s size t p f l =
    passes (has_track s t) _ _ (and_from _ _ (le-leb 1 t f.2.0) (le-leb t s.header.tracks f.2.1))
    (passes (not (open_on (table_of s) t s.table.inner.count)) _ _ (not_from_false _ f.3.0)
    (passes (nat_le p (track_end s t)) _ _ (le-leb p (track_end s t) f.3.1)
    (passes (nat_lt s.table.inner.count 64) _ _ (lt-ltb s.table.inner.count 64 f.3.2)
    (passes (has_room s size) _ _ (lt-ltb (session_place s) size l) refl))))

-- nor of a block of lawful elements of the take's kind
record_due : (s : Session) (size k : ℕ) (kind : Kind) (n : ℕ) → SessionFollows s (BlockEntry k n) → kind ≡ kind_of s.header (table_of s k).track → session_place s < size
    → passed (record_refusal s size k kind n true) ≡ Ok tt
record_due s size k kind n f same l =
    let b = open_begun s.table.inner.rows s.table.inner.count k s.table.rest f.3 in
    let c = subst (λ (x : Kind). (1 ≤ n) × (n ≤ capacity_of x)) (sym same) f.2 in
    passes (has_take s k) _ _ (and_from _ _ (le-leb 1 k b.0) (le-leb k s.table.inner.count b.1))
    (passes (is_open (table_of s k).state) _ _ (ap is_open f.3)
    (passes (kind_number kind == kind_number (kind_of s.header (table_of s k).track)) _ _ (eq-eqb _ _ (ap kind_number same))
    (passes (has_place kind n) _ _ (and_from _ _ (le-leb 1 n c.0) (le-leb n (capacity_of kind) c.1))
    (passes true Unlawful _ refl
    (passes (has_room s size) _ _ (lt-ltb (session_place s) size l) refl)))))

-- what holds of the only element of a list holds of each
pub all_one : {X : Type 0} (P : X → Type 0) (x : X) → P x → All P (x ∷ [])
all_one P x p zero d l = p
all_one P x p (suc k) d l = absurd (omega arith)

-- zeros fill a sector
zeros_512 : length zeros ≡ 512
unfolding zeros
zeros_512 = length-replicate {A = ℕ} 512 0

module _ (hd : Header) where
  -- the sector of an entry
  pub sector : Log → LogEntry → List ℕ
  sector h e = entry_bytes hd h e

  -- `sector` and `header_sector` are shut, so that no check computes their bytes: these say what they are
  pub sector_is : (h : Log) (e : LogEntry) → sector h e ≡ entry_bytes hd h e
  unfolding sector
  sector_is h e = refl

  -- the header's sector
  pub header_sector : List ℕ
  header_sector = header_bytes hd

  pub header_is : header_sector ≡ header_bytes hd
  unfolding header_sector
  header_is = refl

  -- the sectors after a format
  abbrev pub after_format : ℕ → Sector
  after_format zero = held [] header_sector
  after_format (suc t) = held [] zeros

  -- the sectors after an entry was added to a log
  abbrev pub after_entry : Log → LogEntry → (ℕ → Sector) → ℕ → Sector
  after_entry h e at = written (next_place h) (sector h e) at

  -- and after an arming added its opening
  abbrev pub after_arm : Log → (ℕ → Sector) → ℕ → Sector
  after_arm h at = flushed (after_entry h opening (flushed at))

module _ (hd : Header) (ok : LawfulHeader hd) where
  -- the session of a log
  pub session : (h : Log) → Run hd h → Session
  session h r = (session_of hd ok h r).0

  -- it is in step with it, and has its header
  in_step : (h : Log) (r : Run hd h) → InStep (session h r) h
  unfolding session
  in_step h r = (session_of hd ok h r).1

  its_header : (h : Log) (r : Run hd h) → (session h r).header ≡ hd
  unfolding session
  its_header h r = (session_of hd ok h r).2

  -- a log with an entry has an armed session
  pub opened : (e : LogEntry) (h : Log) (r : Run hd (e ∷ h)) → 1 ≤ (session (e ∷ h) r).entries
  opened e h r = omega (arith, (in_step (e ∷ h) r).entries)

  abbrev pub armed : (e : LogEntry) (h : Log) → Run hd (e ∷ h) → ArmedSession
  armed e h r = record { session = session (e ∷ h) r; opened = opened e h r }

  -- the session of a log with an entry more
  adds : (h : Log) (e : LogEntry) (r : Run hd h) (a : Admits hd h e) → Adds (session h r) (outline e) (session (e ∷ h) (r, a))
  adds h e r a =
      let s = session h r in
      let i = in_step h r in
      let j = in_step (e ∷ h) (r, a) in
      let more : s.entries + 1 ≡ suc s.entries = omega arith in
      let step : (k : ℕ) → next_rows (next_place h) (count h) (rows h) (outline e) k ≡ next_rows (suc s.entries) s.table.inner.count (table_of s) (outline e) k =
      λ k. as_session s h i (λ m ep n E R. next_rows (next_place h) (count h) (rows h) (outline e) k ≡ next_rows (suc m) n R (outline e) k) refl in
      record {
        header = its_header (e ∷ h) (r, a) ∙ sym (its_header h r);
        entries = omega (arith, i.entries, j.entries);
        epoch = j.epoch ∙ epoch_step h e ∙ ap (λ (n : ℕ). next_epoch n (outline e)) (sym i.epoch);
        table = (
          fun_ext (λ k. j.rows k ∙ rows_step h e k ∙ step k ∙ ap (λ (p : ℕ). next_rows p s.table.inner.count (table_of s) (outline e) k) (sym more)),
          j.count ∙ count_step h e ∙ ap (λ (n : ℕ). next_count n (outline e)) (sym i.count),
        );
      }

  -- an entry may follow in the session where the log admits it
  follows : (h : Log) (e : LogEntry) (r : Run hd h) → Admits hd h e → SessionFollows (session h r) (outline e)
  follows h e r a =
      let s = session h r in
      (follows_session s h (in_step h r) e (subst (λ (x : Header). Admits x h e) (sym (its_header h r)) a)).0

  -- an entry's sector and the header's are 512 bytes long
  pub sector_512 : (h : Log) (e : LogEntry) → Run hd (e ∷ h) → length (sector hd h e) ≡ 512
  unfolding sector
  sector_512 h e r = sector_long _ _ (entry_fits hd ok h e r)

  header_512 : length (header_sector hd) ≡ 512
  unfolding header_sector
  header_512 = sector_long _ _ (header_fits hd ok)

  -- what a format leaves is whole
  pub whole_format : Whole (after_format hd)
  whole_format zero = whole_one (header_sector hd) header_512
  whole_format (suc t) = whole_one zeros zeros_512

  -- each content still has 512 bytes after an entry was added
  pub whole_after_entry : (h : Log) (e : LogEntry) (at : ℕ → Sector) → Run hd (e ∷ h) → Whole at → Whole (after_entry hd h e at)
  whole_after_entry h e at r w = whole_written (next_place h) (sector hd h e) at (sector_512 h e r) w

  pub whole_after_arm : (h : Log) (at : ℕ → Sector) → Run hd (opening ∷ h) → Whole at → Whole (after_arm hd h at)
  whole_after_arm h at r w = whole_flushed (after_entry hd h opening (flushed at)) (whole_after_entry h opening (flushed at) r (whole_flushed at w))

  -- an entry's sector is the one that the session gives
  next_is : (h : Log) (e : LogEntry) (r : Run hd h) → sector hd h e ≡ next_sector (session h r) (outline e) (payload e)
  next_is h e r =
      let s = session h r in
      let fields = subst (λ (x : Header). entry_fields x (next_place h) (epoch h) (count h) (rows h) (outline e) ≡ session_fields s (outline e)) (its_header h r)
      (fields_same s h (in_step h r) (outline e)) in
      sector_is hd h e ∙ ap (λ (f : Fields). sector_bytes f (padded (payload e))) fields

  module _ (layer : ℕ) where
    -- the entry's sector is written in the next place
    writes_entry : (h : Log) (e : LogEntry) (r : Run hd h) (at : ℕ → Sector) → next_place h < 8 → sick_fault (at (next_place h)) ≡ None
        → Writes layer (device at) (session_place (session h r)) (next_sector (session h r) (outline e) (payload e)) (Ok tt) (device (written (next_place h) (sector hd h e) at))
    writes_entry h e r at l well =
        let p : next_place h ≡ session_place (session h r) = omega (arith, (in_step h r).entries) in
        subst₂ (λ (q : ℕ) (c : List ℕ). Writes layer (device at) q c (Ok tt) (device (written (next_place h) (sector hd h e) at))) p (next_is h e r)
        (writes layer (next_place h) (sector hd h e) at l well)

    module _ (es : Events) (at : ℕ → Sector) (w : Whole at) where
      -- a mount finds the log
      pub mounts : (h : Log) (r : Run hd h) → IsLog hd (device at) h → Sitting layer hd es Unmounted (device at)
          → Sitting layer hd (called Mount (Ok (length h)) false ∷ es) (Mounted (session h r)) (device at)
      mounts h r log z =
          goes_on Unmounted (device at) z (
            record {
              session = session h r;
              log = h;
              power = refl;
              state = refl;
              is_log = subst (λ (x : Header). IsLog x (device at) h) (sym (its_header h r)) log;
              step = in_step h r;
              count = refl;
              kept = settled_refl (device at);
            },
            refl,
          ) (whole_lawful at w)

      -- a cut
      pub cuts : (plan : List ℕ) (st : State) → Sitting layer hd es st (device at) → Sitting layer hd (cut ∷ es) Unmounted (device (after_cut plan at))
      cuts plan st z = goes_on st (device at) z (refl, cut_by_plan plan (device at) (device (after_cut plan at)) refl) (whole_lawful (after_cut plan at) (whole_cut plan at w))

      -- an arming adds the opening
      pub arms_on : (h : Log) (r : Run hd h) (a : Admits hd h opening) → next_place h < 8 → sick_fault (flushed at (next_place h)) ≡ None → Sitting layer hd es (Mounted (session h r)) (device at)
          → Sitting layer hd (called Arm (Ok (epoch (opening ∷ h))) false ∷ es) (Armed (armed opening h (r, a))) (device (after_arm hd h at))
      arms_on h r a l well z =
          let s = session h r in
          let i = in_step h r in
          let room : session_place s < 8 = omega (arith, i.entries) in
          let first = flushed at in
          let second = written (next_place h) (sector hd h opening) first in
          let did = arms layer s (armed opening h (r, a)) (device at) (device first) (device second) (device (after_arm hd h at)) (padded [])
          (passes (has_room s 8) _ _ (lt-ltb (session_place s) 8 room) refl) (flushes at) (writes_entry h opening r first l well) (flushes second) refl (adds h opening r a) in
          goes_on (Mounted s) (device at) z
          (subst (λ (n : ℕ). Arms layer (Mounted s) (device at) (Ok n) (Armed (armed opening h (r, a))) (device (after_arm hd h at))) (in_step (opening ∷ h) (r, a)).epoch did, refl)
          (whole_lawful (after_arm hd h at) (whole_after_arm h at (r, a) w))

      -- the begin of a take
      pub begins : (t p : ℕ) (e : LogEntry) (h : Log) (r : Run hd (e ∷ h)) (a : Admits hd (e ∷ h) (begin t p)) → next_place (e ∷ h) < 8 → sick_fault (at (next_place (e ∷ h))) ≡ None
          → Sitting layer hd es (Armed (armed e h r)) (device at)
          → Sitting layer hd (called (Begin t p) (Ok (suc (count (e ∷ h)))) false ∷ es) (Armed (armed (begin t p) (e ∷ h) (r, a))) (device (after_entry hd (e ∷ h) (begin t p) at))
      begins t p e h r a l well z =
          let s = session (e ∷ h) r in
          let i = in_step (e ∷ h) r in
          let room : session_place s < 8 = omega (arith, i.entries) in
          let n : suc (count (e ∷ h)) ≡ s.table.inner.count + 1 = omega (arith, i.count) in
          goes_on (Armed (armed e h r)) (device at) z (
            decided (begin_refusal s 8 t p) _ _ _ _ _ _ (begin_due s 8 t p (follows (e ∷ h) (begin t p) r a) room)
                (record { write = Ok tt; did = writes_entry (e ∷ h) (begin t p) r at l well; says = ap {B = Result ℕ Failed} Ok n; after = adds (e ∷ h) (begin t p) r a }),
            refl,
          )
          (whole_lawful (after_entry hd (e ∷ h) (begin t p) at) (whole_after_entry (e ∷ h) (begin t p) at (r, a) w))

      -- a block of one element
      pub records : (k n : ℕ) (kind : Kind) (x : List ℕ) (e : LogEntry) (h : Log) (r : Run hd (e ∷ h)) (a : Admits hd (e ∷ h) (block k (x ∷ []))) → next_place (e ∷ h) < 8 → sick_fault (at (next_place (e ∷ h))) ≡ None
          → kind ≡ kind_of hd (rows (e ∷ h) k).track → n ≡ (rows (e ∷ h) k).len + 1
          → Sitting layer hd es (Armed (armed e h r)) (device at)
          → Sitting layer hd (called (Record kind k ((record { lawful = true; bytes = x }) ∷ [])) (Ok n) false ∷ es) (Armed (armed (block k (x ∷ [])) (e ∷ h) (r, a))) (device (after_entry hd (e ∷ h) (block k (x ∷ [])) at))
      records k n kind x e h r a l well same long z =
          let s = session (e ∷ h) r in
          let i = in_step (e ∷ h) r in
          let room : session_place s < 8 = omega (arith, i.entries) in
          let took = table_of s k in
          let kinds : kind ≡ kind_of s.header took.track =
          same ∙ ap (λ (c : Header). kind_of c (rows (e ∷ h) k).track) (sym (its_header (e ∷ h) r)) ∙ ap (λ (c : Row). kind_of s.header c.track) (sym (i.rows k)) in
          let longer : n ≡ took.len + 1 = long ∙ ap (λ (c : Row). c.len + 1) (sym (i.rows k)) in
          let lawful = subst (λ (c : Kind). LawfulElement c x) (sym same) (a.1 0 x (omega arith)) in
          goes_on (Armed (armed e h r)) (device at) z (
            (
              all_one (λ (c : Item). c.lawful ≡ true → LawfulElement kind c.bytes) (record { lawful = true; bytes = x }) (λ t. lawful),
              decided (record_refusal s 8 k kind 1 true) _ _ _ _ _ _ (record_due s 8 k kind 1 (follows (e ∷ h) (block k (x ∷ [])) r a) kinds room)
                  (record { write = Ok tt; did = writes_entry (e ∷ h) (block k (x ∷ [])) r at l well; says = ap {B = Result ℕ Failed} Ok longer; after = adds (e ∷ h) (block k (x ∷ [])) r a }),
            ),
            refl,
          )
          (whole_lawful (after_entry hd (e ∷ h) (block k (x ∷ [])) at) (whole_after_entry (e ∷ h) (block k (x ∷ [])) at (r, a) w))

    -- a format of a blank device
    pub formats : (kinds : List ℕ) (rate sitting : ℕ) → sitting < 4294967296 → hd ≡ header_of kinds rate sitting → passed (format_refusal 8 kinds rate) ≡ Ok tt
        → Sitting layer hd [] Unmounted (device (after_format hd))
    formats kinds rate sitting fits is due =
        let blank : ℕ → Sector = λ t. held [] zeros in
        let each : (t : ℕ) → after_format hd t ≡ Formats.formatted hd t (held [] zeros) = elim [ zero ↦ ap (held []) (header_is hd) | suc t ↦ refl ] in
        let prepared : Prepared hd (device blank) (device (after_format hd)) = record { size = refl; power = refl; first = refl; each = λ t l. each t } in
        formatted kinds rate sitting 8 (device blank) fits is
        (decided (format_refusal 8 kinds rate) _ _ _ _ _ _ due (refl, (refl, subst (λ (x : Header). Prepared x (device blank) (device (after_format hd))) is prepared)))
        (whole_lawful (after_format hd) whole_format)

  -- zeros do not continue a log
  pub blank_ends : (h : Log) → Run hd h → Continues hd h zeros → ⊥
  blank_ends h r (e, a, q) = zeros_not_sound (subst SoundSector (sym q) ((log_lawful hd ok).sound h e (r, a)))

  -- nor does a sector of an older epoch
  pub older_ends : (h g : Log) (d : LogEntry) → Run hd h → Run hd (d ∷ g) → epoch (d ∷ g) < epoch h → Continues hd h (sector hd g d) → ⊥
  older_ends h g d r q old (e, a, same) =
      let L = log_lawful hd ok in
      let was : epoch_at (entry_bytes hd g d) ≡ epoch (d ∷ g) = L.dated g d q in
      let is : epoch_at (entry_bytes hd h e) ≡ epoch (e ∷ h) = L.dated h e (r, a) in
      let one : epoch (d ∷ g) ≡ epoch (e ∷ h) = sym was ∙ ap epoch_at (sym (sector_is hd g d) ∙ same) ∙ is in
      omega (arith, L.grows h e)
