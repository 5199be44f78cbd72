-- A mount's search for the log, read by read.
use Rattle.std.proofs.Common.{◌≡◌, ℕ, ◌+◌, ◌<◌, ◌≤◌, true, false, List, ◌∷◌, Option, Some, None, Ok, Err, is_some, sym, refl, ap, ◌∙◌, subst, arith}
use Rattle.device.specs.declared.fault.Cause.TheVariants.{Sick}
use Rattle.device.specs.declared.fault.Fault.{Fault}
use Rattle.device.specs.Meaning.{Meaning, Lawful as LawfulDevice, newest}
use Rattle.device.specs.Calls.{Reads, sick_fault}
use Rattle.sector.specs.Layout.{payload_of}
use Rattle.takes.specs.declared.Outline.{Outline}
use Rattle.takes.specs.Entries.{next_place}
use Rattle.journal.specs.declared.header.Header.{Header}
use Rattle.journal.specs.declared.session.Session.{Session}
use Rattle.journal.specs.Headers.{Lawful, header_bytes}
use Rattle.journal.specs.Log.{LogEntry, Continues, told}
use Rattle.journal.specs.Sessions.{table_of, Absorbs}
use Rattle.recorder.specs.declared.State.TheVariants.{Mounted}
use Rattle.recorder.specs.Devices.{Settled, Lost, Readable}
use Rattle.recorder.specs.Mounts.{Found, FoundLog, Seeking, Sought}
use Rattle.recorder.proofs.Devices.{kept_newest, kept_sick, settled_trans, HasRead, read, not_read, Halt, at_sick, off, halted}

module _ (start m : Meaning) (s : Session) (i : Seeking start s m) where
  place : s.entries + 1 ≡ next_place i.log
  place = omega (arith, i.step.entries)

  -- the next sector holds what it held at the start
  unchanged : newest (start.sector (next_place i.log)) ≡ newest (m.sector (s.entries + 1))
  unchanged = ap (λ (p : ℕ). newest (start.sector p)) (sym place) ∙ sym (kept_newest (start.sector (s.entries + 1)) (m.sector (s.entries + 1)) (i.kept.each (s.entries + 1)))

  readable : Readable m (s.entries + 1) → Readable start (next_place i.log)
  readable r =
      let there : Readable start (s.entries + 1) =
      (omega (arith, i.kept.size, r.0), sym (kept_sick (start.sector (s.entries + 1)) (m.sector (s.entries + 1)) (i.kept.each (s.entries + 1))) ∙ r.1) in
      subst (λ (p : ℕ). Readable start p) place there

  -- the log ends at the next place
  pub ended : (m' : Meaning) → Settled start m' → (Readable start (next_place i.log) → Continues s.header i.log (newest (start.sector (next_place i.log))) → ⊥)
      → FoundLog start s.entries (Mounted s) m'
  ended m' kept ends =
      record {
        session = s;
        log = i.log;
        power = i.power;
        state = refl;
        is_log = record { lawful = i.lawful; header = i.header; run = i.step.run; found = i.found; ends = ends };
        step = i.step;
        count = i.step.entries;
        kept = kept;
      }

  taken : (m' : Meaning) (sector : List ℕ) (o : Outline) (s' : Session) → HasRead m (s.entries + 1) m' sector → Absorbs s sector (Some o) s'
      → Sought start s (Ok true) s' m'
  taken m' sector o s' r a =
      let t = a i.log i.step in
      let e : LogEntry = told s.header (table_of s) (payload_of sector) o in
      let n = t.after.entries in
      let found : Found s.header start (e ∷ i.log) = (i.found, readable r.free.readable, unchanged ∙ sym r.buffer ∙ t.bytes) in (
        record {
          log = e ∷ i.log;
          lawful = subst Lawful (sym t.header) i.lawful;
          header = i.header ∙ ap header_bytes (sym t.header);
          step = t.after;
          found = subst (λ (hd : Header). Found hd start (e ∷ i.log)) (sym t.header) found;
          power = i.power;
          kept = settled_trans start m m' i.kept r.kept;
        },
        omega (arith, i.step.entries),
      )

  not_taken : (m' : Meaning) (sector : List ℕ) (s' : Session) → HasRead m (s.entries + 1) m' sector → Absorbs s sector None s'
      → Sought start s (Ok false) s' m'
  not_taken m' sector s' r a =
      subst (λ (x : Session). FoundLog start x.entries (Mounted x) m') (sym a.0)
      (ended m' (settled_trans start m m' i.kept r.kept)
      (λ there k. a.1 i.log i.step (subst (λ (x : List ℕ). Continues s.header i.log x) (unchanged ∙ sym r.buffer) k)))

  given : (m' : Meaning) (sector : List ℕ) (o : Option Outline) (s' : Session) → HasRead m (s.entries + 1) m' sector → Absorbs s sector o s'
      → Sought start s (Ok (is_some o)) s' m'
  given m' sector (Some o) s' r a = taken m' sector o s' r a
  given m' sector None s' r a = not_taken m' sector s' r a

  pub sought : (layer : ℕ) (m' : Meaning) (buffer sector : List ℕ) (o : Option Outline) (s' : Session) → Reads layer m (s.entries + 1) buffer (Ok tt) m' sector
      → Absorbs s sector o s' → Sought start s (Ok (is_some o)) s' m'
  sought layer m' buffer sector o s' r a = given m' sector o s' (read layer m m' (s.entries + 1) buffer sector r) a

  module _ (layer : ℕ) (m' : Meaning) (buffer sector : List ℕ) (f : Fault) (law : LawfulDevice m) (law' : LawfulDevice m') (lt : s.entries + 1 < start.size)
      (r : Reads layer m (s.entries + 1) buffer (Err f) m' sector) where
    halts : Halt start (s.entries + 1) f m'
    halts = halted layer start m m' (s.entries + 1) f law law' i.power lt i.kept (not_read layer m m' (s.entries + 1) buffer sector f r).0

    at_sick_end : Halt start (s.entries + 1) f m' → f.cause ≡ Sick → FoundLog start s.entries (Mounted s) m'
    at_sick_end (at_sick c sick kept) e =
        ended m' kept (λ there k. let w : sick_fault (start.sector (s.entries + 1)) ≡ None = ap (λ (p : ℕ). sick_fault (start.sector p)) place ∙ there.1 in cc)
    at_sick_end (off c lost) e = cc

    at_loss : Halt start (s.entries + 1) f m' → (f.cause ≡ Sick → ⊥) → Lost f start m'
    at_loss (at_sick c sick kept) ne = absurd (ne c)
    at_loss (off c lost) ne = lost

    pub sick_ends : f.cause ≡ Sick → FoundLog start s.entries (Mounted s) m'
    sick_ends e = at_sick_end halts e

    pub loss_ends : (f.cause ≡ Sick → ⊥) → Lost f start m'
    loss_ends ne = at_loss halts ne

-- the search came to the last sector of the device
pub found_all : (start m : Meaning) (s : Session) (i : Seeking start s m) → start.size ≤ s.entries + 1 → FoundLog start s.entries (Mounted s) m
found_all start m s i le = ended start m s i m i.kept (λ r k. absurd (omega (arith, r.0, i.step.entries)))
