-- A call that adds an entry is a step of the theory.
use Rattle.std.proofs.Common.{◌≡◌, ℕ, suc, Bool, ◌⊎◌, List, ◌∷◌, length, Some, None, Option, Ok, Err, Result, sym, refl, ap, ◌∙◌, subst, subst₂, ap₂, inl, inr, ⊎_elim, arith}
use Rattle.device.specs.declared.fault.Fault.{Fault}
use Rattle.device.specs.Faults.{Answer}
use Rattle.device.specs.Meaning.{Meaning}
use Rattle.device.specs.Calls.{ByAnswer, ByFault, Writes, Refused, Went, Accepted, standing, written}
use Rattle.sector.specs.declared.layout.Fields.{Fields}
use Rattle.sector.specs.Layout.{sector_bytes}
use Rattle.takes.specs.Entries.{outline}
use Rattle.journal.specs.declared.header.Header.{Header}
use Rattle.journal.specs.declared.session.Session.{Session}
use Rattle.journal.specs.Headers.{padded}
use Rattle.journal.specs.Log.{LogEntry, Log, Run, LawfulElements, Admits, entry_bytes, payload}
use Rattle.journal.specs.Sessions.{table_of, SessionFollows, session_place, Adds}
use Rattle.journal.proofs.InStep.{follows_log, fields_same, in_step_after}
use Rattle.recorder.specs.declared.State.{State}
use Rattle.recorder.specs.declared.State.TheVariants.{Unmounted, Mounted, Armed}
use Rattle.recorder.specs.declared.armed.ArmedSession.{ArmedSession}
use Rattle.recorder.specs.declared.failed.Name.{Name}
use Rattle.recorder.specs.declared.failed.Failed.{Failed}
use Rattle.recorder.specs.declared.failed.Failed.TheVariants.{Faulted}
use Rattle.recorder.specs.Answers.{answered, OfArmed}
use Rattle.recorder.specs.Devices.{Readable}
use Rattle.recorder.specs.Entries.{next_sector, Added}
use Rattle.recorder.proofs.Devices.{free, HasWritten, LostWriting, wrote, not_written}
use Rattle.sitting.specs.Books.{Book, with_entry, in_doubt}
use Rattle.sitting.specs.Events.{entered}
use Rattle.sitting.specs.Sittings.{went_off}
use Rattle.sitting.proofs.Disks.{Tears}
use Rattle.sitting.proofs.Disks
use Rattle.sitting.proofs.Runs.{Event, Recorder, armed, Step, add, add_fault}
use Rattle.sitting.proofs.Runs
use Rattle.sitting.proofs.LogScheme.{IsOpening, log_scheme}
use Rattle.sitting.proofs.Projections.{on, disk, writes, tears}
use Rattle.sitting.proofs.Links.{Keeps, Goes, Advances, stays_as, noted_as, unchanged}

-- a write that answers a fault: the fault stood, and nothing changed; or power went off, and the sector was there and not sick
pub unwritten : (layer : ℕ) (m m' : Meaning) (p : ℕ) (c : List ℕ) (f : Fault) → Writes layer m p c (Err f) m'
    → ((standing layer m p ≡ Some f) × (m' ≡ m)) ⊎ (LostWriting f m p c m' × Readable m p)
unwritten layer m m' p c f h = go (standing layer m p) refl
  where
    go : (o : Option Fault) → standing layer m p ≡ o → ((standing layer m p ≡ Some f) × (m' ≡ m)) ⊎ (LostWriting f m p c m' × Readable m p)
    go (Some g) e =
        let k = subst (λ (o : Option Fault). ByFault o (λ x. Refused x m (Err f) m') (Went m (written p c m.sector) (Accepted (written p c m.sector) m') (Err f) m')) e h in
        let q = k.says in inl (cc, k.same)
    go None e = ⊎_elim (λ t. absurd (let z = t.0 in cc)) (λ l. inr (l, (free layer m p e).readable)) (not_written layer m m' p c f h)

-- a session of a log
module _ (hd : Header) (s : Session) (h : Log) (k : Keeps hd s h) where
  -- the entry's place
  pub place_same : session_place s ≡ suc (length h)
  place_same = let n = k.step.entries in omega arith

  module _ (e : LogEntry) (f : SessionFollows s (outline e)) (l : LawfulElements s.header (table_of s) e) where
    admitted : Admits s.header h e
    admitted = follows_log s h k.step e f l

    -- the log goes on with the entry
    pub runs : Run hd (e ∷ h)
    runs = subst (λ (x : Header). Run x (e ∷ h)) k.header (k.step.run, admitted)

    -- the entry's sector
    pub sector_same : (elements : List ℕ) → elements ≡ payload e → next_sector s (outline e) elements ≡ entry_bytes hd h e
    sector_same elements q =
        ap₂ (λ (x : Fields) (y : List ℕ). sector_bytes x (padded y)) (sym (fields_same s h k.step (outline e))) q ∙ ap (λ (x : Header). entry_bytes x h e) k.header

    -- the session after it
    pub keeps_after : (s' : Session) → Adds s (outline e) s' → Keeps hd s' (e ∷ h)
    keeps_after s' a = record { step = in_step_after s h k.step s' e admitted a; header = a.header ∙ k.header }

    -- an armed recorder after it
    pub armed_after : (st' : State) → OfArmed st' (λ s'. Adds s (outline e) s') → Goes hd st' (armed (e ∷ h))
    armed_after Unmounted a = absurd a
    armed_after (Mounted s') a = absurd a
    armed_after (Armed a') a = keeps_after a'.session a

module _ (layer : ℕ) (hd : Header) (a : ArmedSession) (h : Log) (k : Keeps hd a.session h) (e : LogEntry) (o : ¬ (IsOpening e)) (f : SessionFollows a.session (outline e)) (l : LawfulElements a.session.header (table_of a.session) e)
    (elements : List ℕ) (q : elements ≡ payload e) (m : Meaning) (st' : State) (m' : Meaning) where
  abbrev Enters : (Book LogEntry → Book LogEntry) → Type 0
  Enters change = Advances hd (armed h) m st' m' change

  the_place : session_place a.session ≡ suc (length h)
  the_place = place_same hd a.session h k

  the_sector : next_sector a.session (outline e) elements ≡ entry_bytes hd h e
  the_sector = sector_same hd a.session h k e f l elements q

  -- the entry was written
  entry_written : HasWritten m (session_place a.session) (next_sector a.session (outline e) elements) m' → OfArmed st' (λ s'. Adds a.session (outline e) s') → Enters (with_entry e)
  entry_written w d = record {
    after = armed (e ∷ h);
    told = Runs.Added e;
    step = subst (λ (x : Bool). Step (log_scheme hd) (disk m) (disk m') x (armed h) (Runs.Added e) (on m'.power) (armed (e ∷ h))) (sym (ap on w.free.power))
        (add e o (runs hd a.session h k e f l)
        (subst₂ (λ (p : ℕ) (c : List ℕ). Disks.Writes p c (disk m) (disk m')) the_place the_sector (writes m m' _ _ w.free.readable w)));
    goes = armed_after hd a.session h k e f l st' d;
    notes = λ b. refl;
    proper = λ z. cc;
  }

  -- power went off in the write
  entry_torn : (g : Fault) → LostWriting g m (session_place a.session) (next_sector a.session (outline e) elements) m' → Readable m (session_place a.session) → st' ≡ Armed a → Enters (in_doubt e)
  entry_torn g w there same = record {
    after = armed h;
    told = Runs.Doubted e;
    step = subst₂ (λ (x y : Bool). Step (log_scheme hd) (disk m) (disk m') x (armed h) (Runs.Doubted e) y (armed h)) (sym (ap on w.before)) (sym (ap on w.after))
        (add_fault e o (runs hd a.session h k e f l)
        (subst₂ (λ (p : ℕ) (c : List ℕ). Tears p c (disk m) (disk m')) the_place the_sector (tears m m' _ _ there g w)));
    goes = subst (λ (x : State). Goes hd x (armed h)) (sym same) k;
    notes = λ b. refl;
    proper = λ z. cc;
  }

  module _ (call : Name) (t take answer : ℕ) where
    by_write : (w : Answer) → Writes layer m (session_place a.session) (next_sector a.session (outline e) elements) w m'
        → ByAnswer w (OfArmed st' (λ s'. Adds a.session (outline e) s')) (λ g. st' ≡ Armed a) → Enters (entered e (answered call t take answer w) (went_off m.power m'.power))
    by_write (Ok x) w d = entry_written (wrote layer m m' _ _ w) d
    by_write (Err g) w d = ⊎_elim stood went (unwritten layer m m' _ _ g w)
      where
        stood : (standing layer m (session_place a.session) ≡ Some g) × (m' ≡ m) → Enters (entered e (Err (Faulted call t take g)) (went_off m.power m'.power))
        stood z =
            noted_as hd (armed h) m st' m' (λ b. b) (entered e (Err (Faulted call t take g)) (went_off m.power m'.power))
            (λ b. ap (λ (x : Bool). entered e (Err (Faulted call t take g)) x b) (sym (ap (λ (n : Meaning). went_off m.power n.power) z.1 ∙ stays_as m.power)))
            (unchanged hd (armed h) m st' m' (Armed a) d k z.1)

        went : LostWriting g m (session_place a.session) (next_sector a.session (outline e) elements) m' × Readable m (session_place a.session)
            → Enters (entered e (Err (Faulted call t take g)) (went_off m.power m'.power))
        went z =
            noted_as hd (armed h) m st' m' (in_doubt e) (entered e (Err (Faulted call t take g)) (went_off m.power m'.power))
            (λ b. ap (λ (x : Bool). entered e (Err (Faulted call t take g)) x b) (sym (ap₂ went_off z.0.before z.0.after)))
            (entry_torn g z.0 z.1 d)

    pub enters : (r : Result ℕ Failed) (off : Bool) → Added layer (Armed a) a.session (outline e) elements call t take answer m r st' m' → off ≡ went_off m.power m'.power
        → Advances hd (armed h) m st' m' (entered e r off)
    enters r off d z =
        noted_as hd (armed h) m st' m' (entered e (answered call t take answer d.write) (went_off m.power m'.power)) (entered e r off)
        (λ b. ap₂ (λ (x : Result ℕ Failed) (y : Bool). entered e x y b) (sym d.says) (sym z)) (by_write d.write d.did d.after)
