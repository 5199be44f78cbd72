-- What joins a recorder and its device to the theory.
use Rattle.std.proofs.Common.{◌≡◌, Bool, true, false, Some, None, Option, Ok, Err, Result, sym, refl, ap, ◌∙◌, subst, subst₂}
use Rattle.device.specs.declared.fault.Fault.{Fault}
use Rattle.device.specs.Faults.{Answer}
use Rattle.device.specs.Meaning.{Meaning}
use Rattle.journal.specs.declared.header.Header.{Header}
use Rattle.journal.specs.declared.session.Session.{Session}
use Rattle.journal.specs.Log.{LogEntry, Log}
use Rattle.journal.specs.Sessions.{InStep}
use Rattle.recorder.specs.declared.State.{State}
use Rattle.recorder.specs.declared.State.TheVariants.{Unmounted, Mounted, Armed}
use Rattle.recorder.specs.declared.failed.Failed.{Failed}
use Rattle.recorder.specs.declared.failed.Failed.TheVariants.{Refused}
use Rattle.recorder.specs.declared.refusal.Refusal.{Refusal}
use Rattle.recorder.specs.Refusals.{unless}
use Rattle.recorder.specs.Answers.{Decided}
use Rattle.recorder.specs.Devices.{Settled, Lost}
use Rattle.recorder.proofs.Devices.{settled_off}
use Rattle.sitting.specs.Books.{Book}
use Rattle.sitting.specs.Sittings.{went_off}
use Rattle.sitting.proofs.Runs.{Event, Nothing, Formatted, note, Recorder, unmounted, mounted, armed, Step, refuse, keep, fault}
use Rattle.sitting.proofs.LogScheme.{log_scheme}
use Rattle.sitting.proofs.Projections.{on, disk, settles, thins}

-- a session and a history that go together: the session is that of the log, and its header is this one
pub record Keeps (hd : Header) (s : Session) (h : Log) : Type 0 where
  pub step : InStep s h
  pub header : s.header ≡ hd

-- the recorder and the theory's are in the same phase, and go by the same log
abbrev pub Goes : Header → State → Recorder LogEntry → Type 0
Goes hd Unmounted unmounted = Unit {0}
Goes hd Unmounted (mounted h) = ⊥
Goes hd Unmounted (armed h) = ⊥
Goes hd (Mounted s) unmounted = ⊥
Goes hd (Mounted s) (mounted h) = Keeps hd s h
Goes hd (Mounted s) (armed h) = ⊥
Goes hd (Armed a) unmounted = ⊥
Goes hd (Armed a) (mounted h) = ⊥
Goes hd (Armed a) (armed h) = Keeps hd a.session h

-- a step of the theory, from a recorder r over one device to the state that is left over another: how it changes the book
pub record Advances (hd : Header) (r : Recorder LogEntry) (m : Meaning) (st' : State) (m' : Meaning) (change : Book LogEntry → Book LogEntry) : Type 0 where
  pub after : Recorder LogEntry
  pub told : Event LogEntry
  pub step : Step (log_scheme hd) (disk m) (disk m') (on m.power) r told (on m'.power) after
  pub goes : Goes hd st' after
  pub notes : (k : Book LogEntry) → note told k ≡ change k
  pub proper : ¬ (told ≡ Formatted)

pub stays_as : (a : Answer) → went_off a a ≡ false
stays_as (Ok x) = refl
stays_as (Err f) = refl

module _ (hd : Header) (r : Recorder LogEntry) (m : Meaning) (st' : State) (m' : Meaning) where
  -- the same step, with the book's change told otherwise
  pub noted_as : (P Q : Book LogEntry → Book LogEntry) → ((k : Book LogEntry) → P k ≡ Q k) → Advances hd r m st' m' P → Advances hd r m st' m' Q
  noted_as P Q e a = record { after = a.after; told = a.told; step = a.step; goes = a.goes; notes = λ k. a.notes k ∙ e k; proper = a.proper }

  module _ (st : State) (same : st' ≡ st) (g : Goes hd st r) where
    still : Goes hd st' r
    still = subst (λ (x : State). Goes hd x r) (sym same) g

    -- a step that tells the book nothing and leaves the recorder as it was
    quiet : Step (log_scheme hd) (disk m) (disk m') (on m.power) r Nothing (on m'.power) r → Advances hd r m st' m' (λ k. k)
    quiet s = record { after = r; told = Nothing; step = s; goes = still; notes = λ k. refl; proper = λ e. cc }

    -- nothing changes
    pub unchanged : m' ≡ m → Advances hd r m st' m' (λ k. k)
    unchanged e = quiet (subst (λ (x : Meaning). Step (log_scheme hd) (disk m) (disk x) (on m.power) r Nothing (on x.power) r) (sym e) (refuse (λ p. refl)))

    -- power went off, and nothing was written
    pub lost : (f : Fault) → Lost f m m' → Advances hd r m st' m' (λ k. k)
    lost f h =
        quiet (subst₂ (λ (x y : Bool). Step (log_scheme hd) (disk m) (disk m') x r Nothing y r) (sym (ap on h.before)) (sym (ap on h.after)) (fault (thins m m' f h)))

    -- device calls were accepted that write nothing
    pub settled : m.power ≡ Ok tt → Settled m m' → Advances hd r m st' m' (λ k. k)
    settled e h = go m'.power refl
      where
        go : (a : Answer) → m'.power ≡ a → Advances hd r m st' m' (λ k. k)
        go (Ok x) i = quiet (subst₂ (λ (x y : Bool). Step (log_scheme hd) (disk m) (disk m') x r Nothing y r) (sym (ap on e)) (sym (ap on i)) (keep (settles m m' h)))
        go (Err f) i = lost f (settled_off f m m' e h i)

-- a test that no refusal is due of holds, and none is due of what follows
pub unless_none : (b : Bool) (x : Refusal) (later : Option Refusal) → unless b x later ≡ None → (b ≡ true) × (later ≡ None)
unless_none true x later e = (refl, e)
unless_none false x later e = cc

-- a call that is refused changes nothing; and else what it does
pub decided : {A : Type 0} (hd : Header) (r : Recorder LogEntry) (m : Meaning) (st st' : State) (m' : Meaning) → Goes hd st r → (o : Option Refusal) (answer : Result A Failed) (change : Result A Failed → Book LogEntry → Book LogEntry)
    (P : Type 0) → ((x : Refusal) (b : Book LogEntry) → b ≡ change (Err (Refused x)) b) → (o ≡ None → P → Advances hd r m st' m' (change answer)) → Decided o answer st m st' m' P → Advances hd r m st' m' (change answer)
decided {A = A} hd r m st st' m' g (Some x) answer change P none done (e, same, still) =
    noted_as hd r m st' m' (λ b. b) (change answer) (λ b. none x b ∙ ap (λ (y : Result A Failed). change y b) (sym e)) (unchanged hd r m st' m' st same g still)
decided hd r m st st' m' g None answer change P none done p = done refl p
