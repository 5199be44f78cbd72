-- The calls that add an entry, and save.
use Rattle.std.specs.Prelude.{◌≡◌, ℕ, ◌+◌, Bool, List, [], length, Result, Err}
use Rattle.std.specs.List.{flat_map, list_all}
use Rattle.device.specs.declared.fault.Fault.{Fault}
use Rattle.device.specs.Faults.{Answer}
use Rattle.device.specs.Meaning.{Meaning}
use Rattle.device.specs.Calls.{ByAnswer, Writes, Flushes}
use Rattle.sector.specs.Layout.{sector_bytes}
use Rattle.element.specs.declared.kind.Kind.{Kind}
use Rattle.takes.specs.declared.Outline.{Outline}
use Rattle.takes.specs.declared.Outline.TheVariants.{Opening as OpeningEntry, Begin as BeginEntry, Block as BlockEntry, Trailer as TrailerEntry, Withdrawal as WithdrawalEntry}
use Rattle.journal.specs.declared.session.Session.{Session}
use Rattle.journal.specs.Headers.{padded}
use Rattle.journal.specs.Sessions.{table_of, session_place, session_fields, Adds}
use Rattle.recorder.specs.declared.armed.ArmedSession.{ArmedSession}
use Rattle.recorder.specs.declared.State.{State}
use Rattle.recorder.specs.declared.State.TheVariants.{Mounted, Armed}
use Rattle.recorder.specs.declared.call.Call.TheVariants.{Arm, Save, Begin, End, Withdraw}
use Rattle.recorder.specs.declared.failed.Name.{Name}
use Rattle.recorder.specs.declared.failed.Name.TheVariants.{Arm as ArmCall, Save as SaveCall, Begin as BeginCall, Record as RecordCall, End as EndCall, Withdraw as WithdrawCall}
use Rattle.recorder.specs.declared.failed.Failed.{Failed}
use Rattle.recorder.specs.declared.failed.Stopped.{Stopped}
use Rattle.recorder.specs.declared.failed.Failed.TheVariants.{Faulted}
use Rattle.recorder.specs.Refusals.{chosen, if_armed, record_refusal, refusal}
use Rattle.recorder.specs.Answers.{answered, told_result, Decided, OfArmed, OfMounted}

-- the sector of an entry at a session's next place, with the elements of a block by their bytes
abbrev pub next_sector : Session → Outline → List ℕ → List ℕ
next_sector s o elements = sector_bytes (session_fields s o) (padded elements)

-- The entry's sector is written at the next place. If the device accepts that, the answer is a, and the recorder goes on with the
-- entry; if it answers a fault, the fault is told, and the recorder stays as it was.
pub record Added {A : Type 0} (layer : ℕ) (st : State) (s : Session) (o : Outline) (elements : List ℕ) (call : Name) (t k : ℕ) (a : A) (m : Meaning) (r : Result A Failed) (st' : State) (m' : Meaning) : Type 0 where
  pub write : Answer
  pub did : Writes layer m (session_place s) (next_sector s o elements) write m'
  pub says : r ≡ answered call t k a write
  pub after : ByAnswer write (OfArmed st' (λ s'. Adds s o s')) (λ f. st' ≡ st)

-- begin: the entry is the begin of a new take on the track, whose number is the answer
abbrev pub Begins : ℕ → State → Meaning → (t p : ℕ) → Result ℕ Failed → State → Meaning → Type 0
Begins layer st m t p r st' m' =
    Decided (refusal st m.size (Begin t p)) r st m st' m'
    (OfArmed st (λ s. Added layer st s (BeginEntry t p) [] BeginCall t (s.table.inner.count + 1) (s.table.inner.count + 1) m r st' m'))

-- record: the entry is a block of the take, with the elements by their bytes; the answer is the take's length with them
abbrev pub Records : {E : Type 0} → ℕ → Kind → (E → Bool) → (E → List ℕ) → State → Meaning → ℕ → List E → Result ℕ Failed → State → Meaning → Type 0
Records layer kind lawful bytes st m k xs r st' m' =
    Decided (if_armed st (λ s. record_refusal s m.size k kind (length xs) (list_all lawful xs))) r st m st' m'
    (OfArmed st (λ s. Added layer st s (BlockEntry k (length xs)) (flat_map bytes xs) RecordCall (table_of s k).track k ((table_of s k).len + length xs) m r st' m'))

-- end: the entry is the take's trailer; the answer is the take's length
abbrev pub Ends : ℕ → State → Meaning → ℕ → Result ℕ Failed → State → Meaning → Type 0
Ends layer st m k r st' m' =
    Decided (refusal st m.size (End k)) r st m st' m'
    (OfArmed st (λ s. Added layer st s (TrailerEntry k) [] EndCall (table_of s k).track k (table_of s k).len m r st' m'))

-- withdraw: the entry is the withdrawal of the track's take that is chosen, which is the answer
abbrev pub Withdraws : ℕ → State → Meaning → ℕ → Result ℕ Failed → State → Meaning → Type 0
Withdraws layer st m t r st' m' =
    Decided (refusal st m.size (Withdraw t)) r st m st' m'
    (OfArmed st (λ s. Added layer st s (WithdrawalEntry t (chosen s t)) [] WithdrawCall t (chosen s t) (chosen s t) m r st' m'))

-- a save that is not refused flushes the device
pub record Flushed (st : State) (m : Meaning) (r : Result (Unit {0}) Failed) (st' : State) (m' : Meaning) : Type 0 where
  pub flush : Answer
  pub did : Flushes m flush m'
  pub says : r ≡ answered SaveCall 0 0 tt flush
  pub same : st' ≡ st

-- save
abbrev pub Saves : State → Meaning → Result (Unit {0}) Failed → State → Meaning → Type 0
Saves st m r st' m' = Decided (refusal st m.size Save) r st m st' m' (Flushed st m r st' m')

-- arm's last step: the device is flushed; if it accepts that, the answer is the new epoch, and the recorder is armed with the opening
pub record ArmFlushes (s : Session) (m : Meaning) (r : Result ℕ Failed) (st' : State) (m' : Meaning) : Type 0 where
  pub flush : Answer
  pub did : Flushes m flush m'
  pub says : r ≡ answered ArmCall 0 0 (s.epoch + 1) flush
  pub after : ByAnswer flush (OfArmed st' (λ s'. Adds s OpeningEntry s')) (λ f. st' ≡ Mounted s)

-- arm stops at a fault: it is told, and the recorder stays as it was
abbrev pub ArmStops : Session → Meaning → Result ℕ Failed → State → Meaning → Fault → Type 0
ArmStops s m r st' m' f = (r ≡ Err (Faulted ArmCall 0 0 f)) × (st' ≡ Mounted s) × (m' ≡ m)

-- arm's second step: the opening is written at the next place
pub record ArmWrites (layer : ℕ) (s : Session) (m : Meaning) (r : Result ℕ Failed) (st' : State) (m' : Meaning) : Type 0 where
  pub write : Answer
  pub left : Meaning
  pub did : Writes layer m (session_place s) (next_sector s OpeningEntry []) write left
  pub after : ByAnswer write (ArmFlushes s left r st' m') (ArmStops s left r st' m')

-- arm's first step: the device is flushed, so that no older entry can be missing below the opening
pub record Arming (layer : ℕ) (s : Session) (m : Meaning) (r : Result ℕ Failed) (st' : State) (m' : Meaning) : Type 0 where
  pub flush : Answer
  pub left : Meaning
  pub did : Flushes m flush left
  pub after : ByAnswer flush (ArmWrites layer s left r st' m') (ArmStops s left r st' m')

-- arm
abbrev pub Arms : ℕ → State → Meaning → Result ℕ Failed → State → Meaning → Type 0
Arms layer st m r st' m' = Decided (refusal st m.size Arm) r st m st' m' (OfMounted st (λ s. Arming layer s m r st' m'))

-- An entry's sector with this payload is written at the next place. If the device accepts that, the session goes on with the entry; if not,
-- it stays as it was.
pub record Entered (layer : ℕ) (a : ArmedSession) (o : Outline) (payload : List ℕ) (m : Meaning) (r : Answer) (a' : ArmedSession) (m' : Meaning) : Type 0 where
  pub did : Writes layer m (session_place a.session) (sector_bytes (session_fields a.session o) payload) r m'
  pub after : ByAnswer r (Adds a.session o a'.session) (λ f. a' ≡ a)

-- the entry is added, whichever call it is of and whichever elements the payload holds
abbrev pub AddedBy : ℕ → ArmedSession → Outline → List ℕ → ℕ → Meaning → Result ℕ Stopped → ArmedSession → Meaning → Type 0
AddedBy layer a o payload answer m r a' m' =
    (elements : List ℕ) → payload ≡ padded elements → (call : Name) (t k : ℕ)
    → Added layer (Armed a) a.session o elements call t k answer m (told_result call t k r) (Armed a') m'
