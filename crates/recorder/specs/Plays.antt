-- Painting the sectors of the log, which play and export have in common; and play.
use Rattle.std.specs.Prelude.{◌≡◌, ℕ, suc, ◌-◌, ◌*◌, ◌<◌, min, ◌⊎◌, List, length, Result, Ok, Err, Option, Some, None}
use Rattle.device.specs.declared.fault.Fault.{Fault}
use Rattle.device.specs.Faults.{Answer}
use Rattle.device.specs.Meaning.{Meaning, newest}
use Rattle.device.specs.Calls.{standing}
use Rattle.element.specs.declared.kind.Kind.{Kind}
use Rattle.takes.specs.Painting.{paint, spot_of}
use Rattle.journal.specs.declared.session.Session.{Session}
use Rattle.journal.specs.Sessions.{table_of}
use Rattle.journal.specs.Shown.{cells_each}
use Rattle.journal.specs.Painting.{content_of}
use Rattle.recorder.specs.declared.State.{State}
use Rattle.recorder.specs.declared.refusal.Refusal.{Refusal}
use Rattle.recorder.specs.declared.failed.Name.{Name}
use Rattle.recorder.specs.declared.failed.Name.TheVariants.{Play as PlayCall}
use Rattle.recorder.specs.declared.failed.Failed.{Failed}
use Rattle.recorder.specs.declared.failed.Failed.TheVariants.{Refused, Faulted}
use Rattle.recorder.specs.declared.failed.Stopped.{Stopped}
use Rattle.recorder.specs.Refusals.{track_end, play_refusal, if_session}
use Rattle.recorder.specs.Answers.{told_result, OfSession}
use Rattle.recorder.specs.Devices.{Settled, Lost, Readable}

-- what the first n sectors of the log make of a slice of cells of so many bytes, which begins at element `from` of track t; an element of
-- the track is as many cells as its bytes fill, so one where the cells are themselves elements of its kind
abbrev pub played : {E : Type 0} → (List ℕ → E) → ℕ → Session → Meaning → (t from n : ℕ) → List E → List E
played value width s m t from n out =
    let per = cells_each s.header t width in paint per (spot_of (table_of s) t) (from * per) (λ p. content_of per value width (newest (m.sector p))) n out

-- power was on, the first n sectors of the log could be read, and the slice holds what they make of it; `made` says what so many make
pub record PlayedTo {E : Type 0} (m : Meaning) (made : ℕ → List E) (n : ℕ) (out' : List E) : Type 0 where
  pub power : m.power ≡ Ok tt
  pub each : (p : ℕ) → p < n → Readable m (suc p)
  pub slice : out' ≡ made n

-- the painting stopped in the log, with fewer sectors painted than there are entries: either the next could not be read, since it is sick
-- or the device does not have it; or power went off
pub record Halted {E : Type 0} (layer entries : ℕ) (m : Meaning) (made : ℕ → List E) (f : Fault) (m' : Meaning) (out' : List E) : Type 0 where
  pub done : ℕ
  pub fewer : done < entries
  pub slice : PlayedTo m made done out'
  pub device : ((standing layer m (suc done) ≡ Some f) × Settled m m') ⊎ Lost f m m'

-- the sectors of the log, read in their order and painted: all of them, or those before a fault
abbrev pub Paints : {E : Type 0} → (layer entries : ℕ) → Meaning → (ℕ → List E) → Answer → Meaning → List E → Type 0
Paints layer entries m made (Ok x) m' out' = PlayedTo m made entries out' × Settled m m'
Paints layer entries m made (Err f) m' out' = Halted layer entries m made f m' out'

-- a call that paints the log and is not refused: every sector has gone into the slice, and the answer is `answer`; or the call tells a
-- fault: power was off before, and nothing was done, or the painting stopped in the log
abbrev pub Painted : {E : Type 0} → (layer : ℕ) → Name → (entries : ℕ) → State → Meaning → (t answer : ℕ) → (ℕ → List E) → List E → Result ℕ Failed → State → Meaning → List E → Type 0
Painted layer call entries st m t answer made out (Ok n) st' m' out' = (n ≡ answer) × (st' ≡ st) × PlayedTo m made entries out' × Settled m m'
Painted layer call entries st m t answer made out (Err (Refused x)) st' m' out' = ⊥
Painted layer call entries st m t answer made out (Err (Faulted call' t' k f)) st' m' out' =
    (call' ≡ call) × (t' ≡ t) × (k ≡ 0) × (st' ≡ st)
    × (((m.power ≡ Err f) × (m' ≡ m) × (out' ≡ out)) ⊎ Halted layer entries m made f m' out')

-- a call over a slice that is refused, and then nothing changes, the slice neither; or that does what P says
abbrev pub SliceDecided : {E : Type 0} → Option Refusal → Result ℕ Failed → State → Meaning → List E → State → Meaning → List E → Type 0 → Type 0
SliceDecided (Some x) r st m out st' m' out' P = (r ≡ Err (Refused x)) × (st' ≡ st) × (m' ≡ m) × (out' ≡ out)
SliceDecided None r st m out st' m' out' P = P

-- a play that is not refused; the answer is how many elements of the track the slice reaches
abbrev pub Played : {E : Type 0} → ℕ → (List ℕ → E) → ℕ → Session → State → Meaning → (t from : ℕ) → List E → Result ℕ Failed → State → Meaning → List E → Type 0
Played layer value width s st m t from out r st' m' out' =
    Painted layer PlayCall s.entries st m t (min (length out) (track_end s t - from)) (λ n. played value width s m t from n out) out r st' m' out'

-- play: the track from a position on, into a slice of elements of a kind
abbrev pub Plays : {E : Type 0} → ℕ → Kind → (List ℕ → E) → ℕ → State → Meaning → (t from : ℕ) → List E → Result ℕ Failed → State → Meaning → List E → Type 0
Plays layer kind value width st m t from out r st' m' out' =
    SliceDecided (if_session st (λ s. play_refusal s t kind from)) r st m out st' m' out'
    (OfSession st (λ s. Played layer value width s st m t from out r st' m' out'))

-- the session is played, by a recorder in whichever state, which stays as it was
abbrev pub PlaysBy : {E : Type 0} → ℕ → Kind → (List ℕ → E) → ℕ → Session → Meaning → (t from : ℕ) → List E → Result ℕ Stopped → Meaning → List E → Type 0
PlaysBy layer kind value width s m t from out r m' out' =
    (st : State)
    → SliceDecided (play_refusal s t kind from) (told_result PlayCall t 0 r) st m out st m' out'
    (Played layer value width s st m t from out (told_result PlayCall t 0 r) st m' out')
