-- What a sitting is.
use Rattle.std.specs.Prelude.{◌≡◌, ℕ, ◌<◌, Bool, true, false, ◌⊎◌, List, [], ◌∷◌, Result, Ok, Err}
use Rattle.std.specs.List.{All}
use Rattle.device.specs.declared.fault.Fault.{Fault}
use Rattle.device.specs.Faults.{Answer}
use Rattle.device.specs.Meaning.{Meaning, Lawful}
use Rattle.device.specs.Cuts.{Cut}
use Rattle.element.specs.declared.kind.Kind.{Kind}
use Rattle.journal.specs.declared.header.Header.{Header}
use Rattle.journal.specs.Log.{LawfulElement}
use Rattle.recorder.specs.declared.Recorder.{Recorder}
use Rattle.recorder.specs.declared.State.{State}
use Rattle.recorder.specs.declared.State.TheVariants.{Unmounted}
use Rattle.recorder.specs.declared.failed.Failed.{Failed}
use Rattle.recorder.specs.Devices.{Settled, Lost}
use Rattle.recorder.specs.Formats.{header_of, Formats}
use Rattle.recorder.specs.Mounts.{Mounts}
use Rattle.recorder.specs.Entries.{Arms, Begins, Records, Ends, Withdraws, Saves}
use Rattle.sitting.specs.Events.{Item, Asked, Format, Mount, Arm, Begin, Record, End, Withdraw, Save, Play, Export, Event, called, cut, Events}

-- whether power went off, by what it was before and after
abbrev pub went_off : Answer → Answer → Bool
went_off (Ok x) (Ok y) = false
went_off (Ok x) (Err f) = true
went_off (Err f) power = false

-- the answer of a call that has nothing to tell, as a number
abbrev pub numbered : Result (Unit {0}) Failed → Result ℕ Failed
numbered (Ok x) = Ok 0
numbered (Err e) = Err e

-- a save, by its answer as a number
abbrev pub SavesBy : State → Meaning → Result ℕ Failed → State → Meaning → Type 0
SavesBy st m r st' m' = (s : Result (Unit {0}) Failed) × (r ≡ numbered s) × Saves st m s st' m'

-- a call that only reads leaves the recorder as it was; the device is as it was, or it may have lost older contents, or power went off
abbrev pub Looks : State → Meaning → State → Meaning → Type 0
Looks st m st' m' = (st' ≡ st) × ((m' ≡ m) ⊎ (((m.power ≡ Ok tt) × Settled m m') ⊎ ((f : Fault) × Lost f m m')))

-- a format that was not accepted, and has not begun to write
abbrev pub NotFormatted : Result ℕ Failed → State → Meaning → State → Meaning → Type 0
NotFormatted (Ok n) st m st' m' = ⊥
NotFormatted (Err e) st m st' m' = (st' ≡ st) × (m' ≡ m)

-- an element that is called lawful is: its bytes are those of a lawful element of the kind
abbrev pub Honest : Kind → List Item → Type 0
Honest kind items = All (λ (i : Item). i.lawful ≡ true → LawfulElement kind i.bytes) items

-- what a call does to a recorder and its device
abbrev pub Does : ℕ → Asked → Result ℕ Failed → State → Meaning → State → Meaning → Type 0
Does layer (Format kinds rate sitting) r st m st' m' = NotFormatted r st m st' m'
Does layer Mount r st m st' m' = Mounts layer st m r st' m'
Does layer Arm r st m st' m' = Arms layer st m r st' m'
Does layer (Begin t p) r st m st' m' = Begins layer st m t p r st' m'
Does layer (Record kind k items) r st m st' m' = Honest kind items × Records layer kind (λ (i : Item). i.lawful) (λ (i : Item). i.bytes) st m k items r st' m'
Does layer (End k) r st m st' m' = Ends layer st m k r st' m'
Does layer (Withdraw t) r st m st' m' = Withdraws layer st m t r st' m'
Does layer Save r st m st' m' = SavesBy st m r st' m'
Does layer (Play kind t from) r st m st' m' = Looks st m st' m'
Does layer (Export t) r st m st' m' = Looks st m st' m'

-- what happens to a recorder and its device: a call does what it does, or a cut leaves an unmounted recorder over what it leaves
abbrev pub Happens : ℕ → Event → State → Meaning → State → Meaning → Type 0
Happens layer (called asked r off) st m st' m' = Does layer asked r st m st' m' × (off ≡ went_off m.power m'.power)
Happens layer cut st m st' m' = (st' ≡ Unmounted) × Cut m m'

-- A sitting: an unmounted recorder's accepted format of a lawful device, which wrote the header; then whatever has happened since, each
-- on the result of the one before. It has come to this recorder and this device.
pub data Sitting (layer : ℕ) (hd : Header) : Events → State → Meaning → Type 0 where
  formatted : (kinds : List ℕ) (rate sitting n : ℕ) (m : Meaning) {m' : Meaning} {st : State} → sitting < 4294967296 → hd ≡ header_of kinds rate sitting
      → Formats layer Unmounted m kinds rate sitting (Ok n) st m' → Lawful m' → Sitting layer hd [] st m'
  goes_on : {es : Events} {e : Event} (st : State) {st' : State} (m : Meaning) {m' : Meaning} → Sitting layer hd es st m
      → Happens layer e st m st' m' → Lawful m' → Sitting layer hd (e ∷ es) st' m'

-- a recorder was asked a call: whatever sitting has come to it goes on with the call
pub record Leads {D : Type 0} (means : D → Meaning) (layer : ℕ) (asked : Asked) (r : Result ℕ Failed) (d d' : Recorder D) : Type 0 where
  pub on : (hd : Header) (es : Events) → Sitting layer hd es d.state (means d.device)
      → Sitting layer hd (called asked r (went_off (means d.device).power (means d'.device).power) ∷ es) d'.state (means d'.device)

-- whatever sitting has come to a recorder, P holds of its header and of what has happened in it
pub record InSittings {D : Type 0} (means : D → Meaning) (layer : ℕ) (d : Recorder D) (P : Header → Events → Type 0) : Type 0 where
  pub holds : (hd : Header) (es : Events) → Sitting layer hd es d.state (means d.device) → P hd es

-- a format: where it is accepted, a sitting begins
abbrev pub Begun : {D : Type 0} → (D → Meaning) → ℕ → Header → Result ℕ Failed → Recorder D → Type 0
Begun means layer hd (Ok n) d' = Sitting layer hd [] d'.state (means d'.device)
Begun means layer hd (Err e) d' = Unit {0}

-- and where it is not accepted, and the device is as it was, a sitting that has come to the recorder goes on with it
abbrev pub Resumes : {D : Type 0} → (D → Meaning) → ℕ → Asked → Result ℕ Failed → Recorder D → Recorder D → Type 0
Resumes means layer asked r d d' = (e : Failed) → r ≡ Err e → means d'.device ≡ means d.device → Leads means layer asked r d d'

-- a cut: whatever sitting has come to a recorder, it goes on with the cut
pub record CutLeads {D : Type 0} (means : D → Meaning) (layer : ℕ) (d d' : Recorder D) : Type 0 where
  pub on : (hd : Header) (es : Events) → Sitting layer hd es d.state (means d.device) → Sitting layer hd (cut ∷ es) d'.state (means d'.device)
