-- What a caller is told.
use Rattle.std.specs.Prelude.{◌≡◌, ℕ, Ok, Err, Result, Option, Some, None}
use Rattle.device.specs.Faults.{Answer}
use Rattle.device.specs.Meaning.{Meaning}
use Rattle.journal.specs.declared.session.Session.{Session}
use Rattle.recorder.specs.declared.State.{State}
use Rattle.recorder.specs.declared.State.TheVariants.{Unmounted, Mounted, Armed}
use Rattle.recorder.specs.declared.refusal.Refusal.{Refusal}
use Rattle.recorder.specs.declared.failed.Name.{Name}
use Rattle.recorder.specs.declared.failed.Failed.{Failed}
use Rattle.recorder.specs.declared.failed.Failed.TheVariants.{Refused, Faulted}
use Rattle.recorder.specs.declared.failed.Stopped.{Stopped}
use Rattle.recorder.specs.declared.failed.Stopped.TheVariants.{Refused as StoppedRefused, Faulted as StoppedFaulted}

-- why a call stopped, with the call, its track and its take beside a fault
abbrev pub told : Name → ℕ → ℕ → Stopped → Failed
told call t k (StoppedRefused x) = Refused x
told call t k (StoppedFaulted f) = Faulted call t k f

-- what came of a call's work, as the caller is told it
abbrev pub told_result : {A : Type 0} → Name → ℕ → ℕ → Result A Stopped → Result A Failed
told_result call t k (Ok a) = Ok a
told_result call t k (Err e) = Err (told call t k e)

-- a device's answer as the call's own: its value, or the fault with the call, its track and its take
abbrev pub answered : {A : Type 0} → Name → ℕ → ℕ → A → Answer → Result A Failed
answered call t k a (Ok x) = Ok a
answered call t k a (Err f) = Err (Faulted call t k f)

-- a call that is refused, and then changes neither the recorder nor the device; or that does what P says
abbrev pub Decided : {A : Type 0} → Option Refusal → Result A Failed → State → Meaning → State → Meaning → Type 0 → Type 0
Decided (Some x) r st m st' m' P = (r ≡ Err (Refused x)) × (st' ≡ st) × (m' ≡ m)
Decided None r st m st' m' P = P

-- the recorder is armed, and P holds of its session
abbrev pub OfArmed : State → (Session → Type 0) → Type 0
OfArmed Unmounted P = ⊥
OfArmed (Mounted s) P = ⊥
OfArmed (Armed a) P = P a.session

-- the recorder is mounted and not armed, and P holds of its session
abbrev pub OfMounted : State → (Session → Type 0) → Type 0
OfMounted Unmounted P = ⊥
OfMounted (Mounted s) P = P s
OfMounted (Armed a) P = ⊥

-- the recorder is mounted or armed, and P holds of its session
abbrev pub OfSession : State → (Session → Type 0) → Type 0
OfSession Unmounted P = ⊥
OfSession (Mounted s) P = P s
OfSession (Armed a) P = P a.session
