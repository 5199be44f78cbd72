-- What the calls do that are numbers alone.
use Rattle.std.specs.Prelude.{ℕ, ◌+◌, Result, Ok, Err}
use Rattle.device.specs.Meaning.{Meaning}
use Rattle.journal.specs.declared.session.Session.{Session}
use Rattle.recorder.specs.declared.State.{State}
use Rattle.recorder.specs.declared.State.TheVariants.{Mounted, Armed}
use Rattle.recorder.specs.declared.armed.ArmedSession.{ArmedSession}
use Rattle.recorder.specs.declared.call.Call.{Call}
use Rattle.recorder.specs.declared.call.Call.TheVariants.{Format, Mount, Arm, Save, Begin, End, Withdraw}
use Rattle.recorder.specs.declared.failed.Stopped.{Stopped}
use Rattle.recorder.specs.declared.failed.Name.TheVariants.{Format as FormatCall, Mount as MountCall, Arm as ArmCall, Save as SaveCall, Begin as BeginCall, End as EndCall, Withdraw as WithdrawCall}
use Rattle.recorder.specs.Answers.{told_result}
use Rattle.recorder.specs.Formats.{Formats}
use Rattle.recorder.specs.Mounts.{Mounts}
use Rattle.recorder.specs.Entries.{Arms, Saves, Begins, Ends, Withdraws}
use Rattle.recorder.specs.Panel.{takes_of, track_of, chosen_of}

-- an answer without its number
abbrev pub done : {E : Type 0} → Result ℕ E → Result (Unit {0}) E
done (Ok n) = Ok tt
done (Err e) = Err e

-- the state that an arming leaves: armed, or as it was
abbrev pub armed_by : Session → Result ArmedSession Stopped → State
armed_by s (Ok a) = Armed a
armed_by s (Err e) = Mounted s

-- what an arming answers: the epoch
abbrev pub epoch_by : Result ArmedSession Stopped → Result ℕ Stopped
epoch_by (Ok a) = Ok a.session.epoch
epoch_by (Err e) = Err e

-- what a call does in a state, by what its caller will be told
abbrev pub Does : ℕ → State → Meaning → Call → Result ℕ Stopped → State → Meaning → Type 0
Does layer st m (Format kinds rate sitting) r st' m' = Formats layer st m kinds.now rate sitting (told_result FormatCall 0 0 r) st' m'
Does layer st m Mount r st' m' = Mounts layer st m (told_result MountCall 0 0 r) st' m'
Does layer st m Arm r st' m' = Arms layer st m (told_result ArmCall 0 0 r) st' m'
Does layer st m Save r st' m' = Saves st m (told_result SaveCall 0 0 (done r)) st' m'
Does layer st m (Begin t p) r st' m' = Begins layer st m t p (told_result BeginCall t (takes_of st + 1) r) st' m'
Does layer st m (End k) r st' m' = Ends layer st m k (told_result EndCall (track_of st k) k r) st' m'
Does layer st m (Withdraw t) r st' m' = Withdraws layer st m t (told_result WithdrawCall t (chosen_of st t) r) st' m'
