-- Mount.
use Rattle.std.specs.Prelude.{◌≡◌, ℕ, ◌+◌, Bool, true, false, ◌⊎◌, [], ◌∷◌, length, Result, Ok, Err, Some}
use Rattle.device.specs.declared.fault.Fault.{Fault}
use Rattle.device.specs.Meaning.{Meaning, newest}
use Rattle.device.specs.Calls.{standing}
use Rattle.takes.specs.Entries.{next_place}
use Rattle.journal.specs.declared.header.Header.{Header}
use Rattle.journal.specs.declared.session.Session.{Session}
use Rattle.journal.specs.Headers.{Lawful, header_bytes}
use Rattle.journal.specs.Log.{Log, Run, entry_bytes, Continues}
use Rattle.journal.specs.Sessions.{InStep}
use Rattle.recorder.specs.declared.State.{State}
use Rattle.recorder.specs.declared.State.TheVariants.{Unmounted, Mounted}
use Rattle.recorder.specs.declared.call.Call.TheVariants.{Mount}
use Rattle.recorder.specs.declared.failed.Name.TheVariants.{Mount as MountCall}
use Rattle.recorder.specs.declared.refusal.Refusal.TheVariants.{NoRecording}
use Rattle.recorder.specs.declared.failed.Failed.{Failed}
use Rattle.recorder.specs.declared.failed.Failed.TheVariants.{Refused, Faulted}
use Rattle.recorder.specs.declared.failed.Stopped.{Stopped}
use Rattle.recorder.specs.Refusals.{refusal}
use Rattle.recorder.specs.Answers.{Decided}
use Rattle.recorder.specs.Devices.{Settled, Lost, Readable}

-- each entry is found: the newest content at its place is its sector
abbrev pub Found : Header → Meaning → Log → Type 0
Found hd m [] = Unit {0}
Found hd m (e ∷ h) = Found hd m h × Readable m (next_place h) × (newest (m.sector (next_place h)) ≡ entry_bytes hd h e)

-- the log of a device: the header and the longest run of admitted entries in the newest contents, which ends where the next sector is
-- not there, is sick, or does not continue it
pub record IsLog (hd : Header) (m : Meaning) (h : Log) : Type 0 where
  pub lawful : Lawful hd
  pub header : newest (m.sector 0) ≡ header_bytes hd
  pub run : Run hd h
  pub found : Found hd m h
  pub ends : Readable m (next_place h) → Continues hd h (newest (m.sector (next_place h))) → ⊥

-- an accepted mount: power was on, the recorder is mounted with the session of the device's log, and the answer is how many entries it has
pub record FoundLog (m : Meaning) (n : ℕ) (st' : State) (m' : Meaning) : Type 0 where
  pub session : Session
  pub log : Log
  pub power : m.power ≡ Ok tt
  pub state : st' ≡ Mounted session
  pub is_log : IsLog session.header m log
  pub step : InStep session log
  pub count : n ≡ length log
  pub kept : Settled m m'

-- a mount that was not refused at once: it finds the log; or sector 0 was read, and is no header that a format writes; or it tells a
-- fault that stood before, of power or of sector 0; or power went off in it
abbrev pub Searched : ℕ → State → Meaning → Result ℕ Failed → State → Meaning → Type 0
Searched layer st m (Ok n) st' m' = FoundLog m n st' m'
Searched layer st m (Err (Refused x)) st' m' =
    (x ≡ NoRecording) × ((hd : Header) → Lawful hd → newest (m.sector 0) ≡ header_bytes hd → ⊥) × (st' ≡ st) × Settled m m'
    × Readable m 0 × (m.power ≡ Ok tt)
Searched layer st m (Err (Faulted call t k f)) st' m' =
    (call ≡ MountCall) × (t ≡ 0) × (k ≡ 0) × (st' ≡ st) × (((standing layer m 0 ≡ Some f) × (m' ≡ m)) ⊎ Lost f m m')

-- mount
abbrev pub Mounts : ℕ → State → Meaning → Result ℕ Failed → State → Meaning → Type 0
Mounts layer st m r st' m' = Decided (refusal st m.size Mount) r st m st' m' (Searched layer st m r st' m')

-- what a mount answers, by the session that it found: how many entries there are
abbrev pub entries_by : Result Session Stopped → Result ℕ Stopped
entries_by (Ok s) = Ok s.entries
entries_by (Err e) = Err e

-- the state that a mount leaves: mounted with the session that it found, or as it was
abbrev pub mounted_by : Result Session Stopped → State
mounted_by (Ok s) = Mounted s
mounted_by (Err e) = Unmounted

-- the search for the log, on its way: what the session has taken in so far was found on the device as it was at the start
pub record Seeking (start : Meaning) (s : Session) (m : Meaning) : Type 0 where
  pub log : Log
  pub lawful : Lawful s.header
  pub header : newest (start.sector 0) ≡ header_bytes s.header
  pub step : InStep s log
  pub found : Found s.header start log
  pub power : start.power ≡ Ok tt
  pub kept : Settled start m

-- one step of the search: an entry more is found; or the log ends; or power went off
abbrev pub Sought : (start : Meaning) → Session → Result Bool Fault → Session → Meaning → Type 0
Sought start s (Ok true) s' m' = Seeking start s' m' × (s'.entries ≡ s.entries + 1)
Sought start s (Ok false) s' m' = FoundLog start s'.entries (Mounted s') m'
Sought start s (Err f) s' m' = Lost f start m'

-- the header was read, on the device as it was at the start
pub record HeaderFound (start : Meaning) (hd : Header) (m : Meaning) : Type 0 where
  pub lawful : Lawful hd
  pub header : newest (start.sector 0) ≡ header_bytes hd
  pub power : start.power ≡ Ok tt
  pub kept : Settled start m

-- the whole search: the log is found; or power went off
abbrev pub LogSought : (start : Meaning) → Result Session Fault → Meaning → Type 0
LogSought start (Ok s) m' = FoundLog start s.entries (Mounted s) m'
LogSought start (Err f) m' = Lost f start m'
