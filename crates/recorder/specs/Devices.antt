-- What several calls leave of a device, when none of them writes.
use Rattle.std.specs.Prelude.{◌≡◌, ℕ, ◌<◌, Ok, Err, None}
use Rattle.device.specs.declared.fault.Fault.{Fault}
use Rattle.device.specs.Meaning.{Meaning}
use Rattle.device.specs.Calls.{sick_fault, Kept, Worn}

-- every call was accepted: each sector keeps its newest content, and may have lost older ones
pub record Settled (m m' : Meaning) : Type 0 where
  pub size : m'.size ≡ m.size
  pub each : (t : ℕ) → Kept (m.sector t) (m'.sector t)

-- power was on and went off, and a call answered the fault f: each sector may have lost any contents but all, and has gained none
pub record Lost (f : Fault) (m m' : Meaning) : Type 0 where
  pub size : m'.size ≡ m.size
  pub before : m.power ≡ Ok tt
  pub after : m'.power ≡ Err f
  pub each : (t : ℕ) → Worn (m.sector t) (m'.sector t)

-- the device has sector p, and it is not sick
abbrev pub Readable : Meaning → ℕ → Type 0
Readable m p = (p < m.size) × (sick_fault (m.sector p) ≡ None)
