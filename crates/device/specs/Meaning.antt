-- What a device means.
use Rattle.std.specs.Prelude.{◌≡◌, ℕ, ◌<◌, ◌≤◌, List, [], ◌∷◌, ◌++◌, length, Ok, Err}
use mathlib.Core.List.{Memᴰ}
use Rattle.device.specs.declared.fault.Cause.TheVariants.{Sick, PowerLost}
use Rattle.device.specs.declared.fault.Fault.{Fault}
use Rattle.device.specs.Faults.{Answer, raised}

-- a sector is sick, with its fault, or has older contents, oldest first, and a newest
pub data Sector : Type 0 where
  sick : Fault → Sector
  held : List (List ℕ) → List ℕ → Sector

-- a device: how many sectors it has, its power, and each sector
pub record Meaning : Type 0 where
  pub size : ℕ
  pub power : Answer
  pub sector : ℕ → Sector

-- the contents of a sector, newest last
abbrev pub contents : Sector → List (List ℕ)
contents (sick f) = []
contents (held old new) = old ++ (new ∷ [])

-- what a read finds
abbrev pub newest : Sector → List ℕ
newest (sick f) = []
newest (held old new) = new

-- a sector seen from one layer further up
abbrev pub raised_sector : Sector → Sector
raised_sector (sick f) = sick (raised f)
raised_sector (held old new) = held old new

-- power is on, or off with a fault that says so and names no sector
abbrev pub LawfulPower : Answer → Type 0
LawfulPower (Ok x) = Unit {0}
LawfulPower (Err f) = (f.cause ≡ PowerLost) × (f.sector ≡ 0)

-- a sick sector's fault says so, and each content has 512 bytes
abbrev pub LawfulSector : Sector → Type 0
LawfulSector (sick f) = f.cause ≡ Sick
LawfulSector (held old new) = (c : List ℕ) → Memᴰ c (old ++ (new ∷ [])) → length c ≡ 512

-- what holds of every device
pub record Lawful (m : Meaning) : Type 0 where
  pub size : m.size ≤ 65536
  pub power : LawfulPower m.power
  pub each : (s : ℕ) → s < m.size → LawfulSector (m.sector s)
