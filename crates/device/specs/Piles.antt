-- How devices stand on one another, and what a fault names.
use Rattle.std.specs.Prelude.{◌≡◌, ℕ, zero, suc, ◌-◌, ◌^◌, ◌<◌, min, ◌⊎◌, List, Ok, Err}
use Rattle.device.specs.declared.fault.Cause.{Cause}
use Rattle.device.specs.declared.fault.Cause.TheVariants.{OutOfRange, Sick, PowerLost}
use Rattle.device.specs.declared.fault.Fault.{Fault}
use Rattle.device.specs.Faults.{Answer}
use Rattle.device.specs.Meaning.{Sector, sick, held, Meaning}
use Rattle.device.specs.Calls.{Reads, Writes, Flushes}

-- how devices stand on one another, each by its number as a layer: an image, a layer over one device, or a layer over two
pub data Pile : Type 0 where
  image : ℕ → Pile
  over : ℕ → Pile → Pile
  beside : ℕ → Pile → Pile → Pile

-- a layer of this number is so many layers below the top
abbrev pub LayerAt : Pile → ℕ → ℕ → Type 0
LayerAt (image n) zero layer = layer ≡ n
LayerAt (image n) (suc depth) layer = ⊥
LayerAt (over n p) zero layer = layer ≡ n
LayerAt (over n p) (suc depth) layer = LayerAt p depth layer
LayerAt (beside n p q) zero layer = layer ≡ n
LayerAt (beside n p q) (suc depth) layer = LayerAt p depth layer ⊎ LayerAt q depth layer

-- a fault names the layer where it arose: there is one of its number as deep as it says, or deeper where its depth is the largest number
abbrev pub Arises : Pile → Fault → Type 0
Arises p f = (d : ℕ) × (f.depth ≡ min d (2 ^ 32 - 1)) × LayerAt p d f.layer

-- the sector that a fault of this cause names where sector s was asked
abbrev pub sector_named : Cause → ℕ → ℕ
sector_named OutOfRange s = s
sector_named Sick s = s
sector_named PowerLost s = 0

-- a fault names the sector s that was asked, or 0 where power is lost
abbrev pub NamesSector : ℕ → Fault → Type 0
NamesSector s f = f.sector ≡ sector_named f.cause s

-- power is on, or off with a fault that names the layer where it arose
abbrev pub NamedPower : Pile → Answer → Type 0
NamedPower p (Ok x) = Unit {0}
NamedPower p (Err f) = Arises p f

-- sector s has contents, or is sick with a fault that names it and the layer where it arose
abbrev pub NamedSector : Pile → ℕ → Sector → Type 0
NamedSector p s (sick f) = (f.sector ≡ s) × Arises p f
NamedSector p s (held old new) = Unit {0}

-- the faults of power that is off and of sick sectors name the layers where they arose, and the latter their sectors
pub record Named (p : Pile) (m : Meaning) : Type 0 where
  pub power : NamedPower p m.power
  pub each : (s : ℕ) → s < m.size → NamedSector p s (m.sector s)

-- the fault that a device's power is off with names sector 0 and the layer
abbrev pub PowerNames : {D : Type 0} → Pile → (D → Meaning) → Type 0
PowerNames {D} p means = (d : D) (f : Fault) → (means d).power ≡ Err f → (f.sector ≡ 0) × Arises p f

-- a fault that a read answers names the sector that was asked and the layer
abbrev pub ReadsName : {D : Type 0} → Pile → ℕ → (D → Meaning) → Type 0
ReadsName {D} p layer means =
    (d d' : D) (s : ℕ) (buffer buffer' : List ℕ) (f : Fault) → Reads layer (means d) s buffer (Err f) (means d') buffer' → NamesSector s f × Arises p f

-- so does one that a write answers
abbrev pub WritesName : {D : Type 0} → Pile → ℕ → (D → Meaning) → Type 0
WritesName {D} p layer means =
    (d d' : D) (s : ℕ) (content : List ℕ) (f : Fault) → Writes layer (means d) s content (Err f) (means d') → NamesSector s f × Arises p f

-- a fault that a flush answers names sector 0 and the layer
abbrev pub FlushesName : {D : Type 0} → Pile → (D → Meaning) → Type 0
FlushesName {D} p means = (d d' : D) (f : Fault) → Flushes (means d) (Err f) (means d') → (f.sector ≡ 0) × Arises p f
