-- Format.
use Rattle.std.specs.Prelude.{◌≡◌, ℕ, zero, suc, ◌+◌, ◌-◌, ◌<◌, Bool, cond, ◌⊎◌, List, [], ◌∷◌, ◌++◌, length, map, replicate, Result, Ok, Err, Some, None, ◌==◌}
use mathlib.Core.List.{Memᴰ}
use Rattle.device.specs.declared.fault.Fault.{Fault}
use Rattle.device.specs.Faults.{Answer}
use Rattle.device.specs.Meaning.{Sector, sick, held, Meaning}
use Rattle.device.specs.Calls.{standing, sick_fault}
use Rattle.element.specs.declared.kind.Kind.{Kind}
use Rattle.element.specs.declared.kind.Kind.TheVariants.{Sound, Mark}
use Rattle.journal.specs.declared.header.Header.{Header}
use Rattle.journal.specs.Headers.{header_bytes}
use Rattle.recorder.specs.declared.State.{State}
use Rattle.recorder.specs.declared.failed.Name.TheVariants.{Format as FormatCall}
use Rattle.recorder.specs.declared.failed.Failed.{Failed}
use Rattle.recorder.specs.declared.failed.Failed.TheVariants.{Refused, Faulted}
use Rattle.recorder.specs.Refusals.{if_unmounted, format_refusal}
use Rattle.recorder.specs.Answers.{Decided}

-- the kind that a number stands for: 2 for marks, else sound
abbrev pub kind_named : ℕ → Kind
kind_named n = cond (n == 2) Mark Sound

-- the header that a format writes, of kinds by their numbers
abbrev pub header_of : List ℕ → (rate sitting : ℕ) → Header
header_of kinds rate sitting =
    record { sitting = sitting; rate = rate; tracks = length kinds; kinds = map kind_named kinds ++ replicate (8 - length kinds) Sound }

-- a sector of zeros
unfoldable pub zeros : List ℕ
zeros = replicate 512 0

-- a sector that was blanked holds zeros and nothing else; a sick one is as it was
abbrev pub zeroed : Sector → Sector
zeroed (sick f) = sick f
zeroed (held old new) = held [] zeros

-- what a format leaves of sector t: the header alone in sector 0, and every other blanked
abbrev pub formatted : Header → ℕ → Sector → Sector
formatted hd zero (sick f) = sick f
formatted hd zero (held old new) = held [] (header_bytes hd)
formatted hd (suc t) s = zeroed s

-- how many of the first n sectors are not sick
abbrev pub well : Meaning → ℕ → ℕ
well m zero = 0
well m (suc n) = elim (m.sector n) [ sick f ↦ well m n | held old new ↦ suc (well m n) ]

-- until the blanks have settled: a sector is sick as before, or holds contents that it held, and zeros
abbrev pub Overwritten : Sector → Sector → Type 0
Overwritten (sick f) s' = s' ≡ sick f
Overwritten (held old new) (sick f) = ⊥
Overwritten (held old new) (held old' new') =
    (c : List ℕ) → Memᴰ c (old' ++ (new' ∷ [])) → Memᴰ c (old ++ (new ∷ [])) ⊎ (c ≡ zeros)

-- from then on: sector 0, which was not sick, holds zeros and the header, and nothing older
abbrev pub Headed : Header → Sector → Sector → Type 0
Headed hd (sick f) s' = ⊥
Headed hd (held old new) (sick f) = ⊥
Headed hd (held old new) (held old' new') =
    (c : List ℕ) → Memᴰ c (old' ++ (new' ∷ [])) → (c ≡ zeros) ⊎ (c ≡ header_bytes hd)

-- power was on and went off before the header was written, and the format tells the fault f: each sector can hold what it held, and zeros
pub record LostInBlanks (f : Fault) (m m' : Meaning) : Type 0 where
  pub size : m'.size ≡ m.size
  pub before : m.power ≡ Ok tt
  pub after : m'.power ≡ Err f
  pub each : (t : ℕ) → t < m.size → Overwritten (m.sector t) (m'.sector t)

-- power was on and went off when the header was written or later, and the format tells the fault f: every other sector that is not sick
-- holds zeros and nothing else by then
pub record LostInHeader (hd : Header) (f : Fault) (m m' : Meaning) : Type 0 where
  pub size : m'.size ≡ m.size
  pub before : m.power ≡ Ok tt
  pub after : m'.power ≡ Err f
  pub first : Headed hd (m.sector 0) (m'.sector 0)
  pub rest : (t : ℕ) → 0 < t → t < m.size → m'.sector t ≡ zeroed (m.sector t)

-- power went off in the format, before or after the blanks had settled
abbrev pub Interrupted : Header → Fault → Meaning → Meaning → Type 0
Interrupted hd f m m' = LostInBlanks f m m' ⊎ LostInHeader hd f m m'

-- an accepted format: power was on, sector 0 was not sick, and every sector is as a format leaves it
pub record Prepared (hd : Header) (m m' : Meaning) : Type 0 where
  pub size : m'.size ≡ m.size
  pub power : m.power ≡ Ok tt
  pub first : sick_fault (m.sector 0) ≡ None
  pub each : (t : ℕ) → t < m.size → m'.sector t ≡ formatted hd t (m.sector t)

-- the work on the device: it is done, and the answer is how many sectors were blanked; or it ends at a fault, which stood before, of
-- power or of sector 0, or is that of power that went off
abbrev pub LaidOut : ℕ → Header → Meaning → Result ℕ Fault → Meaning → Type 0
LaidOut layer hd m (Ok n) m' = (n ≡ well m m.size) × Prepared hd m m'
LaidOut layer hd m (Err f) m' = ((standing layer m 0 ≡ Some f) × (m' ≡ m)) ⊎ Interrupted hd f m m'

-- a format that is not refused: the device is laid out, and the answer is how many sectors were blanked; or a fault is told
abbrev pub Formatted : ℕ → Header → State → Meaning → Result ℕ Failed → State → Meaning → Type 0
Formatted layer hd st m (Ok n) st' m' = (st' ≡ st) × LaidOut layer hd m (Ok n) m'
Formatted layer hd st m (Err (Refused x)) st' m' = ⊥
Formatted layer hd st m (Err (Faulted call t k f)) st' m' = (call ≡ FormatCall) × (t ≡ 0) × (k ≡ 0) × (st' ≡ st) × LaidOut layer hd m (Err f) m'

-- format: refused, and then nothing changes; or not
abbrev pub Formats : ℕ → State → Meaning → List ℕ → (rate sitting : ℕ) → Result ℕ Failed → State → Meaning → Type 0
Formats layer st m kinds rate sitting r st' m' =
    Decided (if_unmounted st (format_refusal m.size kinds rate)) r st m st' m' (Formatted layer (header_of kinds rate sitting) st m r st' m')

-- the blanks are not done: the fault stood before, of power or of sector 0, or is that of power that went off
abbrev pub Unblanked : ℕ → Fault → Meaning → Meaning → Type 0
Unblanked layer f m m' = ((standing layer m 0 ≡ Some f) × (m' ≡ m)) ⊎ LostInBlanks f m m'

-- a sector is sick as before, or its newest content is zeros
abbrev pub ShowsZeros : Sector → Sector → Type 0
ShowsZeros (sick f) s' = s' ≡ sick f
ShowsZeros (held old new) (sick f) = ⊥
ShowsZeros (held old new) (held old' new') = new' ≡ zeros

-- the first n sectors were gone through, so many of them blanked; once sector 0 was, power is known to have been on, and sector 0 well
pub record Blanking (m : Meaning) (n blanked : ℕ) (m' : Meaning) : Type 0 where
  pub size : m'.size ≡ m.size
  pub each : (t : ℕ) → Overwritten (m.sector t) (m'.sector t)
  pub blank : (t : ℕ) → t < n → ShowsZeros (m.sector t) (m'.sector t)
  pub count : blanked ≡ well m n
  pub untouched : n ≡ 0 → m' ≡ m
  pub begun : 0 < n → (m.power ≡ Ok tt) × (sick_fault (m.sector 0) ≡ None)

-- one step: sector n was blanked, or it is sick; or the work ends at a fault
abbrev pub Wiped : ℕ → Meaning → (n blanked : ℕ) → Result Bool Fault → Meaning → Type 0
Wiped layer m n blanked (Ok b) m' = Blanking m (n + 1) (blanked + cond b 1 0) m'
Wiped layer m n blanked (Err f) m' = Unblanked layer f m m'

-- all steps: every sector was gone through, and the answer is how many were blanked; or the work ends at a fault
abbrev pub AllWiped : ℕ → Meaning → Result ℕ Fault → Meaning → Type 0
AllWiped layer m (Ok n) m' = Blanking m m.size n m'
AllWiped layer m (Err f) m' = Unblanked layer f m m'

-- the blanks have settled: every sector was blanked. Power was on, and sector 0 was not sick.
pub record AllZeroed (m m' : Meaning) : Type 0 where
  pub size : m'.size ≡ m.size
  pub power : m.power ≡ Ok tt
  pub first : sick_fault (m.sector 0) ≡ None
  pub each : (t : ℕ) → t < m.size → m'.sector t ≡ zeroed (m.sector t)

-- the blanks: they have settled, and the answer is how many sectors were blanked; or the work ends at a fault
abbrev pub Blanked : ℕ → Meaning → Result ℕ Fault → Meaning → Type 0
Blanked layer m (Ok n) m' = (n ≡ well m m.size) × AllZeroed m m'
Blanked layer m (Err f) m' = Unblanked layer f m m'

-- the header on a device whose blanks have settled: it is written and has settled, or power went off
abbrev pub HeaderWritten : Header → Meaning → Answer → Meaning → Type 0
HeaderWritten hd m (Ok x) m' = Prepared hd m m'
HeaderWritten hd m (Err f) m' = LostInHeader hd f m m'
