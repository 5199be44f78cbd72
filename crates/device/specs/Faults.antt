-- Faults: their numbers, and how they go up through layers.
use Rattle.std.specs.Prelude.{ℕ, ◌+◌, ◌-◌, ◌^◌, min, cond, nat_lt, List, [], ◌∷◌, Ok, Err, Result}
use Rattle.device.specs.declared.fault.Cause.{Cause}
use Rattle.device.specs.declared.fault.Cause.TheVariants.{OutOfRange, Sick, PowerLost}
use Rattle.device.specs.declared.fault.Layer.{Layer}
use Rattle.device.specs.declared.fault.Layer.TheVariants.{PlainImage, QueuedImage, Mirror, Fuse}
use Rattle.device.specs.declared.fault.Fault.{Fault}

-- the number that stands for a cause
abbrev pub cause_number : Cause → ℕ
cause_number OutOfRange = 1
cause_number Sick = 2
cause_number PowerLost = 3

-- the number by which a layer names itself
abbrev pub layer_number : Layer → ℕ
layer_number PlainImage = 1
layer_number QueuedImage = 2
layer_number Mirror = 3
layer_number Fuse = 4

-- a fault as it is told: cause, sector, layer, depth
abbrev pub fault_numbers : Fault → List ℕ
fault_numbers f = cause_number f.cause ∷ f.sector ∷ f.layer ∷ f.depth ∷ []

-- a layer is asked for a sector that it does not have
abbrev pub out_of_range : ℕ → ℕ → Fault
out_of_range layer s = record { cause = OutOfRange; sector = s; layer = layer; depth = 0 }

-- a sector that can be neither read nor written
abbrev pub sick_at : ℕ → ℕ → Fault
sick_at layer s = record { cause = Sick; sector = s; layer = layer; depth = 0 }

-- power is off at a layer
abbrev pub power_lost : ℕ → Fault
power_lost layer = record { cause = PowerLost; sector = 0; layer = layer; depth = 0 }

-- a fault seen from one layer further up; the depth stops at the largest number
abbrev pub raised : Fault → Fault
raised f = record { cause = f.cause; sector = f.sector; layer = f.layer; depth = min (f.depth + 1) (2 ^ 32 - 1) }

-- a call is accepted, or answers a fault; and power is on, or off with the fault that says so
abbrev pub Answer : Type 0
Answer = Result (Unit {0}) Fault

-- what a layer of so many sectors answers of one where nothing else stands in the way: it is out of range, or not
abbrev pub in_range : ℕ → ℕ → ℕ → Answer
in_range layer size s = cond (nat_lt s size) (Ok tt) (Err (out_of_range layer s))

-- an answer, or power, seen from one layer further up
abbrev pub raised_answer : Answer → Answer
raised_answer (Ok x) = Ok x
raised_answer (Err f) = Err (raised f)
