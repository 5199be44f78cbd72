-- What a mirror means over the two devices below it.
use Rattle.std.specs.Prelude.{ℕ, min, Ok, Err}
use Rattle.device.specs.declared.fault.Layer.TheVariants.{Mirror as MirrorKind}
use Rattle.device.specs.Faults.{layer_number, raised, raised_answer, Answer}
use Rattle.device.specs.Meaning.{Sector, sick, held, Meaning}
use Rattle.layers.specs.declared.mirror.Mirror.{Mirror}

-- the number by which a mirror names itself
abbrev pub mirror_layer : ℕ
mirror_layer = layer_number MirrorKind

-- the first side's sector, or the second's where the first is sick; where both are, the first side's fault
abbrev pub either : Sector → Sector → Sector
either (held old new) t = held old new
either (sick f) (held old new) = held old new
either (sick f) (sick g) = sick (raised f)

-- power is off if either side's is; the first side's fault goes first
abbrev pub both_power : Answer → Answer → Answer
both_power (Err f) q = Err (raised f)
both_power (Ok x) q = raised_answer q

-- two devices that hold the same
abbrev pub mirrored : Meaning → Meaning → Meaning
mirrored a b = record { size = min a.size b.size; power = both_power a.power b.power; sector = λ s. either (a.sector s) (b.sector s) }

-- what a mirror means, by what its sides mean
abbrev pub mirror_meaning : {D E : Type 0} → (D → Meaning) → (E → Meaning) → Mirror D E → Meaning
mirror_meaning d e m = mirrored (d m.first) (e m.second)
