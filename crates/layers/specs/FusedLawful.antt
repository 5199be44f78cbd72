-- A device below a fuse is lawful again.
use Rattle.std.specs.Prelude.{Bool, true, false, if◌then◌else◌, refl, Ok, Err}
use Rattle.std.specs.Result.{result_and}
use Rattle.device.specs.Faults.{power_lost, raised_answer, Answer}
use Rattle.device.specs.Meaning.{Sector, sick, held, Meaning, raised_sector, Lawful, LawfulPower, LawfulSector}
use Rattle.layers.specs.declared.fuse.Counter.{Counter}
use Rattle.layers.specs.Fused.{fused, fuse_layer, is_blown}

-- a blown fuse says that power is lost, and raising keeps cause and sector
lawful_power : (blown : Bool) (p : Answer) → LawfulPower p → LawfulPower (result_and (if blown then Err (power_lost fuse_layer) else Ok (tt {0})) (raised_answer p))
lawful_power true p h = (refl, refl)
lawful_power false (Ok x) h = tt
lawful_power false (Err f) h = h

-- raising changes no content and no cause
lawful_sector : (t : Sector) → LawfulSector t → LawfulSector (raised_sector t)
lawful_sector (sick f) h = h
lawful_sector (held old new) h = h

-- a fuse over a lawful device is lawful
pub fused_lawful : (c : Counter) {m : Meaning} → Lawful m → Lawful (fused c m)
fused_lawful c {m} h = record {
  size = h.size;
  power = lawful_power (is_blown c) m.power h.power;
  each = λ s lt. lawful_sector (m.sector s) (h.each s lt);
}
