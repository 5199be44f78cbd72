-- Two lawful devices make a lawful mirror.
use Rattle.std.specs.Prelude.{◌≤◌, Ok, Err}
use Rattle.std.proofs.Common.{arith}
use Rattle.device.specs.Faults.{Answer}
use Rattle.device.specs.Meaning.{Sector, sick, held, Meaning, Lawful, LawfulPower, LawfulSector}
use Rattle.layers.specs.Mirrored.{either, both_power, mirrored}

-- the power that is told is one of the two
lawful_power : (p q : Answer) → LawfulPower p → LawfulPower q → LawfulPower (both_power p q)
lawful_power (Err f) q h k = h
lawful_power (Ok x) (Ok y) h k = tt
lawful_power (Ok x) (Err f) h k = k

-- the sector that is shown is one of the two
lawful_sector : (s t : Sector) → LawfulSector s → LawfulSector t → LawfulSector (either s t)
lawful_sector (held old new) t h k = h
lawful_sector (sick f) (held old new) h k = k
lawful_sector (sick f) (sick g) h k = h

-- a mirror of lawful devices is lawful
pub mirrored_lawful : (a b : Meaning) → Lawful a → Lawful b → Lawful (mirrored a b)
mirrored_lawful a b h k =
    let small : a.size ≤ 65536 = h.size in
    record {
      size = omega arith;
      power = lawful_power a.power b.power h.power k.power;
      each = λ s lt. lawful_sector (a.sector s) (b.sector s) (h.each s (omega arith)) (k.each s (omega arith));
    }
