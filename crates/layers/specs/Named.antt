-- Over devices whose faults name their sectors and layers, a layer's faults do so again: raising counts the layer.
use Rattle.std.specs.Prelude.{ℕ, suc, Bool, true, false, if◌then◌else◌, refl, Ok, Err}
use Rattle.std.specs.Result.{result_and}
use Rattle.std.proofs.Common.{inl, inr, arith}
use Rattle.device.specs.declared.fault.Fault.{Fault}
use Rattle.device.specs.Faults.{power_lost, raised, raised_answer, Answer}
use Rattle.device.specs.Meaning.{Sector, sick, held, Meaning, raised_sector}
use Rattle.device.specs.Piles.{Pile, over, beside, LayerAt, Arises, NamedPower, NamedSector, Named}
use Rattle.layers.specs.declared.fuse.Counter.{Counter}
use Rattle.layers.specs.Fused.{fused, fuse_layer, is_blown}
use Rattle.layers.specs.Mirrored.{either, both_power, mirrored, mirror_layer}

-- where q has the layers of p one further down, a fault of p is one of q when it is raised
raised_arises : (p q : Pile) → ((d layer : ℕ) → LayerAt p d layer → LayerAt q (suc d) layer) → (f : Fault) → Arises p f → Arises q (raised f)
raised_arises p q deeper f h = let e = h.1 in (suc h.0, omega (arith, e), deeper h.0 f.layer h.2)

-- a fault from below a fuse
under : (p : Pile) (f : Fault) → Arises p f → Arises (over fuse_layer p) (raised f)
under p = raised_arises p (over fuse_layer p) (λ d layer h. h)

-- a fuse's power: its own fault is its own, and any other is from below
fuse_power : (p : Pile) (blown : Bool) (a : Answer) → NamedPower p a
    → NamedPower (over fuse_layer p) (result_and (if blown then Err (power_lost fuse_layer) else Ok (tt {0})) (raised_answer a))
fuse_power p true a h = (0, refl, refl)
fuse_power p false (Ok x) h = tt
fuse_power p false (Err f) h = under p f h

-- a fuse's sick sector is sick below
fuse_sector : (p : Pile) (s : ℕ) (t : Sector) → NamedSector p s t → NamedSector (over fuse_layer p) s (raised_sector t)
fuse_sector p s (sick f) h = (h.0, under p f h.1)
fuse_sector p s (held old new) h = tt

-- a fuse names the faults of the device below it, and its own
pub fused_named : (p : Pile) (c : Counter) {m : Meaning} → Named p m → Named (over fuse_layer p) (fused c m)
fused_named p c {m} h = record {
  power = fuse_power p (is_blown c) m.power h.power;
  each = λ s lt. fuse_sector p s (m.sector s) (h.each s lt);
}

-- a mirror over the piles of its two sides
module _ (p q : Pile) where
  -- a fault from the first side
  first : (f : Fault) → Arises p f → Arises (beside mirror_layer p q) (raised f)
  first = raised_arises p (beside mirror_layer p q) (λ d layer h. inl h)

  -- a fault from the second side
  second : (f : Fault) → Arises q f → Arises (beside mirror_layer p q) (raised f)
  second = raised_arises q (beside mirror_layer p q) (λ d layer h. inr h)

  -- power off on either side
  mirror_power : (a b : Answer) → NamedPower p a → NamedPower q b → NamedPower (beside mirror_layer p q) (both_power a b)
  mirror_power (Err f) b h k = first f h
  mirror_power (Ok x) (Ok y) h k = tt
  mirror_power (Ok x) (Err g) h k = second g k

  -- a sector that is sick on both
  mirror_sector : (s : ℕ) (t u : Sector) → NamedSector p s t → NamedSector q s u → NamedSector (beside mirror_layer p q) s (either t u)
  mirror_sector s (held old new) u h k = tt
  mirror_sector s (sick f) (held old new) h k = tt
  mirror_sector s (sick f) (sick g) h k = (h.0, first f h.1)

  -- a mirror names the faults of its sides
  pub mirrored_named : (a b : Meaning) → Named p a → Named q b → Named (beside mirror_layer p q) (mirrored a b)
  mirrored_named a b h k = record {
    power = mirror_power a.power b.power h.power k.power;
    each = λ s lt. mirror_sector s (a.sector s) (b.sector s) (h.each s (omega arith)) (k.each s (omega arith));
  }
