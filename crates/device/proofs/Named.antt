-- A fault that a call answers names the sector that was asked and the layer where it arose.
use Rattle.std.proofs.Common.{◌≡◌, ℕ, List, Err, rules}
use Rattle.device.specs.declared.fault.Fault.{Fault}
use Rattle.device.specs.Meaning.{Meaning, Lawful}
use Rattle.device.specs.Calls.{Reads, Writes, Flushes}
use Rattle.device.specs.Piles.{Pile, LayerAt, Arises, NamesSector, Named}

-- of power that is off
pub power_names : (p : Pile) (m : Meaning) (f : Fault) → Lawful m → Named p m → m.power ≡ Err f → (f.sector ≡ 0) × Arises p f
power_names p m f law named e = search rules

module _ (p : Pile) (layer s : ℕ) (m m' : Meaning) (law : Lawful m) (law' : Lawful m') (named : Named p m) (named' : Named p m') (top : LayerAt p 0 layer) (f : Fault) where
  -- of a read of sector s
  pub read_names : (buffer buffer' : List ℕ) → Reads layer m s buffer (Err f) m' buffer' → NamesSector s f × Arises p f
  read_names buffer buffer' h = search rules

  -- of a write of sector s
  pub write_names : (content : List ℕ) → Writes layer m s content (Err f) m' → NamesSector s f × Arises p f
  write_names content h = search rules

-- of a flush
pub flush_names : (p : Pile) (m m' : Meaning) → Lawful m → Lawful m' → Named p m → Named p m' → (f : Fault) → Flushes m (Err f) m'
    → (f.sector ≡ 0) × Arises p f
flush_names p m m' law law' named named' f h = search rules
