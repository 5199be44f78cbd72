-- Commands, as lines say them.
use Rattle.std.specs.Prelude.{ℕ, List, ℤ}
use Rattle.element.specs.declared.kind.Kind.{Kind}
use Rattle.element.specs.declared.mark.Mark.{Mark as AlarmMark}

-- a command with its numbers
pub data Said : Type 0 where
  Format : (kinds : List Kind) → (rate sitting : ℕ) → Said
  Mount : Said
  Arm : Said
  Begin : (track position : ℕ) → Said
  Sound : (take : ℕ) → (samples : List ℤ) → Said
  Mark : (take : ℕ) → (mark : AlarmMark) → Said
  End : (take : ℕ) → Said
  Withdraw : (track : ℕ) → Said
  Play : (track : ℕ) → Said
  Save : Said
  Cut : (plan : List ℕ) → Said
  Fuse : (count : ℕ) → Said
