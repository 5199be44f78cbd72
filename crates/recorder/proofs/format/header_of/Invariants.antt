-- The kinds of the numbers so far, and Sound behind them.
use Rattle.std.proofs.Common.{◌≡◌, ◌-◌, ◌++◌, take, map, replicate}
use Rattle.element.specs.declared.kind.Kind.TheVariants.{Sound}
use Rattle.recorder.specs.Formats.{kind_named}
use Rattle.recorder.proofs.format.header_of.Given as goal

abbrev pub invariant-loop-i : goal.invariant-loop-i
invariant-loop-i l = l.kinds ≡ map kind_named (take l.i l.numbers) ++ replicate (8 - l.i) Sound
