use Rattle.std.proofs.Common.{◌≡◌, ◌^◌, ◌<◌, drop}
use Rattle.script.specs.Numbers.{natural}
use Rattle.script.proofs.Numerals.{natural_after}
use Rattle.script.proofs.number.digits.Given as goal

-- what the word writes is what the rest writes after the value so far
abbrev pub invariant-loop-byte : goal.invariant-loop-byte
invariant-loop-byte l =
    (l.value < 2 ^ 32) × (natural 4294967295 l.word ≡ natural_after 4294967295 l.value (drop l.byte-index l.word))
