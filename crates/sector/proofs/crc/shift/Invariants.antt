use Rattle.std.proofs.Common.{◌≡◌, drop}
use lib.Bits.{bit_xor}
use Rattle.sector.specs.Crc.{register}
use Rattle.sector.proofs.crc.shift.Given as goal

abbrev pub invariant-loop-i : goal.invariant-loop-i
invariant-loop-i g l = bit_xor l.c (register 0 (drop l.i l.bytes)) ≡ register 0 l.bytes
