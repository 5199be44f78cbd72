use Rattle.std.proofs.Common.{◌≡◌, drop}
use Rattle.sector.specs.Crc.{register}
use Rattle.sector.proofs.crc.take_bytes.Given as goal

abbrev pub invariant-loop-b : goal.invariant-loop-b
invariant-loop-b l = register l.c (drop l.b-index l.bytes) ≡ register l.initial.c l.bytes
