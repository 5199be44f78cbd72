use Rattle.std.proofs.Common.{◌≡◌, drop}
use Rattle.sector.specs.Crc.{register}
use Rattle.sector.proofs.Loops.{flat}
use Rattle.sector.proofs.crc.update.Given as goal

abbrev pub invariant-loop-chunk : goal.invariant-loop-chunk
invariant-loop-chunk l = register l.c (flat (drop l.chunk-index l.fours)) ≡ register l.initial.c (flat l.fours)
