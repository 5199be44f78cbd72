use Rattle.std.proofs.Common.{◌≡◌, ℕ, ◌≤◌, List, ◌++◌, length, drop}
use Rattle.sector.specs.Crc.{register}
use Rattle.sector.specs.Window.{value}
use Rattle.sector.proofs.Loops.{flat}
use Rattle.sector.proofs.crc.fold.Given as goal

abbrev pub invariant-loop-chunk : goal.invariant-loop-chunk
invariant-loop-chunk l =
    (back : List ℕ) → 38 ≤ length back
    → register (value l.s) (flat (drop l.chunk-index l.words) ++ back) ≡ register (value l.initial.s) (flat l.words ++ back)
