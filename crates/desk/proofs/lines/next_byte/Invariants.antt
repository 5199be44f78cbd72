use Rattle.std.specs.Io.KnownBytes.{Keeps}
use Rattle.desk.proofs.lines.next_byte.Given as goal

-- nothing was taken so far
abbrev pub invariant-loop : goal.invariant-loop
invariant-loop g l = Keeps (g.R.Read.remaining l.initial.input) (g.R.Read.remaining l.input)
