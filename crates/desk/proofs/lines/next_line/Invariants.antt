use Rattle.desk.proofs.Readings.{Reads}
use Rattle.desk.proofs.lines.next_line.Given as goal

-- so far the line was read
abbrev pub invariant-loop : goal.invariant-loop
invariant-loop g l = Reads (g.R.Read.remaining l.initial.input) l.line.items (g.R.Read.remaining l.input)
