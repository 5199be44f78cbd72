use Rattle.std.proofs.Common.{◌≡◌, ◌≤◌, ℕ, length, take, map, get_or}
use Rattle.element.specs.declared.kind.Kind.TheVariants.{Sound}
use Rattle.element.specs.Kinds.{kind_number}
use Rattle.journal.proofs.header.kinds_from.Given as goal

-- the kinds of the numbers so far, and Sound behind them
abbrev pub invariant-loop-i : goal.invariant-loop-i
invariant-loop-i l = record {
  eight : length l.kinds ≡ 8;
  front : take l.i l.numbers ≡ map kind_number (take l.i l.kinds);
  rest : (k : ℕ) → l.i ≤ k → get_or l.kinds k Sound ≡ Sound;
}
