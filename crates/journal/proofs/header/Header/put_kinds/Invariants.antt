use Rattle.std.proofs.Common.{◌≡◌, take, drop, map}
use Rattle.element.specs.Kinds.{kind_number}
use Rattle.journal.proofs.header.Header.put_kinds.Given as goal

-- a byte for each kind so far, and the rest as it was
abbrev pub invariant-loop-i : goal.invariant-loop-i
invariant-loop-i l = record {
  written : take l.i l.payload ≡ map kind_number (take l.i l.kind-items);
  kept : drop l.i l.payload ≡ drop l.i l.initial.payload;
}
