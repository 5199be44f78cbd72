use Rattle.std.proofs.Common.{◌≡◌, ◌≤◌, ◌*◌, ◌/◌, length, take, drop}
use Rattle.std.specs.List.{flat_map}
use Rattle.element.proofs.payload.pack.Given as goal

-- that all fit, what is written so far, and that the rest is as it was
abbrev pub invariant-loop-i : goal.invariant-loop-i
invariant-loop-i g l =
    record {
      fits : length l.elements ≤ length l.initial.payload / l.width;
      written : take (l.i * l.width) l.payload ≡ flat_map g.E.Element.bytes (take l.i l.elements);
      kept : drop (l.i * l.width) l.payload ≡ drop (l.i * l.width) l.initial.payload;
    }
