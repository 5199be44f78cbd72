use Rattle.std.proofs.Common.{◌≡◌, ◌≤◌, ◌*◌, ◌++◌, length, drop}
use Rattle.element.specs.Payload.{unpacked}
use Rattle.element.proofs.payload.fill.Given as goal

-- which bytes the chunks that are left are of, and what is read so far
abbrev pub invariant-loop-i : goal.invariant-loop-i
invariant-loop-i g l =
    let w = g.C.Cell.WIDTH in
    record {
      width : l.chunks.size ≡ w;
      within : l.i * w ≤ length l.payload;
      left : l.chunks.rest.now ≡ drop (l.i * w) l.payload;
      read : l.out ≡ unpacked g.C.Cell.value w l.i l.payload ++ drop l.i l.initial.out;
    }
