use Rattle.std.proofs.Common.{◌≡◌, ◌+◌, ◌*◌, ◌/◌, length, take, arith}
use Rattle.std.proofs.Math.Nat.{sub-zero}
use Rattle.element.specs.Payload.{unpacked}
use Rattle.journal.proofs.Fills.{unpacked_cut}
use Rattle.journal.proofs.paint.paint_block.Goals as goal

pub returns-clause-fits : goal.returns-clause-fits
returns-clause-fits g c h =
    let v = g.C.Cell.value in
    let w = g.C.Cell.WIDTH in
    let n = c.args.count * c.args.per in
    let bytes = c.in-Some-get.bytes.now in
    let front : bytes ≡ take (n * w) c.args.payload.now = rw (c.from.ensures, c.WIDTH.ensures, sub-zero) at c.in-Some-get.ensures.lookup.0.2 in
    let cut : unpacked v w (length bytes / w) bytes ≡ unpacked v w n c.args.payload.now = unpacked_cut v w n c.args.payload.now bytes g.met.C.Cell.nonzero (omega arith) front in
    let where_it_lies : (c.from-2.result + c.from-3.result) * c.args.per ≡ (c.in-Some.position + c.args.offset) * c.args.per = rw (c.from-2.ensures, c.from-3.ensures) in
    rw c.in-Some.is (rw (where_it_lies, cut) at c.put_cells.ensures)
