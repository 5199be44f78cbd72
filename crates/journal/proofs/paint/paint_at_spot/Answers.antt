use Rattle.std.proofs.Common.{◌*◌, ◌∙◌, eq-eqb}
use Rattle.element.specs.Payload.{unpacked}
use Rattle.sector.specs.Layout.{payload_of}
use Rattle.journal.specs.Painting.{two_at, four_at, take_of}
use Rattle.journal.proofs.Sectors.{block_painted}
use Rattle.journal.proofs.paint.paint_at_spot.Goals as goal

pub returns : goal.returns
returns g c =
    let s = c.args.sector.now in
    let w = g.C.Cell.WIDTH in
    let count = two_at s 2 * c.args.per in
    block_painted c.args.per c.args.spot c.args.from _ (count * w) (take_of s) (four_at s 20) (unpacked g.C.Cell.value w count (payload_of s)) c.args.out.now c.paint_block.new.out
    (eq-eqb _ _ (c.if-sector-into.false ∙ c.into.ensures))
    (rw (c.from_le_bytes-count.ensures, c.four_at-offset.ensures, c.payload_of.ensures) at c.paint_block.ensures.fits)
    (rw c.from_le_bytes-count.ensures at c.paint_block.ensures.over)
