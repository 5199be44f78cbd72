use Rattle.std.proofs.Common.{◌-◌, ◌*◌, length, drop, ap, ◌∙◌, length-drop, arith}
use Rattle.std.proofs.lemmas.List.{take_rest, drop_all}
use Rattle.journal.proofs.Fills.{filled_painted}
use Rattle.journal.proofs.paint.put_cells.Goals as goal

pub returns : goal.returns
returns g c =
    let bs = c.args.bytes.now in
    let out = c.args.out.now in
    let skip = c.min-skip.result in
    let start = c.min-start.result in
    filled_painted g.C.Cell.value g.C.Cell.WIDTH c.args.at c.args.from skip start c.fill.result bs _ out _ c.fill.new.out _ g.met.C.Cell.nonzero
    (rw (c.saturating_sub.ensures, c.WIDTH.ensures) at c.min-skip.ensures)
    (rw c.saturating_sub-2.ensures at c.min-start.ensures)
    (take_rest bs (skip * c.WIDTH-2.result) ∙ ap (λ k. drop (skip * k) bs) c.WIDTH-2.ensures)
    (take_rest out start)
    c.fill.ensures.count
    c.fill.ensures.elements
    (drop_all (length out - start) (drop start out) (simp length-drop (omega arith)))
