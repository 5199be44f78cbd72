use Rattle.std.proofs.Common.{sym, ◌∙◌, arith}
use Rattle.element.proofs.Unpacks.{read_back}
use Rattle.element.proofs.payload.unpack.Goals as goal

pub returns-clause-back : goal.returns-clause-back
returns-clause-back g c = λ xs rest h s l.
    let m = g.met.E.Element in
    read_back g.E.Element.bytes g.E.Cell.value g.E.Element.lawful g.E.Cell.WIDTH (λ x. m.wide x ∙ sym m.same_width) (λ x k. (m.told x k).1) c.fill.result c.args.payload.now _ _ c.fill.ensures.elements xs rest h s (omega arith)
