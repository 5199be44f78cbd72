use Rattle.std.proofs.Common.{◌*◌, take, drop, ap, ◌∙◌}
use Rattle.journal.proofs.Payloads.{parts_tell}
use Rattle.journal.proofs.payload.parts.Goals as goal

pub returns : goal.returns
returns c =
    let p = c.args.payload.now in
    let n = c.args.count in
    parts_tell c.args.kind n p c.split_at.result.0.now c.split_at.result.1.now c.requires c.told-payload c.fits-payload
    (c.split_at.ensures.front ∙ ap (λ w. take (n * w) p) c.width.ensures) (c.split_at.ensures.back ∙ ap (λ w. drop (n * w) p) c.width.ensures)
