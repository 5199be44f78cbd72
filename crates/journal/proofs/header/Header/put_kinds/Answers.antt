use Rattle.std.proofs.Common.{◌≡◌, length, map, replicate, ap, ◌∙◌, arith}
use Rattle.element.specs.Kinds.{kind_number}
use Rattle.journal.specs.Headers.{padded}
use Rattle.journal.proofs.Headers.{bytes_put}
use Rattle.journal.proofs.header.Header.put_kinds.Goals as goal

pub returns : goal.returns
returns c =
    let zeros : c.fill.new.self ≡ replicate (length c.loop-i.payload) 0 = c.fill.ensures.after (λ y e. e) ∙ ap (λ n. replicate n 0) (omega arith) in
    bytes_put c.track_kinds-kind-items.result.now c.loop-i.payload c.fill.new.self c.loop-i.i (omega arith) (omega arith) zeros
    c.loop-i.invariant.written c.loop-i.invariant.kept
    ∙ ap (λ ks. padded (map kind_number ks)) c.track_kinds-kind-items.ensures
