use Rattle.std.proofs.Common.{◌≡◌, ◌+◌, ◌-◌, ◌*◌, ◌++◌, length, drop, ap, sym, ◌∙◌, arith, drop-drop, length-append, length-drop, suc-mul, add-one}
use Rattle.std.proofs.lemmas.List.{drop_at}
use Rattle.element.proofs.Unpacks.{filled_more}
use Rattle.element.proofs.payload.fill.Goals as goal

pub loop-i-preserved : goal.loop-i-preserved
loop-i-preserved g c =
    let w = g.C.Cell.WIDTH in
    let i = c.loop-i.i in
    let bs = c.args.payload.now in
    let chunk = c.in-Some.bytes.now in
    let after = c.next.new.self.rest.now in
    let split : c.loop-i.chunks.rest.now ≡ chunk ++ after = c.in-Some.ensures.steps.1.0 in
    let wide : length chunk ≡ w = c.in-Some.ensures.steps.1.1 ∙ c.loop-i.invariant.width in
    let next : (i + 1) * w ≡ i * w + w = rw (add-one, suc-mul) (omega arith) in
    let both : length chunk + length after ≡ length bs - i * w = sym (length-append chunk after) ∙ ap length (sym split ∙ c.loop-i.invariant.left) ∙ length-drop (i * w) bs in
    record {
      width = c.in-Some.ensures.steps.0 ∙ c.loop-i.invariant.width;
      within = omega arith;
      left = sym (drop_at chunk after w wide) ∙ ap (drop w) (sym split ∙ c.loop-i.invariant.left) ∙ drop-drop w (i * w) bs ∙ ap (λ k. drop k bs) (sym next);
      read = filled_more g.C.Cell.value w i bs c.loop-i.chunks.rest.now chunk after c.args.out.now c.loop-i.out c.get.result c.loop-i.invariant.read (omega arith) c.loop-i.invariant.left split wide c.get.ensures;
    }
