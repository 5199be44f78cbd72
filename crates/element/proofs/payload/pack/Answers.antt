use Rattle.std.proofs.Common.{◌≡◌, ◌≤◌, ◌+◌, ◌*◌, ◌-◌, length, arith, drop-drop, suc-mul, add-one}
use Rattle.std.proofs.lemmas.Slice.{take-put_mid, drop-put_mid}
use Rattle.std.proofs.lemmas.Grind.{common_steps}
use Rattle.element.proofs.payload.pack.Goals as goal

pub loop-i-preserved : goal.loop-i-preserved
loop-i-preserved g c =
    let w = c.width-width.result in
    let at = c.loop-i.i * c.width-width.result in
    let next : (c.loop-i.i + 1) * w ≡ at + w = rw (add-one, suc-mul) in
    let wide : length c.put.new.out ≡ w = search arith in
    let within : at + w ≤ length c.loop-i.payload = search arith in
    record {
      fits = c.loop-i.invariant.fits;
      written = rw (take-put_mid at (at + w - at) c.loop-i.payload c.put.new.out ((c.loop-i.i + 1) * w) (omega arith) (omega arith)) (grind (arith, common_steps));
      kept = grind (arith, drop-put_mid at (at + w - at) c.loop-i.payload c.put.new.out ((c.loop-i.i + 1) * w) (omega arith) (omega arith) (omega arith), drop-drop w at c.loop-i.payload, drop-drop w at c.args.payload.now);
    }
