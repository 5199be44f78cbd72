-- One sector more was gone through; or the work ends at a fault.
use Rattle.std.proofs.Common.{◌≡◌, ◌+◌, ◌≤◌, cond, Err, arith, rules}
use Rattle.recorder.proofs.Blanks.{well_few}
use Rattle.recorder.proofs.format.wipe_all.Goals as goal

pub returns-in_err-wipe : goal.returns-in_err-wipe
returns-in_err-wipe g c =
    let told : c.from_residual.result ≡ Err c.in_err-wipe.field-0.0 = search rules in
    rw told (c.in_err-wipe.ensures (g.D.Device.meaning c.args.device.now) c.loop-place.blanked c.loop-place.invariant.blanking)

pub overflow_add-blanked : goal.overflow_add-blanked
overflow_add-blanked g c =
    let start = g.D.Device.meaning c.args.device.now in
    let few = well_few start c.loop-place.place in
    let count = c.loop-place.invariant.blanking.count in
    let k : c.from.result ≡ cond c.in_ok-wipe.field-0 1 0 = search rules in
    let one : c.from.result ≤ 1 = search rules in
    let a : c.loop-place.blanked + c.from.result ≤ 65536 = omega (arith, c.size_of-place-end.ensures.small, c.loop-place-test.true) in
    omega arith

pub loop-place-preserved : goal.loop-place-preserved
loop-place-preserved g c =
    let h = c.in_ok-wipe.ensures (g.D.Device.meaning c.args.device.now) c.loop-place.blanked c.loop-place.invariant.blanking in
    let k : c.from.result ≡ cond c.in_ok-wipe.field-0 1 0 = search rules in
    record { zeros = c.loop-place.invariant.zeros; blanking = rw k h }
