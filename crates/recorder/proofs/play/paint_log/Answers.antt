use Rattle.std.proofs.Common.{◌≡◌, ◌+◌, Err, refl, arith, rules}
use Rattle.recorder.specs.Plays.{played}
use Rattle.recorder.proofs.Devices.{settled_refl, settled_trans, read}
use Rattle.recorder.proofs.Plays.{starts, goes_on, halts}
use Rattle.recorder.proofs.play.paint_log.Goals as goal

pub loop-done-init : goal.loop-done-init
loop-done-init g c =
    let start = g.D.Device.meaning c.args.device.now in
    record {
      kept = settled_refl start;
      so_far = starts start (λ n. played g.C.Cell.value g.C.Cell.WIDTH c.args.session.now start c.args.track c.args.from n c.args.out.now) c.requires c.args.out.now refl;
    }

pub returns-in_err-read : goal.returns-in_err-read
returns-in_err-read g c =
    let start = g.D.Device.meaning c.args.device.now in
    let told : c.from_residual.result ≡ Err c.in_err-read.field-0.0 = search rules in
    rw told
    (halts start (λ n. played g.C.Cell.value g.C.Cell.WIDTH c.args.session.now start c.args.track c.args.from n c.args.out.now) g.D.Device.layer c.args.session.now.entries
    c.loop-done.done _ (g.D.Device.meaning c.loop-done.device) (g.D.Device.meaning c.read.new.self)
    c.loop-done.sector c.read.new.buffer c.loop-done.out (omega arith) c.loop-done.invariant.kept
    c.loop-done.invariant.so_far c.in_err-read.ensures.meets)

pub loop-done-preserved : goal.loop-done-preserved
loop-done-preserved g c =
    let start = g.D.Device.meaning c.args.device.now in
    let before = g.D.Device.meaning c.loop-done.device in
    let after = g.D.Device.meaning c.read.new.self in
    let got = read g.D.Device.layer before after (c.loop-done.done + 1) c.loop-done.sector c.read.new.buffer c.in_ok-read.ensures.meets in
    record {
      kept = settled_trans start before after c.loop-done.invariant.kept got.kept;
      so_far =
          goes_on g.C.Cell.value g.C.Cell.WIDTH c.args.session.now start c.args.track c.args.from c.args.out.now c.loop-done.done before after
          c.read.new.buffer c.loop-done.out c.paint.new.out c.loop-done.invariant.kept got c.loop-done.invariant.so_far c.paint.ensures;
    }
