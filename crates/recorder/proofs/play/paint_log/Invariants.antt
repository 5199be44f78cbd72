use Rattle.recorder.specs.Devices.{Settled}
use Rattle.recorder.specs.Plays.{played, PlayedTo}
use Rattle.recorder.proofs.play.paint_log.Given as goal

abbrev pub invariant-loop-done : goal.invariant-loop-done
invariant-loop-done g l =
    let start = g.D.Device.meaning l.initial.device in
    record {
      kept : Settled start (g.D.Device.meaning l.device);
      so_far : PlayedTo start (λ n. played g.C.Cell.value g.C.Cell.WIDTH l.session start l.track l.from n l.initial.out) l.done l.out;
    }
