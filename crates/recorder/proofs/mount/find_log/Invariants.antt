-- What was taken in so far was found on the device, an entry each turn.
use Rattle.std.proofs.Common.{◌≡◌, ◌+◌}
use Rattle.device.specs.Meaning.{Meaning}
use Rattle.recorder.specs.Mounts.{HeaderFound, Seeking}
use Rattle.recorder.proofs.mount.find_log.Given as goal

abbrev pub invariant-loop : goal.invariant-loop
invariant-loop g l =
    (start : Meaning) → HeaderFound start l.fn.header (g.D.Device.meaning l.initial.device)
    → Seeking start l.session (g.D.Device.meaning l.device) × (l.session.entries + 1 ≡ l.counter)
