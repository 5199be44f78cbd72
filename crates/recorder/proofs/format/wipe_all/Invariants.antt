-- The sectors so far were gone through.
use Rattle.std.proofs.Common.{◌≡◌}
use Rattle.recorder.specs.Formats.{zeros, Blanking}
use Rattle.recorder.proofs.format.wipe_all.Given as goal

abbrev pub invariant-loop-place : goal.invariant-loop-place
invariant-loop-place g l = record {
  zeros : l.blank ≡ zeros;
  blanking : Blanking (g.D.Device.meaning l.fn.device) l.place l.blanked (g.D.Device.meaning l.device);
}
