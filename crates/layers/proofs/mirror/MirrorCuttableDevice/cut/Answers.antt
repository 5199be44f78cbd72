-- Two sides that were cut make a mirror that was cut.
use Rattle.std.proofs.Common.{◌∷◌}
use Rattle.device.proofs.Cuts.{each_append}
use Rattle.layers.proofs.Mirrors.{mirror_cut}
use Rattle.layers.proofs.mirror.MirrorCuttableDevice.cut.Goals as goal

pub returns-clause-each : goal.returns-clause-each
returns-clause-each g c =
    let before = c.args.self.now in
    let after = c.cut_both.new.self in
    let h = c.cut_both.ensures.first.each in
    let k = c.cut_both.ensures.second.each in
    let a = g.D.Device.meaning before.first in
    let b = g.E.Device.meaning before.second in
    let a' = g.D.Device.meaning after.first in
    let b' = g.E.Device.meaning after.second in (
      mirror_cut a b a' b' h.0 k.0,
      each_append
          (a ∷ g.D.CuttableDevice.below before.first) (a' ∷ g.D.CuttableDevice.below after.first)
          (b ∷ g.E.CuttableDevice.below before.second) (b' ∷ g.E.CuttableDevice.below after.second) h k,
    )
