-- What a flush did to the sides is what it does to the mirror.
use Rattle.std.proofs.Common.{sym, ◌∙◌}
use Rattle.layers.specs.Sides.{sides_of}
use Rattle.layers.proofs.Mirrors.{flush_joined}
use Rattle.layers.proofs.mirror.MirrorDevice.flush.Goals as goal

pub returns-clause-meets : goal.returns-clause-meets
returns-clause-meets g c =
    let after = c.flush_both.new.self in
    flush_joined (sides_of g.D.Device.meaning g.E.Device.meaning c.args.self.now) (sides_of g.D.Device.meaning g.E.Device.meaning after) c.flush_both.result
    (g.met.D.Device.lawful after.first, g.met.E.Device.lawful after.second) (sym c.power.ensures ∙ c.in_ok-power.was) c.flush_both.ensures.sides
