-- What a read did to the sides is what it does to the mirror.
use Rattle.std.proofs.Common.{sym, ◌∙◌}
use Rattle.layers.specs.Sides.{sides_of}
use Rattle.layers.proofs.Mirrors.{read_joined}
use Rattle.layers.proofs.mirror.MirrorDevice.read.Goals as goal

pub returns-clause-meets : goal.returns-clause-meets
returns-clause-meets g c =
    let before = c.args.self.now in
    let after = c.read_either.new.self in
    read_joined g.D.Device.layer g.E.Device.layer (sides_of g.D.Device.meaning g.E.Device.meaning before) (sides_of g.D.Device.meaning g.E.Device.meaning after)
    c.args.sector c.args.buffer.now c.read_either.result c.read_either.new.buffer
    (g.met.D.Device.lawful before.first, g.met.E.Device.lawful before.second) (g.met.D.Device.lawful after.first, g.met.E.Device.lawful after.second)
    (sym c.ready.ensures ∙ c.in_ok-ready.was) c.read_either.ensures.sides
