-- What a write did to the sides is what it does to the mirror, and to its sides' lists.
use Rattle.std.proofs.Common.{sym, ◌∙◌}
use Rattle.layers.specs.Sides.{sides_of}
use Rattle.layers.proofs.Mirrors.{write_joined}
use Rattle.layers.proofs.mirror.MirrorDevice.write.Goals as goal

pub returns-clause-meets : goal.returns-clause-meets
returns-clause-meets g c =
    let before = c.args.self.now in
    let after = c.write_both.new.self in
    (write_joined g.D.Device.layer g.E.Device.layer (sides_of g.D.Device.meaning g.E.Device.meaning before) (sides_of g.D.Device.meaning g.E.Device.meaning after)
    c.args.sector c.args.content.now c.write_both.result
    (g.met.D.Device.lawful before.first, g.met.E.Device.lawful before.second) (g.met.D.Device.lawful after.first, g.met.E.Device.lawful after.second)
    (sym c.ready.ensures ∙ c.in_ok-ready.was) c.write_both.ensures.sides).0

pub returns-clause-lists : goal.returns-clause-lists
returns-clause-lists g c =
    let before = c.args.self.now in
    let after = c.write_both.new.self in
    (write_joined g.D.Device.layer g.E.Device.layer (sides_of g.D.Device.meaning g.E.Device.meaning before) (sides_of g.D.Device.meaning g.E.Device.meaning after)
    c.args.sector c.args.content.now c.write_both.result
    (g.met.D.Device.lawful before.first, g.met.E.Device.lawful before.second) (g.met.D.Device.lawful after.first, g.met.E.Device.lawful after.second)
    (sym c.ready.ensures ∙ c.in_ok-ready.was) c.write_both.ensures.sides).1
