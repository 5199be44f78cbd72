-- The three ends of a step: the sector was read, it is sick, or power went off.
use Rattle.std.proofs.Common.{rules}
use Rattle.recorder.proofs.Search.{sought, sick_ends, loss_ends}
use Rattle.recorder.proofs.mount.extend.Goals as goal

pub returns-in-Ok : goal.returns-in-Ok
returns-in-Ok g c = λ start there i.
    let m = g.D.Device.meaning c.args.device.now in
    let s = c.args.session.now in
    rw c.is_some.ensures
    (sought start m s i g.D.Device.layer (g.D.Device.meaning c.read.new.self) c.args.sector.now c.read.new.buffer c.absorb.result c.absorb.new.self
    (rw c.place.ensures at c.in-Ok.ensures.meets) c.absorb.ensures)

pub returns-in-Err : goal.returns-in-Err
returns-in-Err g c = λ start there i.
    let m = g.D.Device.meaning c.args.device.now in
    sick_ends start m c.args.session.now i g.D.Device.layer (g.D.Device.meaning c.read.new.self) c.args.sector.now c.read.new.buffer c.in-Err.fault
    (g.met.D.Device.lawful c.args.device.now) (g.met.D.Device.lawful c.read.new.self) there (rw c.place.ensures at c.in-Err.ensures.meets) (search rules)

pub returns-in-Err-2 : goal.returns-in-Err-2
returns-in-Err-2 g c = λ start there i.
    let m = g.D.Device.meaning c.args.device.now in
    loss_ends start m c.args.session.now i g.D.Device.layer (g.D.Device.meaning c.read.new.self) c.args.sector.now c.read.new.buffer c.in-Err.fault
    (g.met.D.Device.lawful c.args.device.now) (g.met.D.Device.lawful c.read.new.self) there (rw c.place.ensures at c.in-Err.ensures.meets) (search rules)
