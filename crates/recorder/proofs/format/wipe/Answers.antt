-- The three ends of a step: the sector was blanked, it is sick and passed over, or the work ends at a fault.
use Rattle.recorder.proofs.Blanks.{wipes, wipe_fails, wipe_skips}
use Rattle.recorder.proofs.format.wipe.Goals as goal

pub returns-in-Ok : goal.returns-in-Ok
returns-in-Ok g c = λ start blanked i.
    wipes start (g.D.Device.meaning c.args.device.now) (g.D.Device.meaning c.write.new.self) c.args.place blanked i g.D.Device.layer
    (rw c.requires.zeros at c.in-Ok.ensures.meets)

pub returns-in-Err : goal.returns-in-Err
returns-in-Err g c = λ start blanked i.
    wipe_skips start (g.D.Device.meaning c.args.device.now) (g.D.Device.meaning c.write.new.self) c.args.place blanked i g.D.Device.layer c.in-Err.fault
    (g.met.D.Device.lawful c.args.device.now) c.requires.place (rw c.requires.zeros at c.in-Err.ensures.meets) (g.met.D.Device.lawful c.write.new.self)
    c.if-passes_over.ensures.0 c.if-passes_over.ensures.1

pub returns-in-Err-2 : goal.returns-in-Err-2
returns-in-Err-2 g c = λ start blanked i.
    wipe_fails start (g.D.Device.meaning c.args.device.now) (g.D.Device.meaning c.write.new.self) c.args.place blanked i g.D.Device.layer c.in-Err.fault
    (g.met.D.Device.lawful c.args.device.now) c.requires.place (rw c.requires.zeros at c.in-Err.ensures.meets) c.if-passes_over.ensures
