use Rattle.sitting.proofs.Calls.{arm_leads}
use Rattle.sitting.proofs.Faults.{arm_names}
use Rattle.sitting.proofs.Sitting.arm_recorder.Goals as goal

pub returns-clause-on : goal.returns-clause-on
returns-clause-on g c =
    arm_leads g.D.Device.meaning g.D.Device.layer c.args.self.now.recorder c.arm.new.self
    (g.met.D.Device.lawful c.arm.new.self.device) c.arm.result c.arm.ensures

pub returns-clause-named : goal.returns-clause-named
returns-clause-named g c =
    arm_names g.D.Device.meaning g.D.Device.pile g.D.Device.layer g.met.D.Device.named g.met.D.Device.lawful g.met.D.Device.top
    c.args.self.now.recorder.device c.arm.new.self.device
    c.args.self.now.recorder.state c.arm.new.self.state c.arm.result c.arm.ensures
