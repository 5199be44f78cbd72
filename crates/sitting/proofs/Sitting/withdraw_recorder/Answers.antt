use Rattle.sitting.proofs.Calls.{withdraw_leads, withdraw_restores, withdraw_leaves}
use Rattle.sitting.proofs.Faults.{withdraw_names}
use Rattle.sitting.proofs.Sitting.withdraw_recorder.Goals as goal

pub returns-clause-on : goal.returns-clause-on
returns-clause-on g c =
    withdraw_leads g.D.Device.meaning g.D.Device.layer c.args.self.now.recorder c.withdraw.new.self
    (g.met.D.Device.lawful c.withdraw.new.self.device) c.args.track c.withdraw.result c.withdraw.ensures

pub returns-clause-restored : goal.returns-clause-restored
returns-clause-restored g c =
    withdraw_restores g.D.Device.meaning g.D.Device.layer c.args.self.now.recorder c.withdraw.new.self
    (g.met.D.Device.lawful c.withdraw.new.self.device) c.args.track c.withdraw.result c.withdraw.ensures

pub returns-clause-others_stay : goal.returns-clause-others_stay
returns-clause-others_stay g c =
    withdraw_leaves g.D.Device.meaning g.D.Device.layer c.args.self.now.recorder c.withdraw.new.self
    (g.met.D.Device.lawful c.withdraw.new.self.device) c.args.track c.withdraw.result c.withdraw.ensures

pub returns-clause-named : goal.returns-clause-named
returns-clause-named g c =
    withdraw_names g.D.Device.meaning g.D.Device.pile g.D.Device.layer g.met.D.Device.named g.met.D.Device.lawful g.met.D.Device.top
    c.args.self.now.recorder.device c.withdraw.new.self.device
    c.args.self.now.recorder.state c.withdraw.new.self.state c.args.track c.withdraw.result c.withdraw.ensures
