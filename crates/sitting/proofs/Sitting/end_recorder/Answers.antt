use Rattle.sitting.proofs.Calls.{end_leads, end_leaves}
use Rattle.sitting.proofs.Faults.{end_names}
use Rattle.sitting.proofs.Sitting.end_recorder.Goals as goal

pub returns-clause-on : goal.returns-clause-on
returns-clause-on g c =
    end_leads g.D.Device.meaning g.D.Device.layer c.args.self.now.recorder c.end.new.self
    (g.met.D.Device.lawful c.end.new.self.device) c.args.take c.end.result c.end.ensures

pub returns-clause-named : goal.returns-clause-named
returns-clause-named g c =
    end_names g.D.Device.meaning g.D.Device.pile g.D.Device.layer g.met.D.Device.named g.met.D.Device.lawful g.met.D.Device.top
    c.args.self.now.recorder.device c.end.new.self.device
    c.args.self.now.recorder.state c.end.new.self.state c.args.take c.end.result c.end.ensures

pub returns-clause-tracks_stay : goal.returns-clause-tracks_stay
returns-clause-tracks_stay g c =
    end_leaves g.D.Device.meaning g.D.Device.layer c.args.self.now.recorder c.end.new.self
    (g.met.D.Device.lawful c.end.new.self.device) c.args.take c.end.result c.end.ensures
