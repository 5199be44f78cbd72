use Rattle.sitting.proofs.Calls.{begin_leads, begin_leaves}
use Rattle.sitting.proofs.Faults.{begin_names}
use Rattle.sitting.proofs.Sitting.begin_recorder.Goals as goal

pub returns-clause-on : goal.returns-clause-on
returns-clause-on g c =
    begin_leads g.D.Device.meaning g.D.Device.layer c.args.self.now.recorder c.begin.new.self
    (g.met.D.Device.lawful c.begin.new.self.device) c.args.track c.args.position c.begin.result c.begin.ensures

pub returns-clause-named : goal.returns-clause-named
returns-clause-named g c =
    begin_names g.D.Device.meaning g.D.Device.pile g.D.Device.layer g.met.D.Device.named g.met.D.Device.lawful g.met.D.Device.top
    c.args.self.now.recorder.device c.begin.new.self.device
    c.args.self.now.recorder.state c.begin.new.self.state c.args.track c.args.position c.begin.result c.begin.ensures

pub returns-clause-tracks_stay : goal.returns-clause-tracks_stay
returns-clause-tracks_stay g c =
    begin_leaves g.D.Device.meaning g.D.Device.layer c.args.self.now.recorder c.begin.new.self
    (g.met.D.Device.lawful c.begin.new.self.device) c.args.track c.args.position c.begin.result c.begin.ensures
