use Rattle.sitting.proofs.Calls.{export_leads, export_writes, export_readable}
use Rattle.sitting.proofs.Faults.{export_names}
use Rattle.sitting.proofs.Sitting.export_recorder.Goals as goal

pub returns-clause-on : goal.returns-clause-on
returns-clause-on g c =
    export_leads g.D.Device.meaning g.D.Device.layer c.args.self.now.recorder c.export.new.self
    (g.met.D.Device.lawful c.export.new.self.device) c.args.track c.args.out.now c.export.result c.export.new.out c.export.ensures

pub returns-clause-writes : goal.returns-clause-writes
returns-clause-writes g c =
    export_writes g.D.Device.meaning g.D.Device.layer c.args.self.now.recorder c.export.new.self
    (g.met.D.Device.lawful c.export.new.self.device) c.args.track c.args.out.now c.export.result c.export.new.out c.export.ensures

pub returns-clause-readable : goal.returns-clause-readable
returns-clause-readable g c =
    export_readable g.D.Device.meaning g.D.Device.layer c.args.self.now.recorder c.export.new.self
    (g.met.D.Device.lawful c.export.new.self.device) c.args.track c.args.out.now c.export.result c.export.new.out c.export.ensures

pub returns-clause-named : goal.returns-clause-named
returns-clause-named g c =
    export_names g.D.Device.meaning g.D.Device.pile g.D.Device.layer g.met.D.Device.named g.met.D.Device.lawful g.met.D.Device.top
    c.args.self.now.recorder.device c.export.new.self.device
    c.args.self.now.recorder.state c.export.new.self.state c.args.track c.args.out.now c.export.new.out c.export.result c.export.ensures
