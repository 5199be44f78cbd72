use Rattle.std.proofs.Common.{arith}
use Rattle.sitting.proofs.Calls.{format_begins, format_resumes}
use Rattle.sitting.proofs.Faults.{format_names}
use Rattle.sitting.proofs.Sitting.format_recorder.Goals as goal

pub returns-clause-begins : goal.returns-clause-begins
returns-clause-begins g c =
    format_begins g.D.Device.meaning g.D.Device.layer c.args.self.now.recorder c.format.new.self
    (g.met.D.Device.lawful c.format.new.self.device) c.args.kinds.now c.args.rate c.args.sitting c.format.result (omega (arith, c.ranges.sitting)) c.format.ensures

pub returns-clause-on : goal.returns-clause-on
returns-clause-on g c =
    format_resumes g.D.Device.meaning g.D.Device.layer c.args.self.now.recorder c.format.new.self
    (g.met.D.Device.lawful c.format.new.self.device) c.args.kinds.now c.args.rate c.args.sitting c.format.result c.format.ensures

pub returns-clause-named : goal.returns-clause-named
returns-clause-named g c =
    format_names g.D.Device.meaning g.D.Device.pile g.D.Device.layer g.met.D.Device.named g.met.D.Device.lawful g.met.D.Device.top
    c.args.self.now.recorder.device c.format.new.self.device
    c.args.self.now.recorder.state c.format.new.self.state c.args.kinds.now c.args.rate c.args.sitting c.format.result c.format.ensures
