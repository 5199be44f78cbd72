use Rattle.sitting.proofs.Calls.{record_leads, record_punches_in, record_leaves}
use Rattle.sitting.proofs.Faults.{record_names}
use Rattle.sitting.proofs.Sitting.record_recorder.Goals as goal

pub returns-clause-on : goal.returns-clause-on
returns-clause-on g c =
    record_leads g.D.Device.meaning g.D.Device.layer c.args.self.now.recorder c.record.new.self
    (g.met.D.Device.lawful c.record.new.self.device) g.E.Element.KIND g.E.Element.lawful g.E.Element.bytes g.E.Cell.value
    c.args.take c.args.elements.now c.record.result g.met.E.Element.small g.met.E.Element.told c.record.ensures

pub returns-clause-punched_in : goal.returns-clause-punched_in
returns-clause-punched_in g c =
    record_punches_in g.D.Device.meaning g.D.Device.layer c.args.self.now.recorder c.record.new.self
    (g.met.D.Device.lawful c.record.new.self.device) g.E.Element.KIND g.E.Element.lawful g.E.Element.bytes g.E.Cell.value
    c.args.take c.args.elements.now c.record.result g.met.E.Element.small g.met.E.Element.told c.record.ensures

pub returns-clause-others_stay : goal.returns-clause-others_stay
returns-clause-others_stay g c =
    record_leaves g.D.Device.meaning g.D.Device.layer c.args.self.now.recorder c.record.new.self
    (g.met.D.Device.lawful c.record.new.self.device) g.E.Element.KIND g.E.Element.lawful g.E.Element.bytes g.E.Cell.value
    c.args.take c.args.elements.now c.record.result g.met.E.Element.small g.met.E.Element.told c.record.ensures

pub returns-clause-named : goal.returns-clause-named
returns-clause-named g c =
    record_names g.D.Device.meaning g.D.Device.pile g.D.Device.layer g.met.D.Device.named g.met.D.Device.lawful g.met.D.Device.top
    c.args.self.now.recorder.device c.record.new.self.device
    g.E.Element.KIND g.E.Element.lawful g.E.Element.bytes c.args.self.now.recorder.state c.record.new.self.state c.args.take c.args.elements.now c.record.result c.record.ensures
