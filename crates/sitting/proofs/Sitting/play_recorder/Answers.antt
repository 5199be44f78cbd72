use Rattle.sitting.proofs.Calls.{play_leads, play_shows}
use Rattle.sitting.proofs.Faults.{play_names}
use Rattle.sitting.proofs.Sitting.play_recorder.Goals as goal

pub returns-clause-on : goal.returns-clause-on
returns-clause-on g c =
    play_leads g.D.Device.meaning g.D.Device.layer c.args.self.now.recorder c.play.new.self
    (g.met.D.Device.lawful c.play.new.self.device) g.E.Element.KIND g.E.Cell.value g.E.Cell.WIDTH
    c.args.track c.args.from c.args.out.now c.play.result c.play.new.out c.play.ensures

pub returns-clause-shows : goal.returns-clause-shows
returns-clause-shows g c =
    play_shows g.D.Device.meaning g.D.Device.layer c.args.self.now.recorder c.play.new.self
    (g.met.D.Device.lawful c.play.new.self.device) g.E.Element.KIND g.E.Cell.value g.E.Cell.WIDTH
    c.args.track c.args.from c.args.out.now c.play.result c.play.new.out c.play.ensures g.met.E.Element.same_width

pub returns-clause-named : goal.returns-clause-named
returns-clause-named g c =
    play_names g.D.Device.meaning g.D.Device.pile g.D.Device.layer g.met.D.Device.named g.met.D.Device.lawful g.met.D.Device.top
    c.args.self.now.recorder.device c.play.new.self.device g.E.Element.KIND g.E.Cell.value g.E.Cell.WIDTH
    c.args.self.now.recorder.state c.play.new.self.state c.args.track c.args.from c.args.out.now c.play.new.out c.play.result c.play.ensures
