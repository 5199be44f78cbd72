use Rattle.recorder.specs.declared.State.TheVariants.{Mounted, Armed}
use Rattle.recorder.proofs.Recorder.run_play.Goals as goal

pub returns-in-Mounted : goal.returns-in-Mounted
returns-in-Mounted g c = rw c.in-Mounted.is (c.play_by.ensures (Mounted c.in-Mounted.session))

pub returns-in-Armed : goal.returns-in-Armed
returns-in-Armed g c =
    let played = rw c.session.ensures at c.play_by-in-Armed.ensures in
    rw c.in-Armed.is (played (Armed c.in-Armed.armed))
