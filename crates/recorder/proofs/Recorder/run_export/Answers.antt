use Rattle.recorder.specs.declared.State.TheVariants.{Mounted, Armed}
use Rattle.recorder.proofs.Recorder.run_export.Goals as goal

pub returns-in-Mounted : goal.returns-in-Mounted
returns-in-Mounted g c = rw c.in-Mounted.is (c.export_by.ensures (Mounted c.in-Mounted.session))

pub returns-in-Armed : goal.returns-in-Armed
returns-in-Armed g c =
    let exported = rw c.session.ensures at c.export_by-in-Armed.ensures in
    rw c.in-Armed.is (exported (Armed c.in-Armed.armed))
