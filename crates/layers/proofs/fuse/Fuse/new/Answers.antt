-- When counters blow holds of all of them.
use Rattle.layers.proofs.Counters.{blows_in_time}
use Rattle.layers.proofs.fuse.Fuse.new.Goals as goal

pub returns-clause-blows : goal.returns-clause-blows
returns-clause-blows g c = blows_in_time
