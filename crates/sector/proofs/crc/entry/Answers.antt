use Rattle.sector.specs.Crc.{step, steps}
use Rattle.sector.proofs.crc.entry.Goals as goal

pub returns : goal.returns
unfolding step steps
returns c = c.look.ensures tt
