use Rattle.sector.proofs.Records.{kind_test}
use Rattle.sector.proofs.layout.kind_at.Goals as goal

pub returns : goal.returns
returns c = rw c.ok.ensures.value (kind_test c.args.sector.now c.try_from.result c.try_from.ensures)
