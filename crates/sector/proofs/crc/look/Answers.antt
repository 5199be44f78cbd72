use Rattle.std.proofs.Common.{rules}
use Rattle.sector.proofs.Table.{table_entry}
use Rattle.sector.proofs.crc.look.Goals as goal

pub returns : goal.returns
returns c = λ holds. table_entry c.args.tables.now holds c.args.t c.args.b (search rules) (search rules)
