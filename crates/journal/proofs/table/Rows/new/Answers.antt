use Rattle.journal.proofs.Tables.{row_blank}
use Rattle.journal.proofs.table.Rows.new.Goals as goal

pub returns-clause-rows : goal.returns-clause-rows
returns-clause-rows c = row_blank 64
