use Rattle.script.proofs.Soundness.{says}
use Rattle.script.proofs.Completeness.{reads}
use Rattle.script.proofs.meaning_is_by_rule.Goals as goal

pub returns : goal.returns
returns c = λ line command. (says line command, reads line command)
