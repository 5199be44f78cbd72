use Rattle.std.proofs.Common.{arith, rules}
use Rattle.std.proofs.lemmas.Grind.{common_steps}
use Rattle.script.specs.Numbers.{byte}
use Rattle.script.proofs.Readings.{each_word}
use Rattle.script.proofs.form.cut.Goals as goal

pub returns : goal.returns
returns c =
    let found = c.in_ok-each.ensures (λ word. byte word.now) (λ word found read. search rules) in
    let words = each_word byte c.args.args.now in
    grind (arith, common_steps)
