use Rattle.std.proofs.Common.{arith, rules}
use Rattle.std.proofs.lemmas.Grind.{common_steps}
use Rattle.script.specs.Numbers.{sample}
use Rattle.script.proofs.Readings.{each_word}
use Rattle.script.proofs.form.sound.Goals as goal

pub returns : goal.returns
returns c =
    let found = c.in_ok-each.ensures (λ word. sample word.now) (λ word found read. search rules) in
    let words = each_word sample c.in-Some.samples.now in
    grind (arith, common_steps)
