use Rattle.std.proofs.Common.{◌≡◌, Option, drop}
use Rattle.script.specs.Meaning.{each}
use Rattle.script.proofs.Readings.{with_front}
use Rattle.script.proofs.form.each.Given as goal

-- what is said of all is what was found, and then what is said of the rest
abbrev pub invariant-loop-item : goal.invariant-loop-item
invariant-loop-item g l =
    (said : _ → Option _) → ((item : _) (found : Option _) → goal.F-post g l.read item found → found ≡ said item)
    → with_front l.found.items (each said (drop l.item-index l.items)) ≡ each said l.items
