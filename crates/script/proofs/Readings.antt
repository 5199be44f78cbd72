-- Reading a list item by item.
use Rattle.std.proofs.Common.{◌≡◌, ℕ, List, [], ◌∷◌, ◌++◌, Option, Some, Bor, refl, ap}
use Rattle.std.specs.Option.{option_map, option_and_then}
use Rattle.script.specs.Commands.{texts}
use Rattle.script.specs.Meaning.{each}

-- a front, and then what is there
abbrev pub with_front : {A : Type 0} → List A → Option (List A) → Option (List A)
with_front front o = option_map (λ rest. front ++ rest) o

-- words that are borrowed
pub each_word : {B : Type 0} (read : List ℕ → Option B) (words : List (Bor (List ℕ))) → each (λ word. read word.now) words ≡ each read (texts words)
each_word read [] = refl
each_word read (word ∷ words) = ap (λ rest. option_and_then (λ first. option_and_then (λ rest. Some (first ∷ rest)) rest) (read word.now)) (each_word read words)
