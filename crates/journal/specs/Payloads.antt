-- What the payload of a block's sector holds.
use Rattle.std.specs.Prelude.{◌≡◌, ℕ, ◌/◌, ◌≤◌, Bool, List, [], length}
use Rattle.std.specs.List.{flat_map, list_all, All}
use Rattle.element.specs.declared.kind.Kind.{Kind}
use Rattle.element.specs.Kinds.{width_of, capacity_of, bytes_lawful}
use Rattle.element.specs.Payload.{unpacked}
use Rattle.takes.specs.declared.Row.{Row}
use Rattle.takes.specs.declared.Outline.{Outline}
use Rattle.takes.specs.declared.Outline.TheVariants.{Opening, Begin, Block, Trailer, Withdrawal}
use Rattle.journal.specs.declared.header.Header.{Header}
use Rattle.journal.specs.Headers.{kind_of, padded}
use Rattle.journal.specs.Log.{LawfulElement}

-- the first n elements of a payload, by their bytes
abbrev pub elements_of : Kind → ℕ → List ℕ → List (List ℕ)
elements_of kind n p = unpacked (λ (x : List ℕ). x) (width_of kind) n p

-- the payload holds n lawful elements of the kind and nothing else
abbrev pub Holds : Kind → ℕ → List ℕ → Type 0
Holds kind n p = (n ≤ capacity_of kind) × All (LawfulElement kind) (elements_of kind n p) × (p ≡ padded (flat_map (λ (x : List ℕ). x) (elements_of kind n p)))

-- whether the elements of the kind that stand in the bytes, one after the other, are lawful
abbrev pub all_lawful : Kind → List ℕ → Bool
all_lawful kind bytes = list_all (bytes_lawful kind) (elements_of kind (length bytes / width_of kind) bytes)

-- the payload can be that of the entry's sector: a block's holds its elements, and any other is empty
abbrev pub Carries : Header → (ℕ → Row) → Outline → List ℕ → Type 0
Carries hd R Opening p = p ≡ padded []
Carries hd R (Begin t q) p = p ≡ padded []
Carries hd R (Block k n) p = Holds (kind_of hd (R k).track) n p
Carries hd R (Trailer k) p = p ≡ padded []
Carries hd R (Withdrawal t k) p = p ≡ padded []
