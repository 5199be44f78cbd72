-- The elements of a block in the payload of its sector.
use Rattle.std.proofs.Common.{◌≡◌, ℕ, ◌≤◌, List, [], ◌++◌, length, drop, ap, ◌∙◌, arith}
use borrow.Rule.Slice.PartMut.{put_mid}
use Rattle.std.proofs.lemmas.List.{drop-replicate}
use Rattle.std.specs.List.{flat_map}
use Rattle.sector.specs.Layout.{payload_of}
use Rattle.element.specs.declared.kind.Kind.{Kind}
use Rattle.element.specs.Kinds.{width_of, capacity_of}
use Rattle.takes.proofs.Cells.{length_cells}
use Rattle.journal.specs.Headers.{padded}
use Rattle.journal.proofs.Payloads.{room, length-padded}
use Rattle.journal.proofs.Headers.{payload_placed}

-- as many elements as a block of the kind can have fit its payload
pub elements_fit : {X : Type 0} (kind : Kind) (bytes : X → List ℕ) (xs : List X) → ((x : X) → length (bytes x) ≡ width_of kind) → length xs ≤ capacity_of kind
    → length (flat_map bytes xs) ≤ 480
elements_fit kind bytes xs wide few = omega (arith, length_cells (width_of kind) bytes wide xs, room kind (length xs) few)

-- elements that were packed over zeros are followed by zeros
pub packed_placed : {X : Type 0} (kind : Kind) (bytes : X → List ℕ) (xs : List X) (s p : List ℕ) → ((x : X) → length (bytes x) ≡ width_of kind) → length xs ≤ capacity_of kind
    → length s ≡ 512 → payload_of s ≡ padded [] → p ≡ flat_map bytes xs ++ drop (length (flat_map bytes xs)) (payload_of s)
    → payload_of (put_mid 28 480 s p) ≡ padded (flat_map bytes xs)
packed_placed kind bytes xs s p wide few whole zeros e =
    let ys : List ℕ = flat_map bytes xs in
    let is : p ≡ padded ys = e ∙ ap (λ (q : List ℕ). ys ++ drop (length ys) q) zeros ∙ ap (λ (q : List ℕ). ys ++ q) (drop-replicate (length ys) 480 0) in
    let long : length p ≡ 480 = ap length is ∙ length-padded ys (elements_fit kind bytes xs wide few) in
    payload_placed s p whole long ∙ is
