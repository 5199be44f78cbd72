-- What a kind of element fixes.
use Rattle.std.specs.Prelude.{◌≡◌, ℕ, ◌/◌, ◌≤◌, Bool, ◌&&◌, List, length, ◌==◌, slice_index, Result, MatchResult}
use Rattle.element.specs.declared.kind.Kind.{Kind}
use Rattle.element.specs.declared.kind.Kind.TheVariants.{Sound, Mark}
use Rattle.element.specs.declared.kind.UnknownKind.{UnknownKind}
use Rattle.element.specs.Marks.{mark_of, stamp_lawful}

-- the number that stands for a kind
abbrev pub kind_number : Kind → ℕ
kind_number Sound = 1
kind_number Mark = 2

-- the kind that the number stands for, or an error with a number that no kind has
abbrev pub DecodesKind : ℕ → Result Kind UnknownKind → Type 0
DecodesKind number r = MatchResult r (λ kind. kind_number kind ≡ number) (λ e. (e.0 ≡ number) × ((1 ≤ number) × (number ≤ 2) → ⊥))

-- the bytes of an element
abbrev pub width_of : Kind → ℕ
width_of Sound = 2
width_of Mark = 8

-- how many elements a block can hold: those that fit 480 bytes
abbrev pub capacity_of : Kind → ℕ
capacity_of k = 480 / width_of k

-- whether these are the bytes of a lawful element
abbrev pub bytes_lawful : Kind → List ℕ → Bool
bytes_lawful Sound bs = length bs == 2
bytes_lawful Mark bs = length bs == 8 && (stamp_lawful (mark_of bs).point (mark_of bs).event && slice_index bs 7 == 0)
