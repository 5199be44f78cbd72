-- What any 512 bytes say to a painter.
use Rattle.std.specs.Prelude.{ℕ, ◌+◌, ◌*◌, cond, ◌&&◌, List, ◌==◌, nat_le, slice_index}
use Rattle.sector.specs.declared.layout.Kind.TheVariants.{Block}
use Rattle.sector.specs.Layout.{kind_number, payload_of}
use Rattle.element.specs.Payload.{unpacked}
use Rattle.takes.specs.Painting.{Content, Cells, Other}

-- the number that two bytes say, the lowest first
abbrev pub two_at : List ℕ → ℕ → ℕ
two_at s i = slice_index s i + slice_index s (i + 1) * 256

-- the number that four bytes say, the lowest first
abbrev pub four_at : List ℕ → ℕ → ℕ
four_at s i = slice_index s i + slice_index s (i + 1) * 256 + slice_index s (i + 2) * 65536 + slice_index s (i + 3) * 16777216

-- the take of a sector
abbrev pub take_of : List ℕ → ℕ
take_of s = four_at s 16

-- What a sector says to a painter: a block, if its elements fit the payload, their cells at the block's offset in its take; any other
-- nothing. An element is `per` cells, and a cell w bytes, of which v is the value.
abbrev pub content_of : {Y : Type 0} → (per : ℕ) → (v : List ℕ → Y) → (w : ℕ) → List ℕ → Content Y
content_of per v w s =
    cond (slice_index s 0 == kind_number Block && nat_le (two_at s 2 * per * w) 480) (Cells (take_of s) (four_at s 20) (unpacked v w (two_at s 2 * per) (payload_of s))) Other
