-- Two bytes and the sample that they say: the lemmas that the sample's laws cite.
use Rattle.std.specs.Prelude.{◌≡◌, ℕ, ◌+◌, ◌*◌, ◌<◌, true, List, slice_index, ℤ}
use Rattle.std.proofs.Common.{◌∙◌, ap, rules, arith, of_z, to_z}
use Rattle.std.specs.Int.{w16}
use Rattle.std.proofs.lemmas.Int.{of_z-to_z}
use Rattle.std.proofs.lemmas.Nat.{le_bytes_2}
use Rattle.std.proofs.lemmas.Bool.Decides.{nat_tests}
use Rattle.little_endian.specs.Little.{Bytes, le16}
use Rattle.little_endian.proofs.Little.{bytes_le16}
use Rattle.element.specs.declared.kind.Kind.TheVariants.{Sound}
use Rattle.element.specs.Kinds.{bytes_lawful}
use Rattle.element.specs.Sounds.{sample_lawful, sample_bytes, sample_of}

-- two bytes say a sample in range
lawful_read : (n : ℕ) → n < 65536 → sample_lawful (to_z w16 n) ≡ true
lawful_read n h = grind (arith, nat_tests)

-- a lawful sample's bytes are lawful and say it
pub told : (x : ℤ) → sample_lawful x ≡ true → (bytes_lawful Sound (sample_bytes x) ≡ true) × (sample_of (sample_bytes x) ≡ x)
told x h = search rules

-- two bytes are those of the lawful sample that they say
pub only : (bs : List ℕ) → Bytes bs → bytes_lawful Sound bs ≡ true → (sample_lawful (sample_of bs) ≡ true) × (sample_bytes (sample_of bs) ≡ bs)
only bs h e =
    let n : ℕ = slice_index bs 0 + slice_index bs 1 * 256 in
    let small : n < 65536 = search arith in
    (lawful_read n small, ap le16 (of_z-to_z w16 n small) ∙ le_bytes_2 bs n (search rules) h (omega arith))

-- a number as two bytes is bytes
pub small_two : (n : ℕ) → Bytes (le16 n)
small_two = bytes_le16

-- a sample's bytes are bytes
pub small : (x : ℤ) → sample_lawful x ≡ true → Bytes (sample_bytes x)
small x h = small_two (of_z w16 x)
