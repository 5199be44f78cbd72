-- Eight bytes and the mark that they say: the lemmas that the mark's laws cite.
use Rattle.std.specs.Prelude.{◌≡◌, ℕ, ◌<◌, true, List, [], ◌∷◌, ◌++◌}
use Rattle.std.proofs.Common.{rules, sym, arith}
use Rattle.std.proofs.lemmas.Slice.Eq.{text_from_reads}
use Rattle.little_endian.specs.Little.{Bytes, le16, le32}
use Rattle.little_endian.proofs.Little.{bytes_none, bytes_cons, bytes_append, bytes_le16, bytes_le32}
use Rattle.element.specs.declared.mark.Mark.{Mark}
use Rattle.element.specs.declared.kind.Kind.TheVariants.{Mark as MarkKind}
use Rattle.element.specs.Kinds.{bytes_lawful}
use Rattle.element.specs.Marks.{mark_lawful, mark_bytes, mark_of}

-- a lawful mark's bytes are lawful and say it
pub told : (x : Mark) → mark_lawful x ≡ true → (bytes_lawful MarkKind (mark_bytes x) ≡ true) × (mark_of (mark_bytes x) ≡ x)
told x h = search rules

-- eight lawful bytes are those of the lawful mark that they say
pub only : (bs : List ℕ) → Bytes bs → bytes_lawful MarkKind bs ≡ true → (mark_lawful (mark_of bs) ≡ true) × (mark_bytes (mark_of bs) ≡ bs)
only bs h e = (search rules, sym (text_from_reads bs (mark_bytes (mark_of bs)) (search rules) (search rules)))

-- the event of a lawful mark fits a byte
event_fits : (x : Mark) → mark_lawful x ≡ true → x.event < 256
event_fits x h = search rules

-- a lawful mark's bytes are bytes
pub small : (x : Mark) → mark_lawful x ≡ true → Bytes (mark_bytes x)
small x h =
    let last : Bytes (x.event ∷ 0 ∷ []) = bytes_cons x.event (0 ∷ []) (event_fits x h) (bytes_cons 0 [] (omega arith) bytes_none) in
    bytes_append (le32 x.tick) (le16 x.point ++ (x.event ∷ 0 ∷ [])) (bytes_le32 x.tick) (bytes_append (le16 x.point) (x.event ∷ 0 ∷ []) (bytes_le16 x.point) last)
