-- Headers as bytes.
use Rattle.std.proofs.Common.{◌≡◌, ℕ, ◌+◌, ◌-◌, ◌<◌, ◌≤◌, List, ◌++◌, length, get_or, set, take, drop, map, replicate, Option, Result, Ok, Err, MatchOption, ap, ap₂, ◌∙◌, sym, refl, subst, inl, inr, length-append, length-take-le, arith}
use borrow.Rule.Slice.PartMut.{put_mid}
use Rattle.std.proofs.lemmas.List.{take_all, take_at, take-append-drop, drop-replicate, length-map, get_or-map, get_or-take, get_or_append_left, ext_get_or}
use Rattle.std.proofs.lemmas.Bool.{cases_lt}
use Rattle.std.proofs.lemmas.Slice.{between-put_mid}
use Rattle.std.proofs.lemmas.Grind.{common_steps}
use Rattle.std.specs.Result.{result_ok}
use Rattle.little_endian.specs.Little.{le32}
use Rattle.sector.specs.declared.layout.Fields.{Fields}
use Rattle.sector.specs.Crc.{crc32}
use Rattle.sector.specs.Layout.{field_bytes, sector_bytes, payload_of, Fits}
use Rattle.sector.proofs.Records.{record_told}
use Rattle.element.specs.declared.kind.Kind.{Kind}
use Rattle.element.specs.declared.kind.Kind.TheVariants.{Sound, Mark}
use Rattle.element.specs.declared.kind.UnknownKind.{UnknownKind}
use Rattle.element.specs.Kinds.{kind_number, DecodesKind}
use Rattle.journal.specs.declared.header.Header.{Header}
use Rattle.journal.specs.Headers.{padded, Lawful, header_fields, kind_bytes, header_bytes}
use Rattle.journal.proofs.Payloads.{length-padded}

-- the byte of every kind was written, over zeros
pub bytes_put : (ks : List Kind) (p zeros : List ℕ) (i : ℕ) → i ≡ length ks → length p ≡ 480 → zeros ≡ replicate (length p) 0
    → take i p ≡ map kind_number (take i ks) → drop i p ≡ drop i zeros → p ≡ padded (map kind_number ks)
bytes_put ks p zeros i ei lp ez front rest =
    sym (take-append-drop i p)
    ∙ ap₂ ◌++◌ (front ∙ ap (map kind_number) (take_all i ks (omega arith)))
    (rest ∙ ap (drop i) ez ∙ drop-replicate i (length p) 0 ∙ ap₂ (λ (m n : ℕ). replicate (m - n) 0) lp (ei ∙ sym (length-map ks kind_number)))

-- what was written over the payload stands there
pub payload_placed : (s p : List ℕ) → length s ≡ 512 → length p ≡ 480 → payload_of (put_mid 28 480 s p) ≡ p
payload_placed s p ls lp = between-put_mid 28 480 s p 508 (omega arith) lp

-- the kind that a number stands for, or none
pub kind_read : (n : ℕ) (r : Result Kind UnknownKind) (o : Option Kind) → DecodesKind n r → o ≡ result_ok r → MatchOption o ((k : Kind) → n ≡ kind_number k → ⊥) (λ k. n ≡ kind_number k)
kind_read n (Ok k) o h e = rw e (sym h)
kind_read n (Err x) o h e = rw e (λ k en. h.1 (subst (λ (m : ℕ). (1 ≤ m) × (m ≤ 2)) (sym en) (known k)))
  where
    known : (k : Kind) → (1 ≤ kind_number k) × (kind_number k ≤ 2)
    known Sound = (omega arith, omega arith)
    known Mark = (omega arith, omega arith)

-- where numbers are those of kinds, each is that of the kind in its place
pub number_at : (numbers : List ℕ) (kinds : List Kind) (i : ℕ) → i < length numbers → numbers ≡ map kind_number kinds → get_or numbers i 0 ≡ kind_number (get_or kinds i Sound)
number_at numbers kinds i h e = ap (λ (xs : List ℕ). get_or xs i 0) e ∙ get_or-map kind_number kinds i Sound 0 (simp length-map at (subst (λ (xs : List ℕ). i < length xs) e h))

-- one kind more was put in its place
pub kind_put : (numbers : List ℕ) (kinds : List Kind) (i : ℕ) (k : Kind) → i < length numbers → i < length kinds → get_or numbers i 0 ≡ kind_number k
    → take i numbers ≡ map kind_number (take i kinds) → take (i + 1) numbers ≡ map kind_number (take (i + 1) (set kinds i k))
kind_put numbers kinds i k hn hk e front = grind (arith, common_steps)

length-kind_bytes : (hd : Header) → Lawful hd → length (kind_bytes hd) ≡ hd.tracks
length-kind_bytes hd h = length-map (take hd.tracks hd.kinds) kind_number ∙ length-take-le hd.tracks hd.kinds (omega (arith, h.few, h.eight))

-- a lawful header's numbers and payload fit a sector
pub header_fits : (hd : Header) → Lawful hd → Fits (header_fields hd) (padded (kind_bytes hd))
header_fits hd h = record {
  track = omega (arith, h.few);
  count = omega arith;
  sitting = h.sitting;
  place = omega arith;
  epoch = omega arith;
  take = omega arith;
  first = omega (arith, h.fast);
  second = omega arith;
  whole = length-padded (kind_bytes hd) (omega (arith, length-kind_bytes hd h, h.few));
}

-- a sector's bytes tell its numbers and its payload
pub sector_told : (f g : Fields) (p q : List ℕ) → Fits f p → Fits g q → sector_bytes f p ≡ sector_bytes g q → (f ≡ g) × (p ≡ q)
unfolding field_bytes
sector_told f g p q hf hg e =
    let long : length (field_bytes f ++ p) ≡ 508 = simp length-append (omega (arith, hf.whole)) in
    record_told (sector_bytes f p) f p hf (sym (take_at (field_bytes f ++ p) (le32 (crc32 (field_bytes f ++ p))) 508 long)) g q hg e

same_kind : (a b : Kind) → kind_number a ≡ kind_number b → a ≡ b
same_kind Sound Sound e = refl
same_kind Sound Mark e = absurd (omega (arith, e))
same_kind Mark Sound e = absurd (omega (arith, e))
same_kind Mark Mark e = refl

-- the byte of a track's kind stands in the payload
kind_written : (hd : Header) (i : ℕ) → Lawful hd → i < hd.tracks → get_or (padded (kind_bytes hd)) i 0 ≡ kind_number (get_or hd.kinds i Sound)
kind_written hd i h l =
    let n = length-kind_bytes hd h in
    get_or_append_left (kind_bytes hd) (replicate (480 - length (kind_bytes hd)) 0) 0 i (omega arith)
    ∙ get_or-map kind_number (take hd.tracks hd.kinds) i Sound 0 (omega (arith, length-map (take hd.tracks hd.kinds) kind_number))
    ∙ ap kind_number (get_or-take hd.tracks hd.kinds i Sound l)

same_header : (hd : Header) (s r t : ℕ) (ks : List Kind) → s ≡ hd.sitting → r ≡ hd.rate → t ≡ hd.tracks → ks ≡ hd.kinds → (record { sitting = s; rate = r; tracks = t; kinds = ks }) ≡ hd
same_header hd s r t ks es er et ek = rw (es, er, et, ek)

-- a header's bytes tell it
pub header_told : (a b : Header) → Lawful a → Lawful b → header_bytes a ≡ header_bytes b → a ≡ b
header_told a b ha hb e =
    let told = sector_told (header_fields a) (header_fields b) (padded (kind_bytes a)) (padded (kind_bytes b)) (header_fits a ha) (header_fits b hb) e in
    let tracks : a.tracks ≡ b.tracks = ap (λ (f : Fields). f.track) told.0 in
    same_header b a.sitting a.rate a.tracks a.kinds (ap (λ (f : Fields). f.sitting) told.0) (ap (λ (f : Fields). f.a) told.0) tracks
    (ext_get_or Sound a.kinds b.kinds (ha.eight ∙ sym hb.eight) (λ i l. elim (cases_lt i a.tracks) [
      | inl few ↦ same_kind (get_or a.kinds i Sound) (get_or b.kinds i Sound)
          (sym (kind_written a i ha few) ∙ ap (λ (p : List ℕ). get_or p i 0) told.1 ∙ kind_written b i hb (omega arith))
      | inr many ↦ ha.rest i many ∙ sym (hb.rest i (omega arith))
    ]))
