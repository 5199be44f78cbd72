-- The recorder's sectors are a lawful scheme.
use Rattle.std.proofs.Common.{◌≡◌, ℕ, ◌<◌, Option, Some, List, ◌∷◌, ◌++◌, length, take, sym, refl, ap, ap₂, ◌∙◌, arith, length-append}
use Rattle.std.proofs.lemmas.List.{take_at, get_or-replicate}
use Rattle.sector.specs.declared.layout.Fields.{Fields}
use Rattle.sector.specs.Layout.{field_bytes, sealed, sector_bytes, Fits, Sound}
use Rattle.sector.proofs.Records.{known_put}
use Rattle.takes.specs.declared.Row.{Row}
use Rattle.takes.specs.declared.Outline.{Outline}
use Rattle.takes.specs.Entries.{opening, begin, block, trailer, withdrawal, outline, next_place, epoch}
use Rattle.takes.specs.Takes.{count, rows}
use Rattle.takes.proofs.Bounds.{epoch_rises}
use Rattle.journal.specs.declared.header.Header.{Header}
use Rattle.journal.specs.Headers.{kind_of, padded, header_bytes, Lawful as LawfulHeader}
use Rattle.journal.specs.Log.{LogEntry, Log, LawfulElements, Run, entry_bytes, outline_in, payload, told}
use Rattle.journal.specs.Painting.{four_at}
use Rattle.journal.proofs.Payloads.{told_back}
use Rattle.journal.proofs.Headers.{sector_told, header_told}
use Rattle.journal.proofs.Absorbs.{outline_told}
use Rattle.journal.proofs.Shows.{four_told}
use Rattle.recorder.specs.Formats.{zeros}
use Rattle.sitting.proofs.Schemes.{Scheme, Lawful}
use Rattle.sitting.proofs.LogFits.{log_fields, entry_fits}

-- the entry is an opening
abbrev pub IsOpening : LogEntry → Type 0
IsOpening opening = Unit {0}
IsOpening (begin t p) = ⊥
IsOpening (block k xs) = ⊥
IsOpening (trailer k) = ⊥
IsOpening (withdrawal t k) = ⊥

-- a sector's epoch stands in bytes 12 to 15
abbrev pub epoch_at : List ℕ → ℕ
epoch_at s = four_at s 12

-- the sectors of a recording
abbrev pub log_scheme : Header → Scheme
log_scheme hd = record {
  Content = List ℕ;
  Entry = LogEntry;
  header = header_bytes hd;
  Sound = Sound;
  epoch = epoch_at;
  Admits = λ h e. Run hd (e ∷ h);
  bytes = entry_bytes hd;
  Opens = IsOpening;
  current = epoch;
}

-- what stands before the check of a sector
body_told : (f : Fields) (p : List ℕ) → Fits f p → take 508 (sector_bytes f p) ≡ field_bytes f ++ p
unfolding field_bytes
body_told f p h =
    let long : length (field_bytes f ++ p) ≡ 508 = simp length-append (omega (arith, h.whole)) in
    take_at (field_bytes f ++ p) _ 508 long

-- a sector that was made of numbers that fit and a whole payload is sound
sector_sound : (f : Fields) (p : List ℕ) → Fits f p → Sound (sector_bytes f p)
sector_sound f p h =
    let body = body_told f p h in
    let known = known_put f p (sector_bytes f p) body in
    record { low = known.0; high = known.1; checked = ap sealed (sym body) }

-- its epoch is told by its bytes
epoch_told : (f : Fields) (p : List ℕ) → Fits f p → epoch_at (sector_bytes f p) ≡ f.epoch
unfolding field_bytes
epoch_told f p h = four_told f.epoch h.epoch

-- the epoch in an entry's sector is the one that the entry leaves
epoch_of : (hd : Header) (h : Log) (e : LogEntry) → (log_fields hd h e).epoch ≡ epoch (e ∷ h)
epoch_of hd h opening = omega arith
epoch_of hd h (begin t p) = refl
epoch_of hd h (block k xs) = refl
epoch_of hd h (trailer k) = refl
epoch_of hd h (withdrawal t k) = refl

-- an opening raises the epoch
epoch_raised : (h : Log) (e : LogEntry) → IsOpening e → epoch h < epoch (e ∷ h)
epoch_raised h opening o = omega arith
epoch_raised h (begin t p) o = absurd o
epoch_raised h (block k xs) o = absurd o
epoch_raised h (trailer k) o = absurd o
epoch_raised h (withdrawal t k) o = absurd o

-- nothing else changes it
epoch_stays : (h : Log) (e : LogEntry) → ¬ (IsOpening e) → epoch (e ∷ h) ≡ epoch h
epoch_stays h opening o = absurd (o tt)
epoch_stays h (begin t p) o = refl
epoch_stays h (block k xs) o = refl
epoch_stays h (trailer k) o = refl
epoch_stays h (withdrawal t k) o = refl

-- an entry is told by its outline and its payload
entry_back : (hd : Header) (R : ℕ → Row) (e : LogEntry) (p : List ℕ) → LawfulElements hd R e → p ≡ padded (payload e) → told hd R p (outline e) ≡ e
entry_back hd R opening p l q = refl
entry_back hd R (begin t f) p l q = refl
entry_back hd R (block k xs) p l q = ap (block k) (told_back (kind_of hd (R k).track) xs p l q)
entry_back hd R (trailer k) p l q = refl
entry_back hd R (withdrawal t k) p l q = refl

some_same : (x y : Outline) → ◌≡◌ {A = Option Outline} (Some x) (Some y) → x ≡ y
some_same x y e = cc

-- the outline by the numbers
outline_of : (hd : Header) (h : Log) (e : LogEntry) → outline_in (log_fields hd h e) ≡ Some (outline e)
outline_of hd h e = outline_told hd (next_place h) (epoch h) (count h) (rows h) (outline e)

-- the bytes tell the entry
bytes_told : (hd : Header) → LawfulHeader hd → (h : Log) (e d : LogEntry) → Run hd (e ∷ h) → Run hd (d ∷ h) → entry_bytes hd h e ≡ entry_bytes hd h d → e ≡ d
bytes_told hd ok h e d x y i =
    let both = sector_told (log_fields hd h e) (log_fields hd h d) (padded (payload e)) (padded (payload d)) (entry_fits hd ok h e x) (entry_fits hd ok h d y) i in
    let same : outline e ≡ outline d = some_same (outline e) (outline d) (sym (outline_of hd h e) ∙ ap outline_in both.0 ∙ outline_of hd h d) in
    sym (entry_back hd (rows h) e (padded (payload e)) x.1.1 refl) ∙ ap₂ (told hd (rows h)) both.1 same ∙ entry_back hd (rows h) d (padded (payload d)) y.1.1 refl

-- the recorder's sectors are a lawful scheme
pub log_lawful : (hd : Header) → LawfulHeader hd → Lawful (log_scheme hd)
log_lawful hd ok = record {
  sound = λ h e a. sector_sound (log_fields hd h e) (padded (payload e)) (entry_fits hd ok h e a);
  dated = λ h e a. epoch_told (log_fields hd h e) (padded (payload e)) (entry_fits hd ok h e a) ∙ epoch_of hd h e;
  opened = epoch_raised;
  stayed = epoch_stays;
  grows = λ h e. epoch_rises e h;
  told = bytes_told hd ok;
}

-- a header's sector tells the header
pub header_only : (hd hd' : Header) → LawfulHeader hd → LawfulHeader hd' → header_bytes hd ≡ header_bytes hd' → hd ≡ hd'
header_only = header_told

-- a sector of zeros is not sound
pub zeros_not_sound : Sound zeros → ⊥
unfolding zeros
zeros_not_sound s = let first = get_or-replicate {A = ℕ} 512 0 0 0 (omega arith) in omega (arith, s.low)
