-- A sector is taken in exactly if it continues the log.
use Rattle.std.proofs.Common.{◌≡◌, ℕ, ◌+◌, List, ◌++◌, length, sym, refl, ap, ◌∙◌, subst, ap₂, arith, length-append, Some, None, Option}
use Rattle.std.proofs.lemmas.List.{take_at}
use Rattle.sector.specs.Crc.{crc32}
use Rattle.sector.specs.declared.layout.Fields.{Fields}
use Rattle.sector.specs.Layout.{field_bytes, sector_bytes, payload_of, Fits}
use Rattle.little_endian.specs.Little.{le32}
use Rattle.takes.specs.declared.Row.{Row}
use Rattle.takes.specs.declared.Outline.{Outline}
use Rattle.takes.specs.declared.Outline.TheVariants.{Opening, Begin, Block, Trailer, Withdrawal}
use Rattle.takes.specs.Entries.{opening, begin, block, trailer, withdrawal, outline}
use Rattle.journal.specs.declared.header.Header.{Header}
use Rattle.journal.specs.declared.session.Session.{Session}
use Rattle.journal.specs.Headers.{kind_of, padded}
use Rattle.journal.specs.Log.{LogEntry, Log, Suits, LawfulElements, Admits, entry_fields, entry_bytes, outline_in, payload, told}
use Rattle.journal.specs.Payloads.{Carries}
use Rattle.journal.specs.Sessions.{table_of, SessionFollows, session_fields, Accepts, Adds, GoesOn, InStep, Absorbs}
use Rattle.journal.proofs.Payloads.{length-elements, holds_back}
use Rattle.journal.proofs.Within.{fields_fit}
use Rattle.journal.proofs.InStep.{follows_session, follows_log, fields_same, in_step_after}

-- the payload of a sector's bytes is what they were made of
payload_told : (f : Fields) (p sector : List ℕ) → length sector ≡ 512 → sector ≡ sector_bytes f p → (length p ≡ 480) × (payload_of sector ≡ p)
unfolding field_bytes
payload_told f p sector l e =
    let long = simp length-append at (sym (ap length e) ∙ l) in
    let whole : length p ≡ 480 = omega arith in
    (whole, ap payload_of e ∙ take_at p (le32 (crc32 (field_bytes f ++ p))) 480 whole)

-- the numbers of an entry's sector tell the entry but for a block's elements
pub outline_told : (hd : Header) (place ep n : ℕ) (R : ℕ → Row) (o : Outline) → outline_in (entry_fields hd place ep n R o) ≡ Some o
outline_told hd place ep n R Opening = refl
outline_told hd place ep n R (Begin t p) = refl
outline_told hd place ep n R (Block k c) = refl
outline_told hd place ep n R (Trailer k) = refl
outline_told hd place ep n R (Withdrawal t k) = refl

-- a record is accepted only as the entry that its numbers tell
pub no_other : (s : Session) (o : Outline) (fields : Fields) (p : List ℕ) → Accepts s o fields p → outline_in fields ≡ Some o
no_other s o fields p a = ap outline_in a.1 ∙ outline_told s.header (s.entries + 1) s.epoch s.table.inner.count (table_of s) o

-- the payload of an entry's sector is one that it can have
carries_entry : (hd : Header) (R : ℕ → Row) (e : LogEntry) → Suits hd R (outline e) → LawfulElements hd R e → Carries hd R (outline e) (padded (payload e))
carries_entry hd R opening s l = refl
carries_entry hd R (begin t p) s l = refl
carries_entry hd R (block k xs) s l = holds_back (kind_of hd (R k).track) xs (padded (payload (block k xs))) l s.1 refl
carries_entry hd R (trailer k) s l = refl
carries_entry hd R (withdrawal t k) s l = refl

module _ (hd : Header) (R : ℕ → Row) (p : List ℕ) where
  -- an outline is that of the entry that is told from it
  outline_of_told : (o : Outline) → outline (told hd R p o) ≡ o
  outline_of_told Opening = refl
  outline_of_told (Begin t q) = refl
  outline_of_told (Block k n) = ap (Block k) (length-elements (kind_of hd (R k).track) n p)
  outline_of_told (Trailer k) = refl
  outline_of_told (Withdrawal t k) = refl

  -- its elements are lawful, if the payload can be its
  lawful_told : (o : Outline) → Carries hd R o p → LawfulElements hd R (told hd R p o)
  lawful_told Opening c = tt
  lawful_told (Begin t q) c = tt
  lawful_told (Block k n) c = c.1
  lawful_told (Trailer k) c = tt
  lawful_told (Withdrawal t k) c = tt

  -- and the payload then is its
  payload_of_told : (o : Outline) → Carries hd R o p → p ≡ padded (payload (told hd R p o))
  payload_of_told Opening c = c
  payload_of_told (Begin t q) c = c
  payload_of_told (Block k n) c = c.2
  payload_of_told (Trailer k) c = c
  payload_of_told (Withdrawal t k) c = c

module _ (s s' : Session) (sector : List ℕ) (long : length sector ≡ 512) where
  -- the numbers of an admitted entry fit their places, if the sector is its
  entry_fits : (h : Log) (e : LogEntry) → InStep s h → Admits s.header h e → sector ≡ entry_bytes s.header h e
      → Fits (session_fields s (outline e)) (padded (payload e)) × (sector ≡ sector_bytes (session_fields s (outline e)) (padded (payload e)))
  entry_fits h e i a q =
      let b : sector ≡ sector_bytes (session_fields s (outline e)) (padded (payload e)) = q ∙ ap (λ (f : Fields). sector_bytes f (padded (payload e))) (fields_same s h i (outline e)) in
      (fields_fit s (outline e) (padded (payload e)) (payload_told _ (padded (payload e)) sector long b).0 (follows_session s h i e a).0, b)

  -- a sector that has no record continues no log
  pub no_record : (r : Option Outline) → r ≡ None → s' ≡ s → ((f : Fields) (p : List ℕ) → Fits f p → sector ≡ sector_bytes f p → ⊥) → Absorbs s sector r s'
  no_record r is same none =
      subst (λ (x : Option Outline). Absorbs s sector x s') (sym is) (same, λ h i (e, a, q). let b = entry_fits h e i a q in none _ _ b.0 b.1)

  -- a sector that has a record continues the log exactly if that is accepted
  pub by_record : (fields : Fields) (p : List ℕ) (r : Option Outline) → sector_bytes fields p ≡ sector
      → ((f : Fields) (q : List ℕ) → Fits f q → sector ≡ sector_bytes f q → (fields ≡ f) × (p ≡ q)) → GoesOn s fields p r s' → Absorbs s sector r s'
  by_record fields p (Some o) made back ((f, numbers, c), d) = λ h i.
      let w = payload_told fields p sector long (sym made) in
      let k = subst (Carries s.header (table_of s) o) (sym w.1) c in
      let e : LogEntry = told s.header (table_of s) (payload_of sector) o in
      let same = outline_of_told s.header (table_of s) (payload_of sector) o in
      let a = follows_log s h i e (subst (SessionFollows s) (sym same) f) (lawful_told s.header (table_of s) (payload_of sector) o k) in
      record {
        admitted = a;
        bytes =
            sym made
            ∙ ap₂ sector_bytes (numbers ∙ sym (fields_same s h i (outline e) ∙ ap (session_fields s) same)) (sym w.1 ∙ payload_of_told s.header (table_of s) (payload_of sector) o k);
        header = d.header;
        after = in_step_after s h i s' e a (subst (λ (x : Outline). Adds s x s') (sym same) d);
      }
  by_record fields p None made back (same, refused) = (
    same,
    λ h i (e, a, q).
        let b = entry_fits h e i a q in
        let t = back _ _ b.0 b.1 in
        let f = follows_session s h i e a in
        refused (outline e) (f.0, t.0, subst (Carries s.header (table_of s) (outline e)) (sym t.1) (carries_entry s.header (table_of s) e f.0.2 f.1)),
  )
