-- An accepted format begins a sitting of the theory.
use Rattle.std.proofs.Common.{◌≡◌, ℕ, suc, ◌-◌, ◌<◌, ◌≤◌, Bool, true, false, ◌&&◌, cond, List, [], ◌∷◌, ◌++◌, length, get_or, map, replicate, nat_le, nat_lt, Some, None, Option, Ok, refl, ap, ◌∙◌, subst, inl, inr, ⊎_elim, arith}
use Rattle.std.specs.List.{list_all}
use Rattle.std.proofs.lemmas.Bool.{and_parts, leb-true, ltb-true, cases_lt}
use Rattle.std.proofs.lemmas.List.{length-append, length-map, length-replicate, get_or-append_right, get_or-replicate, get_or_past}
use Rattle.sector.specs.Layout.{Sound as SoundSector}
use Rattle.device.specs.Meaning.{Sector, sick, held, Meaning, contents}
use Rattle.device.specs.Calls.{sick_fault}
use Rattle.element.specs.declared.kind.Kind.{Kind}
use Rattle.element.specs.declared.kind.Kind.TheVariants.{Sound}
use Rattle.journal.specs.declared.header.Header.{Header}
use Rattle.journal.specs.Headers.{Lawful, header_bytes}
use Rattle.recorder.specs.declared.State.{State}
use Rattle.recorder.specs.declared.State.TheVariants.{Unmounted}
use Rattle.recorder.specs.declared.refusal.Refusal.{Refusal}
use Rattle.recorder.specs.declared.refusal.Refusal.TheVariants.{TooSmall, BadTracks, BadRate}
use Rattle.recorder.specs.Refusals.{unless, kind_known, tracks_allowed, format_refusal}
use Rattle.recorder.specs.Answers.{Decided}
use Rattle.recorder.specs.Formats.{kind_named, header_of, formatted, LaidOut, Formats}
use Rattle.sitting.proofs.Disks.{In}
use Rattle.sitting.proofs.Runs.{Fresh}
use Rattle.sitting.proofs.LogScheme.{log_scheme, zeros_not_sound}
use Rattle.sitting.proofs.Projections.{disk, on_sector}
use Rattle.sitting.proofs.Links.{unless_none}

-- what is known of a format that is not refused
pub record Permitted (size : ℕ) (kinds : List ℕ) (rate : ℕ) : Type 0 where
  pub room : 2 ≤ size
  pub some : 1 ≤ length kinds
  pub few : length kinds ≤ 8
  pub slow : 8000 ≤ rate
  pub fast : rate ≤ 48000

permitted : (size : ℕ) (kinds : List ℕ) (rate : ℕ) → format_refusal size kinds rate ≡ None → Permitted size kinds rate
permitted size kinds rate e =
    let last = unless (nat_le 8000 rate && nat_le rate 48000) BadRate None in
    let next = unless (tracks_allowed kinds) BadTracks last in
    let a = unless_none (nat_le 2 size) TooSmall next e in
    let b = unless_none (tracks_allowed kinds) BadTracks last a.1 in
    let c = unless_none (nat_le 8000 rate && nat_le rate 48000) BadRate None b.1 in
    let tracks = and_parts (nat_le 1 (length kinds) && nat_le (length kinds) 8) (list_all kind_known kinds) b.0 in
    let many = and_parts (nat_le 1 (length kinds)) (nat_le (length kinds) 8) tracks.0 in
    let rates = and_parts (nat_le 8000 rate) (nat_le rate 48000) c.0 in
    record {
      room = leb-true 2 size a.0;
      some = leb-true 1 (length kinds) many.0;
      few = leb-true (length kinds) 8 many.1;
      slow = leb-true 8000 rate rates.0;
      fast = leb-true rate 48000 rates.1;
    }

header_lawful : (size : ℕ) (kinds : List ℕ) (rate sitting : ℕ) → sitting < 4294967296 → Permitted size kinds rate → Lawful (header_of kinds rate sitting)
header_lawful size kinds rate sitting small p = record {
  sitting = small;
  slow = p.slow;
  fast = p.fast;
  some = p.some;
  few = p.few;
  eight = length-append front back ∙ simp (length-map, length-replicate) (omega (arith, p.few));
  rest = rest;
}
  where
    front : List Kind
    front = map kind_named kinds

    back : List Kind
    back = replicate (8 - length kinds) Sound

    rest : (i : ℕ) → length kinds ≤ i → get_or (front ++ back) i Sound ≡ Sound
    rest i h =
        get_or-append_right front back (length kinds) i Sound (length-map kinds kind_named) h ∙ elim (cases_lt (i - length kinds) (8 - length kinds)) [
          | inl few ↦ get_or-replicate (8 - length kinds) (i - length kinds) Sound Sound few
          | inr many ↦ get_or_past back (i - length kinds) Sound (omega (arith, length-replicate (8 - length kinds) Sound))
        ]

-- an accepted format was not refused
accepted : (layer n : ℕ) (kinds : List ℕ) (rate sitting : ℕ) (m : Meaning) (st : State) (m' : Meaning) → Formats layer Unmounted m kinds rate sitting (Ok n) st m'
    → Permitted m.size kinds rate × (st ≡ Unmounted) × LaidOut layer (header_of kinds rate sitting) m (Ok n) m'
accepted layer n kinds rate sitting m st m' f = go (format_refusal m.size kinds rate) refl f
  where
    P : Type 0
    P = (st ≡ Unmounted) × LaidOut layer (header_of kinds rate sitting) m (Ok n) m'

    go : (o : Option Refusal) → format_refusal m.size kinds rate ≡ o → Decided o (Ok n) Unmounted m st m' P → Permitted m.size kinds rate × (st ≡ Unmounted) × LaidOut layer (header_of kinds rate sitting) m (Ok n) m'
    go (Some x) e (z, a, b) = cc
    go None e d = (permitted m.size kinds rate e, d.0, d.1)

-- the header of an accepted format is lawful, if its sitting number is one of 32 bits
pub formatted_lawful : (layer n : ℕ) (kinds : List ℕ) (rate sitting : ℕ) (m : Meaning) (st : State) (m' : Meaning) → sitting < 4294967296 → Formats layer Unmounted m kinds rate sitting (Ok n) st m'
    → Lawful (header_of kinds rate sitting)
formatted_lawful layer n kinds rate sitting m st m' small f = header_lawful m.size kinds rate sitting small (accepted layer n kinds rate sitting m st m' f).0

-- and the recorder is unmounted
pub formatted_unmounted : (layer n : ℕ) (kinds : List ℕ) (rate sitting : ℕ) (m : Meaning) (st : State) (m' : Meaning) → Formats layer Unmounted m kinds rate sitting (Ok n) st m' → st ≡ Unmounted
formatted_unmounted layer n kinds rate sitting m st m' f = (accepted layer n kinds rate sitting m st m' f).1

first_left : (hd : Header) (s : Sector) → sick_fault s ≡ None → contents (formatted hd 0 s) ≡ header_bytes hd ∷ []
first_left hd (sick f) e = cc
first_left hd (held old new) e = refl

other_left : (hd : Header) (p : ℕ) (s : Sector) (c : List ℕ) → In c (contents (formatted hd (suc p) s)) → ¬ (SoundSector c)
other_left hd p (sick f) c i = absurd i
other_left hd p (held old new) c i = ⊎_elim (λ e s. zeros_not_sound (subst SoundSector e s)) (λ z. absurd z) i

-- what the format left of the sectors
module _ (hd : Header) (m m' : Meaning) (size : m'.size ≡ m.size) (each : (t : ℕ) → t < m.size → m'.sector t ≡ formatted hd t (m.sector t)) where
  blank_left : (p : ℕ) (c : List ℕ) → In c (disk m' (suc p)) → ¬ (SoundSector c)
  blank_left p c = go (nat_lt (suc p) m'.size) refl
    where
      go : (b : Bool) → nat_lt (suc p) m'.size ≡ b → In c (cond b (contents (m'.sector (suc p))) []) → ¬ (SoundSector c)
      go true e i =
          let there = ltb-true (suc p) m'.size e in
          other_left hd p (m.sector (suc p)) c (subst (λ (s : Sector). In c (contents s)) (each (suc p) (omega arith)) i)
      go false e i = absurd i

  fresh_left : 2 ≤ m.size → sick_fault (m.sector 0) ≡ None → Fresh (log_scheme hd) (disk m')
  fresh_left room well = record {
    headed = on_sector m' 0 (omega arith) ∙ ap contents (each 0 (omega arith)) ∙ first_left hd (m.sector 0) well;
    blank = blank_left;
  }

-- the device of an accepted format is fresh
pub fresh : (layer n : ℕ) (kinds : List ℕ) (rate sitting : ℕ) (m : Meaning) (st : State) (m' : Meaning)
    → Formats layer Unmounted m kinds rate sitting (Ok n) st m' → Fresh (log_scheme (header_of kinds rate sitting)) (disk m')
fresh layer n kinds rate sitting m st m' f =
    let a = accepted layer n kinds rate sitting m st m' f in
    fresh_left (header_of kinds rate sitting) m m' a.2.1.size a.2.1.each a.0.room a.2.1.first
