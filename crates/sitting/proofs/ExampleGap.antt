-- A sitting with a gap and a leftover behind it.
use Rattle.std.proofs.Common.{◌≡◌, ℕ, zero, suc, ◌<◌, List, [], ◌∷◌, get_or, replicate, sym, refl, ap, subst, All, arith}
use Rattle.sector.specs.Layout.{Sound as SoundSector}
use Rattle.device.specs.Meaning.{Sector}
use Rattle.element.specs.declared.kind.Kind.{Kind}
use Rattle.element.specs.declared.kind.Kind.TheVariants.{Sound}
use Rattle.takes.specs.Entries.{opening, begin, block}
use Rattle.journal.specs.declared.header.Header.{Header}
use Rattle.journal.specs.Headers.{kind_of, Lawful as LawfulHeader}
use Rattle.journal.specs.Log.{LogEntry, Log, LawfulElement, Counts, Admits, Run}
use Rattle.recorder.specs.declared.State.TheVariants.{Mounted}
use Rattle.recorder.specs.Mounts.{IsLog}
use Rattle.sitting.specs.Sittings.{Sitting}
use Rattle.sitting.specs.Examples.{one_track, first_sample, second_sample, gap_events, three_entries, with_first_block, GapAndLeftover}
use Rattle.sitting.proofs.LogScheme.{log_lawful}
use Rattle.sitting.proofs.ExampleDevices.{device, Whole, whole_cut, after_cut}
use Rattle.sitting.proofs.ExampleSteps.{all_one, sector, sector_is, header_is, after_format, after_arm, after_entry, whole_format, whole_after_entry, whole_after_arm, session, formats, mounts, arms_on, begins, records, cuts, blank_ends, older_ends}

-- kinds that are all Sound
all_sound : (n i : ℕ) → get_or (replicate n Sound) i Sound ≡ Sound
all_sound zero i = refl
all_sound (suc n) zero = refl
all_sound (suc n) (suc i) = all_sound n i

-- format writes this header
one_track_lawful : LawfulHeader one_track
one_track_lawful = record {
  sitting = omega arith;
  slow = omega arith;
  fast = omega arith;
  some = omega arith;
  few = omega arith;
  eight = refl;
  rest = λ i l. all_sound 8 i;
}

-- the bytes of a sample are those of a lawful element of sound
sample_lawful : (low : ℕ) → low < 256 → LawfulElement Sound (low ∷ 0 ∷ [])
sample_lawful low l = (bytes, refl)
  where
    bytes : (i : ℕ) → get_or (low ∷ 0 ∷ []) i 0 < 256
    bytes zero = l
    bytes (suc zero) = omega arith
    bytes (suc (suc i)) = omega arith

-- an opening, a begin, and the two blocks
abbrev first_entry : Log
first_entry = opening ∷ []

abbrev two_entries : Log
two_entries = begin 1 0 ∷ first_entry

abbrev first_block : LogEntry
first_block = block 1 (first_sample ∷ [])

abbrev second_block : LogEntry
second_block = block 1 (second_sample ∷ [])

-- a cut that leaves the newer of two contents in sectors 2 and 4, and the older one in sector 3
abbrev losing_third : List ℕ
losing_third = 0 ∷ 0 ∷ 1 ∷ 0 ∷ 1 ∷ []

module _ (hd : Header) where
  -- the sectors after each step: format, arm, begin, two records
  abbrev at_format : ℕ → Sector
  at_format = after_format hd

  abbrev at_arm : ℕ → Sector
  at_arm = after_arm hd [] at_format

  abbrev at_begin : ℕ → Sector
  at_begin = after_entry hd first_entry (begin 1 0) at_arm

  abbrev at_first : ℕ → Sector
  at_first = after_entry hd two_entries first_block at_begin

  abbrev at_second : ℕ → Sector
  at_second = after_entry hd with_first_block second_block at_first

  -- the first cut
  abbrev at_cut : ℕ → Sector
  at_cut = after_cut losing_third at_second

  -- the second arming
  abbrev at_second_arm : ℕ → Sector
  at_second_arm = after_arm hd two_entries at_cut

  -- the second cut, where it has no choice
  abbrev at_end : ℕ → Sector
  at_end = after_cut [] at_second_arm

module _ (hd : Header) (is : hd ≡ one_track) (ok : LawfulHeader hd) where
  -- track 1 is of sound
  sound_track : kind_of hd 1 ≡ Sound
  sound_track = ap (λ (x : Header). kind_of x 1) is

  -- each entry is admitted where it is added
  opens : Admits hd [] opening
  opens = ((omega arith, tt, tt, tt), tt)

  starts : Admits hd first_entry (begin 1 0)
  starts = ((omega arith, omega arith, (omega arith, omega (arith, ok.some)), (refl, omega arith, omega arith)), tt)

  -- one sample fits a block
  sounds : (low : ℕ) → low < 256 → Counts (kind_of hd 1) 1 × All (LawfulElement (kind_of hd 1)) ((low ∷ 0 ∷ []) ∷ [])
  sounds low l =
      subst (λ (k : Kind). Counts k 1 × All (LawfulElement k) ((low ∷ 0 ∷ []) ∷ [])) (sym sound_track)
      ((omega arith, omega arith), all_one (LawfulElement Sound) (low ∷ 0 ∷ []) (sample_lawful low l))

  first_fits : Admits hd two_entries first_block
  first_fits = let s = sounds 10 (omega arith) in ((omega arith, omega arith, s.0, refl), s.1)

  second_fits : Admits hd with_first_block second_block
  second_fits = let s = sounds 20 (omega arith) in ((omega arith, omega arith, s.0, refl), s.1)

  opens_again : Admits hd two_entries opening
  opens_again = ((omega arith, tt, tt, tt), tt)

  -- so each log is a run
  abbrev run_one : Run hd first_entry
  run_one = (tt, opens)

  abbrev run_two : Run hd two_entries
  run_two = (run_one, starts)

  abbrev run_first_block : Run hd with_first_block
  run_first_block = (run_two, first_fits)

  abbrev run_second_block : Run hd (second_block ∷ with_first_block)
  run_second_block = (run_first_block, second_fits)

  abbrev run_three : Run hd three_entries
  run_three = (run_two, opens_again)

  -- each content has 512 bytes
  whole_arm : Whole (at_arm hd)
  whole_arm = whole_after_arm hd ok [] (at_format hd) run_one (whole_format hd ok)

  whole_begin : Whole (at_begin hd)
  whole_begin = whole_after_entry hd ok first_entry (begin 1 0) (at_arm hd) run_two whole_arm

  whole_first : Whole (at_first hd)
  whole_first = whole_after_entry hd ok two_entries first_block (at_begin hd) run_first_block whole_begin

  whole_second : Whole (at_second hd)
  whole_second = whole_after_entry hd ok with_first_block second_block (at_first hd) run_second_block whole_first

  whole_after_cut : Whole (at_cut hd)
  whole_after_cut = whole_cut losing_third (at_second hd) whole_second

  whole_second_arm : Whole (at_second_arm hd)
  whole_second_arm = whole_after_arm hd ok two_entries (at_cut hd) run_three whole_after_cut

  whole_end : Whole (at_end hd)
  whole_end = whole_cut [] (at_second_arm hd) whole_second_arm

  -- what each mount finds: nothing behind the header
  log_at_format : IsLog hd (device (at_format hd)) []
  log_at_format = record { lawful = ok; header = header_is hd; run = tt; found = tt; ends = λ r. blank_ends hd ok [] tt }

  -- the opening and the begin, behind which zeros stand
  log_at_cut : IsLog hd (device (at_cut hd)) two_entries
  log_at_cut = record {
    lawful = ok;
    header = header_is hd;
    run = run_two;
    found = ((tt, (omega arith, refl), sector_is hd [] opening), (omega arith, refl), sector_is hd first_entry (begin 1 0));
    ends = λ r. blank_ends hd ok two_entries run_two;
  }

  -- the three entries, behind which the second block stands
  log_at_end : IsLog hd (device (at_end hd)) three_entries
  log_at_end = record {
    lawful = ok;
    header = header_is hd;
    run = run_three;
    found = (
      ((tt, (omega arith, refl), sector_is hd [] opening), (omega arith, refl), sector_is hd first_entry (begin 1 0)),
      (omega arith, refl),
      sector_is hd two_entries opening,
    );
    ends = λ r. older_ends hd ok three_entries with_first_block second_block run_three run_second_block (omega arith);
  }

  module _ (layer : ℕ) where
    -- the sitting, event by event
    whole_sitting : Sitting layer hd gap_events (Mounted (session hd ok three_entries run_three)) (device (at_end hd))
    whole_sitting =
        let format = formats hd ok layer (1 ∷ []) 8000 7 (omega arith) is refl in
        let mount = mounts hd ok layer _ (at_format hd) (whole_format hd ok) [] tt log_at_format format in
        let arm = arms_on hd ok layer _ (at_format hd) (whole_format hd ok) [] tt opens (omega arith) refl mount in
        let begun = begins hd ok layer _ (at_arm hd) whole_arm 1 0 opening [] run_one starts (omega arith) refl arm in
        let first = records hd ok layer _ (at_begin hd) whole_begin 1 1 Sound first_sample (begin 1 0) first_entry run_two first_fits (omega arith) refl (sym sound_track) refl begun in
        let second = records hd ok layer _ (at_first hd) whole_first 1 2 Sound second_sample first_block two_entries run_first_block second_fits (omega arith) refl (sym sound_track) refl first in
        let lost = cuts hd ok layer _ (at_second hd) whole_second losing_third _ second in
        let found = mounts hd ok layer _ (at_cut hd) whole_after_cut two_entries run_two log_at_cut lost in
        let opened = arms_on hd ok layer _ (at_cut hd) whole_after_cut two_entries run_two opens_again (omega arith) refl found in
        let off = cuts hd ok layer _ (at_second_arm hd) whole_second_arm [] _ opened in
        mounts hd ok layer _ (at_end hd) whole_end three_entries run_three log_at_end off

  -- the second block, in sector 4, is sound
  leftover_sound : SoundSector (sector hd with_first_block second_block)
  leftover_sound = subst SoundSector (sym (sector_is hd with_first_block second_block)) ((log_lawful hd ok).sound with_first_block second_block run_second_block)

-- a sitting comes to a gap with a leftover behind it
pub gap_and_leftover : (layer : ℕ) → GapAndLeftover layer
gap_and_leftover layer = record {
  state = Mounted (session one_track one_track_lawful three_entries (run_three one_track refl one_track_lawful));
  device = device (at_end one_track);
  happens = whole_sitting one_track refl one_track_lawful layer;
  entries = refl;
  log = log_at_end one_track refl one_track_lawful;
  leftover = sector_is one_track with_first_block second_block;
  sound = leftover_sound one_track refl one_track_lawful;
}
