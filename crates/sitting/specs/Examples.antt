-- A sitting in which a cut leaves a gap in what was recorded, and a block behind the gap that is still sound.
use Rattle.std.specs.Prelude.{◌≡◌, ℕ, true, false, List, [], ◌∷◌, Ok}
use Rattle.sector.specs.Layout.{Sound as SoundSector}
use Rattle.device.specs.Meaning.{Meaning, newest}
use Rattle.element.specs.declared.kind.Kind.TheVariants.{Sound}
use Rattle.takes.specs.Entries.{opening, begin, block}
use Rattle.journal.specs.declared.header.Header.{Header}
use Rattle.journal.specs.Log.{Log, entry_bytes}
use Rattle.recorder.specs.declared.State.{State}
use Rattle.recorder.specs.Formats.{header_of}
use Rattle.recorder.specs.Mounts.{IsLog}
use Rattle.sitting.specs.Events.{Item, Mount, Arm, Begin, Record, called, cut, Events, book}
use Rattle.sitting.specs.Sittings.{Sitting}

-- one track of sound, 8,000 samples a second, sitting number 7
abbrev pub one_track : Header
one_track = header_of (1 ∷ []) 8000 7

-- the bytes of two samples
abbrev pub first_sample : List ℕ
first_sample = 10 ∷ 0 ∷ []

abbrev pub second_sample : List ℕ
second_sample = 20 ∷ 0 ∷ []

-- a lawful element with these bytes
abbrev pub lawful_item : List ℕ → Item
lawful_item x = record { lawful = true; bytes = x }

-- What happens after the format, the latest first. Two blocks are recorded and not saved; a cut loses the first and leaves the second.
abbrev pub gap_events : Events
gap_events =
    called Mount (Ok 3) false  -- these three are found; the second block still stands in sector 4
    ∷ cut  -- nothing is lost
    ∷ called Arm (Ok 3) false  -- an opening, over the gap in sector 3
    ∷ called Mount (Ok 2) false  -- the opening and the begin are found
    ∷ cut  -- the first block is lost
    ∷ called (Record Sound 1 (lawful_item second_sample ∷ [])) (Ok 2) false  -- the second block, in sector 4
    ∷ called (Record Sound 1 (lawful_item first_sample ∷ [])) (Ok 1) false  -- the first block, in sector 3
    ∷ called (Begin 1 0) (Ok 1) false  -- a begin, in sector 2
    ∷ called Arm (Ok 2) false  -- an opening, in sector 1
    ∷ called Mount (Ok 0) false
    ∷ []

-- the three entries
abbrev pub three_entries : Log
three_entries = opening ∷ begin 1 0 ∷ opening ∷ []

-- the entries with the first block, behind which the second was recorded
abbrev pub with_first_block : Log
with_first_block = block 1 (first_sample ∷ []) ∷ begin 1 0 ∷ opening ∷ []

-- A recorder and a device come to all of this. The book has the three entries, and they are the device's log. Behind them, in sector 4,
-- stands the second block as it was recorded, and it is sound.
pub record GapAndLeftover (layer : ℕ) : Type 0 where
  pub state : State
  pub device : Meaning
  pub happens : Sitting layer one_track gap_events state device
  pub entries : (book gap_events).entries ≡ three_entries
  pub log : IsLog one_track device three_entries
  pub leftover : newest (device.sector 4) ≡ entry_bytes one_track with_first_block (block 1 (second_sample ∷ []))
  pub sound : SoundSector (newest (device.sector 4))
