-- The header of a recording, and the sector that it is written as.
use Rattle.std.specs.Prelude.{◌≡◌, ℕ, ◌-◌, ◌<◌, ◌≤◌, List, ◌++◌, length, take, replicate, slice_index_or, map}
use Rattle.sector.specs.declared.layout.Fields.{Fields}
use Rattle.sector.specs.declared.layout.Kind.TheVariants.{Header as HeaderSector}
use Rattle.sector.specs.Layout.{sector_bytes}
use Rattle.element.specs.declared.kind.Kind.{Kind}
use Rattle.element.specs.declared.kind.Kind.TheVariants.{Sound}
use Rattle.element.specs.Kinds.{kind_number}
use Rattle.journal.specs.declared.header.Header.{Header}

-- the recording has track t; tracks are numbered from 1
abbrev pub HasTrack : Header → ℕ → Type 0
HasTrack hd t = (1 ≤ t) × (t ≤ hd.tracks)

-- the kind of track t
abbrev pub kind_of : Header → ℕ → Kind
kind_of hd t = slice_index_or hd.kinds (t - 1) Sound

-- a payload: bytes, and zeros up to 480
abbrev pub padded : List ℕ → List ℕ
padded bytes = bytes ++ replicate (480 - length bytes) 0

-- what a recording may have: 1 to 8 tracks and a rate from 8,000 to 48,000. The places of kinds that no track has hold Sound.
pub record Lawful (hd : Header) : Type 0 where
  pub sitting : hd.sitting < 4294967296
  pub slow : 8000 ≤ hd.rate
  pub fast : hd.rate ≤ 48000
  pub some : 1 ≤ hd.tracks
  pub few : hd.tracks ≤ 8
  pub eight : length hd.kinds ≡ 8
  pub rest : (i : ℕ) → hd.tracks ≤ i → slice_index_or hd.kinds i Sound ≡ Sound

-- the header's numbers: its kind, the number of tracks, the sitting number, place 0, epoch 1 and the rate
abbrev pub header_fields : Header → Fields
header_fields hd =
    record { kind = HeaderSector; track = hd.tracks; count = 0; sitting = hd.sitting; place = 0; epoch = 1; take = 0; a = hd.rate; b = 0 }

-- a byte for each track, the number of its kind
abbrev pub kind_bytes : Header → List ℕ
kind_bytes hd = map kind_number (take hd.tracks hd.kinds)

-- the header's sector
abbrev pub header_bytes : Header → List ℕ
header_bytes hd = sector_bytes (header_fields hd) (padded (kind_bytes hd))

-- the header is lawful, and its sector has these numbers and this payload
abbrev pub WrittenAs : Header → Fields → List ℕ → Type 0
WrittenAs hd f p = Lawful hd × (f ≡ header_fields hd) × (p ≡ padded (kind_bytes hd))

-- the numbers are those of the first kinds, and each kind behind these is Sound
abbrev pub AreNumbersOf : List ℕ → List Kind → Type 0
AreNumbersOf numbers kinds = (numbers ≡ map kind_number (take (length numbers) kinds)) × ((i : ℕ) → length numbers ≤ i → slice_index_or kinds i Sound ≡ Sound)
