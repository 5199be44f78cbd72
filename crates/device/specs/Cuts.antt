-- What a power cut leaves.
use Rattle.std.specs.Prelude.{◌≡◌, ℕ, ◌⊎◌, List, [], ◌∷◌, ◌++◌, length, replicate, Ok, slice_index, slice_index_or}
use mathlib.Core.List.{Memᴰ}
use Rattle.sector.specs.Layout.{Sound}
use Rattle.device.specs.Meaning.{Sector, sick, held, Meaning}

-- what may be left of a list: its only content; of a longer one any member, or 512 bytes that are not sound
abbrev pub Left : List (List ℕ) → List ℕ → List ℕ → Type 0
Left [] new c = c ≡ new
Left (o ∷ old) new c = Memᴰ c ((o ∷ old) ++ (new ∷ [])) ⊎ ((length c ≡ 512) × (Sound c → ⊥))

-- a sector before and after a cut: one content is left
abbrev pub CutSector : Sector → Sector → Type 0
CutSector (sick f) t = t ≡ sick f
CutSector (held old new) (sick f) = ⊥
CutSector (held old new) (held old' new') = (old' ≡ []) × Left old new new'

-- a device before and after a cut
pub record Cut (m n : Meaning) : Type 0 where
  pub size : n.size ≡ m.size
  pub power : n.power ≡ Ok tt
  pub each : (s : ℕ) → CutSector (m.sector s) (n.sector s)

-- what choice c leaves of a sector of an image: member c of a longer list, oldest first, or zeros where there is none
abbrev pub chosen : ℕ → Sector → Sector
chosen c (sick f) = sick f
chosen c (held [] new) = held [] new
chosen c (held (o ∷ old) new) = held [] (slice_index_or ((o ∷ old) ++ (new ∷ [])) c (replicate 512 0))

-- what a plan leaves of an image: byte s is the choice for sector s, and a missing byte is 0
abbrev pub cut_by : List ℕ → Meaning → Meaning
cut_by plan m = record { size = m.size; power = Ok tt; sector = λ s. chosen (slice_index plan s) (m.sector s) }

-- devices, one by one, before and after a cut
abbrev pub EachCut : List Meaning → List Meaning → Type 0
EachCut [] [] = Unit {0}
EachCut [] (n ∷ ns) = ⊥
EachCut (m ∷ ms) [] = ⊥
EachCut (m ∷ ms) (n ∷ ns) = Cut m n × EachCut ms ns
