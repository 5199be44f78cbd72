-- What painting the sectors of a log gives.
use Rattle.std.specs.Prelude.{◌≡◌, ℕ, zero, suc, ◌-◌, ◌*◌, ◌/◌, List, [], ◌∷◌, ◌++◌, length, take, drop, slice_index_or}
use Rattle.std.specs.List.{flat_map}
use Rattle.element.specs.Kinds.{width_of}
use Rattle.element.specs.Payload.{unpacked}
use Rattle.takes.specs.Entries.{next_place}
use Rattle.takes.specs.Tracks.{track}
use Rattle.journal.specs.declared.header.Header.{Header}
use Rattle.journal.specs.declared.session.Session.{Session}
use Rattle.journal.specs.Headers.{kind_of}
use Rattle.journal.specs.Log.{Log, entry_bytes}
use Rattle.journal.specs.Sessions.{InStep}

-- at the place of each entry stands the sector that it is written as
abbrev pub InSectors : Header → (ℕ → List ℕ) → Log → Type 0
InSectors hd N [] = Unit {0}
InSectors hd N (e ∷ h) = InSectors hd N h × (N (next_place h) ≡ entry_bytes hd h e)

-- the sectors of a list by their numbers: the first has number 1
abbrev pub numbered : List (List ℕ) → ℕ → List ℕ
numbered sectors zero = []
numbered sectors (suc p) = slice_index_or sectors p []

-- the sectors are those of the log's entries, in their order, and no others
abbrev pub AreSectorsOf : Header → Log → List (List ℕ) → Type 0
AreSectorsOf hd h sectors = (length sectors ≡ length h) × InSectors hd (numbered sectors) h

-- how many cells of w bytes make up an element of track t
abbrev pub cells_each : Header → (t w : ℕ) → ℕ
cells_each hd t w = width_of (kind_of hd t) / w

-- a slice that held `out` and shows ys from a place on: as many of them as it has room for, and then its own rest
abbrev pub shown : {Y : Type 0} → ℕ → List Y → List Y → List Y
shown from ys out = take (length out) (drop from ys) ++ drop (length ys - from) out

-- Sectors were painted over a slice that held `out`: whatever log the session is in step with, if they are its sectors, and whole cells
-- of w bytes, of which v is the value, make up an element of track t, then the slice shows the track's cells from element `from` on.
pub record ShowsTrack {Y : Type 0} (s : Session) (v : List ℕ → Y) (w t from : ℕ) (sectors : List (List ℕ)) (out new : List Y) : Type 0 where
  pub whole : (h : Log) → InStep s h → AreSectorsOf s.header h sectors → cells_each s.header t w * w ≡ width_of (kind_of s.header t)
      → new ≡ shown (from * cells_each s.header t w) (flat_map (unpacked v w (cells_each s.header t w)) (track h t)) out
