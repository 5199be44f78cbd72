-- What holds of every history whose entries the take table admits, one after the other.
use Rattle.std.specs.Prelude.{◌≡◌, ℕ, suc, ◌-◌, ◌≤◌, List, [], ◌∷◌, ◌++◌, length, take, drop}
use Rattle.std.specs.List.{flat_map}
use Rattle.takes.specs.declared.State.TheVariants.{Open}
use Rattle.takes.specs.Entries.{Entry, opening, begin, block, trailer, withdrawal, History}
use Rattle.takes.specs.Takes.{count, takes, rows}
use Rattle.takes.specs.Table.{end_of, OneOpen, NoGap}
use Rattle.takes.specs.Tracks.{splice, track, TableRun}
use Rattle.takes.specs.Painting.{Content, paint, spot_of, Shows}

module _ (X : Type 0) where
  -- no two takes are open on one track, and no heard take begins beyond the end of its track's earlier heard takes
  abbrev pub Kept : Type 0
  Kept = (h : History X) → TableRun h → OneOpen (rows h) (count h) × NoGap (rows h) (count h)

  -- a track is as long as the numbers of its takes say
  abbrev pub Ends : Type 0
  Ends = (h : History X) → TableRun h → (t : ℕ) → length (track h t) ≡ end_of (rows h) t (count h)

  -- a take that is open has changed its track, since its begin, in the stretch from its position over its length, and nowhere else
  abbrev pub Punches : Type 0
  Punches =
      (h later b : History X) (t p : ℕ) → TableRun h → h ≡ later ++ (begin t p ∷ b) → (takes h (suc (count b))).state ≡ Open
      → track h t ≡ splice p (takes h (suc (count b))).elements (track b t)

  -- a withdrawal makes its track what it was before the withdrawn take began, whatever came between
  abbrev pub Restores : Type 0
  Restores =
      (h later b : History X) (t s p k : ℕ) → TableRun (withdrawal t k ∷ h) → h ≡ later ++ (begin s p ∷ b) → k ≡ suc (count b)
      → track (withdrawal t k ∷ h) t ≡ track b t

  -- an entry after a history edits track t: a block edits the track of its take, a withdrawal its own, and any other entry none
  abbrev pub Edits : History X → Entry X → ℕ → Type 0
  Edits h opening t = ⊥
  Edits h (begin u p) t = ⊥
  Edits h (block k xs) t = (takes h k).track ≡ t
  Edits h (trailer k) t = ⊥
  Edits h (withdrawal u k) t = u ≡ t

  -- an entry leaves each track that it does not edit as it was, so at most one track changes
  abbrev pub OthersStay : Type 0
  OthersStay = (h : History X) (e : Entry X) (t : ℕ) → TableRun (e ∷ h) → (Edits h e t → ⊥) → track (e ∷ h) t ≡ track h t

  -- no block has more than m elements
  abbrev pub Small : ℕ → History X → Type 0
  Small m [] = Unit {0}
  Small m (opening ∷ h) = Small m h
  Small m (begin t p ∷ h) = Small m h
  Small m (block k xs ∷ h) = (length xs ≤ m) × Small m h
  Small m (trailer k ∷ h) = Small m h
  Small m (withdrawal t k ∷ h) = Small m h

  -- the oldest entry is an opening
  abbrev pub Opened : History X → Type 0
  Opened [] = Unit {0}
  Opened (opening ∷ []) = Unit {0}
  Opened (begin t p ∷ []) = ⊥
  Opened (block k xs ∷ []) = ⊥
  Opened (trailer k ∷ []) = ⊥
  Opened (withdrawal t k ∷ []) = ⊥
  Opened (e ∷ f ∷ h) = Opened (f ∷ h)

  -- a log of at most 65,535 entries with blocks of at most 240 elements has no track of more than 15,727,920
  abbrev pub Longest : Type 0
  Longest = (h : History X) → TableRun h → Opened h → length h ≤ 65535 → Small 240 h → (t : ℕ) → length (track h t) ≤ 15727920

-- Painting sectors that show an admitted history gives the track from a place on, as far as the slice reaches, and leaves the rest of
-- the slice. An element is `per` cells, which v gives, and `from` counts cells.
abbrev pub PaintsTracks : (X Y : Type 0) → Type 0
PaintsTracks X Y =
    (per : ℕ) (v : X → List Y) → ((x : X) → length (v x) ≡ per) → (h : History X) → TableRun h → (t : ℕ) (C : ℕ → Content Y)
    → Shows v (spot_of (rows h) t) C h → (from : ℕ) (out : List Y)
    → paint per (spot_of (rows h) t) from C (length h) out
    ≡ take (length out) (drop from (flat_map v (track h t))) ++ drop (length (flat_map v (track h t)) - from) out
