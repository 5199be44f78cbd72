-- Painting: the sectors of a log, in their order, over a slice. Slices are made of cells: an element is one cell or several.
use Rattle.std.specs.Prelude.{◌≡◌, ℕ, zero, suc, ◌+◌, ◌*◌, cond, List, [], ◌∷◌, length, Some, None, Option, slice_index_or}
use Rattle.std.specs.List.{flat_map}
use Rattle.takes.specs.declared.Row.{Row}
use Rattle.takes.specs.Entries.{Entry, opening, begin, block, trailer, withdrawal, History, next_place}
use Rattle.takes.specs.Takes.{takes}
use Rattle.takes.specs.Table.{heard_on}

-- what a sector says to a painter: a block's take, its offset in the take, and its cells; anything else is passed over
pub data Content (Y : Type 0) : Type 0 where
  Cells : ℕ → ℕ → List Y → Content Y
  Other : Content Y

module _ {Y : Type 0} where
  -- the cell at place p, which held y, once ys was put at place a
  abbrev pub cell : ℕ → List Y → ℕ → Y → Y
  cell zero ys p y = slice_index_or ys p y
  cell (suc a) ys zero y = y
  cell (suc a) ys (suc p) y = cell a ys p y

  -- a slice whose first cell is at place p, once ys was put at place a
  abbrev pub painted : ℕ → List Y → ℕ → List Y → List Y
  painted a ys p [] = []
  painted a ys p (y ∷ out) = cell a ys p y ∷ painted a ys (suc p) out

-- where take k begins, if it is heard on track t
abbrev pub spot_of : (ℕ → Row) → ℕ → ℕ → Option ℕ
spot_of R t k = cond (heard_on t (R k)) (Some (R k).position) None

-- per: cells to an element; spot: where each take begins that is heard; from: the place of the slice's first cell
module _ {Y : Type 0} (per : ℕ) (spot : ℕ → Option ℕ) (from : ℕ) where
  -- the cells of a block, at their offset in a take that begins at a spot, or nowhere
  abbrev pub stroke : Option ℕ → ℕ → List Y → List Y → List Y
  stroke None off ys out = out
  stroke (Some f) off ys out = painted ((f + off) * per) ys from out

  -- a slice after one sector
  abbrev pub paint_one : Content Y → List Y → List Y
  paint_one (Cells k off ys) out = stroke (spot k) off ys out
  paint_one Other out = out

  -- a slice after the sectors with numbers 1 to n
  abbrev pub paint : (ℕ → Content Y) → ℕ → List Y → List Y
  paint C zero out = out
  paint C (suc n) out = paint_one (C (suc n)) (paint C n out)

-- what painting passes over
abbrev pub Passed : {Y : Type 0} → (ℕ → Option ℕ) → Content Y → Type 0
Passed spot (Cells k off ys) = spot k ≡ None
Passed spot Other = Unit {0}

module _ {X Y : Type 0} (v : X → List Y) (spot : ℕ → Option ℕ) where
  -- what a sector has to say of an entry, v being an element's cells: a block of a heard take its cells, any other nothing.
  -- (A block of another track may hold elements of another width, so its cells mean nothing.)
  abbrev pub Says : History X → Entry X → Content Y → Type 0
  Says h opening c = Passed spot c
  Says h (begin t p) c = Passed spot c
  Says h (block k xs) c = ((f : ℕ) → spot k ≡ Some f → c ≡ Cells k (length (takes h k).elements) (flat_map v xs)) × (spot k ≡ None → Passed spot c)
  Says h (trailer k) c = Passed spot c
  Says h (withdrawal t k) c = Passed spot c

  -- the sectors from 1 on say the entries of the history
  abbrev pub Shows : (ℕ → Content Y) → History X → Type 0
  Shows C [] = Unit {0}
  Shows C (e ∷ h) = Shows C h × Says h e (C (next_place h))
