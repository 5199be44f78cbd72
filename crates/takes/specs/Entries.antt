-- The entries of a log. A history is a list of them, the latest first.
use Rattle.std.specs.Prelude.{ℕ, suc, List, [], ◌∷◌, length}
use Rattle.takes.specs.declared.Outline.{Outline}
use Rattle.takes.specs.declared.Outline.TheVariants.{Opening, Begin, Block, Trailer, Withdrawal}

-- an opening; the begin of a take on a track at a position; a block of a take with its elements; the trailer of a take;
-- the withdrawal of a track's take
pub data Entry (X : Type 0) : Type 0 where
  opening : Entry X
  begin : ℕ → ℕ → Entry X
  block : ℕ → List X → Entry X
  trailer : ℕ → Entry X
  withdrawal : ℕ → ℕ → Entry X

abbrev pub History : Type 0 → Type 0
History X = List (Entry X)

module _ {X : Type 0} where
  -- an entry without the elements of a block
  abbrev pub outline : Entry X → Outline
  outline opening = Opening
  outline (begin t p) = Begin t p
  outline (block k xs) = Block k (length xs)
  outline (trailer k) = Trailer k
  outline (withdrawal t k) = Withdrawal t k

  -- the sector at which the next entry stands: sector 0 is the header's, and the entries follow it without a gap
  abbrev pub next_place : History X → ℕ
  next_place h = suc (length h)

  -- the epoch: 1 by the header, and one higher by each opening
  abbrev pub epoch : History X → ℕ
  epoch [] = 1
  epoch (opening ∷ h) = suc (epoch h)
  epoch (begin t p ∷ h) = epoch h
  epoch (block k xs ∷ h) = epoch h
  epoch (trailer k ∷ h) = epoch h
  epoch (withdrawal t k ∷ h) = epoch h
