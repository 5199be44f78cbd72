-- A list put at a place of a slice, by the part of the list and of the slice where the two meet.
use Rattle.std.proofs.Common.{◌≡◌, ℕ, zero, suc, ◌+◌, ◌-◌, ◌<◌, List, [], ◌∷◌, ◌++◌, length, get_or, take, drop, refl, ap, ◌∙◌, ap₂, ⊎_elim, suc-add, zero-add, arith, length-drop}
use Rattle.std.proofs.lemmas.Bool.{cases_lt}
use Rattle.takes.specs.Painting.{cell, painted}
use Rattle.takes.proofs.Cells.{painted_whole}

module _ {Y : Type 0} where
  -- a cell at or behind the place of the list is one of the list, or stays
  cell_behind : (a k : ℕ) (ys : List Y) (y : Y) → cell a ys (a + k) y ≡ get_or ys k y
  cell_behind zero k ys y = rw zero-add
  cell_behind (suc a) k ys y = rw suc-add (cell_behind a k ys y)

  -- a cell before it stays
  cell_before : (a p : ℕ) (ys : List Y) (y : Y) → p < a → cell a ys p y ≡ y
  cell_before zero p ys y h = absurd (omega arith)
  cell_before (suc a) zero ys y h = refl
  cell_before (suc a) (suc p) ys y h = cell_before a p ys y (omega arith)

  -- only how far the slice lies behind the list counts
  painted_behind : (k a p : ℕ) (ys out : List Y) → p ≡ a + k → painted a ys p out ≡ painted 0 ys k out
  painted_behind k a p ys [] e = refl
  painted_behind k a p ys (y ∷ out) e =
      ap₂ (λ (x : Y) (xs : List Y). x ∷ xs) (ap (λ (q : ℕ). cell a ys q y) e ∙ cell_behind a k ys y) (painted_behind (suc k) a (suc p) ys out (omega arith))

  -- the part of the slice that lies before the list stays
  painted_before : (k a p : ℕ) (ys out : List Y) → a ≡ p + k → painted a ys p out ≡ take k out ++ painted a ys a (drop k out)
  painted_before zero a p ys out e = let q : p ≡ a = omega arith in ap (λ (q : ℕ). painted a ys q out) q
  painted_before (suc k) a p ys [] e = refl
  painted_before (suc k) a p ys (y ∷ out) e =
      ap₂ (λ (x : Y) (xs : List Y). x ∷ xs) (cell_before a p ys y (omega arith)) (painted_before k a (suc p) ys out (omega arith))

  -- the start of the slice that the list does not reach, what of the list lies over the slice, and the rest of the slice
  pub painted_parts : (a p : ℕ) (ys out : List Y) → painted a ys p out ≡ take (a - p) out ++ (take (length out - (a - p)) (drop (p - a) ys) ++ drop (length ys - (p - a)) (drop (a - p) out))
  painted_parts a p ys out = ⊎_elim
      (λ h. let z : a - p ≡ 0 = omega arith in let n : length out - 0 ≡ length out = omega arith in
      rw (z, n) (painted_behind (p - a) a p ys out (omega arith) ∙ painted_whole ys (p - a) out))
      (λ h. let z : p - a ≡ 0 = omega arith in let n : length ys - 0 ≡ length ys = omega arith in
      let over : painted a ys a (drop (a - p) out) ≡ take (length (drop (a - p) out)) ys ++ drop (length ys - 0) (drop (a - p) out) = painted_behind 0 a a ys (drop (a - p) out) (omega arith) ∙ painted_whole ys 0 (drop (a - p) out) in
      rw z (painted_before (a - p) a p ys out (omega arith) ∙ ap (λ (r : List Y). take (a - p) out ++ r) (over ∙ rw length-drop)))
      (cases_lt a p)
