-- Cells of a painted slice, and elements as cells.
use Rattle.std.proofs.Common.{◌≡◌, ℕ, zero, suc, ◌+◌, ◌-◌, ◌*◌, ◌≤◌, List, [], ◌∷◌, ◌++◌, length, get_or, take, drop, sym, refl, ap, ◌∙◌, append-nil, suc-mul, add-mul, suc-add, zero-add, zero-mul, arith, length-append}
use Rattle.std.proofs.Math.Seq.{take-append-add, drop-append-add}
use Rattle.std.proofs.lemmas.Grind.{flat_map-append}
use Rattle.std.proofs.lemmas.List.{take_all, drop_all}
use Rattle.std.specs.List.{flat_map}
use Rattle.takes.specs.Tracks.{splice}
use Rattle.takes.specs.Painting.{cell, painted}

module _ {Y : Type 0} where
  -- a slice is painted cell by cell: where each cell is painted by zs and then ys as by xs, so is the slice
  cells : (a b c : ℕ) (xs ys zs : List Y) → ((p : ℕ) (y : Y) → cell a xs p y ≡ cell b ys p (cell c zs p y)) → (p : ℕ) (out : List Y) → painted a xs p out ≡ painted b ys p (painted c zs p out)
  cells a b c xs ys zs h p [] = refl
  cells a b c xs ys zs h p (y ∷ out) = let i = cells a b c xs ys zs h (suc p) out in let j = h p y in cc

  -- no cells leave each cell as it is
  pub cell_nil : (a p : ℕ) (y : Y) → cell a [] p y ≡ y
  cell_nil zero p y = refl
  cell_nil (suc a) zero y = refl
  cell_nil (suc a) (suc p) y = cell_nil a p y

  -- no cells change nothing
  pub painted_nil : (a p : ℕ) (out : List Y) → painted a [] p out ≡ out
  painted_nil a p [] = refl
  painted_nil a p (y ∷ out) = let i = painted_nil a (suc p) out in let j = cell_nil a p y in cc

  -- a cell under two lists in a row, from their beginning
  cell_after : (e d : List Y) (p : ℕ) (y : Y) → get_or (e ++ d) p y ≡ cell (length e) d p (get_or e p y)
  cell_after [] d p y = refl
  cell_after (x ∷ e) d zero y = refl
  cell_after (x ∷ e) d (suc p) y = cell_after e d p y

  -- and from any place
  cell_append : (a : ℕ) (e d : List Y) (p : ℕ) (y : Y) → cell a (e ++ d) p y ≡ cell (a + length e) d p (cell a e p y)
  cell_append zero e d p y = rw zero-add (cell_after e d p y)
  cell_append (suc a) e d zero y = rw suc-add
  cell_append (suc a) e d (suc p) y = rw suc-add (cell_append a e d p y)

  -- two lists in a row are the one and then the other
  pub painted_append : (a : ℕ) (e d : List Y) (p : ℕ) (out : List Y) → painted a (e ++ d) p out ≡ painted (a + length e) d p (painted a e p out)
  painted_append a e d = cells a (a + length e) a (e ++ d) d e (cell_append a e d)

  -- a cell of a content whose beginning was replaced
  cell_over : (E C : List Y) (p : ℕ) (y : Y) → get_or (E ++ drop (length E) C) p y ≡ get_or E p (get_or C p y)
  cell_over [] C p y = refl
  cell_over (x ∷ E) C zero y = refl
  cell_over (x ∷ E) [] (suc p) y = rw append-nil
  cell_over (x ∷ E) (c ∷ C) (suc p) y = cell_over E C p y

  -- a cell of a content into which a list was spliced
  cell_splice : (f : ℕ) (E C : List Y) (p : ℕ) (y : Y) → f ≤ length C → get_or (splice f E C) p y ≡ cell f E p (get_or C p y)
  cell_splice zero E C p y h = rw zero-add (cell_over E C p y)
  cell_splice (suc f) E [] p y h = absurd (omega arith)
  cell_splice (suc f) E (c ∷ C) zero y h = refl
  cell_splice (suc f) E (c ∷ C) (suc p) y h = rw suc-add (cell_splice f E C p y (omega arith))

  -- what was spliced into a content is painted over it
  pub painted_splice : (f : ℕ) (E C : List Y) → f ≤ length C → (p : ℕ) (out : List Y) → painted 0 (splice f E C) p out ≡ painted f E p (painted 0 C p out)
  painted_splice f E C h = cells 0 f 0 (splice f E C) E C (λ p y. cell_splice f E C p y h)

  -- the first cell of the slice, and the others
  shown_next : (C : List Y) (p : ℕ) (y : Y) (out : List Y) → get_or C p y ∷ (take (length out) (drop (suc p) C) ++ drop (length C - suc p) out) ≡ take (suc (length out)) (drop p C) ++ drop (length C - p) (y ∷ out)
  shown_next [] p y out =
      let a : 0 - suc p ≡ 0 = omega arith in let b : 0 - p ≡ 0 = omega arith in
      rw (a, b, drop_all {X = Y} (suc p) [] (omega arith), drop_all {X = Y} p [] (omega arith), take_all {A = Y} (length out) [] (omega arith))
  shown_next (c ∷ C) zero y out =
      let a : suc (length C) - 1 ≡ length C = omega arith in let b : suc (length C) - 0 ≡ suc (length C) = omega arith in
      rw (a, b)
  shown_next (c ∷ C) (suc p) y out =
      let a : suc (length C) - suc (suc p) ≡ length C - suc p = omega arith in let b : suc (length C) - suc p ≡ length C - p = omega arith in
      rw (a, b) (shown_next C p y out)

  -- a whole content, painted from its beginning: it as far as the slice reaches, and the rest of the slice
  pub painted_whole : (C : List Y) (p : ℕ) (out : List Y) → painted 0 C p out ≡ take (length out) (drop p C) ++ drop (length C - p) out
  painted_whole C p [] = sym (drop_all {X = Y} (length C - p) [] (omega arith))
  painted_whole C p (y ∷ out) = ap (λ (r : List Y). get_or C p y ∷ r) (painted_whole C (suc p) out) ∙ shown_next C p y out

module _ {X Y : Type 0} (per : ℕ) (v : X → List Y) (wide : (x : X) → length (v x) ≡ per) where
  -- elements of `per` cells each are so many cells
  pub length_cells : (xs : List X) → length (flat_map v xs) ≡ length xs * per
  length_cells [] = omega (arith, zero-mul per)
  length_cells (x ∷ xs) = simp length-append (omega (arith, wide x, length_cells xs, suc-mul (length xs) per))

  -- the cells of the first f elements
  cells_take : (f : ℕ) (xs : List X) → flat_map v (take f xs) ≡ take (f * per) (flat_map v xs)
  cells_take zero xs = rw zero-mul
  cells_take (suc f) [] = sym (take_all (suc f * per) [] (omega arith))
  cells_take (suc f) (x ∷ xs) =
      let e : suc f * per ≡ length (v x) + f * per = omega (arith, wide x, suc-mul f per) in
      rw (cells_take f xs, e) (sym (take-append-add (v x) (flat_map v xs) (f * per)))

  -- and of the elements after them
  cells_drop : (f : ℕ) (xs : List X) → flat_map v (drop f xs) ≡ drop (f * per) (flat_map v xs)
  cells_drop zero xs = rw zero-mul
  cells_drop (suc f) [] = sym (drop_all (suc f * per) [] (omega arith))
  cells_drop (suc f) (x ∷ xs) =
      let e : suc f * per ≡ length (v x) + f * per = omega (arith, wide x, suc-mul f per) in
      rw (cells_drop f xs, e) (sym (drop-append-add (v x) (flat_map v xs) (f * per)))

  -- the cells of what was spliced
  pub cells_splice : (f : ℕ) (E C : List X) → flat_map v (splice f E C) ≡ splice (f * per) (flat_map v E) (flat_map v C)
  cells_splice f E C =
      rw (flat_map-append v (take f C) (E ++ drop (f + length E) C), flat_map-append v E (drop (f + length E) C), cells_take f C, cells_drop (f + length E) C, length_cells E, add-mul)
