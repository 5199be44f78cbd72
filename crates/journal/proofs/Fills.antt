-- Cells read from bytes, and a slice that is filled with them where the two meet.
use Rattle.std.proofs.Common.{◌≡◌, ℕ, zero, suc, ◌+◌, ◌-◌, ◌*◌, ◌/◌, ◌%◌, ◌<◌, ◌≤◌, min, List, [], ◌++◌, length, take, drop, refl, sym, ap, ◌∙◌, ap₂, add-mul, suc-mul, append-nil, arith, length-drop}
use Rattle.std.proofs.Math.Nat.{mul-div_cancel}
use Rattle.std.proofs.lemmas.Nat.{div-mul-add}
use Rattle.std.proofs.lemmas.List.{take-take, drop-take, length-take-le, take_min, drop_min, take_at, drop_at}
use Rattle.element.specs.Payload.{unpacked}
use Rattle.element.proofs.Unpacks.{length-unpacked, unpacked_append}
use Rattle.takes.specs.Painting.{painted}
use Rattle.journal.proofs.Strokes.{painted_parts}

-- whole parts that are left after the first s are as many fewer
parts_left : (l w s : ℕ) → 0 < w → s ≤ l / w → (l - s * w) / w ≡ l / w - s
parts_left l w s h k =
    let whole : l / w ≡ l / w - s + s = omega arith in
    let e : l - s * w ≡ (l / w - s) * w + l % w = omega (arith, ap (λ (q : ℕ). q * w) whole, add-mul (l / w - s) s w) in
    rw e (div-mul-add (l / w - s) w (l % w) (omega arith))

module _ {Y : Type 0} (v : List ℕ → Y) (w : ℕ) where
  -- the first m cells of n, and those behind them
  unpacked_split : (m n : ℕ) (bs : List ℕ) → unpacked v w n bs ≡ unpacked v w (min m n) bs ++ unpacked v w (n - m) (drop (min m n * w) bs)
  unpacked_split m n bs = ap (λ (k : ℕ). unpacked v w k bs) (omega arith) ∙ unpacked_append v w (min m n) (n - m) bs

  take_unpacked : (m n : ℕ) (bs : List ℕ) → take m (unpacked v w n bs) ≡ unpacked v w (min m n) bs
  take_unpacked m n bs =
      sym (take_min m (unpacked v w n bs)) ∙ rw (length-unpacked v w n bs) (ap (take (min m n)) (unpacked_split m n bs) ∙ take_at _ _ (min m n) (length-unpacked v w (min m n) bs))

  drop_unpacked : (m n : ℕ) (bs : List ℕ) → drop m (unpacked v w n bs) ≡ unpacked v w (n - m) (drop (min m n * w) bs)
  drop_unpacked m n bs =
      sym (drop_min m (unpacked v w n bs)) ∙ rw (length-unpacked v w n bs) (ap (drop (min m n)) (unpacked_split m n bs) ∙ drop_at _ _ (min m n) (length-unpacked v w (min m n) bs))

  -- the first n cells are in the bytes of as many
  pub unpacked_front : (n : ℕ) (bs : List ℕ) → unpacked v w n (take (n * w) bs) ≡ unpacked v w n bs
  unpacked_front zero bs = refl
  unpacked_front (suc n) bs =
      let e : suc n * w ≡ w + n * w = omega (arith, suc-mul n w) in
      let first : take w (take (w + n * w) bs) ≡ take w bs = take-take w (w + n * w) bs (omega arith) in
      rw (e, first, drop-take w (n * w) bs, unpacked_front n (drop w bs))

  -- and all the cells that these say
  pub unpacked_cut : (n : ℕ) (bs bytes : List ℕ) → 0 < w → n * w ≤ length bs → bytes ≡ take (n * w) bs → unpacked v w (length bytes / w) bytes ≡ unpacked v w n bs
  unpacked_cut n bs bytes h l e = rw (e, length-take-le (n * w) bs l, mul-div_cancel n h) (unpacked_front n bs)

  -- a slice that is filled as far as the cells reach
  filled : (n : ℕ) (bs : List ℕ) (out : List Y) → unpacked v w (min (length out) n) bs ++ drop (min (length out) n) out ≡ take (length out) (unpacked v w n bs) ++ drop n out
  filled n bs out =
      let e : min (length out) n ≡ min n (length out) = omega arith in
      ap₂ (λ (a b : List Y). a ++ b) (sym (take_unpacked (length out) n bs)) (ap (λ (k : ℕ). drop k out) e ∙ drop_min n out)

  -- the cells of some bytes, put at a place of a slice: where the two meet, the slice is filled
  pub filled_painted : (at from skip start n : ℕ) (bs rest : List ℕ) (out part new after : List Y) → 0 < w → skip ≡ min (from - at) (length bs / w) → start ≡ min (at - from) (length out)
      → rest ≡ drop (skip * w) bs → part ≡ drop start out → n ≡ min (length part) (length rest / w) → new ≡ unpacked v w n rest ++ drop n part → after ≡ []
      → take start out ++ (new ++ after) ≡ painted at (unpacked v w (length bs / w) bs) from out
  filled_painted at from skip start n bs rest out part new after h es et er ep en ew ea =
      let all : ℕ = length bs / w in
      let left : length rest / w ≡ all - (from - at) = rw (er, length-drop, parts_left (length bs) w skip h (omega arith)) (omega arith) in
      let before : take start out ≡ take (at - from) out = rw et (take_min (at - from) out) in
      let behind : part ≡ drop (at - from) out = ep ∙ rw et (drop_min (at - from) out) in
      let room : length part ≡ length out - (at - from) = ap length behind ∙ length-drop (at - from) out in
      let cells : unpacked v w (length rest / w) rest ≡ drop (from - at) (unpacked v w all bs) = rw (left, er, es) (sym (drop_unpacked (from - at) all bs)) in
      let over : new ≡ take (length part) (unpacked v w (length rest / w) rest) ++ drop (length rest / w) part = ew ∙ rw en (filled (length rest / w) rest part) in
      rw (ea, append-nil, over, cells, room, behind, left, before, painted_parts at from (unpacked v w all bs) out, length-unpacked)
