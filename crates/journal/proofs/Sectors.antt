-- What a sector paints, by what its numbers say.
use Rattle.std.proofs.Common.{◌≡◌, ℕ, ◌<◌, ◌≤◌, Bool, true, false, cond, ◌&&◌, List, Option, Some, None, nat_le, refl, ap, ◌∙◌, ⊎_elim}
use Rattle.std.proofs.lemmas.Bool.{cases_lt, le-leb, lt-leb}
use Rattle.takes.specs.declared.Row.{Row}
use Rattle.takes.specs.Painting.{Cells, Other, spot_of, stroke, paint_one}
use Rattle.journal.specs.Painting.{take_of, content_of}

-- cells that are many enough to be passed over, or are put where the block is
pub block_painted : {Y : Type 0} (per : ℕ) (spot : Option ℕ) (from : ℕ) (is_block : Bool) (bytes k off : ℕ) (ys out new : List Y) → is_block ≡ true → (bytes ≤ 480 → new ≡ stroke per (λ _. spot) from spot off ys out) → (480 < bytes → new ≡ out)
    → new ≡ paint_one per (λ _. spot) from (cond (is_block && nat_le bytes 480) (Cells k off ys) Other) out
block_painted per spot from is_block bytes k off ys out new e fits over = ⊎_elim
    (λ h. rw (e, lt-leb bytes 480 h) (over h))
    (λ h. rw (e, le-leb bytes 480 h) (fits h))
    (cases_lt 480 bytes)

-- of a table of spots only that of the sector's own take counts
by_own_spot : {Y : Type 0} (per : ℕ) (S T : ℕ → Option ℕ) (from : ℕ) (b : Bool) (k off : ℕ) (ys out : List Y) → S k ≡ T k → paint_one per S from (cond b (Cells k off ys) Other) out ≡ paint_one per T from (cond b (Cells k off ys) Other) out
by_own_spot per S T from false k off ys out e = refl
by_own_spot {Y} per S T from true k off ys out e = same (S k) (T k) e
  where
    same : (o p : Option ℕ) → o ≡ p → stroke per S from o off ys out ≡ stroke per T from p off ys out
    same None None e = refl
    same None (Some x) e = cc
    same (Some x) None e = cc
    same (Some x) (Some y) e = cc

-- a sector is painted by the row of its own take
pub by_own_row : {Y : Type 0} (per : ℕ) (R : ℕ → Row) (t from : ℕ) (v : List ℕ → Y) (w : ℕ) (s : List ℕ) (out new : List Y) (row : Row) → row ≡ R (take_of s)
    → new ≡ paint_one per (spot_of (λ _. row) t) from (content_of per v w s) out → new ≡ paint_one per (spot_of R t) from (content_of per v w s) out
by_own_row per R t from v w s out new row e h = h ∙ by_own_spot per (spot_of (λ _. row) t) (spot_of R t) from _ (take_of s) _ _ out (ap (λ (r : Row). spot_of (λ _. r) t 0) e)
