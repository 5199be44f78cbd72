-- What is asked of a take table, which has a row for each number, and what holds of every one.
use Rattle.std.specs.Prelude.{◌≡◌, ℕ, zero, suc, ◌+◌, ◌<◌, ◌≤◌, max, Bool, true, false, cond, ◌&&◌, ◌||◌, ◌==◌}
use Rattle.takes.specs.declared.State.{State}
use Rattle.takes.specs.declared.State.TheVariants.{Withdrawn, Open, Standing}
use Rattle.takes.specs.declared.Row.{Row}
use Rattle.takes.specs.declared.Outline.{Outline}
use Rattle.takes.specs.declared.Outline.TheVariants.{Opening, Begin, Block, Trailer, Withdrawal}
use Rattle.takes.specs.Takes.{heard}

-- whether a take is open
abbrev pub is_open : State → Bool
is_open Withdrawn = false
is_open Open = true
is_open Standing = false

-- whether a take is standing
abbrev pub is_standing : State → Bool
is_standing Withdrawn = false
is_standing Open = false
is_standing Standing = true

-- whether a row's take is heard on track t
abbrev pub heard_on : ℕ → Row → Bool
heard_on t r = r.track == t && heard r.state

-- whether one of the first n takes is open on track t
abbrev pub open_on : (ℕ → Row) → ℕ → ℕ → Bool
open_on R t zero = false
open_on R t (suc n) = ((R (suc n)).track == t && is_open (R (suc n)).state) || open_on R t n

-- which take a withdrawal on track t takes of the first n: the highest standing one, or 0 where none is
abbrev pub withdrawn_by : (ℕ → Row) → ℕ → ℕ → ℕ
withdrawn_by R t zero = 0
withdrawn_by R t (suc n) = cond ((R (suc n)).track == t && is_standing (R (suc n)).state) (suc n) (withdrawn_by R t n)

-- where track t ends by the first n takes
abbrev pub end_of : (ℕ → Row) → ℕ → ℕ → ℕ
end_of R t zero = 0
end_of R t (suc n) = cond (heard_on t (R (suc n))) (max (end_of R t n) ((R (suc n)).position + (R (suc n)).len)) (end_of R t n)

-- what the table asks of an entry that follows: n takes were begun, and `end` is where each track ends
abbrev pub Allows : (ℕ → Row) → ℕ → (ℕ → ℕ) → Outline → Type 0
Allows R n end Opening = Unit {0}
Allows R n end (Begin t p) = (open_on R t n ≡ false) × (p ≤ end t) × (n < 64)
Allows R n end (Block k c) = (R k).state ≡ Open
Allows R n end (Trailer k) = (R k).state ≡ Open
Allows R n end (Withdrawal t k) = (open_on R t n ≡ false) × (0 < k) × (withdrawn_by R t n ≡ k)

-- of the first n takes, i and j are open on one track
abbrev pub OpenTogether : (ℕ → Row) → ℕ → ℕ → ℕ → Type 0
OpenTogether R n i j = (i ≤ n) × (j ≤ n) × ((R i).state ≡ Open) × ((R j).state ≡ Open) × ((R i).track ≡ (R j).track)

-- no two of the first n takes are open on one track
abbrev pub OneOpen : (ℕ → Row) → ℕ → Type 0
OneOpen R n = (i j : ℕ) → OpenTogether R n i j → i ≡ j

-- no heard take among the first n begins beyond the end of its track's earlier heard takes
abbrev pub NoGap : (ℕ → Row) → ℕ → Type 0
NoGap R n = (k : ℕ) → (k < n) × (heard (R (suc k)).state ≡ true) → (R (suc k)).position ≤ end_of R (R (suc k)).track k
