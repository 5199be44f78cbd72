-- What an entry makes of the take table, of the number of takes and of the epoch. Of a block it takes only how many elements it has.
use Rattle.std.specs.Prelude.{ℕ, suc, ◌+◌}
use Rattle.takes.specs.declared.State.{State}
use Rattle.takes.specs.declared.State.TheVariants.{Withdrawn, Open, Standing}
use Rattle.takes.specs.declared.Row.{Row}
use Rattle.takes.specs.declared.Outline.{Outline}
use Rattle.takes.specs.declared.Outline.TheVariants.{Opening, Begin, Block, Trailer, Withdrawal}
use Rattle.takes.specs.Takes.{settled, changed}

-- the row of a take that begins on a track, at a position, by the entry at this place
abbrev pub fresh_row : ℕ → ℕ → ℕ → Row
fresh_row t p place = record { track = t; position = p; len = 0; state = Open; start = place; last = place }

-- the row of a take with c more elements, by the block at this place
abbrev pub longer_row : ℕ → ℕ → Row → Row
longer_row c place r = record { track = r.track; position = r.position; len = r.len + c; state = r.state; start = r.start; last = place }

-- the row of a take in another state
abbrev pub row_in_state : State → Row → Row
row_in_state s r = record { track = r.track; position = r.position; len = r.len; state = s; start = r.start; last = r.last }

-- the table after an entry at this place, where n takes were begun before it
abbrev pub next_rows : ℕ → ℕ → (ℕ → Row) → Outline → ℕ → Row
-- an opening makes each open take standing
next_rows place n R Opening = λ k. row_in_state (settled (R k).state) (R k)
-- a begin gives the next number to a new take
next_rows place n R (Begin t p) = changed (suc n) (λ r. fresh_row t p place) R
-- a block makes its take longer
next_rows place n R (Block k c) = changed k (longer_row c place) R
-- a trailer makes its take standing
next_rows place n R (Trailer k) = changed k (row_in_state Standing) R
-- a withdrawal makes its take withdrawn
next_rows place n R (Withdrawal t k) = changed k (row_in_state Withdrawn) R

-- how many takes were begun after an entry: one more by a begin
abbrev pub next_count : ℕ → Outline → ℕ
next_count n Opening = n
next_count n (Begin t p) = suc n
next_count n (Block k c) = n
next_count n (Trailer k) = n
next_count n (Withdrawal t k) = n

-- the epoch after an entry: one higher by an opening
abbrev pub next_epoch : ℕ → Outline → ℕ
next_epoch e Opening = suc e
next_epoch e (Begin t p) = e
next_epoch e (Block k c) = e
next_epoch e (Trailer k) = e
next_epoch e (Withdrawal t k) = e
