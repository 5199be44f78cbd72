-- The takes that a history gives.
use Rattle.std.specs.Prelude.{ℕ, suc, Bool, true, false, cond, List, [], ◌∷◌, ◌++◌, length, ◌==◌}
use Rattle.takes.specs.declared.State.{State}
use Rattle.takes.specs.declared.State.TheVariants.{Withdrawn, Open, Standing}
use Rattle.takes.specs.declared.Row.{Row}
use Rattle.takes.specs.Entries.{opening, begin, block, trailer, withdrawal, History, next_place}

-- a take: its track, the position at which it begins, where it stands, its elements, the sector of its begin, and its last sector
pub record Take (X : Type 0) : Type 0 where
  pub track : ℕ
  pub position : ℕ
  pub state : State
  pub elements : List X
  pub start : ℕ
  pub last : ℕ

-- open and standing takes are heard
abbrev pub heard : State → Bool
heard Withdrawn = false
heard Open = true
heard Standing = true

-- an opening makes an open take standing
abbrev pub settled : State → State
settled Withdrawn = Withdrawn
settled Open = Standing
settled Standing = Standing

-- a table with what it has for number j changed
abbrev pub changed : {A : Type 0} → ℕ → (A → A) → (ℕ → A) → ℕ → A
changed j f T k = cond (k == j) (f (T k)) (T k)

module _ {X : Type 0} where
  -- what stands for a number that no take has
  abbrev pub blank : Take X
  blank = record { track = 0; position = 0; state = Withdrawn; elements = []; start = 0; last = 0 }

  -- a take that begins on a track, at a position, by the entry at place n
  abbrev pub fresh : ℕ → ℕ → ℕ → Take X
  fresh t p n = record { track = t; position = p; state = Open; elements = []; start = n; last = n }

  -- a take with more elements, by the block at place n
  abbrev pub longer : List X → ℕ → Take X → Take X
  longer xs n r = record { track = r.track; position = r.position; state = r.state; elements = r.elements ++ xs; start = r.start; last = n }

  -- a take in another state
  abbrev pub in_state : State → Take X → Take X
  in_state s r = record { track = r.track; position = r.position; state = s; elements = r.elements; start = r.start; last = r.last }

  -- how many takes were begun
  abbrev pub count : History X → ℕ
  count [] = 0
  count (opening ∷ h) = count h
  count (begin t p ∷ h) = suc (count h)
  count (block k xs ∷ h) = count h
  count (trailer k ∷ h) = count h
  count (withdrawal t k ∷ h) = count h

  -- the takes by their numbers, which are given from 1 on in the order of begin
  abbrev pub takes : History X → ℕ → Take X
  takes [] = λ k. blank
  takes (opening ∷ h) = λ k. in_state (settled (takes h k).state) (takes h k)
  takes (begin t p ∷ h) = changed (suc (count h)) (λ r. fresh t p (next_place h)) (takes h)
  takes (block k xs ∷ h) = changed k (longer xs (next_place h)) (takes h)
  takes (trailer k ∷ h) = changed k (in_state Standing) (takes h)
  takes (withdrawal t k ∷ h) = changed k (in_state Withdrawn) (takes h)

  -- a take without its elements
  abbrev pub row : Take X → Row
  row r = record { track = r.track; position = r.position; len = length r.elements; state = r.state; start = r.start; last = r.last }

  -- the take table of a history
  abbrev pub rows : History X → ℕ → Row
  rows h k = row (takes h k)
