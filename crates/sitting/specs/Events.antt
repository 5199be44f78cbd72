-- What happens in a sitting, and what its book notes of it.
use Rattle.std.specs.Prelude.{ℕ, Bool, true, false, List, [], ◌∷◌, map, Result, Ok, Err}
use Rattle.element.specs.declared.kind.Kind.{Kind}
use Rattle.takes.specs.Entries.{opening, begin, block, trailer, withdrawal}
use Rattle.journal.specs.Log.{LogEntry}
use Rattle.recorder.specs.declared.failed.Failed.{Failed}
use Rattle.recorder.specs.declared.failed.Failed.TheVariants.{Refused, Faulted}
use Rattle.sitting.specs.Books.{Book, no_entries, with_entry, in_doubt, all_safe, with_found}

-- an element that a call was given: its bytes, and whether it is lawful
pub record Item : Type 0 where
  pub lawful : Bool
  pub bytes : List ℕ

-- elements, by their bytes
abbrev pub items_of : {E : Type 0} → (E → Bool) → (E → List ℕ) → List E → List Item
items_of lawful bytes xs = map (λ x. record { lawful = lawful x; bytes = bytes x }) xs

-- a call with its arguments
pub data Asked : Type 0 where
  Format : (kinds : List ℕ) → (rate sitting : ℕ) → Asked
  Mount : Asked
  Arm : Asked
  Begin : (track position : ℕ) → Asked
  Record : Kind → (take : ℕ) → List Item → Asked
  End : (take : ℕ) → Asked
  Withdraw : (track : ℕ) → Asked
  Save : Asked
  Play : Kind → (track from : ℕ) → Asked
  Export : (track : ℕ) → Asked

-- what happens: a call, with its answer and whether power went off in it; or a power cut
pub data Event : Type 0 where
  called : Asked → Result ℕ Failed → Bool → Event
  cut : Event

-- what has happened since the format, the latest first
abbrev pub Events : Type 0
Events = List Event

-- of a call that adds an entry: accepted, the entry is added; if it answers a fault, and power went off in it, the entry is in doubt
abbrev pub entered : LogEntry → Result ℕ Failed → Bool → Book LogEntry → Book LogEntry
entered e (Ok n) off b = with_entry e b
entered e (Err (Refused x)) off b = b
entered e (Err (Faulted call t k f)) true b = in_doubt e b
entered e (Err (Faulted call t k f)) false b = b

-- the take that a withdrawal answers, or tells with its fault
abbrev pub take_told : Result ℕ Failed → ℕ
take_told (Ok k) = k
take_told (Err (Refused x)) = 0
take_told (Err (Faulted call t k f)) = k

-- what the book notes of a call, by its arguments, its answer, and whether power went off in it
abbrev pub noted : Asked → Result ℕ Failed → Bool → Book LogEntry → Book LogEntry
noted (Format kinds rate sitting) r off b = b
noted Mount (Ok n) off b = with_found n b
noted Mount (Err e) off b = b
noted Arm (Ok n) off b = all_safe (with_entry opening b)
noted Arm (Err e) off b = entered opening (Err e) off b
noted (Begin t p) r off b = entered (begin t p) r off b
noted (Record kind k items) r off b = entered (block k (map (λ (i : Item). i.bytes) items)) r off b
noted (End k) r off b = entered (trailer k) r off b
noted (Withdraw t) r off b = entered (withdrawal t (take_told r)) r off b
noted Save (Ok n) off b = all_safe b
noted Save (Err e) off b = b
noted (Play kind t from) r off b = b
noted (Export t) r off b = b

-- the book of what has happened since the format
abbrev pub book : Events → Book LogEntry
book [] = no_entries
book (called asked r off ∷ es) = noted asked r off (book es)
book (cut ∷ es) = book es
