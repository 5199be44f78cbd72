-- What is claimed of every sitting.
use Rattle.std.specs.Prelude.{◌≡◌, ◌≢◌, ℕ, suc, ◌-◌, ◌<◌, ◌≤◌, min, List, ◌∷◌, ◌++◌, length, map, drop, Result, Ok, Err}
use Rattle.std.specs.List.{flat_map}
use Rattle.device.specs.Meaning.{Meaning}
use Rattle.device.specs.Piles.{Pile, NamesSector, Arises}
use Rattle.takes.specs.Entries.{begin, withdrawal}
use Rattle.takes.specs.Takes.{count, takes}
use Rattle.takes.specs.Tracks.{splice, track}
use Rattle.wave.specs.Export.{header_bytes}
use Rattle.journal.specs.declared.header.Header.{Header}
use Rattle.journal.specs.Log.{LogEntry, Log}
use Rattle.journal.specs.Sessions.{session_place}
use Rattle.journal.specs.Shown.{shown}
use Rattle.recorder.specs.declared.State.{State}
use Rattle.recorder.specs.declared.State.TheVariants.{Unmounted, Mounted, Armed}
use Rattle.recorder.specs.declared.refusal.Refusal.TheVariants.{NoRecording}
use Rattle.recorder.specs.declared.failed.Failed.{Failed}
use Rattle.recorder.specs.declared.failed.Failed.TheVariants.{Refused, Faulted}
use Rattle.recorder.specs.Mounts.{IsLog}
use Rattle.sitting.specs.Books.{Book, all_of, first}
use Rattle.sitting.specs.Events.{Format, Mount, Arm, Begin, Record, End, Withdraw, Save, Play, Export, Event, called, cut, Events, book}

-- what is said of an accepted call alone, by its answer
pub record WhereAccepted (r : Result ℕ Failed) (P : ℕ → Type 0) : Type 0 where
  pub so : (n : ℕ) → r ≡ Ok n → P n

-- a fault that a call tells names the sector that was asked, and the layer of the device where it arose
abbrev pub Names : Pile → ℕ → Result ℕ Failed → Type 0
Names p s (Ok n) = Unit {0}
Names p s (Err (Refused x)) = Unit {0}
Names p s (Err (Faulted call t k f)) = NamesSector s f × Arises p f

-- a fault that a call on the whole log tells names one of the sectors below that place, and the layer where it arose
abbrev pub NamesWithin : Pile → ℕ → Result ℕ Failed → Type 0
NamesWithin p place (Ok n) = Unit {0}
NamesWithin p place (Err (Refused x)) = Unit {0}
NamesWithin p place (Err (Faulted call t k f)) = (s : ℕ) × (s < place) × NamesSector s f × Arises p f

-- the place of the next entry, of a recorder that has a log
abbrev pub place_of : State → ℕ
place_of Unmounted = 0
place_of (Mounted s) = session_place s
place_of (Armed a) = session_place a.session

-- a mount found, on the device, exactly the first n entries of the book, the one in doubt counted last, and so every safe one
pub record Finds (hd : Header) (b : Book LogEntry) (m : Meaning) (n : ℕ) : Type 0 where
  pub log : IsLog hd m (first n (all_of b))
  pub count : length (first n (all_of b)) ≡ n
  pub safe : b.safe ≤ n

-- a mount finds what the book says, and is never refused for want of a recording
abbrev pub FindsBook : Header → Book LogEntry → Meaning → Result ℕ Failed → Type 0
FindsBook hd b m (Ok n) = Finds hd b m n
FindsBook hd b m (Err (Refused x)) = x ≢ NoRecording
FindsBook hd b m (Err (Faulted call t k f)) = Unit {0}

-- the oldest entries of a log are those of the other
abbrev pub BeginsWith : Log → Log → Type 0
BeginsWith h start = (later : Log) × (h ≡ later ++ start)

-- an accepted save or arming
abbrev pub Secures : Event → Type 0
Secures (called (Format kinds rate sitting) r off) = ⊥
Secures (called Mount r off) = ⊥
Secures (called Arm (Ok n) off) = Unit {0}
Secures (called Arm (Err e) off) = ⊥
Secures (called (Begin t p) r off) = ⊥
Secures (called (Record kind k items) r off) = ⊥
Secures (called (End k) r off) = ⊥
Secures (called (Withdraw t) r off) = ⊥
Secures (called Save (Ok n) off) = Unit {0}
Secures (called Save (Err e) off) = ⊥
Secures (called (Play kind t from) r off) = ⊥
Secures (called (Export t) r off) = ⊥
Secures cut = ⊥

-- what was saved is there: the entries that the book had at any accepted save or arming are found, whatever has happened since
abbrev pub FindsSaved : Events → ℕ → Type 0
FindsSaved es n = (later earlier : Events) (e : Event) → es ≡ later ++ (e ∷ earlier) → Secures e
    → BeginsWith (first n (all_of (book es))) (book (e ∷ earlier)).entries

-- a punch-in: take k, which was begun at position p of track t after the entries b, has changed exactly the stretch of the track from p
-- over the take's length
abbrev pub PunchedIn : Log → ℕ → Type 0
PunchedIn h k = (later b : Log) (t p : ℕ) → h ≡ later ++ (begin t p ∷ b) → k ≡ suc (count b)
    → track h t ≡ splice p (takes h k).elements (track b t)

-- an entry more changes no track but t
abbrev pub OtherTracksStay : Log → LogEntry → ℕ → Type 0
OtherTracksStay h e t = (s : ℕ) → s ≢ t → track (e ∷ h) s ≡ track h s

-- an entry more changes no track at all
abbrev pub TracksStay : Log → LogEntry → Type 0
TracksStay h e = (s : ℕ) → track (e ∷ h) s ≡ track h s

-- a withdrawal of take k: its track is what it was before the take began
abbrev pub Restored : Log → (t k : ℕ) → Type 0
Restored h t k = (later b : Log) (s p : ℕ) → h ≡ later ++ (begin s p ∷ b) → k ≡ suc (count b)
    → track (withdrawal t k ∷ h) t ≡ track b t

-- a play of n elements: the slice shows the track of the log from the position on, and n is how many of its elements the slice reaches
abbrev pub PlaysLog : {E : Type 0} → (List ℕ → E) → Log → (t from : ℕ) → List E → ℕ → List E → Type 0
PlaysLog value h t from out n out' =
    (n ≡ min (length out) (length (track h t) - from)) × (out' ≡ shown from (map value (track h t)) out)

-- the bytes of a track of a log, one element after the other
abbrev pub track_bytes : Log → ℕ → List ℕ
track_bytes h t = flat_map (λ (x : List ℕ). x) (track h t)

-- the WAVE file of a track of a log: the header, by the sitting's rate and the number of samples, and the samples' bytes
abbrev pub file_of : Header → Log → ℕ → List ℕ
file_of hd h t = header_bytes hd.rate (length (track h t)) ++ track_bytes h t

-- an export of n bytes: the buffer begins with the file of the track of the log, which is n bytes long, and its rest stays
abbrev pub ExportsLog : Header → Log → ℕ → List ℕ → ℕ → List ℕ → Type 0
ExportsLog hd h t out n out' = (n ≡ length (file_of hd h t)) × (out' ≡ file_of hd h t ++ drop n out)
