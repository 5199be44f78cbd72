-- The worked examples of the definitions, with the refusals that go with them.
use Rattle.std.specs.Prelude.{◌≡◌, ℕ, Bool, true, false, Some}
use Rattle.element.specs.declared.kind.Kind.TheVariants.{Sound, Mark}
use Rattle.takes.specs.declared.State.TheVariants.{Open}
use Rattle.takes.specs.Table.{open_on}
use Rattle.journal.specs.declared.session.Session.{Session}
use Rattle.journal.specs.Headers.{kind_of}
use Rattle.journal.specs.Sessions.{table_of}
use Rattle.journal.specs.Examples.{WorkedExamples}
use Rattle.recorder.specs.declared.refusal.Refusal.TheVariants.{BeyondEnd, BadCount}
use Rattle.recorder.specs.Refusals.{refusal_number, has_track, has_take, has_place, track_end, begin_refusal, record_refusal}

-- take k of the session is open, on a track of sound
pub record OpenSound (s : Session) (k : ℕ) : Type 0 where
  pub begun : has_take s k ≡ true
  pub state : (table_of s k).state ≡ Open
  pub kind : kind_of s.header (table_of s k).track ≡ Sound

-- take k of the session is open, on a track of marks
pub record OpenMarks (s : Session) (k : ℕ) : Type 0 where
  pub begun : has_take s k ≡ true
  pub state : (table_of s k).state ≡ Open
  pub kind : kind_of s.header (table_of s k).track ≡ Mark

-- the table
pub record WorkedCalls : Type 0 where
  -- the values, tracks and counts
  pub definitions : WorkedExamples
  -- where track 1 has four elements and no open take, a begin at position 5 is refused with 13
  pub beyond : (s : Session) (size : ℕ) → has_track s 1 ≡ true → open_on (table_of s) 1 s.table.inner.count ≡ false → track_end s 1 ≡ 4
      → begin_refusal s size 1 5 ≡ Some BeyondEnd
  pub beyond_number : refusal_number BeyondEnd ≡ 13
  -- 240 samples and 60 marks fit a block
  pub samples : has_place Sound 240 ≡ true
  pub marks : has_place Mark 60 ≡ true
  -- 241 samples, none, and 61 marks are refused with 16
  pub samples_over : (s : Session) (size k : ℕ) (lawful : Bool) → OpenSound s k → record_refusal s size k Sound 241 lawful ≡ Some BadCount
  pub samples_none : (s : Session) (size k : ℕ) (lawful : Bool) → OpenSound s k → record_refusal s size k Sound 0 lawful ≡ Some BadCount
  pub marks_over : (s : Session) (size k : ℕ) (lawful : Bool) → OpenMarks s k → record_refusal s size k Mark 61 lawful ≡ Some BadCount
  pub count_number : refusal_number BadCount ≡ 16
