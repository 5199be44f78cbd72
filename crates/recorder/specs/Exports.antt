-- Export.
use Rattle.std.specs.Prelude.{ℕ, List, ◌++◌, length, take, drop, Result}
use Rattle.device.specs.Meaning.{Meaning}
use Rattle.element.specs.Cells.{byte_of}
use Rattle.wave.specs.Export.{header_bytes}
use Rattle.journal.specs.declared.session.Session.{Session}
use Rattle.recorder.specs.declared.State.{State}
use Rattle.recorder.specs.declared.failed.Name.TheVariants.{Export as ExportCall}
use Rattle.recorder.specs.declared.failed.Failed.{Failed}
use Rattle.recorder.specs.declared.failed.Stopped.{Stopped}
use Rattle.recorder.specs.Refusals.{track_end, file_length, export_refusal, if_session}
use Rattle.recorder.specs.Answers.{told_result, OfSession}
use Rattle.recorder.specs.Plays.{played, Painted, SliceDecided}

-- what the first n sectors of the log make of a buffer: the header of track t's file; behind it, within the file's length, what they make of
-- the samples' bytes, which are cells of one byte; and the rest of the buffer, as it was
abbrev pub exported : Session → Meaning → (t n : ℕ) → List ℕ → List ℕ
exported s m t n out =
    header_bytes s.header.rate (track_end s t) ++ played byte_of 1 s m t 0 n (drop 44 (take (file_length s t) out)) ++ drop (file_length s t) out

-- an export that is not refused; the answer is the length of the file
abbrev pub Exported : ℕ → Session → State → Meaning → ℕ → List ℕ → Result ℕ Failed → State → Meaning → List ℕ → Type 0
Exported layer s st m t out r st' m' out' =
    Painted layer ExportCall s.entries st m t (file_length s t) (λ n. exported s m t n out) out r st' m' out'

-- export: the file of a track of sound, into a buffer
abbrev pub Exports : ℕ → State → Meaning → ℕ → List ℕ → Result ℕ Failed → State → Meaning → List ℕ → Type 0
Exports layer st m t out r st' m' out' =
    SliceDecided (if_session st (λ s. export_refusal s t (length out))) r st m out st' m' out'
    (OfSession st (λ s. Exported layer s st m t out r st' m' out'))

-- the session is exported from, by a recorder in whichever state, which stays as it was
abbrev pub ExportsBy : ℕ → Session → Meaning → ℕ → List ℕ → Result ℕ Stopped → Meaning → List ℕ → Type 0
ExportsBy layer s m t out r m' out' =
    (st : State)
    → SliceDecided (export_refusal s t (length out)) (told_result ExportCall t 0 r) st m out st m' out'
    (Exported layer s st m t out (told_result ExportCall t 0 r) st m' out')
