-- What the office reads of what was exported.
use Rattle.std.specs.Prelude.{◌≡◌, ℕ, List, take, Result, Ok, Err, MatchResult}
use Rattle.device.specs.Meaning.{Meaning}
use Rattle.wave.specs.declared.Wave.{Wave}
use Rattle.wave.specs.declared.Refusal.{Refusal}
use Rattle.wave.specs.declared.Refusal.TheVariants.{NotWave}
use Rattle.wave.specs.Export.{Exported}
use Rattle.wave.specs.Reading.{Gives}
use Rattle.recorder.specs.declared.Recorder.{Recorder}
use Rattle.recorder.specs.declared.failed.Failed.{Failed}
use Rattle.recorder.specs.Exports.{Exports}
use Rattle.sitting.specs.Events.{Export}
use Rattle.sitting.specs.Sittings.{Leads}

-- what is read of a file: a sound only if an export writes the file, and then the sound that was exported
pub record ReadsFile (file : List ℕ) (r : Result Wave Refusal) : Type 0 where
  pub only : MatchResult r (λ w. Exported file w.rate w.samples.now) (λ e. e ≡ NotWave)
  pub back : (rate : ℕ) (samples : List ℕ) → Exported file rate samples → Gives rate samples r

-- what is answered of an export and a reading: what is read of the file that was written, or why there is none
abbrev pub ToldBy : Result ℕ Failed → List ℕ → Result (Result Wave Refusal) Failed → Type 0
ToldBy (Ok n) written (Ok r) = ReadsFile (take n written) r
ToldBy (Ok n) written (Err e) = ⊥
ToldBy (Err e) written (Ok r) = ⊥
ToldBy (Err e) written (Err f) = f ≡ e

-- an export of a track into a buffer, which leads a sitting on, and then a reading of the file that was written there
pub record ExportsAndReads {D : Type 0} (means : D → Meaning) (layer t : ℕ) (out : List ℕ) (r : Result (Result Wave Refusal) Failed) (d d' : Recorder D) : Type 0 where
  pub answer : Result ℕ Failed
  pub written : List ℕ
  pub does : Exports layer d.state (means d.device) t out answer d'.state (means d'.device) written
  pub on : Leads means layer (Export t) answer d d'
  pub told : ToldBy answer written r
