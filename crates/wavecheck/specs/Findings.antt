-- What is found of a file's bytes.
use Rattle.std.specs.Prelude.{◌≡◌, ℕ, List, Ok, Err, Result, ⊤, take}
use Rattle.std.specs.declared.io.Error.{Error}
use Rattle.wave.specs.declared.Refusal.{Refusal}
use Rattle.wave.specs.declared.Refusal.TheVariants.{NotWave}
use Rattle.wave.specs.Export.{Exported, sample_count, duration, Peak}
use Rattle.wavecheck.specs.declared.Sound.{Sound}
use Rattle.wavecheck.specs.declared.Problem.{Problem}
use Rattle.wavecheck.specs.declared.Problem.TheVariants.{Refused, Unreadable}

-- a sound is described as it is, and only what no export writes is refused, with the refusal whose number is 21
abbrev pub Judged : List ℕ → Result Sound Refusal → Type 0
Judged file (Ok sound) =
    (samples : List ℕ) × Exported file sound.rate samples × (sound.count ≡ sample_count samples) × (sound.milliseconds ≡ duration sound.rate sound.count) × Peak samples sound.peak
Judged file (Err refusal) = (refusal ≡ NotWave) × ((rate : ℕ) (samples : List ℕ) → Exported file rate samples → ⊥)

-- as much of a file as shows whether it is a sound: one byte more than the longest sound has
unfoldable pub beginning : List ℕ → List ℕ
beginning file = take 31455885 file

-- a file that was read is judged by all its bytes
abbrev pub Found : List ℕ → Result Sound Problem → Type 0
Found file (Ok sound) = Judged file (Ok sound)
Found file (Err (Refused refusal)) = Judged file (Err refusal)
Found file (Err (Unreadable error)) = ⊤

-- P holds of the error by which a file could not be read
abbrev pub IfUnread : Result Sound Problem → (Error → Type 0) → Type 0
IfUnread (Ok sound) P = ⊤
IfUnread (Err (Refused refusal)) P = ⊤
IfUnread (Err (Unreadable error)) P = P error
