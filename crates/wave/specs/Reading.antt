-- Why a file is refused, and what reading one answers.
use Rattle.std.specs.Prelude.{◌≡◌, ℕ, List, Result, IsOkAnd}
use Rattle.wave.specs.declared.Wave.{Wave}
use Rattle.wave.specs.declared.Refusal.{Refusal}
use Rattle.wave.specs.declared.Refusal.TheVariants.{NotWave}

-- the number that stands for a refusal
abbrev pub refusal_number : Refusal → ℕ
refusal_number NotWave = 21

-- the answer is a sound, with exactly that rate and those samples
abbrev pub Gives : ℕ → List ℕ → Result Wave Refusal → Type 0
Gives rate samples result = IsOkAnd result (λ w. (w.rate ≡ rate) × (w.samples.now ≡ samples))
