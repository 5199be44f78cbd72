-- How what is found is printed.
use Rattle.std.specs.Prelude.{◌≡◌, ◌≢◌, ℕ, ◌-◌, ◌/◌, ◌%◌, List, [], ◌∷◌, ◌++◌, length, codes, replicate, if◌then◌else◌, ◌==◌, Ok, Err, Result}
use Rattle.std.specs.Fmt.{decimal}
use Rattle.wave.specs.Reading.{refusal_number}
use Rattle.wavecheck.specs.declared.Sound.{Sound}
use Rattle.wavecheck.specs.declared.Tally.{Tally}
use Rattle.wavecheck.specs.declared.Problem.{Problem}
use Rattle.wavecheck.specs.declared.Problem.TheVariants.{Refused, Unreadable}

-- the noun for n things: one, or many
abbrev pub noun_of : ℕ → List ℕ → List ℕ → List ℕ
noun_of n one many = if n == 1 then one else many

-- a number in three digits, with zeros in front; a longer number stands as it is
abbrev pub three_digits : ℕ → List ℕ
three_digits n = replicate (3 - length (decimal n)) 48 ++ decimal n

-- pieces, one behind the other
abbrev pub joined : List (List ℕ) → List ℕ
joined [] = []
joined (x ∷ []) = x
joined (x ∷ y ∷ xs) = x ++ joined (y ∷ xs)

-- a sound: rate, number of samples, seconds with three decimals, peak
abbrev pub sound_text : Sound → List ℕ
sound_text sound = joined (decimal sound.rate ∷ codes " Hz, "
    ∷ decimal sound.count ∷ codes " " ∷ noun_of sound.count (codes "sample") (codes "samples") ∷ codes ", "
    ∷ decimal (sound.milliseconds / 1000) ∷ codes "." ∷ three_digits (sound.milliseconds % 1000) ∷ codes " s, peak "
    ∷ decimal sound.peak ∷ [])

-- what is told of a file; the reason why one was not read is the system's own text
abbrev pub Told : Result Sound Problem → List ℕ → Type 0
Told (Ok sound) text = text ≡ sound_text sound
Told (Err (Refused refusal)) text = text ≡ codes "refused with " ++ decimal (refusal_number refusal)
Told (Err (Unreadable error)) text = (reason : List ℕ) × (text ≡ codes "cannot be read: " ++ reason)

-- how many files there were, and how many of each kind
abbrev pub tally_text : Tally → List ℕ
tally_text tally = joined (decimal tally.files ∷ codes " " ∷ noun_of tally.files (codes "file") (codes "files") ∷ codes ": "
    ∷ decimal tally.accepted ∷ codes " accepted, " ∷ decimal tally.refused ∷ codes " refused, "
    ∷ decimal tally.unreadable ∷ codes " unreadable" ∷ [])

-- the last line: the counts, or where no file was named, how the program is used
pub record Closing (tally : Tally) (text : List ℕ) : Type 0 where
  pub usage : tally.files ≡ 0 → text ≡ codes "usage: wavecheck FILE.."
  pub counts : tally.files ≢ 0 → text ≡ tally_text tally
