-- The beginning of a file shows what the whole file is.
use Rattle.std.proofs.Common.{◌≡◌, ℕ, ◌≤◌, List, ◌++◌, length, take, refl, sym, subst, arith}
use Rattle.std.proofs.lemmas.List.{length-take, take_all}
use Rattle.std.specs.Prelude.{Ok, Err, Result, Option, Some, None, IfSome, option_map}
use Rattle.wave.specs.declared.Refusal.{Refusal}
use Rattle.wave.specs.Export.{Exported}
use Rattle.wave.proofs.Files.{file_length}
use Rattle.wavecheck.specs.declared.Sound.{Sound}
use Rattle.wavecheck.specs.Findings.{Judged, beginning}

module _ (n : ℕ) (is : n ≡ 31455885) (file : List ℕ) where
  -- a sound is shorter than what is read
  short : (rate : ℕ) (samples : List ℕ) → Exported file rate samples → length file ≤ n
  short rate samples ex = omega (arith, file_length file rate samples ex, ex.few, ex.whole)

  -- a file whose beginning is a sound has nothing behind it
  no_more : (rate : ℕ) (samples : List ℕ) → Exported (take n file) rate samples → length file ≤ n
  no_more rate samples ex =
      omega (arith, file_length (take n file) rate samples ex, length-take n file, ex.few, ex.whole)

  by_beginning : (finding : Result Sound Refusal) → Judged (take n file) finding → Judged file finding
  by_beginning (Ok sound) j =
      (j.0, subst (λ f. Exported f sound.rate j.0) (take_all n file (no_more sound.rate j.0 j.1)) j.1, j.2, j.3, j.4)
  by_beginning (Err refusal) j =
      (j.0, λ rate samples ex. j.1 rate samples (subst (λ f. Exported f rate samples) (sym (take_all n file (short rate samples ex))) ex))

-- what is found of the beginning holds of the file
pub judged_whole : (file : List ℕ) (finding : Result Sound Refusal) → Judged (beginning file) finding → Judged file finding
unfolding beginning
judged_whole file finding j = by_beginning 31455885 refl file finding j

-- the same where the file is known
pub found_whole : (known : Option (List ℕ)) (bytes : List ℕ) (finding : Result Sound Refusal)
    → IfSome known (λ whole. bytes ≡ beginning whole) → Judged bytes finding → IfSome known (λ whole. Judged whole finding)
found_whole None bytes finding begins j = tt
found_whole (Some whole) bytes finding begins j = judged_whole whole finding (subst (λ f. Judged f finding) begins j)

-- what a reader gives up to a limit is the beginning of what it has left
pub begins : (known : Option (List ℕ)) (limit : ℕ) (old new : List ℕ) → limit ≡ 31455885
    → IfSome (option_map (take limit) known) (λ read. new ≡ old ++ read) → IfSome known (λ whole. new ≡ old ++ beginning whole)
unfolding beginning
begins None limit old new is read = tt
begins (Some whole) limit old new is read = subst (λ n. new ≡ old ++ take n whole) is read
