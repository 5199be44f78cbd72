-- What a desk writes for the lines of a script.
use Rattle.std.specs.Prelude.{◌≡◌, ℕ, List, [], ◌∷◌, ◌++◌, Option, Some, IfSome}
use Rattle.std.specs.Io.KnownBytes.{Appends}
use Rattle.desk.specs.declared.answer.Answer.{Answer}
use Rattle.desk.specs.Text.{text}
use Rattle.desk.specs.Lines.{first_line}

-- each line is answered as `Does` says, by the desk as the line before left it, and each answer is written as a line
abbrev pub Answered : {S : Type 0} → (S → List ℕ → Answer → S → Type 0) → S → List (List ℕ) → List ℕ → Type 0
Answered Does s [] written = written ≡ []
Answered {S} Does s (line ∷ lines) written =
    (answer : Answer) × (s' : S) × (more : List ℕ)
    × Does s line answer s' × Answered Does s' lines more × (written ≡ text answer ++ 10 ∷ more)

-- the first line of what is left is answered, and its answer is written as a line
pub record NextAnswered {S : Type 0} (Does : S → List ℕ → Answer → S → Type 0) (s : S) (left : Option (List ℕ)) (s' : S) (out out' : Option (List ℕ)) : Type 0 where
  pub line : List ℕ
  pub answer : Answer
  pub first : IfSome left (λ left. Some line ≡ first_line left)
  pub did : Does s line answer s'
  pub told : Appends out out' (text answer ++ 10 ∷ [])
