-- What a whole run prints.
use Rattle.std.specs.Prelude.{◌≡◌, ℕ, List, [], ◌∷◌, ◌++◌, codes, Option, IfSome, Result, String, string_bytes}
use Rattle.std.specs.List.{FoldsTo}
use Rattle.std.specs.declared.alloc.Global.{Global}
use Rattle.std.specs.declared.io.Error.{Error}
use Rattle.wavecheck.specs.declared.Sound.{Sound}
use Rattle.wavecheck.specs.declared.Problem.{Problem}
use Rattle.wavecheck.specs.declared.Tally.{Tally}
use Rattle.wavecheck.specs.Findings.{Found, IfUnread}
use Rattle.wavecheck.specs.Tallies.{counted}
use Rattle.wavecheck.specs.Text.{Told, Closing}

-- how far a run has come: what was counted and what was printed
pub record Run : Type 0 where
  pub tally : Tally
  pub text : List ℕ

-- nothing was counted or printed yet
abbrev pub begun : Run
begun = record { tally = record { files = 0; accepted = 0; refused = 0; unreadable = 0 }; text = [] }

-- one file more: it is found by its own bytes, where they are known, or could not be read; it is told of in a line, and counted
pub record Goes (file : List ℕ → Option (List ℕ)) (fails : List ℕ → Error → Type 0) (run : Run) (name : String Global) (on : Run) : Type 0 where
  pub finding : Result Sound Problem
  pub told : List ℕ
  pub right : IfSome (file (string_bytes name)) (λ whole. Found whole finding)
  pub unread : IfUnread finding (fails (string_bytes name))
  pub tells : Told finding told
  pub counts : on.tally ≡ counted finding run.tally
  pub prints : on.text ≡ run.text ++ string_bytes name ++ codes ": " ++ told ++ 10 ∷ []

-- a line for each file, in their order, and the last line
abbrev pub Reported : (List ℕ → Option (List ℕ)) → (List ℕ → Error → Type 0) → List (String Global) → List ℕ → Type 0
Reported file fails names text = (run : Run) × (last : List ℕ) × FoldsTo (Goes file fails) begun names run × Closing run.tally last × (text ≡ run.text ++ last ++ 10 ∷ [])
