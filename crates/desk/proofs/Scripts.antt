-- How far a script is answered.
use Rattle.std.specs.Prelude.{⊤, unwrap_or}
use Rattle.std.proofs.Common.{◌≡◌, ℕ, nat_lt, ◌<◌, Bool, true, false, ◌&&◌, List, [], ◌∷◌, ◌++◌, Option, None, Some, IfSome, cond, length, take, refl, sym, ap, subst, ◌∙◌, arith, append_assoc, append-nil, take_all, length-take, inl, inr}
use Rattle.std.proofs.Common.{eqb}
use Rattle.std.proofs.lemmas.Bool.{lt-leb}
use Rattle.std.proofs.lemmas.Bool.Decides.{leb_tells}
use Rattle.std.specs.List.{list_all}
use Rattle.std.specs.Io.KnownBytes.{Appends}
use Rattle.script.specs.Meaning.{meaning, command, words}
use Rattle.desk.specs.declared.answer.Answer.{Answer}
use Rattle.desk.specs.Lines.{line, rest, first_line, lines, ahead}
use Rattle.desk.specs.Text.{text}
use Rattle.desk.specs.Scripts.{Answered, NextAnswered}

lines_at : (feed : Bool) (byte : ℕ) (bytes : List ℕ)
    → cond feed ([] ∷ lines bytes) (ahead byte (lines bytes)) ≡ cond feed [] (byte ∷ line bytes) ∷ lines (cond feed bytes (rest bytes))
lines_at true byte bytes = refl
lines_at false byte [] = refl
lines_at false byte (next ∷ bytes) = ap (ahead byte) (lines_at (eqb next 10) next bytes)

-- a text that is not empty is its first line and the lines of the rest
lines_first : (byte : ℕ) (bytes : List ℕ) → lines (byte ∷ bytes) ≡ line (byte ∷ bytes) ∷ lines (rest (byte ∷ bytes))
lines_first byte bytes = lines_at (eqb byte 10) byte bytes

-- a line that is too long means nothing
long_means_none : (l : List ℕ) → 2048 < length l → meaning l ≡ None
long_means_none l long =
    ap (λ fits. cond (fits && list_all (λ byte. nat_lt byte 128) l) (command (words l)) None) (lt-leb (length l) 2048 long)

-- a line means what is kept of it means
pub meaning_kept : (l : List ℕ) → meaning (take 2049 l) ≡ meaning l
meaning_kept l = elim (leb_tells (length l) 2048) [
  | inl fits ↦ ap meaning (take_all 2049 l (omega (arith, fits.1)))
  | inr long ↦ long_means_none (take 2049 l) (omega (arith, length-take 2049 l, long.1)) ∙ sym (long_means_none l long.1)
]

-- an answer as a line
abbrev pub text_line : Answer → List ℕ
text_line answer = text answer ++ 10 ∷ []

some_same : {A : Type 0} (a b : A) → Some a ≡ Some b → a ≡ b
some_same a b e = ap (λ o. unwrap_or o a) e

abbrev There : {A : Type 0} → Option A → Type 0
There None = ⊥
There (Some a) = ⊤

some_none : {A : Type 0} (a : A) → Some a ≡ None → ⊥
some_none a e = subst There e tt

module _ {S : Type 0} (Does : S → List ℕ → Answer → S → Type 0) where
  -- what is left to answer, and what was written so far
  pub record Going (input : List ℕ) (left : List ℕ) (first s : S) (written : List ℕ) : Type 0 where
    pub goes : (more : List ℕ) → Answered Does s (lines left) more → Answered Does first (lines input) (written ++ more)

  -- the same of what is known of the reader and of the writer
  abbrev pub Known : Option (List ℕ) → Option (List ℕ) → S → S → Option (List ℕ) → Option (List ℕ) → Type 0
  Known None now first s out out' = ⊤
  Known (Some input) None first s out out' = ⊥
  Known (Some input) (Some left) first s out out' = (written : List ℕ) × Going input left first s written × Appends out out' written

  pub known_start : (input : Option (List ℕ)) (s : S) (out : Option (List ℕ)) → Known input input s s out out
  known_start None s out = tt
  known_start (Some input) s out = ([], record { goes = λ more h. h }, nothing out)
    where
      nothing : (out : Option (List ℕ)) → Appends out out []
      nothing None = tt
      nothing (Some bytes) = sym (append-nil bytes)

  -- what was written grows by what is written next
  appends_more : (a b c : Option (List ℕ)) (first second : List ℕ) → Appends a b first → Appends b c second → Appends a c (first ++ second)
  appends_more None b c first second h k = tt
  appends_more (Some a) None c first second h k = absurd h
  appends_more (Some a) (Some b) None first second h k = absurd k
  appends_more (Some a) (Some b) (Some c) first second h k = k ∙ ap (λ l. l ++ second) h ∙ append_assoc a first second

  -- a line was kept of what was left, and answered
  goes_on : (input left kept : List ℕ) (first s s' : S) (written : List ℕ) (answer : Answer)
      → ((line : List ℕ) → Does s (take 2049 line) answer s' → Does s line answer s')
      → Some kept ≡ first_line left → Does s kept answer s' → Going input left first s written
      → Going input (rest left) first s' (written ++ text_line answer)
  goes_on input [] kept first s s' written answer whole found does g = absurd (some_none kept found)
  goes_on input (byte ∷ bytes) kept first s s' written answer whole found does g = record {
    goes = λ more h.
        subst (Answered Does first (lines input)) (sym (append_assoc written (text_line answer) more)) (g.goes (text_line answer ++ more)
        (subst (λ l. Answered Does s l (text_line answer ++ more)) (sym (lines_first byte bytes))
        (answer, s', more, whole (line (byte ∷ bytes)) (subst (λ l. Does s l answer s') (some_same kept (take 2049 (line (byte ∷ bytes))) found) does), h, append_assoc (text answer) (10 ∷ []) more)));
  }

  pub known_on : (input now after : Option (List ℕ)) (first s s' : S) (out before behind : Option (List ℕ))
      → ((line : List ℕ) (answer : Answer) → Does s (take 2049 line) answer s' → Does s line answer s')
      → NextAnswered Does s now s' before behind → IfSome now (λ left. after ≡ Some (rest left))
      → Known input now first s out before → Known input after first s' out behind
  known_on None now after first s s' out before behind whole n left k = tt
  known_on (Some input) None after first s s' out before behind whole n left k = absurd k
  known_on (Some input) (Some now) after first s s' out before behind whole n left k =
      subst (λ o. Known (Some input) o first s' out behind) (sym left) (
        k.0 ++ text_line n.answer,
        goes_on input now n.line first s s' k.0 n.answer (λ line. whole line n.answer) n.first n.did k.1,
        appends_more out before behind k.0 (text_line n.answer) k.2 n.told,
      )

  -- the input is answered where no line is left
  pub known_end : (input now : Option (List ℕ)) (first s : S) (out before behind : Option (List ℕ))
      → IfSome now (λ left. None ≡ first_line left) → behind ≡ before → Known input now first s out before
      → IfSome input (λ input. (written : List ℕ) × Answered Does first (lines input) written × Appends out behind written)
  known_end None now first s out before behind found same k = tt
  known_end (Some input) None first s out before behind found same k = absurd k
  known_end (Some input) (Some []) first s out before behind found same k =
      (k.0, subst (Answered Does first (lines input)) (append-nil k.0) (k.1.goes [] refl), subst (λ o. Appends out o k.0) (sym same) k.2)
  known_end (Some input) (Some (byte ∷ bytes)) first s out before behind found same k = absurd (some_none (take 2049 (line (byte ∷ bytes))) (sym found))
