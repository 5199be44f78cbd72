-- How far a line of input is read.
use Rattle.std.specs.Prelude.{⊤}
use Rattle.std.proofs.Common.{◌≡◌, ◌+◌, ◌<◌, ◌≤◌, ℕ, Bool, true, false, eqb, ne_eqb, nat_lt, ◌==◌, suc, List, [], ◌∷◌, ◌++◌, Option, None, Some, cond, if◌then◌else◌, length, take, refl, sym, ap, ◌∙◌, arith, append_assoc, append-nil, take_all, length-append, inl, inr, subst}
use Rattle.std.proofs.lemmas.List.{take-append-le}
use Rattle.std.proofs.lemmas.Bool.Decides.{leb_tells}
use Rattle.desk.specs.Lines.{line, rest, first_line}

-- what is kept of a line, with one byte more
abbrev pub keep : List ℕ → ℕ → List ℕ
keep kept byte = if nat_lt (length kept) 2049 then kept ++ byte ∷ [] else kept

-- the first line of a text of which this was kept, and this is left to read
abbrev pub line_from : List ℕ → List ℕ → Option (List ℕ)
line_from kept [] = if length kept == 0 then None else Some kept
line_from kept (byte ∷ left) = if byte == 10 then Some kept else line_from (keep kept byte) left

-- the same of what a reader has left, where that is known
abbrev pub Reads : Option (List ℕ) → List ℕ → Option (List ℕ) → Type 0
Reads None kept now = ⊤
Reads (Some text) kept None = ⊥
Reads (Some text) kept (Some left) = (line_from kept left ≡ first_line text) × (rest left ≡ rest text)

-- what is kept stays short, and is not empty
kept_short : (kept : List ℕ) (byte : ℕ) → length kept ≤ 2049 → length (keep kept byte) ≤ 2049
kept_short kept byte short = elim (leb_tells (suc (length kept)) 2049) [
  | inl room ↦ subst (λ t. length (cond t (kept ++ byte ∷ []) kept) ≤ 2049) (sym room.0) (omega (arith, room.1, length-append kept (byte ∷ [])))
  | inr full ↦ subst (λ t. length (cond t (kept ++ byte ∷ []) kept) ≤ 2049) (sym full.0) short
]

kept_some : (kept : List ℕ) (byte : ℕ) → 0 < length (keep kept byte)
kept_some kept byte = elim (leb_tells (suc (length kept)) 2049) [
  | inl room ↦ subst (λ t. 0 < length (cond t (kept ++ byte ∷ []) kept)) (sym room.0) (omega (arith, length-append kept (byte ∷ [])))
  | inr full ↦ subst (λ t. 0 < length (cond t (kept ++ byte ∷ []) kept)) (sym full.0) (omega (arith, full.1))
]

-- it is the front of what was read
kept_front : (kept more : List ℕ) (byte : ℕ) → take 2049 (keep kept byte ++ more) ≡ take 2049 (kept ++ byte ∷ more)
kept_front kept more byte = elim (leb_tells (suc (length kept)) 2049) [
  | inl room ↦ ap (λ t. take 2049 (cond t (kept ++ byte ∷ []) kept ++ more)) room.0 ∙ ap (take 2049) (append_assoc kept (byte ∷ []) more)
  | inr full ↦ ap (λ t. take 2049 (cond t (kept ++ byte ∷ []) kept ++ more)) full.0
      ∙ take-append-le 2049 kept more (omega (arith, full.1)) ∙ sym (take-append-le 2049 kept (byte ∷ more) (omega (arith, full.1)))
]

kept_whole : (kept : List ℕ) → length kept ≤ 2049 → kept ≡ take 2049 (kept ++ [])
kept_whole kept short = sym (take_all 2049 kept short) ∙ ap (take 2049) (sym (append-nil kept))

line_step : (feed : Bool) (kept left : List ℕ) (byte : ℕ) → length kept ≤ 2049
    → line_from (keep kept byte) left ≡ Some (take 2049 (keep kept byte ++ line left))
    → cond feed (Some kept) (line_from (keep kept byte) left) ≡ Some (take 2049 (kept ++ cond feed [] (byte ∷ line left)))
line_step true kept left byte short more = ap Some (kept_whole kept short)
line_step false kept left byte short more = more ∙ ap Some (kept_front kept (line left) byte)

line_some : (kept left : List ℕ) → length kept ≤ 2049 → 0 < length kept + length left → line_from kept left ≡ Some (take 2049 (kept ++ line left))
line_some kept [] short some =
    ap (λ t. cond t None (Some kept)) (ne_eqb (length kept) 0 (λ e. omega (arith, e, some))) ∙ ap Some (kept_whole kept short)
line_some kept (byte ∷ left) short some =
    line_step (eqb byte 10) kept left byte short
    (line_some (keep kept byte) left (kept_short kept byte short) (omega (arith, kept_some kept byte)))

-- from its start on, that is its first line
pub first_line_from : (text : List ℕ) → line_from [] text ≡ first_line text
first_line_from [] = refl
first_line_from (byte ∷ bytes) = line_some [] (byte ∷ bytes) (omega arith) (omega arith)
