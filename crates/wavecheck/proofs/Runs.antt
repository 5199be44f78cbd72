-- How a run goes on, and how it ends.
use Rattle.std.proofs.Common.{◌≡◌, ℕ, ◌+◌, ◌<◌, ◌≤◌, List, [], ◌∷◌, ◌++◌, length, get_or, take, drop, refl, sym, ◌∙◌, ap, subst}
use Rattle.std.proofs.lemmas.Fn.{FoldsTo-push}
use Rattle.std.proofs.lemmas.List.{append_assoc, take_all, take_more}
use Rattle.std.specs.Prelude.{Option, Some, None, Result, Ok, Err, IfSome, OnOk, String, string_bytes, codes}
use Rattle.std.specs.List.{FoldsTo}
use Rattle.std.specs.Io.KnownBytes.{Appends}
use Rattle.std.specs.declared.alloc.Global.{Global}
use Rattle.std.specs.declared.io.Error.{Error}
use Rattle.wavecheck.specs.declared.Sound.{Sound}
use Rattle.wavecheck.specs.declared.Problem.{Problem}
use Rattle.wavecheck.specs.declared.Tally.{Tally}
use Rattle.wavecheck.specs.Findings.{Found, IfUnread}
use Rattle.wavecheck.specs.Tallies.{counted}
use Rattle.wavecheck.specs.Text.{Told, Closing}
use Rattle.wavecheck.specs.Reports.{Run, Goes, begun, Reported}

-- what is appended twice is appended at once
appends_more : (a b c : Option (List ℕ)) (x y : List ℕ) → Appends a b x → Appends b c y → Appends a c (x ++ y)
appends_more None b c x y p q = tt
appends_more (Some a) None c x y p q = absurd p
appends_more (Some a) (Some b) None x y p q = absurd q
appends_more (Some a) (Some b) (Some c) x y p q = q ∙ ap (λ s. s ++ y) p ∙ append_assoc a x y

regrouped : (r b c t n : List ℕ) → r ++ (b ++ (c ++ (t ++ n))) ≡ r ++ b ++ c ++ t ++ n
regrouped r b c t n = simp append_assoc

-- the run after one file more
abbrev after : Run → String Global → Result Sound Problem → List ℕ → Run
after run name finding told = record {
  tally = counted finding run.tally;
  text = run.text ++ string_bytes name ++ codes ": " ++ told ++ 10 ∷ [];
}

module _ (file : List ℕ → Option (List ℕ)) (fails : List ℕ → Error → Type 0) (files : List (String Global)) (i : ℕ) (start out out' : Option (List ℕ)) where
  -- one file more
  pub one_more : (run : Run) (name : String Global) (tally tally' : Tally) (finding : Result Sound Problem) (asked told : List ℕ)
      → i < length files → name ≡ get_or files i name → asked ≡ string_bytes name
      → FoldsTo (Goes file fails) begun (take i files) run → tally ≡ run.tally → Appends start out run.text
      → IfSome (file asked) (λ whole. Found whole finding) → IfUnread finding (fails asked) → Told finding told
      → Appends out out' (string_bytes name ++ (codes ": " ++ (told ++ 10 ∷ []))) → tally' ≡ counted finding tally
      → (x : Run) × FoldsTo (Goes file fails) begun (take (i + 1) files) x × (tally' ≡ x.tally) × Appends start out' x.text
  one_more run name tally tally' finding asked told lt is named so_far same written found unread tells wrote adds =
      let next : Run = after run name finding told in
      let names : take (i + 1) files ≡ take i files ++ name ∷ [] =
      take_more files i name lt ∙ ap (λ x. take i files ++ x ∷ []) (sym is) in
      let goes : Goes file fails run name next = record {
        finding = finding;
        told = told;
        right = subst (λ a. IfSome (file a) (λ whole. Found whole finding)) named found;
        unread = subst (λ a. IfUnread finding (fails a)) named unread;
        tells = tells;
        counts = refl;
        prints = refl;
      } in (
        next,
        subst (λ xs. FoldsTo (Goes file fails) begun xs next) (sym names) (FoldsTo-push (Goes file fails) begun (take i files) run name next so_far goes),
        adds ∙ ap (counted finding) same,
        subst (Appends start out') (regrouped run.text (string_bytes name) (codes ": ") told (10 ∷ []))
            (appends_more start out out' run.text (string_bytes name ++ (codes ": " ++ (told ++ 10 ∷ []))) written wrote),
      )

  -- the last line
  pub at_last : {T E : Type 0} (r : Result T E) (names : List (String Global)) (run : Run) (tally : Tally) (last : List ℕ)
      → files ≡ drop 1 names → length files ≤ i → FoldsTo (Goes file fails) begun (take i files) run → tally ≡ run.tally → Appends start out run.text
      → Closing tally last → OnOk r (Appends out out' (last ++ 10 ∷ []))
      → OnOk r ((text : List ℕ) × Reported file fails (drop 1 names) text × Appends start out' text)
  at_last (Err e) names run tally last are le so_far same written closes wrote = tt
  at_last (Ok v) names run tally last are le so_far same written closes wrote = (
    run.text ++ last ++ 10 ∷ [],
    (run, last, subst (λ xs. FoldsTo (Goes file fails) begun xs run) (take_all i files le ∙ are) so_far, subst (λ t. Closing t last) same closes, refl),
    subst (Appends start out') (sym (append_assoc run.text last (10 ∷ [])))
        (appends_more start out out' run.text (last ++ 10 ∷ []) written wrote),
  )
