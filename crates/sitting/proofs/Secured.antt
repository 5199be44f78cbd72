-- What is safe stays: entries that are safe at some moment of a sitting are the first ones that any later mount finds.
use Rattle.std.proofs.Common.{◌≡◌, ℕ, suc, ◌-◌, ◌<◌, ◌≤◌, Bool, true, ◌⊎◌, List, [], ◌∷◌, ◌++◌, length, drop, Option, Some, None, sym, refl, ap, subst, inl, inr, arith}
use Rattle.std.proofs.lemmas.Bool.{cases_lt}
use Rattle.sitting.specs.Books.{Book, with_doubt, all_of, first}
use Rattle.sitting.proofs.Schemes.{Scheme, Lawful}
use Rattle.sitting.proofs.Runs.{Event, Formatted, Saved, Mounted, Armed, note, Recorder, unmounted, Step, refuse, keep, fault, cut, restart, format, mount, save, save_armed, add, add_fault, arm, arm_fault, Sitting, next, Finds}
use Rattle.sitting.proofs.Prefixes.{◌⊑◌, here, more, ⊑_length, ⊑_trans}
use Rattle.sitting.proofs.Invariants.{kept}

module _ {A : Type 0} where
  -- a history that begins another is its end, since the latest entry comes first
  pub ⊑_later : {F G : List A} → F ⊑ G → (later : List A) × (G ≡ later ++ F)
  ⊑_later here = ([], refl)
  ⊑_later (more {e} h) = let t = ⊑_later h in (e ∷ t.0, ap (λ (H : List A). e ∷ H) t.1)

  -- what begins a history begins its first n entries, if it is no longer than n
  pub ⊑_first : {F G : List A} (n : ℕ) → F ⊑ G → length F ≤ n → F ⊑ first n G
  ⊑_first {F} n here l = let q : length F - n ≡ 0 = omega arith in subst (λ (m : ℕ). F ⊑ drop m F) (sym q) here
  ⊑_first {F} n (more {e} {G} h) l = go (⊑_first n h l) (cases_lt (length G) n)
    where
      go : F ⊑ first n G → (length G < n) ⊎ (n ≤ length G) → F ⊑ first n (e ∷ G)
      go i (inl m) = let q : suc (length G) - n ≡ 0 = omega arith in subst (λ (m : ℕ). F ⊑ drop m (e ∷ G)) (sym q) (more h)
      go i (inr m) =
          let q : suc (length G) - n ≡ suc (length G - n) = omega arith in
          subst (λ (m : ℕ). F ⊑ drop m (e ∷ G)) (sym q) i

  -- the entry in doubt is counted last
  pub entries_within : (k : Book A) → k.entries ⊑ all_of k
  entries_within k = go k.doubt
    where
      go : (d : Option A) → k.entries ⊑ with_doubt d k.entries
      go None = here
      go (Some e) = more here

  -- the history B begins the book's entries, and is safe
  abbrev pub Secured : List A → Book A → Type 0
  Secured B k = (B ⊑ k.entries) × (length B ≤ k.safe)

  -- where every entry is safe, all of them are secured
  pub secured_all : (k : Book A) → k.safe ≡ length k.entries → Secured k.entries k
  secured_all k e = (here, omega arith)

  -- so they are after a save and after an arm
  pub secured_saved : (k : Book A) → Secured (note Saved k).entries (note Saved k)
  secured_saved k = secured_all (note Saved k) refl

  pub secured_armed : (e : A) (k : Book A) → Secured (note (Armed e) k).entries (note (Armed e) k)
  secured_armed e k = secured_all (note (Armed e) k) refl

  -- the first n entries of the book begin with what is secured, if every safe entry is among them
  pub secured_first : (B : List A) (k : Book A) (n : ℕ) → k.safe ≤ n → Secured B k → B ⊑ first n (all_of k)
  secured_first B k n l s = ⊑_first n (⊑_trans s.0 (entries_within k)) (let i = s.1 in omega arith)

module _ (S : Scheme) (L : Lawful S) where
  open S use {Content, Entry}

  -- a mount finds what is secured
  pub secured_found : (B : List Entry) (k : Book Entry) (D : ℕ → List Content) (n : ℕ) → Finds S D n k → Secured B k
      → B ⊑ first n (all_of k)
  secured_found B k D n f s = secured_first B k n f.safe s

  -- what is secured stays so in each step but a format
  pub secured_step : (B : List Entry) (k : Book Entry) {D D' : ℕ → List Content} {b b' : Bool} {r r' : Recorder Entry}
      {v : Event Entry} → Step S D D' b r v b' r' → Sitting S k D b r → ¬ (v ≡ Formatted) → Secured B k → Secured B (note v k)
  secured_step B k (refuse e) z f s = s
  secured_step B k (keep t) z f s = s
  secured_step B k (fault t) z f s = s
  secured_step B k (cut c) z f s = s
  secured_step B k (restart e) z f s = s
  secured_step B k (format d) z f s = absurd (f refl)
  secured_step B k {D} {D'} (mount {b} F t l) z f s =
      (secured_found B k D' (length F) (kept S L k D D' b (length F) _ z (mount F t l)) s, s.1)
  secured_step B k (save t) z f s = (s.0, ⊑_length s.0)
  secured_step B k (save_armed t) z f s = (s.0, ⊑_length s.0)
  secured_step B k (add e o a w) z f s = (more s.0, s.1)
  secured_step B k (add_fault e o a w) z f s = s
  secured_step B k (arm e D₁ D₂ o a f₁ w f₂) z f s = (more s.0, let l = ⊑_length s.0 in omega arith)
  secured_step B k (arm_fault e o a w) z f s = s

  -- a sitting goes on from one moment to another, with no accepted format between them
  pub data GoesOn (k : Book Entry) (D : ℕ → List Content) (b : Bool) (r : Recorder Entry)
      : Book Entry → (ℕ → List Content) → Bool → Recorder Entry → Type 0 where
    stays : GoesOn k D b r k D b r
    further : {k' : Book Entry} {D' D'' : ℕ → List Content} {b' b'' : Bool} {r' r'' : Recorder Entry} {v : Event Entry}
        → GoesOn k D b r k' D' b' r' → Step S D' D'' b' r' v b'' r'' → ¬ (v ≡ Formatted) → GoesOn k D b r (note v k') D'' b'' r''

  module _ (k : Book Entry) (D : ℕ → List Content) (b : Bool) (r : Recorder Entry) (z : Sitting S k D b r) where
    -- it is one sitting
    pub goes_on_sitting : {k' : Book Entry} {D' : ℕ → List Content} {b' : Bool} {r' : Recorder Entry}
        → GoesOn k D b r k' D' b' r' → Sitting S k' D' b' r'
    goes_on_sitting stays = z
    goes_on_sitting (further g t f) = next (goes_on_sitting g) t

    -- and what is secured stays so
    pub goes_on_secured : (B : List Entry) {k' : Book Entry} {D' : ℕ → List Content} {b' : Bool} {r' : Recorder Entry}
        → GoesOn k D b r k' D' b' r' → Secured B k → Secured B k'
    goes_on_secured B stays s = s
    goes_on_secured B (further {k'} g t f) s = secured_step B k' t (goes_on_sitting g) f (goes_on_secured B g s)

    -- What is safe stays: if every entry of the book is safe at some moment, then a mount at any later one, with no accepted format
    -- between, finds a log that begins with them all.
    pub safe_stays : k.safe ≡ length k.entries
        → (k' : Book Entry) (D' D'' : ℕ → List Content) (n : ℕ) (b'' : Bool) (r'' : Recorder Entry)
        → GoesOn k D b r k' D' true unmounted → Step S D' D'' true unmounted (Mounted n) b'' r'' → k.entries ⊑ first n (all_of k')
    safe_stays e k' D' D'' n b'' r'' g t =
        let f = kept S L k' D' D'' b'' n r'' (goes_on_sitting g) t in
        secured_found k.entries k' D'' n f (goes_on_secured k.entries g (secured_all k e))
