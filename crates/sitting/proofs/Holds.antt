-- What a disk keeps of a book, whatever happens: a firm base B, and past it nothing that could be taken for an entry but those
-- of G.
use Rattle.std.proofs.Common.{◌≡◌, ℕ, zero, suc, ◌+◌, ◌<◌, ◌≤◌, ◌⊎◌, List, [], ◌∷◌, length, Some, sym, refl, ap, ◌∙◌, subst, inl, inr, arith}
use native.Mathlib.Decide.{ℕ_discrete}
use Rattle.sitting.proofs.Disks.{In, newest, only_newest, Cuts, Thins, Settles, Flushes, Writes, Tears}
use Rattle.sitting.proofs.Schemes.{Scheme, Lawful, Fits, Found, IsLog}
use Rattle.sitting.proofs.Lists.{sub_in, thinned_one, settled_thinned, flushed_one, flushed_in, in_snoc, newest_in, left, left_in, left_one}
use Rattle.sitting.proofs.Prefixes.{◌⊑◌, here, more, ⊑_length, ⊑_trans, ⊑_cases, ⊑_anti, ⊑_under, ⊑_next, ⊑_none}

module _ (S : Scheme) (L : Lawful S) where
  open S use {Content, Entry, header, Sound, epoch, Admits, bytes, current}

  -- what continues a log is sound
  pub fits_sound : (F : List Entry) (c : Content) → Fits S F c → Sound c
  fits_sound F c f = subst Sound (sym f.2) (L.sound F f.0 f.1)

  -- and of no earlier epoch than the log's
  fits_late : (F : List Entry) (c : Content) → Fits S F c → current F ≤ epoch c
  fits_late F c f = rw (f.2, L.dated F f.0 f.1) (L.grows F f.0)

  -- the header and B stand on the disk, and nothing else in their places
  abbrev pub Firm : (ℕ → List Content) → List Entry → Type 0
  Firm D [] = D 0 ≡ header ∷ []
  Firm D (e ∷ E) = Firm D E × Admits E e × (D (suc (length E)) ≡ bytes E e ∷ [])

  -- c is the entry of G that follows F
  abbrev pub Next : List Entry → List Entry → Content → Type 0
  Next G F c = (e : Entry) × ((e ∷ F) ⊑ G) × Admits F e × (c ≡ bytes F e)

  -- c, in the place after p, is no entry after F: at the next place it does not continue F, and it is of no later epoch
  abbrev pub Old : List Entry → ℕ → Content → Type 0
  Old F p c = (p ≡ length F → ¬ (Fits S F c)) × (Sound c → epoch c ≤ current F)

  -- c, in the place after p, is G's next entry after F, or no entry after F
  abbrev pub Tame : List Entry → List Entry → ℕ → Content → Type 0
  Tame G F p c = ((p ≡ length F) × Next G F c) ⊎ Old F p c

  -- B is firm, and from any history between B and G on, nothing stands that could be taken for an entry but those of G
  pub record Holds (D : ℕ → List Content) (B G : List Entry) : Type 0 where
    pub firm : Firm D B
    pub tame : (F : List Entry) → B ⊑ F → F ⊑ G → (p : ℕ) → length F ≤ p → (c : Content) → In c (D (suc p)) → Tame G F p c

  -- firm stays what keeps each list of one
  firm_kept : (D D' : ℕ → List Content) (B : List Entry) → Firm D B
      → ((p : ℕ) → p ≤ length B → (c : Content) → D p ≡ c ∷ [] → D' p ≡ c ∷ []) → Firm D' B
  firm_kept D D' [] f h = h 0 (omega arith) header f
  firm_kept D D' (e ∷ B) f h =
      (firm_kept D D' B f.0 (λ p l. h p (omega arith)), f.1, h (suc (length B)) (omega arith) (bytes B e) f.2)

  -- a firm history stands behind the header
  pub firm_headed : (D : ℕ → List Content) (B : List Entry) → Firm D B → D 0 ≡ header ∷ []
  firm_headed D [] f = f
  firm_headed D (e ∷ B) f = firm_headed D B f.0

  -- what is firm is found
  pub firm_found : (D : ℕ → List Content) (B : List Entry) → Firm D B → Found S D B
  firm_found D [] f = ap newest f
  firm_found D (e ∷ B) f = (firm_found D B f.0, f.1, ap newest f.2)

  -- what is found is firm after a flush
  pub found_firm : (D D' : ℕ → List Content) (E : List Entry) → Flushes D D' → Found S D E → Firm D' E
  found_firm D D' [] h f = h 0 ∙ flushed_one (D 0) header f
  found_firm D D' (e ∷ E) h f =
      (found_firm D D' E h f.0, f.1, h (suc (length E)) ∙ flushed_one (D (suc (length E))) (bytes E e) f.2)

  -- found stays what keeps the newest contents
  pub found_kept : (D D' : ℕ → List Content) (E : List Entry) → Found S D E
      → ((p : ℕ) → p ≤ length E → newest (D' p) ≡ newest (D p)) → Found S D' E
  found_kept D D' [] f h = h 0 (omega arith) ∙ f
  found_kept D D' (e ∷ E) f h =
      (found_kept D D' E f.0 (λ p l. h p (omega arith)), f.1, h (suc (length E)) (omega arith) ∙ f.2)

  -- lists lose members, and a list of one stays
  pub record Calms (D D' : ℕ → List Content) : Type 0 where
    pub ones : (p : ℕ) (c : Content) → D p ≡ c ∷ [] → D' p ≡ c ∷ []
    pub fewer : (p : ℕ) (c : Content) → In c (D' p) → In c (D p)

  pub same_calms : (D D' : ℕ → List Content) → ((p : ℕ) → D' p ≡ D p) → Calms D D'
  same_calms D D' e = record { ones = λ p c i. e p ∙ i; fewer = λ p c m. subst (In c) (e p) m }

  pub thins_calms : (D D' : ℕ → List Content) → Thins D D' → Calms D D'
  thins_calms D D' h = record { ones = λ p c. thinned_one (D p) (D' p) c (h p); fewer = λ p c. sub_in c (h p).0 }

  pub settles_calms : (D D' : ℕ → List Content) → Settles D D' → Calms D D'
  settles_calms D D' h = thins_calms D D' (λ p. settled_thinned (D p) (D' p) (h p))

  pub flushes_calms : (D D' : ℕ → List Content) → Flushes D D' → Calms D D'
  flushes_calms D D' h = record {
    ones = λ p c e. h p ∙ ap only_newest e;
    fewer = λ p c m. flushed_in (D p) c (subst (In c) (h p) m);
  }

  -- a calm step keeps what the disk holds
  pub calm : (D D' : ℕ → List Content) (B G : List Entry) → Calms D D' → Holds D B G → Holds D' B G
  calm D D' B G k h = record {
    firm = firm_kept D D' B h.firm (λ p l. k.ones p);
    tame = λ F b g p l c m. h.tame F b g p l c (k.fewer (suc p) c m);
  }

  -- a longer base, once it is firm
  pub raise : (D : ℕ → List Content) (B F G : List Entry) → B ⊑ F → Firm D F → Holds D B G → Holds D F G
  raise D B F G b f h = record { firm = f; tame = λ F' b'. h.tame F' (⊑_trans b b') }

  -- the same but for one content, which may be added at q
  pub record Grows (q : ℕ) (c : Content) (D D' : ℕ → List Content) : Type 0 where
    pub ones : (p : ℕ) → ¬ (p ≡ q) → (x : Content) → D p ≡ x ∷ [] → D' p ≡ x ∷ []
    pub added : (p : ℕ) (x : Content) → In x (D' p) → In x (D p) ⊎ ((p ≡ q) × (x ≡ c))

  pub tears_grows : (q : ℕ) (c : Content) (D D' : ℕ → List Content) → Tears q c D D' → Grows q c D D'
  tears_grows q c D D' w = record {
    ones = λ p n x. thinned_one (D p) (D' p) x (w.others p n);
    added = λ p x m. go p x m (ℕ_discrete p q);
  }
    where
      there : (x : Content) → In x (D q) ⊎ (x ≡ c) → In x (D q) ⊎ ((q ≡ q) × (x ≡ c))
      there x (inl m) = inl m
      there x (inr e) = inr (refl, e)

      at_q : (x : Content) → In x (D' q) → In x (D q) ⊎ ((q ≡ q) × (x ≡ c))
      at_q x m = there x (in_snoc (D q) c x (sub_in x w.there.0 m))

      go : (p : ℕ) (x : Content) → In x (D' p) → Dec (p ≡ q) → In x (D p) ⊎ ((p ≡ q) × (x ≡ c))
      go p x m (yes i) =
          let m' = subst (λ (n : ℕ). In x (D' n)) i m in
          subst (λ (n : ℕ). In x (D n) ⊎ ((n ≡ q) × (x ≡ c))) (sym i) (at_q x m')
      go p x m (no n) = inl (sub_in x (w.others p n).0 m)

  pub writes_grows : (q : ℕ) (c : Content) (D D' : ℕ → List Content) → Writes q c D D' → Grows q c D D'
  writes_grows q c D D' w = record {
    ones = λ p n x. thinned_one (D p) (D' p) x (settled_thinned (D p) (D' p) (w.others p n));
    added = λ p x m. go p x m (ℕ_discrete p q);
  }
    where
      there : (x : Content) → In x w.older ⊎ (x ≡ c) → In x (D q) ⊎ ((q ≡ q) × (x ≡ c))
      there x (inl m) = inl (sub_in x w.lost m)
      there x (inr e) = inr (refl, e)

      at_q : (x : Content) → In x (D' q) → In x (D q) ⊎ ((q ≡ q) × (x ≡ c))
      at_q x m = there x (in_snoc w.older c x (subst (In x) w.added m))

      go : (p : ℕ) (x : Content) → In x (D' p) → Dec (p ≡ q) → In x (D p) ⊎ ((p ≡ q) × (x ≡ c))
      go p x m (yes i) =
          let m' = subst (λ (n : ℕ). In x (D' n)) i m in
          subst (λ (n : ℕ). In x (D n) ⊎ ((n ≡ q) × (x ≡ c))) (sym i) (at_q x m')
      go p x m (no n) = inl (sub_in x (w.others p n).0 m)

  -- One entry more, in the next place. From the base on, the epoch must be the one that the entry leaves, and what lies past its
  -- place must be older.
  module _ (D D' : ℕ → List Content) (B G : List Entry) (e : Entry) (b : B ⊑ G) (a : Admits G e)
      (w : Grows (suc (length G)) (bytes G e) D D')
      (level : (F : List Entry) → B ⊑ F → F ⊑ G → length F < length G → current (e ∷ G) ≤ current F)
      (past : (p : ℕ) → length G < p → (c : Content) → In c (D (suc p)) → Sound c → epoch c < current (e ∷ G)) where
    -- a content of the new disk is an old one, or the entry's bytes in their place
    abbrev Grown : ℕ → Content → Type 0
    Grown p c = In c (D (suc p)) ⊎ ((p ≡ length G) × (c ≡ bytes G e))

    grown : (p : ℕ) (c : Content) → In c (D' (suc p)) → Grown p c
    grown p c m = go (w.added (suc p) c m)
      where
        go : In c (D (suc p)) ⊎ ((suc p ≡ suc (length G)) × (c ≡ bytes G e)) → Grown p c
        go (inl m') = inl m'
        go (inr t) = inr (omega arith, t.1)

    -- what lies past the entry is still older
    pub past_more : (p : ℕ) → suc (length G) ≤ p → (c : Content) → In c (D' (suc p)) → Sound c → epoch c < current (e ∷ G)
    past_more p l c m s = go (grown p c m)
      where
        go : Grown p c → epoch c < current (e ∷ G)
        go (inl m') = past p l c m' s
        go (inr t) = absurd (omega arith)

    -- so it is no entry after the new history
    at_top : (p : ℕ) → suc (length G) ≤ p → (c : Content) → In c (D' (suc p)) → Old (e ∷ G) p c
    at_top p l c m = (
      λ q f. let k = past_more p l c m (fits_sound (e ∷ G) c f) in let n = fits_late (e ∷ G) c f in absurd (omega arith),
      λ s. let k = past_more p l c m s in omega arith,
    )

    weaker : (F : List Entry) (p : ℕ) (c : Content) → Tame G F p c → Tame (e ∷ G) F p c
    weaker F p c (inl t) = inl (t.0, (t.1.0, more t.1.1, t.1.2, t.1.3))
    weaker F p c (inr t) = inr t

    -- the entry's own bytes
    new_one : (F : List Entry) → B ⊑ F → F ⊑ G → (p : ℕ) (c : Content) → p ≡ length G → c ≡ bytes G e → Tame (e ∷ G) F p c
    new_one F bF fG p c q x = go (⊑_cases fG)
      where
        go : (F ≡ G) ⊎ (length F < length G) → Tame (e ∷ G) F p c
        go (inl i) = subst (λ (H : List Entry). Tame (e ∷ G) H p c) (sym i) (inl (q, (e, here, a, x)))
        go (inr l) =
            let k = level F bF fG l in
            inr (λ r f. absurd (omega arith), λ s. rw (x, L.dated G e a) k)

    tame_more : Holds D B G → (F : List Entry) → B ⊑ F → F ⊑ (e ∷ G) → (p : ℕ) → length F ≤ p
        → (c : Content) → In c (D' (suc p)) → Tame (e ∷ G) F p c
    tame_more h F bF fH p l c m = go (⊑_under fH)
      where
        go : (F ≡ e ∷ G) ⊎ (F ⊑ G) → Tame (e ∷ G) F p c
        go (inl i) = inr (subst (λ (H : List Entry). Old H p c) (sym i) (at_top p (rw i at l) c m))
        go (inr fG) = by (grown p c m)
          where
            by : Grown p c → Tame (e ∷ G) F p c
            by (inl m') = weaker F p c (h.tame F bF fG p l c m')
            by (inr t) = new_one F bF fG p c t.0 t.1

    pub grow : Holds D B G → Holds D' B (e ∷ G)
    grow h = record {
      firm = firm_kept D D' B h.firm (λ p l. w.ones p (λ i. let k = ⊑_length b in omega arith));
      tame = tame_more h;
    }

  -- a firm history with nothing after it
  pub solo : (D : ℕ → List Content) (B : List Entry) → Firm D B
      → ((p : ℕ) → length B ≤ p → (c : Content) → In c (D (suc p)) → Old B p c) → Holds D B B
  solo D B f h = record { firm = f; tame = λ F b g p l c m. go F b g p c (h p (let k = ⊑_length b in omega arith) c m) }
    where
      go : (F : List Entry) → B ⊑ F → F ⊑ B → (p : ℕ) (c : Content) → Old B p c → Tame B F p c
      go F b g p c o = subst (λ (H : List Entry). Tame B H p c) (⊑_anti b g) (inr o)

  -- a cut leaves one history between B and G, and nothing continues it
  module _ (D D' : ℕ → List Content) (B G : List Entry) (h : Holds D B G) (k : Cuts Sound D D') where
    abbrev pub Survives : Type 0
    Survives = (F : List Entry) × (B ⊑ F) × (F ⊑ G) × Holds D' F F

    -- what the cut left in the place after p
    abbrev LeftAt : ℕ → Content → Type 0
    LeftAt p c = In c (D (suc p)) ⊎ (¬ (Sound c))

    -- a firm history that nothing in the next place continues is the one that is left
    stop : (F : List Entry) → B ⊑ F → F ⊑ G → Firm D' F
        → ((c : Content) → In c (D' (suc (length F))) → Old F (length F) c) → Survives
    stop F b g f t = (F, b, g, solo D' F f each)
      where
        beyond : (p : ℕ) → length F ≤ p → (c : Content) → ¬ (p ≡ length F) → LeftAt p c → Old F p c
        beyond p l c q (inr u) = (λ r. absurd (q r), λ s. absurd (u s))
        beyond p l c q (inl m) = by (h.tame F b g p l c m)
          where
            by : Tame G F p c → Old F p c
            by (inl t) = absurd (q t.0)
            by (inr o) = o

        each : (p : ℕ) → length F ≤ p → (c : Content) → In c (D' (suc p)) → Old F p c
        each p l c m = go (ℕ_discrete p (length F))
          where
            go : Dec (p ≡ length F) → Old F p c
            go (yes q) =
                let m' = subst (λ (n : ℕ). In c (D' (suc n))) q m in
                subst (λ (n : ℕ). Old F n c) (sym q) (t c m')
            go (no q) = beyond p l c q (left_in Sound (D (suc p)) (D' (suc p)) c (k (suc p)) m)

    alone : (F : List Entry) (x : Content) → D' (suc (length F)) ≡ x ∷ [] → Old F (length F) x
        → (c : Content) → In c (D' (suc (length F))) → Old F (length F) c
    alone F x e o c m = go (subst (In c) e m)
      where
        go : In c (x ∷ []) → Old F (length F) c
        go (inl q) = subst (Old F (length F)) (sym q) o
        go (inr n) = absurd n

    abbrev Further : List Entry → Type 0
    Further F = (e : Entry) × ((e ∷ F) ⊑ G) × Firm D' (e ∷ F)

    -- a firm history is the one that is left, or goes on within G
    turn : (F : List Entry) → B ⊑ F → F ⊑ G → Firm D' F → Survives ⊎ Further F
    turn F b g f = go (left Sound (D (suc (length F))) (D' (suc (length F))) (k (suc (length F))))
      where
        one : (x : Content) → D' (suc (length F)) ≡ x ∷ [] → Tame G F (length F) x → Survives ⊎ Further F
        one x e (inl t) = inr (t.1.0, t.1.1, (f, t.1.2, e ∙ ap (λ (c : Content). c ∷ []) t.1.3))
        one x e (inr o) = inl (stop F b g f (alone F x e o))

        some_one : (x : Content) → D' (suc (length F)) ≡ x ∷ [] → LeftAt (length F) x → Survives ⊎ Further F
        some_one x e (inl m) = one x e (h.tame F b g (length F) (omega arith) x m)
        some_one x e (inr u) = one x e (inr (λ r t. u (fits_sound F x t), λ s. absurd (u s)))

        go : (D' (suc (length F)) ≡ []) ⊎ ((x : Content) × (D' (suc (length F)) ≡ x ∷ []) × LeftAt (length F) x)
            → Survives ⊎ Further F
        go (inl n) = inl (stop F b g f (λ c m. absurd (subst (In c) n m)))
        go (inr t) = some_one t.0 t.1 t.2

    climb : (n : ℕ) (F : List Entry) → B ⊑ F → F ⊑ G → length G ≤ length F + n → Firm D' F → Survives
    climb zero F b g l f = elim (turn F b g f) [ inl s ↦ s | inr t ↦ let q = ⊑_length t.1 in absurd (omega arith) ]
    climb (suc n) F b g l f = elim (turn F b g f) [ inl s ↦ s | inr t ↦ climb n (t.0 ∷ F) (more b) t.1 (omega arith) t.2 ]

    pub survives : B ⊑ G → Survives
    survives b = climb (length G) B here b (omega arith) firm_left
      where
        firm_left : Firm D' B
        firm_left = firm_kept D D' B h.firm (λ p l c. left_one Sound (D p) (D' p) c (k p))

  -- what begins a found history is found
  found_below : (D : ℕ → List Content) {F G : List Entry} → F ⊑ G → Found S D G → Found S D F
  found_below D here f = f
  found_below D (more h) f = found_below D h f.0

  -- the bytes tell the entry
  same_next : (D : ℕ → List Content) (F : List Entry) (e d : Entry) → Found S D (e ∷ F) → Found S D (d ∷ F) → e ≡ d
  same_next D F e d f g = L.told F e d f.1 g.1 (let i : Some (bytes F e) ≡ Some (bytes F d) = sym f.2 ∙ g.2 in cc)

  -- of two found histories one begins the other
  meets : (D : ℕ → List Content) (F G : List Entry) → Found S D F → Found S D G → (F ⊑ G) ⊎ (G ⊑ F)
  meets D [] G f g = inl (⊑_none G)
  meets D (e ∷ F) G f g = go (meets D F G f.0 g)
    where
      by : (F ≡ G) ⊎ ((x : Entry) × ((x ∷ F) ⊑ G)) → ((e ∷ F) ⊑ G) ⊎ (G ⊑ (e ∷ F))
      by (inl i) = inr (more (subst (λ (H : List Entry). H ⊑ F) i here))
      by (inr t) =
          let i = same_next D F t.0 e (found_below D t.1 g) f in
          inl (subst (λ (x : Entry). (x ∷ F) ⊑ G) i t.1)

      go : (F ⊑ G) ⊎ (G ⊑ F) → ((e ∷ F) ⊑ G) ⊎ (G ⊑ (e ∷ F))
      go (inl h) = by (⊑_next h)
      go (inr h) = inr (more h)

  -- nothing found goes on from the log
  ends : (D : ℕ → List Content) (F G : List Entry) → IsLog S D F → Found S D G → F ⊑ G → F ≡ G
  ends D F G l g h = go (⊑_next h)
    where
      go : (F ≡ G) ⊎ ((x : Entry) × ((x ∷ F) ⊑ G)) → F ≡ G
      go (inl i) = i
      go (inr t) =
          let f = found_below D t.1 g in
          absurd (l.1 (bytes F t.0) f.2 (t.0, f.1, refl))

  -- a disk has one log
  pub one_log : (D : ℕ → List Content) (F G : List Entry) → IsLog S D F → IsLog S D G → F ≡ G
  one_log D F G l m = go (meets D F G l.0 m.0)
    where
      go : (F ⊑ G) ⊎ (G ⊑ F) → F ≡ G
      go (inl h) = ends D F G l m.0 h
      go (inr h) = sym (ends D G F m l.0 h)

  -- what is found, with nothing more to come, is the log
  pub top_log : (D : ℕ → List Content) (B G : List Entry) → B ⊑ G → Holds D B G → Found S D G → IsLog S D G
  top_log D B G b h f = (f, λ c n. go c (h.tame G b here (length G) (omega arith) c (newest_in (D (suc (length G))) c n)))
    where
      go : (c : Content) → Tame G G (length G) c → ¬ (Fits S G c)
      go c (inl t) = let q = ⊑_length t.1.1 in absurd (omega arith)
      go c (inr o) = o.0 refl

  -- the log is the longest history that is found
  pub longest : (D : ℕ → List Content) (F G : List Entry) → IsLog S D F → Found S D G → length G ≤ length F
  longest D F G l g = go (meets D F G l.0 g)
    where
      go : (F ⊑ G) ⊎ (G ⊑ F) → length G ≤ length F
      go (inl h) = let q = ap length (ends D F G l g h) in omega arith
      go (inr h) = ⊑_length h
