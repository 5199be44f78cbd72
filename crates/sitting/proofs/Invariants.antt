-- The invariant of a sitting, by power and the recorder's state, and what follows: what a mount finds, that the header stays, and
-- that a recorder agrees with the book and goes by what is on the disk.
use Rattle.std.proofs.Common.{◌≡◌, ℕ, suc, ◌<◌, ◌≤◌, Bool, true, false, ◌⊎◌, List, [], ◌∷◌, length, Option, Some, None, sym, refl, ap, ◌∙◌, subst, inl, inr, arith}
use Rattle.sitting.specs.Books.{Book, with_doubt, all_of, first, no_entries}
use Rattle.sitting.proofs.Disks.{In, newest, Settles, Thins, Flushes, Writes, Cuts}
use Rattle.sitting.proofs.Schemes.{Scheme, Lawful, Found, IsLog}
use Rattle.sitting.proofs.Runs.{Event, Saved, Mounted, Added, Armed, Doubted, note, Recorder, unmounted, mounted, armed, Fresh, Falters, in_first, after_first, in_write, after_write, in_second, Step, refuse, keep, fault, cut, restart, format, mount, save, save_armed, add, add_fault, arm, arm_fault, Sitting, begin, next, Finds, Kept, Headed, Agrees, Agreed}
use Rattle.sitting.proofs.Lists.{newest_snoc}
use Rattle.sitting.proofs.Prefixes.{◌⊑◌, here, more, ⊑_length, ⊑_trans, ⊑_anti, ⊑_under, first_⊑}
use Rattle.sitting.proofs.Holds.{Old, Tame, Holds, Calms, same_calms, thins_calms, settles_calms, flushes_calms, calm, raise, grow, past_more, Grows, writes_grows, tears_grows, fits_sound, solo, survives, one_log, top_log, firm_found, firm_headed, found_firm, found_kept}

module _ (S : Scheme) (L : Lawful S) where
  open S use {Content, Entry, header, Sound, epoch, Admits, bytes, Opens, current}

  -- at any time: the disk keeps a history between the safe entries and all of the book
  record Keeps (D : ℕ → List Content) (k : Book Entry) (B G : List Entry) : Type 0 where
    under : B ⊑ G
    within : G ⊑ all_of k
    safe : k.safe ≤ length B
    holds : Holds S L D B G

  -- power on: the history H is found, and lies between the safe entries and all of the book
  record FoundUp (D : ℕ → List Content) (k : Book Entry) (H : List Entry) : Type 0 where
    base : List Entry
    keeps : Keeps D k base H
    found : Found S D H

  -- mounted, power on: that history is the book's entries
  record Ready (D : ℕ → List Content) (k : Book Entry) (H : List Entry) : Type 0 where
    agrees : Agrees S H k
    up : FoundUp D k H

  -- armed, power on: all past the base are of the current epoch, and what lies beyond them is older
  record Busy (D : ℕ → List Content) (k : Book Entry) (H : List Entry) : Type 0 where
    agrees : Agrees S H k
    up : FoundUp D k H
    level : (F : List Entry) → up.base ⊑ F → F ⊑ H → current F ≡ current H
    past : (p : ℕ) → length H ≤ p → (c : Content) → In c (D (suc p)) → Sound c → epoch c < current H

  abbrev Rest : (ℕ → List Content) → Book Entry → Type 0
  Rest D k = (H : List Entry) × FoundUp D k H

  abbrev Down : (ℕ → List Content) → Book Entry → Type 0
  Down D k = (B : List Entry) × (G : List Entry) × Keeps D k B G

  -- the invariant: power off; power on, and the recorder unmounted, mounted or armed
  abbrev Inv : Book Entry → (ℕ → List Content) → Bool → Recorder Entry → Type 0
  Inv k D false r = Down D k
  Inv k D true unmounted = Rest D k
  Inv k D true (mounted H) = Ready D k H
  Inv k D true (armed H) = Busy D k H

  up_down : {k : Book Entry} {D : ℕ → List Content} {H : List Entry} → FoundUp D k H → Down D k
  up_down {k} {D} {H} u = (u.base, H, u.keeps)

  rest : (k : Book Entry) (D : ℕ → List Content) (r : Recorder Entry) → Inv k D true r → Rest D k
  rest k D unmounted i = i
  rest k D (mounted H) i = (H, i.up)
  rest k D (armed H) i = (H, i.up)

  down : (k : Book Entry) (D : ℕ → List Content) (b : Bool) (r : Recorder Entry) → Inv k D b r → Down D k
  down k D false r i = i
  down k D true r i = up_down (rest k D r i).1

  -- power may go off in an accepted call
  after : (k : Book Entry) (D : ℕ → List Content) (b : Bool) (r : Recorder Entry) → Inv k D true r → Inv k D b r
  after k D true r i = i
  after k D false r i = down k D true r i

  -- what only loses contents that are not the newest keeps the invariant
  keeps_calm : {D D' : ℕ → List Content} {k : Book Entry} {B G : List Entry} → Calms S L D D' → Keeps D k B G → Keeps D' k B G
  keeps_calm {D} {D'} {k} {B} {G} m r =
      record { under = r.under; within = r.within; safe = r.safe; holds = calm S L D D' B G m r.holds }

  abbrev up_calm : {D D' : ℕ → List Content} {k : Book Entry} {H : List Entry} → Calms S L D D'
      → ((p : ℕ) → newest (D' p) ≡ newest (D p)) → FoundUp D k H → FoundUp D' k H
  up_calm {D} {D'} {k} {H} m n u =
      record { base = u.base; keeps = keeps_calm m u.keeps; found = found_kept S L D D' H u.found (λ p l. n p) }

  inv_calm : (k : Book Entry) (D D' : ℕ → List Content) (r : Recorder Entry) → Calms S L D D'
      → ((p : ℕ) → newest (D' p) ≡ newest (D p)) → Inv k D true r → Inv k D' true r
  inv_calm k D D' unmounted m n i = (i.0, up_calm m n i.1)
  inv_calm k D D' (mounted H) m n i = record { agrees = i.agrees; up = up_calm m n i.up }
  inv_calm k D D' (armed H) m n i = record {
    agrees = i.agrees;
    up = up_calm m n i.up;
    level = i.level;
    past = λ p l c x. i.past p l c (m.fewer (suc p) c x);
  }

  -- a refusal, an accepted call that writes nothing, and one that loses power and writes nothing
  step_refuse : (k : Book Entry) (D D' : ℕ → List Content) (b : Bool) (r : Recorder Entry) → ((p : ℕ) → D' p ≡ D p)
      → Inv k D b r → Inv k D' b r
  step_refuse k D D' true r e i = inv_calm k D D' r (same_calms S L D D' e) (λ p. ap newest (e p)) i
  step_refuse k D D' false r e i = (i.0, i.1, keeps_calm (same_calms S L D D' e) i.2)

  step_keep : (k : Book Entry) (D D' : ℕ → List Content) (r : Recorder Entry) → Settles D D' → Inv k D true r → Inv k D' true r
  step_keep k D D' r t i = inv_calm k D D' r (settles_calms S L D D' t) (λ p. (t p).1) i

  step_fault : (k : Book Entry) (D D' : ℕ → List Content) → Thins D D' → Down D k → Down D' k
  step_fault k D D' t i = (i.0, i.1, keeps_calm (thins_calms S L D D' t) i.2)

  -- a cut leaves a history between the base and all of the book, which is firm
  step_cut : (k : Book Entry) (D D' : ℕ → List Content) → Cuts Sound D D' → Down D k → Rest D' k
  step_cut k D D' c (B, G, r) =
      let t = survives S L D D' B G r.holds c r.under in
      let q = ⊑_length t.1 in (
        t.0,
        record {
          base = t.0;
          found = firm_found S L D' t.0 t.3.firm;
          keeps = record { under = here; within = ⊑_trans t.2 r.within; safe = (let z = r.safe in omega arith); holds = t.3 };
        },
      )

  -- a format leaves the header and no entry
  fresh_rest : {D : ℕ → List Content} → Fresh S D → Rest D no_entries
  fresh_rest {D} f = (
    [],
    record {
      base = [];
      found = ap newest f.headed;
      keeps = record { under = here; within = here; safe = omega arith; holds = solo S L D [] f.headed blank };
    },
  )
    where
      blank : (p : ℕ) → length {A = Entry} [] ≤ p → (c : Content) → In c (D (suc p)) → Old S L [] p c
      blank p l c m = (λ q t. f.blank p c m (fits_sound S L [] c t), λ z. absurd (f.blank p c m z))

  -- what is found is the log that a mount finds
  module _ (D : ℕ → List Content) (k : Book Entry) (F : List Entry) (l : IsLog S D F) (r : Rest D k) where
    rest_up : FoundUp D k F
    rest_up =
        let top = top_log S L D r.1.base r.0 r.1.keeps.under r.1.keeps.holds r.1.found in
        subst (λ (H : List Entry). FoundUp D k H) (one_log S L D r.0 F top l) r.1

    rest_first : first (length F) (all_of k) ≡ F
    rest_first = first_⊑ rest_up.keeps.within

    rest_finds : Finds S D (length F) k
    rest_finds = record {
      log = subst (IsLog S D) (sym rest_first) l;
      counted = ap length rest_first;
      safe = (let y = rest_up.keeps.safe in let z = ⊑_length rest_up.keeps.under in omega arith);
    }

    step_mount : Ready D (note (Mounted (length F)) k) F
    step_mount = record {
      agrees = record { own = rest_first; sure = refl };
      up = record {
        base = rest_up.base;
        found = rest_up.found;
        keeps = record {
          under = rest_up.keeps.under;
          within = subst (λ (H : List Entry). F ⊑ H) (sym rest_first) here;
          safe = rest_up.keeps.safe;
          holds = rest_up.keeps.holds;
        };
      };
    }

  own_within : {H E : List Entry} (d : Option Entry) → E ≡ H → H ⊑ with_doubt d E
  own_within {H} {E} None e = subst (λ (G : List Entry). G ⊑ E) e here
  own_within {H} {E} (Some d) e = more (subst (λ (G : List Entry). G ⊑ E) e here)

  -- a flush makes all that is found firm
  flush_firm : (D D' : ℕ → List Content) (k : Book Entry) (H : List Entry) → Flushes D D' → FoundUp D k H → Holds S L D' H H
  flush_firm D D' k H t u =
      let h = calm S L D D' u.base H (flushes_calms S L D D' t) u.keeps.holds in
      raise S L D' u.base H H u.keeps.under (found_firm S L D D' H t u.found) h

  abbrev up_save : (D D' : ℕ → List Content) (k : Book Entry) (H : List Entry) → Agrees S H k → Flushes D D' → FoundUp D k H
      → FoundUp D' (note Saved k) H
  up_save D D' k H g t u =
      let h = flush_firm D D' k H t u in
      record {
        base = H;
        found = firm_found S L D' H h.firm;
        keeps = record { under = here; within = u.keeps.within; safe = (let q = ap length g.own in omega arith); holds = h };
      }

  step_save : (D D' : ℕ → List Content) (k : Book Entry) (H : List Entry) → Flushes D D' → Ready D k H → Ready D' (note Saved k) H
  step_save D D' k H t r = record {
    agrees = record { own = r.agrees.own; sure = r.agrees.sure };
    up = up_save D D' k H r.agrees t r.up;
  }

  step_save_armed : (D D' : ℕ → List Content) (k : Book Entry) (H : List Entry) → Flushes D D' → Busy D k H
      → Busy D' (note Saved k) H
  step_save_armed D D' k H t r = record {
    agrees = record { own = r.agrees.own; sure = r.agrees.sure };
    up = up_save D D' k H r.agrees t r.up;
    level = λ F b g. r.level F (⊑_trans r.up.keeps.under b) g;
    past = λ p l c i. r.past p l c ((flushes_calms S L D D' t).fewer (suc p) c i);
  }

  -- an accepted write of the next entry: it is found
  found_more : (D D' : ℕ → List Content) (H : List Entry) (e : Entry) → Admits H e → Writes (suc (length H)) (bytes H e) D D'
      → Found S D H → Found S D' (e ∷ H)
  found_more D D' H e a w f = (
    found_kept S L D D' H f (λ p l. (w.others p (λ i. omega arith)).1),
    a,
    ap newest w.added ∙ newest_snoc w.older (bytes H e),
  )

  -- an entry that opens nothing
  module _ (D D' : ℕ → List Content) (k : Book Entry) (H : List Entry) (e : Entry) (o : ¬ (Opens e)) (a : Admits H e)
      (w : Grows S L (suc (length H)) (bytes H e) D D') (r : Busy D k H) where
    add_level : (F : List Entry) → r.up.base ⊑ F → F ⊑ H → length F < length H → current (e ∷ H) ≤ current F
    add_level F b g l = let i = r.level F b g in let j = L.stayed H e o in omega arith

    add_past : (p : ℕ) → length H < p → (c : Content) → In c (D (suc p)) → Sound c → epoch c < current (e ∷ H)
    add_past p l c m z = let i = r.past p (omega arith) c m z in let j = L.stayed H e o in omega arith

    add_keeps : (k' : Book Entry) → k'.safe ≡ k.safe → (e ∷ H) ⊑ all_of k' → Keeps D' k' r.up.base (e ∷ H)
    add_keeps k' z i = record {
      under = more r.up.keeps.under;
      within = i;
      safe = (let y = r.up.keeps.safe in omega arith);
      holds = grow S L D D' r.up.base H e r.up.keeps.under a w add_level add_past r.up.keeps.holds;
    }

    step_add : Found S D' (e ∷ H) → Busy D' (note (Added e) k) (e ∷ H)
    step_add f =
        let q = ap (λ (E : List Entry). e ∷ E) r.agrees.own in
        record {
          agrees = record { own = q; sure = r.agrees.sure };
          up = record {
            base = r.up.base;
            found = f;
            keeps = add_keeps (note (Added e) k) refl (own_within k.doubt q);
          };
          level = λ F b g. go F b (⊑_under g);
          past = past_more S L D D' r.up.base H e r.up.keeps.under a w add_level add_past;
        }
      where
        go : (F : List Entry) → r.up.base ⊑ F → (F ≡ e ∷ H) ⊎ (F ⊑ H) → current F ≡ current (e ∷ H)
        go F b (inl i) = ap current i
        go F b (inr g) = r.level F b g ∙ sym (L.stayed H e o)

    step_add_fault : Down D' (note (Doubted e) k)
    step_add_fault =
        let i = subst (λ (E : List Entry). (e ∷ E) ⊑ (e ∷ k.entries)) r.agrees.own here in
        (r.up.base, e ∷ H, add_keeps (note (Doubted e) k) refl i)

  -- an opening, after a flush has made H firm
  module _ (D D' : ℕ → List Content) (H : List Entry) (e : Entry) (o : Opens e) (a : Admits H e)
      (w : Grows S L (suc (length H)) (bytes H e) D D') (h : Holds S L D H H) where
    arm_level : (F : List Entry) → H ⊑ F → F ⊑ H → length F < length H → current (e ∷ H) ≤ current F
    arm_level F b g l = let q = ⊑_length b in absurd (omega arith)

    arm_past : (p : ℕ) → length H < p → (c : Content) → In c (D (suc p)) → Sound c → epoch c < current (e ∷ H)
    arm_past p l c m z = go (h.tame H here here p (omega arith) c m)
      where
        go : Tame S L H H p c → epoch c < current (e ∷ H)
        go (inl t) = absurd (omega arith)
        go (inr t) = let i = t.1 z in let j = L.opened H e o in omega arith

    arm_holds : Holds S L D' H (e ∷ H)
    arm_holds = grow S L D D' H H e here a w arm_level arm_past h

    arm_past_more : (p : ℕ) → suc (length H) ≤ p → (c : Content) → In c (D' (suc p)) → Sound c → epoch c < current (e ∷ H)
    arm_past_more = past_more S L D D' H H e here a w arm_level arm_past

  step_arm_fault : (D D' : ℕ → List Content) (k : Book Entry) (H : List Entry) (e : Entry) → Opens e → Admits H e
      → Falters S (suc (length H)) (bytes H e) D D' → Ready D k H → Down D' (note (Doubted e) k)
  step_arm_fault D D' k H e o a f r = go f
    where
      whole : (e ∷ H) ⊑ (e ∷ k.entries)
      whole = subst (λ (E : List Entry). (e ∷ E) ⊑ (e ∷ k.entries)) r.agrees.own here

      safe : k.safe ≤ length H
      safe = let y = r.up.keeps.safe in let z = ⊑_length r.up.keeps.under in omega arith

      firm : (D₁ : ℕ → List Content) → Flushes D D₁ → Holds S L D₁ H H
      firm D₁ t = flush_firm D D₁ k H t r.up

      -- the opening may be found or not
      to : Holds S L D' H (e ∷ H) → Down D' (note (Doubted e) k)
      to h = (H, e ∷ H, record { under = more here; within = whole; safe = safe; holds = h })

      written : (D₁ D₂ : ℕ → List Content) → Flushes D D₁ → Writes (suc (length H)) (bytes H e) D₁ D₂ → Holds S L D₂ H (e ∷ H)
      written D₁ D₂ t w = arm_holds D₁ D₂ H e o a (writes_grows S L (suc (length H)) (bytes H e) D₁ D₂ w) (firm D₁ t)

      go : Falters S (suc (length H)) (bytes H e) D D' → Down D' (note (Doubted e) k)
      go (in_first t) = (
        r.up.base,
        H,
        record {
          under = r.up.keeps.under;
          within = ⊑_trans (more here) whole;
          safe = r.up.keeps.safe;
          holds = calm S L D D' r.up.base H (thins_calms S L D D' t) r.up.keeps.holds;
        },
      )
      go (after_first t) = (H, H, record { under = here; within = ⊑_trans (more here) whole; safe = safe; holds = firm D' t })
      go (in_write D₁ t w) =
          to (arm_holds D₁ D' H e o a (tears_grows S L (suc (length H)) (bytes H e) D₁ D' w) (firm D₁ t))
      go (after_write D₁ t w) = to (written D₁ D' t w)
      go (in_second D₁ D₂ t w x) = to (calm S L D₂ D' H (e ∷ H) (thins_calms S L D₂ D' x) (written D₁ D₂ t w))

  step_arm : (D D₁ D₂ D' : ℕ → List Content) (k : Book Entry) (H : List Entry) (e : Entry) → Opens e → Admits H e
      → Flushes D D₁ → Writes (suc (length H)) (bytes H e) D₁ D₂ → Flushes D₂ D' → Ready D k H
      → Busy D' (note (Armed e) k) (e ∷ H)
  step_arm D D₁ D₂ D' k H e o a f₁ w f₂ r =
      let h = flush_firm D D₁ k H f₁ r.up in
      let g = writes_grows S L (suc (length H)) (bytes H e) D₁ D₂ w in
      let m = flushes_calms S L D₂ D' f₂ in
      let q = ap (λ (E : List Entry). e ∷ E) r.agrees.own in
      let y = ap length r.agrees.own in
      let f = found_firm S L D₂ D' (e ∷ H) f₂ (found_more D₁ D₂ H e a w (firm_found S L D₁ H h.firm)) in
      let z = calm S L D₂ D' H (e ∷ H) m (arm_holds D₁ D₂ H e o a g h) in
      record {
        agrees = record { own = q; sure = r.agrees.sure };
        up = record {
          base = e ∷ H;
          found = firm_found S L D' (e ∷ H) f;
          keeps = record {
            under = here;
            within = own_within k.doubt q;
            safe = omega arith;
            holds = raise S L D' H (e ∷ H) (e ∷ H) (more here) f z;
          };
        };
        level = λ F b c. ap current (⊑_anti c b);
        past = λ p l c i. arm_past_more D₁ D₂ H e o a g h p l c (m.fewer (suc p) c i);
      }

  -- every step keeps the invariant
  step : (k : Book Entry) {D D' : ℕ → List Content} {b b' : Bool} {r r' : Recorder Entry} {v : Event Entry}
      → Step S D D' b r v b' r' → Inv k D b r → Inv (note v k) D' b' r'
  step k {D} {D'} (refuse {b} {r} e) i = step_refuse k D D' b r e i
  step k {D} {D'} (keep {b} {r} t) i = after k D' b r (step_keep k D D' r t i)
  step k {D} {D'} (fault {r} t) i = step_fault k D D' t (down k D true r i)
  step k {D} {D'} (cut {b} {r} c) i = step_cut k D D' c (down k D b r i)
  step k {D} {D'} (restart {r} e) i = step_refuse k D D' true unmounted e (rest k D r i)
  step k {D} {D'} (format {b} f) i = after no_entries D' b unmounted (fresh_rest f)
  step k {D} {D'} (mount {b} F t l) i =
      after (note (Mounted (length F)) k) D' b (mounted F) (step_mount D' k F l (step_keep k D D' unmounted t i))
  step k {D} {D'} (save {b} {H} f) i = after (note Saved k) D' b (mounted H) (step_save D D' k H f i)
  step k {D} {D'} (save_armed {b} {H} f) i = after (note Saved k) D' b (armed H) (step_save_armed D D' k H f i)
  step k {D} {D'} (add {b} {H} e o a w) i =
      let g = writes_grows S L (suc (length H)) (bytes H e) D D' w in
      after (note (Added e) k) D' b (armed (e ∷ H)) (step_add D D' k H e o a g i (found_more D D' H e a w i.up.found))
  step k {D} {D'} (add_fault {H} e o a w) i =
      step_add_fault D D' k H e o a (tears_grows S L (suc (length H)) (bytes H e) D D' w) i
  step k {D} {D'} (arm {b} {H} e D₁ D₂ o a f₁ w f₂) i =
      after (note (Armed e) k) D' b (armed (e ∷ H)) (step_arm D D₁ D₂ D' k H e o a f₁ w f₂ i)
  step k {D} {D'} (arm_fault {H} e o a w) i = step_arm_fault D D' k H e o a w i

  -- so it holds all through a sitting
  sitting : {k : Book Entry} {D : ℕ → List Content} {b : Bool} {r : Recorder Entry} → Sitting S k D b r → Inv k D b r
  sitting (begin {D} {b} f) = after no_entries D b unmounted (fresh_rest f)
  sitting (next {k} z t) = step k t (sitting z)

  -- a mount finds exactly the first entries of the book, and every safe one
  pub kept : Kept S
  kept k D D' b n r z (mount F t l) = rest_finds D' k F l (step_keep k D D' unmounted t (sitting z))

  -- the header stays
  pub headed : Headed S
  headed k D b r z = let i = down k D b r (sitting z) in firm_headed S L D i.0 i.2.holds.firm

  -- with power on, the history that a mounted recorder goes by is the book's entries, and nothing is in doubt
  pub agreed : Agreed S
  agreed k D H = (λ z. (sitting z).agrees, λ z. (sitting z).agrees)

  -- and it is found on the disk
  pub found_own : (k : Book Entry) (D : ℕ → List Content) (H : List Entry)
      → ((Sitting S k D true (mounted H) → Found S D H) × (Sitting S k D true (armed H) → Found S D H))
  found_own k D H = (λ z. (sitting z).up.found, λ z. (sitting z).up.found)
