-- A device as a disk of the theory.
use Rattle.std.proofs.Common.{◌≡◌, ℕ, ◌<◌, Bool, true, false, cond, ◌⊎◌, List, [], ◌∷◌, ◌++◌, Some, None, Ok, Err, sym, refl, ap, ◌∙◌, subst, subst₂, inl, inr, ⊎_elim, nat_lt, arith}
use Rattle.std.proofs.lemmas.Bool.{lt-ltb, ne_eqb, eq-eqb}
use mathlib.Core.List.{Memᴰ}
use Rattle.sector.specs.Layout.{Sound}
use Rattle.device.specs.declared.fault.Fault.{Fault}
use Rattle.device.specs.Faults.{Answer}
use Rattle.device.specs.Meaning.{Sector, sick, held, Meaning, contents}
use Rattle.device.specs.Calls.{Remains, Kept, Worn, settled, written, added, sick_fault}
use Rattle.device.specs.Cuts.{CutSector, Cut}
use Rattle.device.proofs.Lists.{kept_worn}
use Rattle.recorder.specs.Devices.{Settled, Lost, Readable}
use Rattle.recorder.proofs.Devices.{HasWritten, LostWriting, HasFlushed}
use Rattle.sitting.proofs.Disks.{Sub, done, keep, lose, In, last_of, newest, only_newest, Thinned, Settles, Thins, Flushes, Writes, Tears, Left, Cuts}
use Rattle.sitting.proofs.Disks
use Rattle.sitting.proofs.Lists.{newest_snoc, flushed_one}

-- whether power is on
abbrev pub on : Answer → Bool
on (Ok x) = true
on (Err f) = false

-- the contents of each sector of a device, newest last; a sick one, or one past the end, has none
abbrev pub disk : Meaning → ℕ → List (List ℕ)
disk m p = cond (nat_lt p m.size) (contents (m.sector p)) []

-- what holds of the contents of one sector before and after holds of the disk, if it holds of none
on_disk : (P : List (List ℕ) → List (List ℕ) → Type 0) (m m' : Meaning) (p : ℕ) → m'.size ≡ m.size → P [] [] → P (contents (m.sector p)) (contents (m'.sector p)) → P (disk m p) (disk m' p)
on_disk P m m' p e none h =
    subst (λ (n : ℕ). P (disk m p) (cond (nat_lt p n) (contents (m'.sector p)) [])) (sym e) (go (nat_lt p m.size))
  where
    go : (b : Bool) → P (cond b (contents (m.sector p)) []) (cond b (contents (m'.sector p)) [])
    go true = h
    go false = none

pub sub_of : (xs ys : List (List ℕ)) → Remains xs ys → Sub xs ys
sub_of [] [] h = done
sub_of [] (y ∷ ys) h = lose (sub_of [] ys tt)
sub_of (x ∷ xs) [] h = absurd h
sub_of (x ∷ xs) (y ∷ ys) h =
    ⊎_elim (λ p. subst (λ (z : List ℕ). Sub (x ∷ xs) (z ∷ ys)) p.0 (keep (sub_of xs ys p.1))) (λ q. lose (sub_of (x ∷ xs) ys q)) h

-- a list with a newest
module _ {C : Type 0} where
  some_pushed : (k : List C) (c : C) → ¬ (k ++ (c ∷ []) ≡ [])
  some_pushed [] c e = cc
  some_pushed (x ∷ k) c e = cc

-- one sector, as its contents
in_contents : (c : List ℕ) (l : List (List ℕ)) → Memᴰ c l → In c l
in_contents c [] m = elim m [ ]
in_contents c (x ∷ l) (Memᴰ.head e) = inl e
in_contents c (x ∷ l) (Memᴰ.tail m) = inr (in_contents c l m)

contents_kept : (s t : Sector) → Kept s t → Disks.Settled (contents s) (contents t)
contents_kept (sick f) t h = subst (λ (v : Sector). Disks.Settled [] (contents v)) (sym h) (done, refl)
contents_kept (held old new) (sick f) h = absurd h
contents_kept (held old new) (held old' new') h = (
  sub_of _ _ (kept_worn (held old new) (held old' new') h),
  newest_snoc old' new' ∙ ap Some h.0 ∙ sym (newest_snoc old new),
)

contents_worn : (s t : Sector) → Worn s t → Thinned (contents s) (contents t)
contents_worn (sick f) t h = subst (λ (v : Sector). Thinned [] (contents v)) (sym h) (done, λ e. refl)
contents_worn (held old new) (sick f) h = absurd h
contents_worn (held old new) (held old' new') h = (sub_of _ _ h, λ e. absurd (some_pushed old' new' e))

contents_settled : (s t : Sector) → t ≡ settled s → contents t ≡ only_newest (contents s)
contents_settled s t e = ap contents e ∙ go s
  where
    go : (s : Sector) → contents (settled s) ≡ only_newest (contents s)
    go (sick f) = refl
    go (held old new) = sym (flushed_one (old ++ (new ∷ [])) new (newest_snoc old new))

-- of a longer list any member is left, or what is not sound
left_longer : (o x : List ℕ) (k l' : List (List ℕ)) → ¬ (k ≡ []) → l' ≡ x ∷ [] → In x (o ∷ k) ⊎ (¬ (Sound x)) → Left Sound (o ∷ k) l'
left_longer o x [] l' n e h = absurd (n refl)
left_longer o x (a ∷ k) l' n e h = (x, e, h)

contents_cut : (s t : Sector) → CutSector s t → Left Sound (contents s) (contents t)
contents_cut (sick f) t h = ap contents h
contents_cut (held old new) (sick f) h = absurd h
contents_cut (held [] new) (held old' new') h = cc
contents_cut (held (o ∷ old) new) (held old' new') h =
    left_longer o new' (old ++ (new ∷ [])) (old' ++ (new' ∷ [])) (some_pushed old new) (ap (λ (k : List (List ℕ)). k ++ (new' ∷ [])) h.0)
    (⊎_elim (λ m. inl (in_contents new' ((o ∷ old) ++ (new ∷ [])) m)) (λ u. inr u.1) h.1)

-- a write of c to one sector: a content more, and older ones may be lost
record Pushed (c : List ℕ) (s t : Sector) : Type 0 where
  well : ¬ (contents s ≡ [])
  older : List (List ℕ)
  lost : Sub older (contents s)
  added : contents t ≡ older ++ (c ∷ [])

pushed : (c : List ℕ) (s t : Sector) → sick_fault s ≡ None → Kept (added c s) t → Pushed c s t
pushed c (sick f) t e h = cc
pushed c (held old new) (sick f) e h = absurd h
pushed c (held old new) (held old' new') e h =
    record { well = some_pushed old new; older = old'; lost = sub_of old' (old ++ (new ∷ [])) h.1; added = ap (λ (z : List ℕ). old' ++ (z ∷ [])) h.0 }

well_of : (s : Sector) → sick_fault s ≡ None → ¬ (contents s ≡ [])
well_of (sick f) e = cc
well_of (held old new) e = some_pushed old new

torn : (c : List ℕ) (s t : Sector) → sick_fault s ≡ None → Worn (added c s) t → Thinned (contents s ++ (c ∷ [])) (contents t)
torn c (sick f) t e h = cc
torn c (held old new) t e h = contents_worn (held (old ++ (new ∷ [])) c) t h

-- a sector within the size
pub on_sector : (m : Meaning) (p : ℕ) → p < m.size → disk m p ≡ contents (m.sector p)
on_sector m p lt = ap (λ (b : Bool). cond b (contents (m.sector p)) []) (lt-ltb p m.size lt)

-- one that a write does not go to
other : (p q : ℕ) (c : List ℕ) (at : ℕ → Sector) → ¬ (q ≡ p) → written p c at q ≡ at q
other p q c at n = ap (λ (b : Bool). cond b (added c (at q)) (at q)) (ne_eqb q p n)

the_one : (p : ℕ) (c : List ℕ) (at : ℕ → Sector) → written p c at p ≡ added c (at p)
the_one p c at = ap (λ (b : Bool). cond b (added c (at p)) (at p)) (eq-eqb p p refl)

-- what device calls and a cut do to the disk
module _ (m m' : Meaning) where
  pub settles : Settled m m' → Settles (disk m) (disk m')
  settles h p = on_disk Disks.Settled m m' p h.size (done, refl) (contents_kept (m.sector p) (m'.sector p) (h.each p))

  pub flushes : HasFlushed m m' → Flushes (disk m) (disk m')
  flushes h p = on_disk (λ k l. l ≡ only_newest k) m m' p h.size refl (contents_settled (m.sector p) (m'.sector p) (h.each p))

  pub cuts : Cut m m' → Cuts Sound (disk m) (disk m')
  cuts h p = on_disk (Left Sound) m m' p h.size refl (contents_cut (m.sector p) (m'.sector p) (h.each p))

  pub thins : (f : Fault) → Lost f m m' → Thins (disk m) (disk m')
  thins f h p = on_disk Thinned m m' p h.size (done, λ e. refl) (contents_worn (m.sector p) (m'.sector p) (h.each p))

  module _ (p : ℕ) (c : List ℕ) (there : Readable m p) where
    pub writes : HasWritten m p c m' → Writes p c (disk m) (disk m')
    writes h =
        let e = on_sector m p there.0 in
        let e' = on_sector m' p (omega (arith, h.size, there.0)) in
        let k = pushed c (m.sector p) (m'.sector p) there.1 (subst (λ (v : Sector). Kept v (m'.sector p)) (the_one p c m.sector) (h.each p)) in
        record {
          well = λ z. k.well (sym e ∙ z);
          others = λ q n. on_disk Disks.Settled m m' q h.size (done, refl)
              (contents_kept (m.sector q) (m'.sector q) (subst (λ (v : Sector). Kept v (m'.sector q)) (other p q c m.sector n) (h.each q)));
          older = k.older;
          lost = subst (Sub k.older) (sym e) k.lost;
          added = e' ∙ k.added;
        }

    pub tears : (f : Fault) → LostWriting f m p c m' → Tears p c (disk m) (disk m')
    tears f h =
        let e = on_sector m p there.0 in
        let e' = on_sector m' p (omega (arith, h.size, there.0)) in
        let k = torn c (m.sector p) (m'.sector p) there.1 (subst (λ (v : Sector). Worn v (m'.sector p)) (the_one p c m.sector) (h.each p)) in
        record {
          well = λ z. well_of (m.sector p) there.1 (sym e ∙ z);
          others = λ q n. on_disk Thinned m m' q h.size (done, λ z. refl)
              (contents_worn (m.sector q) (m'.sector q) (subst (λ (v : Sector). Worn v (m'.sector q)) (other p q c m.sector n) (h.each q)));
          there = subst₂ (λ (x y : List (List ℕ)). Thinned (x ++ (c ∷ [])) y) (sym e) (sym e') k;
        }
