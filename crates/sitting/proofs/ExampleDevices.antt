-- A device of eight sectors whose power is on, and which chooses for itself where a call leaves it a choice: it keeps every content.
use Rattle.std.proofs.Common.{◌≡◌, ℕ, zero, suc, ◌<◌, Bool, true, false, cond, ◌⊎◌, List, [], ◌∷◌, ◌++◌, length, get_or, replicate, None, Ok, refl, ap, ◌∙◌, inl, inr, ⊎_elim, ◌==◌, arith, length-append}
use mathlib.Core.List.{Memᴰ}
use lib.ListN.{length-replicate}
use Rattle.sector.specs.declared.layout.Fields.{Fields}
use Rattle.sector.specs.Layout.{field_bytes, sector_bytes, Fits}
use Rattle.device.specs.Meaning.{Sector, sick, held, Meaning, LawfulSector, Lawful}
use Rattle.device.specs.Calls.{sick_fault, Writes, Flushes, added, settled, written}
use Rattle.device.specs.Cuts.{chosen}
use Rattle.device.proofs.Lists.{kept_refl}
use Rattle.device.proofs.Steps.{standing_is, writes_went, flushes_went}

-- the device with these sectors
abbrev pub device : (ℕ → Sector) → Meaning
device at = record { size = 8; power = Ok tt; sector = at }

-- each content has 512 bytes
abbrev pub Whole : (ℕ → Sector) → Type 0
Whole at = (t : ℕ) → LawfulSector (at t)

-- so the device is lawful
pub whole_lawful : (at : ℕ → Sector) → Whole at → Lawful (device at)
whole_lawful at w = record { size = omega arith; power = tt; each = λ s l. w s }

-- one content
pub whole_one : (c : List ℕ) → length c ≡ 512 → LawfulSector (held [] c)
whole_one c l x (Memᴰ.head e) = ap length e ∙ l
whole_one c l x (Memᴰ.tail m) = elim m [ ]

-- a member of a list with one more at its end is one of the list, or that one
member_more : (xs : List (List ℕ)) (y c : List ℕ) → Memᴰ c (xs ++ (y ∷ [])) → Memᴰ c xs ⊎ (c ≡ y)
member_more [] y c (Memᴰ.head e) = inr e
member_more [] y c (Memᴰ.tail m) = elim m [ ]
member_more (x ∷ xs) y c (Memᴰ.head e) = inl (Memᴰ.head e)
member_more (x ∷ xs) y c (Memᴰ.tail m) = ⊎_elim (λ k. inl (Memᴰ.tail k)) (λ e. inr e) (member_more xs y c m)

-- what a write, a flush and a cut leave of a sector
whole_added : (b : List ℕ) (s : Sector) → length b ≡ 512 → LawfulSector s → LawfulSector (added b s)
whole_added b (sick f) l w = w
whole_added b (held old new) l w = λ c m. ⊎_elim (λ k. w c k) (λ e. ap length e ∙ l) (member_more (old ++ (new ∷ [])) b c m)

whole_settled : (s : Sector) → LawfulSector s → LawfulSector (settled s)
whole_settled (sick f) w = w
whole_settled (held old new) w = whole_one new (w new (at_end old))
  where
    at_end : (xs : List (List ℕ)) → Memᴰ new (xs ++ (new ∷ []))
    at_end [] = Memᴰ.head refl
    at_end (x ∷ xs) = Memᴰ.tail (at_end xs)

whole_chosen : (k : ℕ) (s : Sector) → LawfulSector s → LawfulSector (chosen k s)
whole_chosen k (sick f) w = w
whole_chosen k (held [] new) w = w
whole_chosen k (held (o ∷ old) new) w = whole_one (get_or ((o ∷ old) ++ (new ∷ [])) k (replicate 512 0)) (picked ((o ∷ old) ++ (new ∷ [])) k w)
  where
    picked : (xs : List (List ℕ)) (k : ℕ) → ((c : List ℕ) → Memᴰ c xs → length c ≡ 512) → length (get_or xs k (replicate 512 0)) ≡ 512
    picked [] k w = length-replicate {A = ℕ} 512 0
    picked (x ∷ xs) zero w = w x (Memᴰ.head refl)
    picked (x ∷ xs) (suc k) w = picked xs k (λ c m. w c (Memᴰ.tail m))

-- the sectors after a flush
abbrev pub flushed : (ℕ → Sector) → ℕ → Sector
flushed at t = settled (at t)

-- and after a cut by a plan
abbrev pub after_cut : List ℕ → (ℕ → Sector) → ℕ → Sector
after_cut plan at t = chosen (get_or plan t 0) (at t)

-- and of all sectors
pub whole_written : (p : ℕ) (b : List ℕ) (at : ℕ → Sector) → length b ≡ 512 → Whole at → Whole (written p b at)
whole_written p b at l w t = go (t == p)
  where
    go : (c : Bool) → LawfulSector (cond c (added b (at t)) (at t))
    go true = whole_added b (at t) l (w t)
    go false = w t

pub whole_flushed : (at : ℕ → Sector) → Whole at → Whole (flushed at)
whole_flushed at w t = whole_settled (at t) (w t)

pub whole_cut : (plan : List ℕ) (at : ℕ → Sector) → Whole at → Whole (after_cut plan at)
whole_cut plan at w t = whole_chosen (get_or plan t 0) (at t) (w t)

-- a write that is accepted, and after which no content is lost
pub writes : (layer p : ℕ) (b : List ℕ) (at : ℕ → Sector) → p < 8 → sick_fault (at p) ≡ None → Writes layer (device at) p b (Ok tt) (device (written p b at))
writes layer p b at l well =
    writes_went layer p (device at) (device (written p b at)) b (Ok tt) (standing_is layer p (device at) None l refl well)
    (record { size = refl; so = λ t. kept_refl (written p b at t) })

-- a flush that is accepted
pub flushes : (at : ℕ → Sector) → Flushes (device at) (Ok tt) (device (flushed at))
flushes at = flushes_went (device at) (device (flushed at)) (Ok tt) refl (record { size = refl; so = λ t. refl })

-- a sector's bytes are 512
pub sector_long : (f : Fields) (p : List ℕ) → Fits f p → length (sector_bytes f p) ≡ 512
unfolding field_bytes
sector_long f p h = simp length-append (omega (arith, h.whole))
