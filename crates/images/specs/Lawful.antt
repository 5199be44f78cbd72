-- What holds of every device holds of an image: the lemmas that the images' `ghost lawful` cites.
use Rattle.std.specs.Prelude.{◌≡◌, ℕ, ◌<◌, Bool, true, false, cond, List, [], ◌∷◌, ◌++◌, length, None, Option, ◌==◌, nat_lt, refl}
use Rattle.std.proofs.Common.{◌∙◌, ap, ⊎_elim, arith, length-take, length-drop, eqb-true, lt-ltb}
use mathlib.Core.List.Memᴰ
use mathlib.Core.List.{Memᴰ}
use Rattle.std.proofs.Math.Bool.{and-eq-true_iff}
use Rattle.std.proofs.lemmas.Bool.{both_ways}
use Rattle.device.specs.Faults.{sick_at}
use Rattle.device.specs.Meaning.{Sector, sick, held, Lawful, LawfulSector}
use Rattle.device.specs.Calls.{sick_fault}
use Rattle.images.specs.declared.queue.WaitingWrite.{WaitingWrite}
use Rattle.images.specs.Full.{all_full}
use Rattle.images.specs.Sectors.{whole, content, is_sick}
use Rattle.images.specs.Image.{waiting_for, older, listed, sector_of, image_meaning}

-- a sector in range has 512 bytes
pub content_length : (bytes : List ℕ) (s : ℕ) → s < whole bytes → length (content bytes s) ≡ 512
content_length bytes s h = simp (length-take, length-drop) (omega arith)

-- each content has 512 bytes
abbrev Long : Sector → Type 0
Long (sick f) = Unit {0}
Long (held old new) = (c : List ℕ) → Memᴰ c (old ++ (new ∷ [])) → length c ≡ 512

-- one more content of 512 bytes keeps each at 512
older_long : (x : List ℕ) (t : Sector) → length x ≡ 512 → Long t → Long (older x t)
older_long x (sick f) l h = tt
older_long x (held old new) l h = λ c m. ⊎_elim (λ e. ap length e ∙ l) (h c) (Memᴰ.cases_cons m)

-- so does a write that may be of this sector or of another
step_long : (e : Bool) (x y : List ℕ) (xs : List (List ℕ)) → length x ≡ 512 → Long (listed x xs) → Long (listed y xs) → Long (listed x (cond e (y ∷ xs) xs))
step_long true x y xs l h k = older_long x (listed y xs) l k
step_long false x y xs l h k = h

-- a settled content and the writes that wait have 512 bytes each
listed_long : (x : List ℕ) (s : ℕ) (queue : List WaitingWrite) → length x ≡ 512 → all_full queue ≡ true → Long (listed x (waiting_for s queue))
listed_long x s [] l h = λ c m. ⊎_elim (λ e. ap length e ∙ l) (λ n. absurd (Memᴰ.not-nil n)) (Memᴰ.cases_cons m)
listed_long x s (w ∷ queue) l h =
    let (first, rest) = (and-eq-true_iff (length w.content == 512) (all_full queue)).0 h in
    step_long (s == w.sector) x w.content (waiting_for s queue) l (listed_long x s queue l rest) (listed_long w.content s queue (eqb-true _ _ first) rest)

-- one more content makes no sector sick
older_well : (x : List ℕ) (t : Sector) → sick_fault (older x t) ≡ sick_fault t
older_well x (sick f) = refl
older_well x (held old new) = refl

-- a sector of contents is not sick
pub listed_well : (x : List ℕ) (xs : List (List ℕ)) → sick_fault (listed x xs) ≡ None
listed_well x [] = refl
listed_well x (y ∷ ys) = older_well x (listed y ys) ∙ listed_well y ys

-- a sector is lawful, sick by its name or with contents of 512 bytes
long_lawful : (b : Bool) (layer s : ℕ) (t : Sector) → Long t → sick_fault t ≡ None → LawfulSector (cond b (sick (sick_at layer s)) t)
long_lawful true layer s t h n = refl
long_lawful false layer s (sick f) h n = absurd (cc)
long_lawful false layer s (held old new) h n = h

-- a sector in range is lawful
sector_lawful : (inside b : Bool) (layer s : ℕ) (x : List ℕ) (xs : List (List ℕ)) → inside ≡ true → Long (listed x xs) → LawfulSector (sector_of inside b (sick_at layer s) x xs)
sector_lawful true b layer s x xs e h = long_lawful b layer s (listed x xs) h (listed_well x xs)
sector_lawful false b layer s x xs e h = absurd (both_ways false refl e)

-- an image is lawful, whatever its bytes, its sick sectors and its whole waiting writes
pub image_lawful : (layer : ℕ) (sick_ones : List (Option ℕ)) (bytes : List ℕ) (queue : List WaitingWrite) → all_full queue ≡ true → Lawful (image_meaning layer sick_ones bytes queue)
image_lawful layer sick_ones bytes queue h = record {
  size = omega arith;
  power = tt;
  each = λ s lt. sector_lawful (nat_lt s (whole bytes)) (is_sick sick_ones s) layer s (content bytes s) (waiting_for s queue) (lt-ltb s (whole bytes) lt) (listed_long (content bytes s) s queue (content_length bytes s lt) h);
}
