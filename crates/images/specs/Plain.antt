-- What a plain image means, and what its calls do, exactly.
use Rattle.std.specs.Prelude.{◌≡◌, ℕ, cond, List, [], is_ok, Ok, Option, ◌==◌, refl}
use Rattle.std.specs.Borrow.{MutBor}
use Rattle.device.specs.declared.fault.Layer.TheVariants.{PlainImage as PlainLayer}
use Rattle.device.specs.Faults.{layer_number, Answer}
use Rattle.device.specs.Meaning.{Sector, held, Meaning, Lawful}
use Rattle.device.specs.Calls.{answer_of, standing}
use Rattle.device.specs.Piles.{Pile, image, Named}
use Rattle.images.specs.declared.plain.PlainImage.{PlainImage}
use Rattle.images.specs.Sectors.{over}
use Rattle.images.specs.Image.{image_meaning, ImageReads}
use Rattle.images.specs.Lawful.{image_lawful}
use Rattle.images.specs.Named.{image_named}

-- a plain image's number as a layer
abbrev pub plain_number : ℕ
plain_number = layer_number PlainLayer

-- a plain image: no write ever waits
abbrev pub plain_meaning : PlainImage → Meaning
plain_meaning p = image_meaning plain_number p.sectors.sick p.sectors.bytes.now []

-- what holds of every device holds of a plain image
abbrev pub plain_lawful : (p : PlainImage) → Lawful (plain_meaning p)
plain_lawful p = image_lawful plain_number p.sectors.sick p.sectors.bytes.now [] refl

-- a plain image stands on no other device
abbrev pub plain_pile : Pile
plain_pile = image plain_number

-- its faults name their sectors and the image
abbrev pub plain_named : (p : PlainImage) → Named plain_pile (plain_meaning p)
plain_named p = image_named plain_number p.sectors.sick p.sectors.bytes.now []

-- p is made over lent bytes: the meaning, the sick sectors, the bytes and who lent them
pub record PlainMade (sick_ones : List (Option ℕ)) (lent : MutBor (List ℕ)) (p : PlainImage) : Type 0 where
  pub meaning : plain_meaning p ≡ image_meaning plain_number sick_ones lent.now []
  pub sick : p.sectors.sick ≡ sick_ones
  pub bytes : p.sectors.bytes.now ≡ lent.now
  pub lender : p.sectors.bytes.ghost_name ≡ lent.ghost_name

-- a read of sector s into a buffer
abbrev pub PlainReads : PlainImage → ℕ → List ℕ → Answer → PlainImage → List ℕ → Type 0
PlainReads = ImageReads plain_number plain_meaning

-- the sectors where a write of b to sector s settled at once
abbrev pub replaced : ℕ → List ℕ → (ℕ → Sector) → ℕ → Sector
replaced s b at t = cond (t == s) (held [] b) (at t)

-- a write of b to sector s: the answer, every list, the bytes, and what stays
pub record PlainWrites (p : PlainImage) (s : ℕ) (b : List ℕ) (r : Answer) (n : PlainImage) : Type 0 where
  pub answer : r ≡ answer_of (standing plain_number (plain_meaning p) s)
  pub lists : (t : ℕ) → (plain_meaning n).sector t ≡ cond (is_ok r) (replaced s b (plain_meaning p).sector t) ((plain_meaning p).sector t)
  pub bytes : n.sectors.bytes.now ≡ cond (is_ok r) (over p.sectors.bytes.now s b) p.sectors.bytes.now
  pub power : (plain_meaning n).power ≡ Ok tt
  pub sick : n.sectors.sick ≡ p.sectors.sick
  pub lender : n.sectors.bytes.ghost_name ≡ p.sectors.bytes.ghost_name

-- a flush is accepted and changes nothing
pub record PlainFlushes (p : PlainImage) (r : Answer) (n : PlainImage) : Type 0 where
  pub answer : r ≡ Ok tt
  pub same : n ≡ p

-- a cut changes nothing, whatever the plan says
abbrev pub PlainCuts : PlainImage → List ℕ → PlainImage → Type 0
PlainCuts p plan n = n ≡ p
