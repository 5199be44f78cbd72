-- The faults of an image name their sectors and the image: the lemma that the images' `ghost named` cites.
use Rattle.std.specs.Prelude.{◌≡◌, ℕ, Bool, true, false, cond, List, [], None, Option, nat_lt, refl}
use Rattle.device.specs.Faults.{sick_at}
use Rattle.device.specs.Meaning.{Sector, sick, held}
use Rattle.device.specs.Calls.{sick_fault}
use Rattle.device.specs.Piles.{image, NamedSector, Named}
use Rattle.images.specs.declared.queue.WaitingWrite.{WaitingWrite}
use Rattle.images.specs.Sectors.{whole, content, is_sick}
use Rattle.images.specs.Image.{waiting_for, listed, image_meaning}
use Rattle.images.specs.Lawful.{listed_well}

-- a sector is sick by its own number and that of the image, or not at all
sector_named : (inside b : Bool) (layer s : ℕ) (t : Sector) → sick_fault t ≡ None → NamedSector (image layer) s (cond inside (cond b (sick (sick_at layer s)) t) (held [] []))
sector_named false b layer s t n = tt
sector_named true true layer s t n = (refl, (0, refl, refl))
sector_named true false layer s (sick f) n = absurd (cc)
sector_named true false layer s (held old new) n = tt

-- an image's faults are named, whatever its bytes, its sick sectors and its waiting writes
pub image_named : (layer : ℕ) (sick_ones : List (Option ℕ)) (bytes : List ℕ) (queue : List WaitingWrite) → Named (image layer) (image_meaning layer sick_ones bytes queue)
image_named layer sick_ones bytes queue = record {
  power = tt;
  each = λ s lt. sector_named (nat_lt s (whole bytes)) (is_sick sick_ones s) layer s (listed (content bytes s) (waiting_for s queue)) (listed_well (content bytes s) (waiting_for s queue));
}
