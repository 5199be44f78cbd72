-- What an image means: its bytes, its sick sectors, and the writes that wait, oldest first. A plain image has none that wait.
use Rattle.std.specs.Prelude.{◌≡◌, ℕ, Bool, cond, List, [], ◌∷◌, Option, ◌==◌, nat_lt, Ok}
use Rattle.device.specs.declared.fault.Fault.{Fault}
use Rattle.device.specs.Faults.{Answer, sick_at}
use Rattle.device.specs.Meaning.{Sector, sick, held, Meaning, newest}
use Rattle.device.specs.Calls.{answer_of, standing, filled}
use Rattle.images.specs.declared.queue.WaitingWrite.{WaitingWrite}
use Rattle.images.specs.Sectors.{whole, content, is_sick}

-- the contents that wait for sector s, in order
abbrev pub waiting_for : ℕ → List WaitingWrite → List (List ℕ)
waiting_for s [] = []
waiting_for s (w ∷ queue) = cond (s == w.sector) (w.content ∷ waiting_for s queue) (waiting_for s queue)

-- a sector with x before its oldest content
abbrev pub older : List ℕ → Sector → Sector
older x (sick f) = sick f
older x (held old new) = held (x ∷ old) new

-- a sector with x settled and then xs waiting
abbrev pub listed : List ℕ → List (List ℕ) → Sector
listed x [] = held [] x
listed x (y ∷ ys) = older x (listed y ys)

-- a sector by its range, its sickness, its settled content and its waiting ones; past the end there is an empty one
abbrev pub sector_of : Bool → Bool → Fault → List ℕ → List (List ℕ) → Sector
sector_of inside is_sick f x xs = cond inside (cond is_sick (sick f) (listed x xs)) (held [] [])

-- sector s of an image
abbrev pub image_sector : ℕ → List (Option ℕ) → List ℕ → List WaitingWrite → ℕ → Sector
image_sector layer sick_ones bytes queue s = sector_of (nat_lt s (whole bytes)) (is_sick sick_ones s) (sick_at layer s) (content bytes s) (waiting_for s queue)

-- an image: its power is always on
abbrev pub image_meaning : ℕ → List (Option ℕ) → List ℕ → List WaitingWrite → Meaning
image_meaning layer sick_ones bytes queue = record { size = whole bytes; power = Ok tt; sector = image_sector layer sick_ones bytes queue }

-- a read of sector s into a buffer: the answer, the buffer, and that nothing else changes
pub record ImageReads {I : Type 0} (layer : ℕ) (meaning : I → Meaning) (p : I) (s : ℕ) (old : List ℕ) (r : Answer) (n : I) (new : List ℕ) : Type 0 where
  pub answer : r ≡ answer_of (standing layer (meaning p) s)
  pub buffer : new ≡ filled r (newest ((meaning p).sector s)) old
  pub same : n ≡ p
