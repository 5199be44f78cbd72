-- What a queued image means, and what its calls do, exactly.
use Rattle.std.specs.Prelude.{◌≡◌, ℕ, cond, List, [], ◌∷◌, ◌++◌, length, is_ok, Ok, Option}
use Rattle.std.specs.Borrow.{MutBor}
use Rattle.device.specs.declared.fault.Layer.TheVariants.{QueuedImage as QueuedLayer}
use Rattle.device.specs.Faults.{layer_number, Answer}
use Rattle.device.specs.Meaning.{Sector, Meaning, Lawful}
use Rattle.device.specs.Calls.{answer_of, standing, written, settled}
use Rattle.device.specs.Cuts.{cut_by}
use Rattle.device.specs.Piles.{Pile, image, Named}
use Rattle.images.specs.declared.queue.WaitingWrite.{WaitingWrite}
use Rattle.images.specs.declared.queued.QueuedImage.{QueuedImage}
use Rattle.images.specs.Sectors.{content}
use Rattle.images.specs.Image.{image_meaning, ImageReads}
use Rattle.images.specs.Lawful.{image_lawful}
use Rattle.images.specs.Named.{image_named}
use Rattle.images.specs.Queue.{settle_all, room_queue, room_bytes, room_sectors, cut_content}

-- a queued image's number as a layer
abbrev pub queued_number : ℕ
queued_number = layer_number QueuedLayer

-- the writes that wait, oldest first
abbrev pub waiting : QueuedImage → List WaitingWrite
waiting p = p.queue.writes.items

-- a queued image
abbrev pub queued_meaning : QueuedImage → Meaning
queued_meaning p = image_meaning queued_number p.sectors.sick p.sectors.bytes.now (waiting p)

-- what holds of every device holds of a queued image
abbrev pub queued_lawful : (p : QueuedImage) → Lawful (queued_meaning p)
queued_lawful p = image_lawful queued_number p.sectors.sick p.sectors.bytes.now (waiting p) p.queue.full

-- a queued image stands on no other device
abbrev pub queued_pile : Pile
queued_pile = image queued_number

-- its faults name their sectors and the image
abbrev pub queued_named : (p : QueuedImage) → Named queued_pile (queued_meaning p)
queued_named p = image_named queued_number p.sectors.sick p.sectors.bytes.now (waiting p)

-- p is made over lent bytes: the meaning, that nothing waits, the sick sectors, the bytes and who lent them
pub record QueuedMade (sick_ones : List (Option ℕ)) (lent : MutBor (List ℕ)) (p : QueuedImage) : Type 0 where
  pub meaning : queued_meaning p ≡ image_meaning queued_number sick_ones lent.now []
  pub queue : waiting p ≡ []
  pub sick : p.sectors.sick ≡ sick_ones
  pub bytes : p.sectors.bytes.now ≡ lent.now
  pub lender : p.sectors.bytes.ghost_name ≡ lent.ghost_name

-- n has the sick sectors and the lender of p, and its power is on
pub record Stays (p n : QueuedImage) : Type 0 where
  pub power : (queued_meaning n).power ≡ Ok tt
  pub sick : n.sectors.sick ≡ p.sectors.sick
  pub lender : n.sectors.bytes.ghost_name ≡ p.sectors.bytes.ghost_name

-- p becomes n, with these bytes and these waiting writes
pub record Becomes (p : QueuedImage) (disk : List ℕ) (writes : List WaitingWrite) (n : QueuedImage) : Type 0 where
  pub bytes : n.sectors.bytes.now ≡ disk
  pub queue : waiting n ≡ writes
  pub stays : Stays p n

-- a read of sector s into a buffer
abbrev pub QueuedReads : QueuedImage → ℕ → List ℕ → Answer → QueuedImage → List ℕ → Type 0
QueuedReads = ImageReads queued_number queued_meaning

-- the waiting writes, with room made for a write of b to sector s and that write added
abbrev pub with_write : QueuedImage → ℕ → List ℕ → List WaitingWrite
with_write p s b = room_queue (waiting p) ++ (record { sector = s; content = b } ∷ [])

-- the sectors, with room made and then b written to sector s
abbrev pub with_written : QueuedImage → ℕ → List ℕ → ℕ → Sector
with_written p s b = written s b (room_sectors (waiting p) (queued_meaning p).sector)

-- a write of b to sector s: the answer, every list, the bytes and the waiting writes
pub record QueuedWrites (p : QueuedImage) (s : ℕ) (b : List ℕ) (r : Answer) (n : QueuedImage) : Type 0 where
  pub answer : r ≡ answer_of (standing queued_number (queued_meaning p) s)
  pub lists : (t : ℕ) → (queued_meaning n).sector t ≡ cond (is_ok r) (with_written p s b t) ((queued_meaning p).sector t)
  pub becomes : Becomes p (cond (is_ok r) (room_bytes p.sectors.bytes.now (waiting p)) p.sectors.bytes.now) (cond (is_ok r) (with_write p s b) (waiting p)) n

-- a flush: it is accepted, every list is settled, and every waiting write is in the bytes
pub record QueuedFlushes (p : QueuedImage) (r : Answer) (n : QueuedImage) : Type 0 where
  pub answer : r ≡ Ok tt
  pub lists : (t : ℕ) → (queued_meaning n).sector t ≡ settled ((queued_meaning p).sector t)
  pub becomes : Becomes p (settle_all p.sectors.bytes.now (waiting p)) [] n

-- a cut: the image is as the plan says, and so are the bytes of each sector; nothing waits
pub record QueuedCuts (p : QueuedImage) (plan : List ℕ) (n : QueuedImage) : Type 0 where
  pub meaning : queued_meaning n ≡ cut_by plan (queued_meaning p)
  pub queue : waiting n ≡ []
  pub bytes : (t : ℕ) → content n.sectors.bytes.now t ≡ cut_content plan p.sectors.bytes.now (waiting p) t
  pub long : length n.sectors.bytes.now ≡ length p.sectors.bytes.now
  pub stays : Stays p n
