-- What becomes of waiting writes as they settle, as room is made and as power is cut.
use Rattle.std.specs.Prelude.{ℕ, cond, List, [], ◌∷◌, length, replicate, ◌==◌, nat_lt, slice_index, slice_index_or}
use Rattle.device.specs.Meaning.{Sector, sick, held}
use Rattle.images.specs.declared.queue.WaitingWrite.{WaitingWrite}
use Rattle.images.specs.Sectors.{whole, content, over}
use Rattle.images.specs.Image.{waiting_for}

-- the queue without its oldest write
abbrev pub without_oldest : List WaitingWrite → List WaitingWrite
without_oldest [] = []
without_oldest (w ∷ queue) = queue

-- the bytes once a write is settled; a write past the end settles nowhere
abbrev pub settle_write : List ℕ → WaitingWrite → List ℕ
settle_write bytes w = cond (nat_lt w.sector (whole bytes)) (over bytes w.sector w.content) bytes

-- the bytes once the oldest write is settled
abbrev pub settle_oldest : List ℕ → List WaitingWrite → List ℕ
settle_oldest bytes [] = bytes
settle_oldest bytes (w ∷ queue) = settle_write bytes w

-- the bytes once all are settled, oldest first
abbrev pub settle_all : List ℕ → List WaitingWrite → List ℕ
settle_all bytes [] = bytes
settle_all bytes (w ∷ queue) = settle_all (settle_oldest bytes (w ∷ queue)) queue

-- a sector without its oldest content, where that is not its only one
abbrev pub without_first : Sector → Sector
without_first (sick f) = sick f
without_first (held [] new) = held [] new
without_first (held (x ∷ old) new) = held old new

-- the sectors once the oldest write is settled: its sector's list loses its first content
abbrev pub settled_oldest : List WaitingWrite → (ℕ → Sector) → ℕ → Sector
settled_oldest [] at t = at t
settled_oldest (w ∷ queue) at t = cond (t == w.sector) (without_first (at t)) (at t)

-- the queue once there is room for one more: where 16 wait, the oldest is settled first
abbrev pub room_queue : List WaitingWrite → List WaitingWrite
room_queue queue = cond (nat_lt (length queue) 16) queue (without_oldest queue)

-- the bytes once there is room
abbrev pub room_bytes : List ℕ → List WaitingWrite → List ℕ
room_bytes bytes queue = cond (nat_lt (length queue) 16) bytes (settle_oldest bytes queue)

-- the sectors once there is room
abbrev pub room_sectors : List WaitingWrite → (ℕ → Sector) → ℕ → Sector
room_sectors queue at t = cond (nat_lt (length queue) 16) (at t) (settled_oldest queue at t)

-- what choice c leaves of x settled and others waiting: member c, the settled one being 0, or zeros where there is none; with none waiting, x
abbrev pub left_of : ℕ → List ℕ → List (List ℕ) → List ℕ
left_of c x [] = x
left_of c x (y ∷ ys) = slice_index_or (x ∷ y ∷ ys) c (replicate 512 0)

-- what a plan leaves of sector t: byte t of the plan is the choice, and a missing byte is 0
abbrev pub left_at : List ℕ → List ℕ → List WaitingWrite → ℕ → List ℕ
left_at plan bytes queue t = left_of (slice_index plan t) (content bytes t) (waiting_for t queue)

-- what a plan leaves in the bytes at t: past the last whole sector, what is there stays
abbrev pub cut_content : List ℕ → List ℕ → List WaitingWrite → ℕ → List ℕ
cut_content plan bytes queue t = cond (nat_lt t (whole bytes)) (left_at plan bytes queue t) (content bytes t)
