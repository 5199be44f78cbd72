-- The log: which entries are admitted after those before them, and the sector that each is written as.
use Rattle.std.specs.Prelude.{◌≡◌, ℕ, ◌+◌, ◌<◌, ◌≤◌, true, List, [], ◌∷◌, length, Option, Some, None}
use Rattle.std.specs.List.{flat_map, All}
use Rattle.little_endian.specs.Little.{Bytes}
use Rattle.sector.specs.declared.layout.Fields.{Fields}
use Rattle.sector.specs.declared.layout.Kind.TheVariants.{Header as HeaderSector, Begin as BeginSector, Block as BlockSector, Trailer as TrailerSector, Withdrawal as WithdrawalSector, Opening as OpeningSector}
use Rattle.sector.specs.Layout.{sector_bytes}
use Rattle.element.specs.declared.kind.Kind.{Kind}
use Rattle.element.specs.Kinds.{capacity_of, width_of, bytes_lawful}
use Rattle.element.specs.Payload.{unpacked}
use Rattle.takes.specs.declared.Row.{Row}
use Rattle.takes.specs.declared.Outline.{Outline}
use Rattle.takes.specs.declared.Outline.TheVariants.{Opening, Begin, Block, Trailer, Withdrawal}
use Rattle.takes.specs.Entries.{Entry, opening, begin, block, trailer, withdrawal, History, outline, next_place, epoch}
use Rattle.takes.specs.Takes.{count, rows}
use Rattle.takes.specs.Table.{Allows}
use Rattle.takes.specs.Tracks.{track}
use Rattle.journal.specs.declared.header.Header.{Header}
use Rattle.journal.specs.Headers.{HasTrack, kind_of, padded}

-- an entry of the log: its elements are byte strings
abbrev pub LogEntry : Type 0
LogEntry = Entry (List ℕ)

-- the entries of a log, the latest first
abbrev pub Log : Type 0
Log = History (List ℕ)

-- how many elements a block may have
abbrev pub Counts : Kind → ℕ → Type 0
Counts kind n = (1 ≤ n) × (n ≤ capacity_of kind)

-- the bytes of a lawful element
abbrev pub LawfulElement : Kind → List ℕ → Type 0
LawfulElement kind x = Bytes x × (bytes_lawful kind x ≡ true)

-- what the header asks of an entry: a track that exists, and a block of a count that its kind allows
abbrev pub Suits : Header → (ℕ → Row) → Outline → Type 0
Suits hd R Opening = Unit {0}
Suits hd R (Begin t p) = HasTrack hd t
Suits hd R (Block k n) = Counts (kind_of hd (R k).track) n
Suits hd R (Trailer k) = Unit {0}
Suits hd R (Withdrawal t k) = HasTrack hd t

-- the first entry is an opening; m entries are there
abbrev pub Starts : ℕ → Outline → Type 0
Starts m Opening = Unit {0}
Starts m (Begin t p) = 0 < m
Starts m (Block k n) = 0 < m
Starts m (Trailer k) = 0 < m
Starts m (Withdrawal t k) = 0 < m

-- an entry may follow m others, of which n are begins, where R is the take table and `end` says where each track ends: a sector
-- number is left, and the header and the table admit it
abbrev pub Follows : Header → (m n : ℕ) → (ℕ → ℕ) → (ℕ → Row) → Outline → Type 0
Follows hd m n end R o = (m < 65535) × Starts m o × Suits hd R o × Allows R n end o

-- the elements of a block are lawful ones of its track's kind
abbrev pub LawfulElements : Header → (ℕ → Row) → LogEntry → Type 0
LawfulElements hd R opening = Unit {0}
LawfulElements hd R (begin t p) = Unit {0}
LawfulElements hd R (block k xs) = All (LawfulElement (kind_of hd (R k).track)) xs
LawfulElements hd R (trailer k) = Unit {0}
LawfulElements hd R (withdrawal t k) = Unit {0}

-- the entry is admitted after the others: the call that adds it would be accepted there, armed or not
abbrev pub Admits : Header → Log → LogEntry → Type 0
Admits hd h e = Follows hd (length h) (count h) (λ t. length (track h t)) (rows h) (outline e) × LawfulElements hd (rows h) e

-- each entry was admitted after those before it
abbrev pub Run : Header → Log → Type 0
Run hd [] = Unit {0}
Run hd (e ∷ h) = Run hd h × Admits hd h e

-- the numbers of an entry's sector at a place, in an epoch, after n begins, where R is the take table
abbrev pub entry_fields : Header → (place epoch n : ℕ) → (ℕ → Row) → Outline → Fields
entry_fields hd p ep n R Opening =
    record { kind = OpeningSector; track = 0; count = 0; sitting = hd.sitting; place = p; epoch = ep + 1; take = 0; a = 0; b = 0 }
entry_fields hd p ep n R (Begin t q) =
    record { kind = BeginSector; track = t; count = 0; sitting = hd.sitting; place = p; epoch = ep; take = n + 1; a = q; b = 0 }
entry_fields hd p ep n R (Block k c) =
    record { kind = BlockSector; track = (R k).track; count = c; sitting = hd.sitting; place = p; epoch = ep; take = k; a = (R k).len; b = (R k).last }
entry_fields hd p ep n R (Trailer k) =
    record { kind = TrailerSector; track = (R k).track; count = 0; sitting = hd.sitting; place = p; epoch = ep; take = k; a = (R k).len; b = (R k).last }
entry_fields hd p ep n R (Withdrawal t k) =
    record { kind = WithdrawalSector; track = t; count = 0; sitting = hd.sitting; place = p; epoch = ep; take = k; a = 0; b = (R k).start }

-- the payload of an entry's sector: a block's elements one after the other, and nothing in any other
abbrev pub payload : LogEntry → List ℕ
payload opening = []
payload (begin t p) = []
payload (block k xs) = flat_map (λ (x : List ℕ). x) xs
payload (trailer k) = []
payload (withdrawal t k) = []

-- the sector that an entry is written as after the others
abbrev pub entry_bytes : Header → Log → LogEntry → List ℕ
entry_bytes hd h e = sector_bytes (entry_fields hd (next_place h) (epoch h) (count h) (rows h) (outline e)) (padded (payload e))

-- a sector at the next place continues the log: it has the bytes of an entry that is admitted there
abbrev pub Continues : Header → Log → List ℕ → Type 0
Continues hd h sector = (e : LogEntry) × Admits hd h e × (sector ≡ entry_bytes hd h e)

-- the entry of an outline, with a block's elements as they stand in the payload
abbrev pub told : Header → (ℕ → Row) → List ℕ → Outline → LogEntry
told hd R p Opening = opening
told hd R p (Begin t q) = begin t q
told hd R p (Block k n) = block k (unpacked (λ (x : List ℕ). x) (width_of (kind_of hd (R k).track)) n p)
told hd R p (Trailer k) = trailer k
told hd R p (Withdrawal t k) = withdrawal t k

-- the entry that a sector's numbers can only be of, without a block's elements; a header is none
abbrev pub outline_in : Fields → Option Outline
outline_in f = elim f.kind [
  | HeaderSector ↦ None
  | BeginSector ↦ Some (Begin f.track f.a)
  | BlockSector ↦ Some (Block f.take f.count)
  | TrailerSector ↦ Some (Trailer f.take)
  | WithdrawalSector ↦ Some (Withdrawal f.track f.take)
  | OpeningSector ↦ Some Opening
]
