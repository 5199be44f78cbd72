-- A session in memory, and the log that it is in step with.
use Rattle.std.specs.Prelude.{◌≡◌, ℕ, ◌+◌, ◌∷◌, List, length, Option, Some, None}
use Rattle.sector.specs.declared.layout.Fields.{Fields}
use Rattle.sector.specs.Layout.{payload_of}
use Rattle.takes.specs.declared.Row.{Row}
use Rattle.takes.specs.declared.Outline.{Outline}
use Rattle.takes.specs.Entries.{epoch}
use Rattle.takes.specs.Takes.{count, rows}
use Rattle.takes.specs.Table.{end_of}
use Rattle.takes.specs.Steps.{next_epoch}
use Rattle.journal.specs.declared.session.Session.{Session}
use Rattle.journal.specs.Log.{Log, Follows, Admits, Run, Continues, entry_fields, entry_bytes, told}
use Rattle.journal.specs.Payloads.{Carries}
use Rattle.journal.specs.Rows.{row_at, Steps}

-- the take table of a session
abbrev pub table_of : Session → ℕ → Row
table_of s = row_at s.table.inner.rows

-- the entry may follow those that the session has taken in
abbrev pub SessionFollows : Session → Outline → Type 0
SessionFollows s o = Follows s.header s.entries s.table.inner.count (λ t. end_of (table_of s) t s.table.inner.count) (table_of s) o

-- the place of the next entry: sector 0 is the header's, and the entries follow it without a gap
abbrev pub session_place : Session → ℕ
session_place s = s.entries + 1

-- the numbers of the entry's sector at the session's next place
abbrev pub session_fields : Session → Outline → Fields
session_fields s o = entry_fields s.header (session_place s) s.epoch s.table.inner.count (table_of s) o

-- the entry may follow, and the numbers and the payload are those of its sector
abbrev pub Accepts : Session → Outline → Fields → List ℕ → Type 0
Accepts s o fields p = SessionFollows s o × (fields ≡ session_fields s o) × Carries s.header (table_of s) o p

-- the session s with an entry more is s'
pub record Adds (s : Session) (o : Outline) (s' : Session) : Type 0 where
  pub header : s'.header ≡ s.header
  pub entries : s'.entries ≡ s.entries + 1
  pub epoch : s'.epoch ≡ next_epoch s.epoch o
  pub table : Steps (session_place s) o s.table.inner.rows s.table.inner.count s'.table.inner.rows s'.table.inner.count

-- A session is given the numbers and the payload of a sector. The answer is the entry that they are accepted as, and the session goes
-- on with it; if they are accepted as none, there is no answer, and the session stays as it was.
abbrev pub GoesOn : Session → Fields → List ℕ → Option Outline → Session → Type 0
GoesOn s fields p (Some o) s' = Accepts s o fields p × Adds s o s'
GoesOn s fields p None s' = (s' ≡ s) × ((o : Outline) → Accepts s o fields p → ⊥)

-- the session is that of a log of admitted entries: it has counted them, their epoch and their takes, and it has each take's row
pub record InStep (s : Session) (h : Log) : Type 0 where
  pub run : Run s.header h
  pub entries : s.entries ≡ length h
  pub epoch : s.epoch ≡ epoch h
  pub count : s.table.inner.count ≡ count h
  pub rows : (k : ℕ) → table_of s k ≡ rows h k

-- the sector is that of entry e, which is admitted, and the session goes on with it
pub record TakesIn (s : Session) (h : Log) (sector : List ℕ) (o : Outline) (s' : Session) : Type 0 where
  pub admitted : Admits s.header h (told s.header (table_of s) (payload_of sector) o)
  pub bytes : sector ≡ entry_bytes s.header h (told s.header (table_of s) (payload_of sector) o)
  pub header : s'.header ≡ s.header
  pub after : InStep s' (told s.header (table_of s) (payload_of sector) o ∷ h)

-- A session of a log is given a sector. Where the sector continues the log, the answer is the entry that it is, and the session goes on
-- with it; where it does not, there is no answer, and the session stays as it was.
abbrev pub Absorbs : Session → List ℕ → Option Outline → Session → Type 0
Absorbs s sector (Some o) s' = (h : Log) → InStep s h → TakesIn s h sector o s'
Absorbs s sector None s' = (s' ≡ s) × ((h : Log) → InStep s h → Continues s.header h sector → ⊥)
