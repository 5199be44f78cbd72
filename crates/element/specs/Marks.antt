-- Alarm marks: a tick, a point and an event, eight bytes each.
use Rattle.std.specs.Prelude.{◌≡◌, ℕ, ◌+◌, ◌*◌, ◌≤◌, Bool, ◌&&◌, List, [], ◌∷◌, ◌++◌, nat_le, nat_lt, slice_index, Result, MatchResult}
use Rattle.little_endian.specs.Little.{le16, le32}
use Rattle.element.specs.declared.mark.Event.{Event}
use Rattle.element.specs.declared.mark.Event.TheVariants.{Raised, Acknowledged, Cleared}
use Rattle.element.specs.declared.mark.UnknownEvent.{UnknownEvent}
use Rattle.element.specs.declared.mark.Mark.{Mark}

-- the number that stands for an event
abbrev pub event_number : Event → ℕ
event_number Raised = 1
event_number Acknowledged = 2
event_number Cleared = 3

-- the event that the number stands for, or an error with a number that no event has
abbrev pub DecodesEvent : ℕ → Result Event UnknownEvent → Type 0
DecodesEvent number r = MatchResult r (λ event. event_number event ≡ number) (λ e. (e.0 ≡ number) × ((1 ≤ number) × (number ≤ 3) → ⊥))

-- a number of a measuring point, and the number of an event
abbrev pub stamp_lawful : ℕ → ℕ → Bool
stamp_lawful point event = (nat_le 1 point && nat_le point 9999) && (nat_le 1 event && nat_le event 3)

-- a mark whose point and event exist
abbrev pub mark_lawful : Mark → Bool
mark_lawful m = nat_lt m.tick 4294967296 && stamp_lawful m.point m.event

-- a mark's eight bytes: the tick, the point, the event and a zero
abbrev pub mark_bytes : Mark → List ℕ
mark_bytes m = le32 m.tick ++ (le16 m.point ++ (m.event ∷ 0 ∷ []))

-- the mark that eight bytes say
abbrev pub mark_of : List ℕ → Mark
mark_of bs =
    record {
      tick = slice_index bs 0 + slice_index bs 1 * 256 + slice_index bs 2 * 65536 + slice_index bs 3 * 16777216;
      point = slice_index bs 4 + slice_index bs 5 * 256;
      event = slice_index bs 6;
    }
