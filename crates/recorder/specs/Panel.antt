-- What the panel is told of a recorder.
use Rattle.std.specs.Prelude.{ℕ, ◌-◌, Option, Some, None}
use Rattle.std.specs.Bool.{then_some}
use Rattle.std.specs.Option.{option_map, option_map_or, option_and_then}
use Rattle.element.specs.declared.kind.Kind.{Kind}
use Rattle.takes.specs.declared.Row.{Row}
use Rattle.journal.specs.declared.session.Session.{Session}
use Rattle.journal.specs.Headers.{kind_of}
use Rattle.journal.specs.Sessions.{table_of, session_place}
use Rattle.recorder.specs.declared.State.{State}
use Rattle.recorder.specs.declared.State.TheVariants.{Unmounted, Mounted, Armed}
use Rattle.recorder.specs.declared.panel.Phase.{Phase}
use Rattle.recorder.specs.declared.panel.Phase.TheVariants.{Unmounted as UnmountedPhase, Mounted as MountedPhase, Armed as ArmedPhase}
use Rattle.recorder.specs.Refusals.{has_track, has_take, track_end, chosen}

-- the phase of a state
abbrev pub phase_of : State → Phase
phase_of Unmounted = UnmountedPhase
phase_of (Mounted s) = MountedPhase
phase_of (Armed a) = ArmedPhase

-- the session that the recorder goes by, if it is mounted
abbrev pub session_of : State → Option Session
session_of Unmounted = None
session_of (Mounted s) = Some s
session_of (Armed a) = Some a.session

-- the sitting number
abbrev pub sitting_of : State → Option ℕ
sitting_of st = option_map (λ (s : Session). s.header.sitting) (session_of st)

-- the rate, in samples a second
abbrev pub rate_of : State → Option ℕ
rate_of st = option_map (λ (s : Session). s.header.rate) (session_of st)

-- how many tracks there are
abbrev pub tracks_of : State → ℕ
tracks_of st = option_map_or (λ (s : Session). s.header.tracks) (session_of st) 0

-- the kind of track t, if there is one
abbrev pub kind_on : State → ℕ → Option Kind
kind_on st t = option_and_then (λ (s : Session). then_some (has_track s t) (kind_of s.header t)) (session_of st)

-- where track t ends
abbrev pub end_on : State → ℕ → ℕ
end_on st t = option_map_or (λ (s : Session). track_end s t) (session_of st) 0

-- how many takes were begun
abbrev pub takes_of : State → ℕ
takes_of st = option_map_or (λ (s : Session). s.table.inner.count) (session_of st) 0

-- the row of take k, if it was begun
abbrev pub take_of : State → ℕ → Option Row
take_of st k = option_and_then (λ (s : Session). then_some (has_take s k) (table_of s k)) (session_of st)

-- the track of take k, or 0
abbrev pub track_of : State → ℕ → ℕ
track_of st k = option_map_or (λ (s : Session). (table_of s k).track) (session_of st) 0

-- the take that a withdrawal on track t takes, or 0
abbrev pub chosen_of : State → ℕ → ℕ
chosen_of st t = option_map_or (λ (s : Session). chosen s t) (session_of st) 0

-- how many entries a device with so many sectors still has room for
abbrev pub room_of : State → ℕ → ℕ
room_of st size = option_map_or (λ (s : Session). size - session_place s) (session_of st) 0
