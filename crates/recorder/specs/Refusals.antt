-- Refusals: the number of each, and which is due.
use Rattle.std.specs.Prelude.{ℕ, ◌+◌, ◌*◌, Bool, true, false, not, ◌&&◌, List, length, ◌==◌, nat_le, nat_lt, Option, Some, None, Result, Ok, Err}
use Rattle.std.specs.List.{list_all}
use Rattle.element.specs.declared.kind.Kind.{Kind}
use Rattle.element.specs.declared.kind.Kind.TheVariants.{Sound}
use Rattle.element.specs.Kinds.{kind_number, capacity_of}
use Rattle.takes.specs.Table.{is_open, open_on, withdrawn_by, end_of}
use Rattle.journal.specs.declared.session.Session.{Session}
use Rattle.journal.specs.Headers.{kind_of}
use Rattle.journal.specs.Sessions.{table_of, session_place}
use Rattle.recorder.specs.declared.State.{State}
use Rattle.recorder.specs.declared.State.TheVariants.{Unmounted, Mounted, Armed}
use Rattle.recorder.specs.declared.call.Call.{Call}
use Rattle.recorder.specs.declared.call.Call.TheVariants.{Format, Mount, Arm, Save, Begin, End, Withdraw}
use Rattle.recorder.specs.declared.refusal.Refusal.{Refusal}
use Rattle.recorder.specs.declared.refusal.Refusal.TheVariants.{TooSmall, NotUnmounted, BadTracks, BadRate, NotMounted, NoRecording, AlreadyArmed, NotArmed, NoSuchTrack, NoSuchTake, NotOpen, TakeOpen, BeyondEnd, TooManyTakes, OtherKind, BadCount, Full, NoneStanding, TooShort, Unlawful}

-- the number that stands for a refusal
abbrev pub refusal_number : Refusal → ℕ
refusal_number TooSmall = 1
refusal_number NotUnmounted = 2
refusal_number BadTracks = 3
refusal_number BadRate = 4
refusal_number NotMounted = 5
refusal_number NoRecording = 6
refusal_number AlreadyArmed = 7
refusal_number NotArmed = 8
refusal_number NoSuchTrack = 9
refusal_number NoSuchTake = 10
refusal_number NotOpen = 11
refusal_number TakeOpen = 12
refusal_number BeyondEnd = 13
refusal_number TooManyTakes = 14
refusal_number OtherKind = 15
refusal_number BadCount = 16
refusal_number Full = 17
refusal_number NoneStanding = 18
refusal_number TooShort = 19
refusal_number Unlawful = 20

-- where the test fails the refusal is due, and else what follows decides
abbrev pub unless : Bool → Refusal → Option Refusal → Option Refusal
unless true x later = later
unless false x later = Some x

-- a number stands for a kind: it is 1 or 2
abbrev pub kind_known : ℕ → Bool
kind_known n = nat_le 1 n && nat_le n 2

-- the kinds of a format, by their numbers: one to eight, each of them known
abbrev pub tracks_allowed : List ℕ → Bool
tracks_allowed kinds = (nat_le 1 (length kinds) && nat_le (length kinds) 8) && list_all kind_known kinds

-- the recording has track t
abbrev pub has_track : Session → ℕ → Bool
has_track s t = nat_le 1 t && nat_le t s.header.tracks

-- take k was begun
abbrev pub has_take : Session → ℕ → Bool
has_take s k = nat_le 1 k && nat_le k s.table.inner.count

-- a block of the kind may have n elements
abbrev pub has_place : Kind → ℕ → Bool
has_place kind n = nat_le 1 n && nat_le n (capacity_of kind)

-- where track t ends
abbrev pub track_end : Session → ℕ → ℕ
track_end s t = end_of (table_of s) t s.table.inner.count

-- how many bytes the WAVE file of track t has: the header's, and two for each sample
abbrev pub file_length : Session → ℕ → ℕ
file_length s t = 44 + 2 * track_end s t

-- the take that a withdrawal on track t takes, or 0 where none is standing
abbrev pub chosen : Session → ℕ → ℕ
chosen s t = withdrawn_by (table_of s) t s.table.inner.count

-- the next place is a sector of a device with so many
abbrev pub has_room : Session → ℕ → Bool
has_room s size = nat_lt (session_place s) size

-- which refusal is due of a format, by the number of sectors and by what is asked
abbrev pub format_refusal : (size : ℕ) → List ℕ → (rate : ℕ) → Option Refusal
format_refusal size kinds rate =
    unless (nat_le 2 size) TooSmall (unless (tracks_allowed kinds) BadTracks (unless (nat_le 8000 rate && nat_le rate 48000) BadRate None))

-- which refusal is due of an arming
abbrev pub arm_refusal : Session → (size : ℕ) → Option Refusal
arm_refusal s size = unless (has_room s size) Full None

-- which refusal is due of the begin of a take on track t at position p
abbrev pub begin_refusal : Session → (size : ℕ) → (t p : ℕ) → Option Refusal
begin_refusal s size t p =
    unless (has_track s t) NoSuchTrack (unless (not (open_on (table_of s) t s.table.inner.count)) TakeOpen
    (unless (nat_le p (track_end s t)) BeyondEnd (unless (nat_lt s.table.inner.count 64) TooManyTakes (unless (has_room s size) Full None))))

-- which refusal is due of a record into take k, of n elements of a kind, all of them lawful or not
abbrev pub record_refusal : Session → (size k : ℕ) → Kind → (n : ℕ) → (lawful : Bool) → Option Refusal
record_refusal s size k kind n lawful =
    unless (has_take s k) NoSuchTake (unless (is_open (table_of s k).state) NotOpen
    (unless (kind_number kind == kind_number (kind_of s.header (table_of s k).track)) OtherKind
    (unless (has_place kind n) BadCount (unless lawful Unlawful (unless (has_room s size) Full None)))))

-- which refusal is due of the end of take k
abbrev pub end_refusal : Session → (size k : ℕ) → Option Refusal
end_refusal s size k =
    unless (has_take s k) NoSuchTake (unless (is_open (table_of s k).state) NotOpen (unless (has_room s size) Full None))

-- which refusal is due of a withdrawal on track t
abbrev pub withdraw_refusal : Session → (size t : ℕ) → Option Refusal
withdraw_refusal s size t =
    unless (has_track s t) NoSuchTrack (unless (not (open_on (table_of s) t s.table.inner.count)) TakeOpen
    (unless (nat_lt 0 (chosen s t)) NoneStanding (unless (has_room s size) Full None)))

-- which refusal is due of a play of track t from a position on, into elements of a kind
abbrev pub play_refusal : Session → ℕ → Kind → ℕ → Option Refusal
play_refusal s t kind from =
    unless (has_track s t) NoSuchTrack (unless (kind_number kind == kind_number (kind_of s.header t)) OtherKind (unless (nat_le from (track_end s t)) BeyondEnd None))

-- which refusal is due of an export of track t, into a buffer of so many bytes
abbrev pub export_refusal : Session → (t size : ℕ) → Option Refusal
export_refusal s t size =
    unless (has_track s t) NoSuchTrack (unless (kind_number Sound == kind_number (kind_of s.header t)) OtherKind (unless (nat_le (file_length s t) size) TooShort None))

-- a call that only an unmounted recorder does is refused by every other, and else what follows decides
abbrev pub if_unmounted : State → Option Refusal → Option Refusal
if_unmounted Unmounted later = later
if_unmounted (Mounted s) later = Some NotUnmounted
if_unmounted (Armed a) later = Some NotUnmounted

-- a call that every recorder but an unmounted one does, and then its session decides
abbrev pub if_session : State → (Session → Option Refusal) → Option Refusal
if_session Unmounted later = Some NotMounted
if_session (Mounted s) later = later s
if_session (Armed a) later = later a.session

-- a call that only a recorder does that is mounted and not armed, and then its session decides
abbrev pub if_mounted : State → (Session → Option Refusal) → Option Refusal
if_mounted Unmounted later = Some NotMounted
if_mounted (Mounted s) later = later s
if_mounted (Armed a) later = Some AlreadyArmed

-- a call that only an armed recorder does, and then its session decides
abbrev pub if_armed : State → (Session → Option Refusal) → Option Refusal
if_armed Unmounted later = Some NotMounted
if_armed (Mounted s) later = Some NotArmed
if_armed (Armed a) later = later a.session

-- which refusal is due of a call in a state, on a device with so many sectors; a mount may still be refused for what it reads
abbrev pub refusal : State → ℕ → Call → Option Refusal
refusal st size (Format kinds rate sitting) = if_unmounted st (format_refusal size kinds.now rate)
refusal st size Mount = if_unmounted st (unless (nat_le 2 size) TooSmall None)
refusal st size Arm = if_mounted st (λ s. arm_refusal s size)
refusal st size Save = if_session st (λ s. None)
refusal st size (Begin t p) = if_armed st (λ s. begin_refusal s size t p)
refusal st size (End k) = if_armed st (λ s. end_refusal s size k)
refusal st size (Withdraw t) = if_armed st (λ s. withdraw_refusal s size t)

-- what a test of a call answers: the refusal that is due, if one is
abbrev pub passed : Option Refusal → Result (Unit {0}) Refusal
passed (Some x) = Err x
passed None = Ok tt
