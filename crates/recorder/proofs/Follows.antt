-- Where no refusal is due, the entry may follow.
use Rattle.std.proofs.Common.{◌≡◌, ℕ, ◌+◌, ◌<◌, ◌≤◌, Bool, true, false, not, ◌==◌, nat_le, nat_lt, Option, None, Result, Ok, sym, refl, ◌∙◌, subst, arith}
use Rattle.std.proofs.lemmas.Bool.{and_parts, eqb-true, leb-true, ltb-true, not-true}
use Rattle.element.specs.declared.kind.Kind.{Kind}
use Rattle.element.specs.declared.kind.Kind.TheVariants.{Sound, Mark}
use Rattle.element.specs.Kinds.{kind_number, capacity_of}
use Rattle.takes.specs.declared.State.{State}
use Rattle.takes.specs.declared.State.TheVariants.{Withdrawn, Open, Standing}
use Rattle.takes.specs.declared.Outline.TheVariants.{Begin, Block, Trailer, Withdrawal}
use Rattle.takes.specs.Table.{is_open, open_on}
use Rattle.journal.specs.declared.session.Session.{Session}
use Rattle.journal.specs.Headers.{kind_of}
use Rattle.journal.specs.Log.{Counts}
use Rattle.journal.specs.Sessions.{table_of, SessionFollows}
use Rattle.recorder.specs.declared.refusal.Refusal.{Refusal}
use Rattle.recorder.specs.declared.refusal.Refusal.TheVariants.{NoSuchTrack, NoSuchTake, NotOpen, TakeOpen, BeyondEnd, TooManyTakes, OtherKind, BadCount, Unlawful, Full, NoneStanding}
use Rattle.recorder.specs.Refusals.{unless, passed, has_track, has_room, has_take, track_end, chosen, has_place, begin_refusal, record_refusal, end_refusal, withdraw_refusal}

-- a test that was passed holds, and so were those behind it
passed_test : (b : Bool) (x : Refusal) (later : Option Refusal) → passed (unless b x later) ≡ Ok tt → (b ≡ true) × (passed later ≡ Ok tt)
passed_test true x later h = (refl, h)
passed_test false x later h = cc

-- what the test for an open take tells
open_from : (s : State) → is_open s ≡ true → s ≡ Open
open_from Withdrawn e = cc
open_from Open e = refl
open_from Standing e = cc

-- kinds with one number are one kind
kinds_alike : (a b : Kind) → kind_number a ≡ kind_number b → a ≡ b
kinds_alike Sound Sound e = refl
kinds_alike Sound Mark e = absurd (omega arith)
kinds_alike Mark Sound e = absurd (omega arith)
kinds_alike Mark Mark e = refl

room_left : (s : Session) (size : ℕ) → size ≤ 65536 → has_room s size ≡ true → s.entries < 65535
room_left s size few h = omega (arith, ltb-true (s.entries + 1) size h)

pub begin_follows : (s : Session) (size t p : ℕ) (test : Result (Unit {0}) Refusal) → 1 ≤ s.entries → size ≤ 65536 → test ≡ passed (begin_refusal s size t p) → test ≡ Ok tt → SessionFollows s (Begin t p)
begin_follows s size t p test opened few tested was =
    let h = sym tested ∙ was in
    let room = unless (has_room s size) Full None in
    let many = unless (nat_lt s.table.inner.count 64) TooManyTakes room in
    let beyond = unless (nat_le p (track_end s t)) BeyondEnd many in
    let taken = unless (not (open_on (table_of s) t s.table.inner.count)) TakeOpen beyond in
    let a = passed_test (has_track s t) NoSuchTrack taken h in
    let b = passed_test (not (open_on (table_of s) t s.table.inner.count)) TakeOpen beyond a.1 in
    let c = passed_test (nat_le p (track_end s t)) BeyondEnd many b.1 in
    let d = passed_test (nat_lt s.table.inner.count 64) TooManyTakes room c.1 in
    let e = passed_test (has_room s size) Full None d.1 in
    let there = and_parts _ _ a.0 in (
      room_left s size few e.0,
      opened,
      (leb-true 1 t there.0, leb-true t s.header.tracks there.1),
      (not-true _ b.0, leb-true p (track_end s t) c.0, ltb-true s.table.inner.count 64 d.0),
    )

pub end_follows : (s : Session) (size k : ℕ) (test : Result (Unit {0}) Refusal) → 1 ≤ s.entries → size ≤ 65536 → test ≡ passed (end_refusal s size k) → test ≡ Ok tt → SessionFollows s (Trailer k)
end_follows s size k test opened few tested was =
    let h = sym tested ∙ was in
    let room = unless (has_room s size) Full None in
    let shut = unless (is_open (table_of s k).state) NotOpen room in
    let a = passed_test (has_take s k) NoSuchTake shut h in
    let b = passed_test (is_open (table_of s k).state) NotOpen room a.1 in
    let c = passed_test (has_room s size) Full None b.1 in
    (room_left s size few c.0, opened, tt, open_from (table_of s k).state b.0)

pub withdraw_follows : (s : Session) (size t k : ℕ) (test : Result (Unit {0}) Refusal) → k ≡ chosen s t → 1 ≤ s.entries → size ≤ 65536 → test ≡ passed (withdraw_refusal s size t) → test ≡ Ok tt → SessionFollows s (Withdrawal t k)
withdraw_follows s size t k test e opened few tested was =
    let h = sym tested ∙ was in
    let room = unless (has_room s size) Full None in
    let none = unless (nat_lt 0 (chosen s t)) NoneStanding room in
    let taken = unless (not (open_on (table_of s) t s.table.inner.count)) TakeOpen none in
    let a = passed_test (has_track s t) NoSuchTrack taken h in
    let b = passed_test (not (open_on (table_of s) t s.table.inner.count)) TakeOpen none a.1 in
    let c = passed_test (nat_lt 0 (chosen s t)) NoneStanding room b.1 in
    let d = passed_test (has_room s size) Full None c.1 in
    let there = and_parts _ _ a.0 in (
      room_left s size few d.0,
      opened,
      (leb-true 1 t there.0, leb-true t s.header.tracks there.1),
      (not-true _ b.0, let c' = ltb-true 0 (chosen s t) c.0 in omega arith, sym e),
    )

pub record_follows : (s : Session) (size k : ℕ) (kind : Kind) (n c : ℕ) (lawful : Bool) (test : Result (Unit {0}) Refusal) → c ≡ n → 1 ≤ s.entries → size ≤ 65536
    → test ≡ passed (record_refusal s size k kind n lawful) → test ≡ Ok tt → SessionFollows s (Block k c)
record_follows s size k kind n c lawful test same opened few tested was =
    let h = sym tested ∙ was in
    let at = kind_of s.header (table_of s k).track in
    let room = unless (has_room s size) Full None in
    let bad = unless lawful Unlawful room in
    let many = unless (has_place kind n) BadCount bad in
    let other = unless (kind_number kind == kind_number at) OtherKind many in
    let shut = unless (is_open (table_of s k).state) NotOpen other in
    let a = passed_test (has_take s k) NoSuchTake shut h in
    let b = passed_test (is_open (table_of s k).state) NotOpen other a.1 in
    let d = passed_test (kind_number kind == kind_number at) OtherKind many b.1 in
    let e = passed_test (has_place kind n) BadCount bad d.1 in
    let f = passed_test lawful Unlawful room e.1 in
    let g = passed_test (has_room s size) Full None f.1 in
    let same_kind = kinds_alike kind at (eqb-true (kind_number kind) (kind_number at) d.0) in
    let place = and_parts _ _ e.0 in
    let fits : Counts kind n = (leb-true 1 n place.0, leb-true n (capacity_of kind) place.1) in
    let counts : Counts at c = subst (λ (x : Kind). Counts x c) same_kind (subst (λ (m : ℕ). Counts kind m) (sym same) fits) in
    (room_left s size few g.0, opened, counts, open_from (table_of s k).state b.0)
