-- Arm is a step of the theory.
use Rattle.std.proofs.Common.{◌≡◌, ℕ, suc, ◌+◌, ◌≤◌, Bool, List, [], ◌∷◌, length, None, Ok, Err, Result, sym, refl, ap, ◌∙◌, subst, subst₂, ap₂, ⊎_elim, arith}
use Rattle.std.proofs.lemmas.Bool.{ltb-true}
use Rattle.device.specs.declared.fault.Fault.{Fault}
use Rattle.device.specs.Faults.{Answer}
use Rattle.device.specs.Meaning.{Meaning, Lawful}
use Rattle.device.specs.Calls.{ByAnswer, Writes, Flushes}
use Rattle.device.proofs.Lists.{settled_kept}
use Rattle.takes.specs.declared.Outline.TheVariants.{Opening}
use Rattle.takes.specs.Entries.{opening}
use Rattle.journal.specs.declared.header.Header.{Header}
use Rattle.journal.specs.declared.session.Session.{Session}
use Rattle.journal.specs.Log.{LogEntry, Log, Run, entry_bytes}
use Rattle.journal.specs.Sessions.{SessionFollows, session_place, Adds}
use Rattle.recorder.specs.declared.State.{State}
use Rattle.recorder.specs.declared.State.TheVariants.{Unmounted, Mounted, Armed}
use Rattle.recorder.specs.declared.call.Call.TheVariants.{Arm}
use Rattle.recorder.specs.declared.failed.Name.TheVariants.{Arm as ArmCall}
use Rattle.recorder.specs.declared.failed.Failed.{Failed}
use Rattle.recorder.specs.declared.failed.Failed.TheVariants.{Faulted}
use Rattle.recorder.specs.declared.refusal.Refusal.TheVariants.{Full}
use Rattle.recorder.specs.Refusals.{has_room, arm_refusal, refusal}
use Rattle.recorder.specs.Answers.{answered, OfArmed, OfMounted}
use Rattle.recorder.specs.Devices.{Settled, Readable}
use Rattle.recorder.specs.Entries.{next_sector, ArmFlushes, ArmStops, ArmWrites, Arming, Arms}
use Rattle.recorder.proofs.Devices.{HasFlushed, HasWritten, LostWriting, flushed, not_flushed, wrote}
use Rattle.sitting.specs.Events.{noted, entered}
use Rattle.sitting.specs.Events
use Rattle.sitting.specs.Sittings.{went_off}
use Rattle.sitting.proofs.Disks
use Rattle.sitting.proofs.Runs.{Recorder, unmounted, mounted, armed, Falters, in_first, after_first, in_write, after_write, in_second, Step, arm, arm_fault}
use Rattle.sitting.proofs.Runs
use Rattle.sitting.proofs.LogScheme.{log_scheme}
use Rattle.sitting.proofs.Projections.{on, disk, flushes, thins, writes, tears}
use Rattle.sitting.proofs.Links.{Keeps, Goes, Advances, stays_as, noted_as, unchanged, settled, decided, unless_none}
use Rattle.sitting.proofs.Additions.{unwritten, place_same, runs, sector_same, armed_after}

-- a flush settles the device
settled_by : (m m' : Meaning) → HasFlushed m m' → Settled m m'
settled_by m m' f = record { size = f.size; each = λ t. settled_kept (m.sector t) (m'.sector t) (f.each t) }

module _ (layer : ℕ) (hd : Header) (s : Session) (h : Log) (k : Keeps hd s h) (f : SessionFollows s Opening) (m : Meaning) (st' : State) (m' : Meaning) where
  the_run : Run hd (opening ∷ h)
  the_run = runs hd s h k opening f tt

  -- the opening is written from one device to another
  opening_written : (n n' : Meaning) → HasWritten n (session_place s) (next_sector s Opening []) n' → Disks.Writes (suc (length h)) (entry_bytes hd h opening) (disk n) (disk n')
  opening_written n n' w =
      subst₂ (λ (p : ℕ) (c : List ℕ). Disks.Writes p c (disk n) (disk n')) (place_same hd s h k) (sector_same hd s h k opening f tt [] refl) (writes n n' _ _ w.free.readable w)

  opening_torn : (n n' : Meaning) (g : Fault) → LostWriting g n (session_place s) (next_sector s Opening []) n' → Readable n (session_place s) → Disks.Tears (suc (length h)) (entry_bytes hd h opening) (disk n) (disk n')
  opening_torn n n' g w there =
      subst₂ (λ (p : ℕ) (c : List ℕ). Disks.Tears p c (disk n) (disk n')) (place_same hd s h k) (sector_same hd s h k opening f tt [] refl) (tears n n' _ _ there g w)

  -- the change of the book, by the answer
  abbrev Armed_by : Result ℕ Failed → Type 0
  Armed_by r = Advances hd (mounted h) m st' m' (noted Events.Arm r (went_off m.power m'.power))

  module _ (g : Fault) (same : st' ≡ Mounted s) where
    -- the fault stood before the arming
    stood : m' ≡ m → Armed_by (Err (Faulted ArmCall 0 0 g))
    stood e =
        noted_as hd (mounted h) m st' m' (λ b. b) (entered opening (Err (Faulted ArmCall 0 0 g)) (went_off m.power m'.power))
        (λ b. ap (λ (x : Bool). entered opening (Err (Faulted ArmCall 0 0 g)) x b) (sym (ap (λ (n : Meaning). went_off m.power n.power) e ∙ stays_as m.power)))
        (unchanged hd (mounted h) m st' m' (Mounted s) same k e)

    -- power went off in the arming
    falters : (q : Fault) → m.power ≡ Ok tt → m'.power ≡ Err q → Falters (log_scheme hd) (suc (length h)) (entry_bytes hd h opening) (disk m) (disk m') → Armed_by (Err (Faulted ArmCall 0 0 g))
    falters q before after w = record {
      after = mounted h;
      told = Runs.Doubted opening;
      step = subst₂ (λ (x y : Bool). Step (log_scheme hd) (disk m) (disk m') x (mounted h) (Runs.Doubted opening) y (mounted h)) (sym (ap on before)) (sym (ap on after))
          (arm_fault opening tt the_run w);
      goes = subst (λ (x : State). Goes hd x (mounted h)) (sym same) k;
      notes = λ b. ap (λ (x : Bool). entered opening (Err (Faulted ArmCall 0 0 g)) x b) (sym (ap₂ went_off before after));
      proper = λ z. cc;
    }

    -- nothing was written, and power may have gone off in the flush
    only_flushed : HasFlushed m m' → Armed_by (Err (Faulted ArmCall 0 0 g))
    only_flushed l = go m'.power refl
      where
        go : (a : Answer) → m'.power ≡ a → Armed_by (Err (Faulted ArmCall 0 0 g))
        go (Ok x) e =
            noted_as hd (mounted h) m st' m' (λ b. b) (entered opening (Err (Faulted ArmCall 0 0 g)) (went_off m.power m'.power))
            (λ b. ap (λ (y : Bool). entered opening (Err (Faulted ArmCall 0 0 g)) y b) (sym (ap₂ went_off l.power e)))
            (settled hd (mounted h) m st' m' (Mounted s) same k l.power (settled_by m m' l))
        go (Err q) e = falters q l.power e (after_first (flushes m m' l))

  -- the first flush answers a fault
  first_stops : (left : Meaning) (g : Fault) (r : Result ℕ Failed) → Flushes m (Err g) left → ArmStops s left r st' m' g → Armed_by r
  first_stops left g r did (says, same, e) =
      subst Armed_by (sym says)
      (⊎_elim (λ t. stood g same (e ∙ t.1))
      (λ l. falters g same g l.before (ap (λ (x : Meaning). x.power) e ∙ l.after)
      (subst (λ (x : Meaning). Falters (log_scheme hd) (suc (length h)) (entry_bytes hd h opening) (disk m) (disk x)) (sym e) (in_first (thins m left g l))))
      (not_flushed m left g did))

  module _ (left : Meaning) (l : HasFlushed m left) where
    -- the write answers a fault
    write_stops : (n : Meaning) (g : Fault) (r : Result ℕ Failed) → Writes layer left (session_place s) (next_sector s Opening []) (Err g) n → ArmStops s n r st' m' g → Armed_by r
    write_stops n g r did (says, same, e) =
        subst Armed_by (sym says)
        (⊎_elim (λ t. only_flushed g same (subst (HasFlushed m) (sym (e ∙ t.1)) l))
        (λ w. falters g same g l.power (ap (λ (x : Meaning). x.power) e ∙ w.0.after)
        (subst (λ (x : Meaning). Falters (log_scheme hd) (suc (length h)) (entry_bytes hd h opening) (disk m) (disk x)) (sym e)
        (in_write (disk left) (flushes m left l) (opening_torn left n g w.0 w.1))))
        (unwritten layer left n _ _ g did))

    module _ (n : Meaning) (w : HasWritten left (session_place s) (next_sector s Opening []) n) where
      -- the second flush answers a fault
      second_stops : (g : Fault) (r : Result ℕ Failed) → Flushes n (Err g) m' → r ≡ Err (Faulted ArmCall 0 0 g) → st' ≡ Mounted s → Armed_by r
      second_stops g r did says same =
          subst Armed_by (sym says)
          (⊎_elim
          (λ t. falters g same g l.power (ap (λ (x : Meaning). x.power) t.1 ∙ t.0)
          (subst (λ (x : Meaning). Falters (log_scheme hd) (suc (length h)) (entry_bytes hd h opening) (disk m) (disk x)) (sym t.1)
          (after_write (disk left) (flushes m left l) (opening_written left n w))))
          (λ z. falters g same g l.power z.after (in_second (disk left) (disk n) (flushes m left l) (opening_written left n w) (thins n m' g z)))
          (not_flushed n m' g did))

      -- the device accepts all three calls
      arms_all : (r : Result ℕ Failed) → HasFlushed n m' → r ≡ Ok (s.epoch + 1) → OfArmed st' (λ s'. Adds s Opening s') → Armed_by r
      arms_all r z says d =
          subst Armed_by (sym says)
          (record {
            after = armed (opening ∷ h);
            told = Runs.Armed opening;
            step = subst (λ (x : Bool). Step (log_scheme hd) (disk m) (disk m') x (mounted h) (Runs.Armed opening) (on m'.power) (armed (opening ∷ h))) (sym (ap on l.power))
                (arm opening (disk left) (disk n) tt the_run (flushes m left l) (opening_written left n w) (flushes n m' z));
            goes = armed_after hd s h k opening f tt st' d;
            notes = λ b. refl;
            proper = λ e. cc;
          })

      last : (r : Result ℕ Failed) (a : Answer) → Flushes n a m' → r ≡ answered ArmCall 0 0 (s.epoch + 1) a → ByAnswer a (OfArmed st' (λ s'. Adds s Opening s')) (λ g. st' ≡ Mounted s) → Armed_by r
      last r (Ok x) did says d = arms_all r (flushed n m' did) says d
      last r (Err g) did says d = second_stops g r did says d

    second : (r : Result ℕ Failed) (n : Meaning) (a : Answer) → Writes layer left (session_place s) (next_sector s Opening []) a n → ByAnswer a (ArmFlushes s n r st' m') (ArmStops s n r st' m') → Armed_by r
    second r n (Ok x) did d = last n (wrote layer left n _ _ did) r d.flush d.did d.says d.after
    second r n (Err g) did d = write_stops n g r did d

  first : (r : Result ℕ Failed) (left : Meaning) (a : Answer) → Flushes m a left → ByAnswer a (ArmWrites layer s left r st' m') (ArmStops s left r st' m') → Armed_by r
  first r left (Ok x) did d = second left (flushed m left did) r d.left d.write d.did d.after
  first r left (Err g) did d = first_stops left g r did d

  arming : (r : Result ℕ Failed) → Arming layer s m r st' m' → Armed_by r
  arming r d = first r d.left d.flush d.did d.after

-- an arming that is not refused has room for its opening
opening_follows : (s : Session) (size : ℕ) → size ≤ 65536 → arm_refusal s size ≡ None → SessionFollows s Opening
opening_follows s size few e =
    let t = unless_none (has_room s size) Full None e in
    let room = ltb-true (s.entries + 1) size t.0 in
    (omega arith, tt, tt, tt)

-- a call of a mounted recorder that is not armed
of_mounted : (hd : Header) (st : State) (r : Recorder LogEntry) (P : State → Session → Type 0) (Q : State → Recorder LogEntry → Type 0) → Goes hd st r → OfMounted st (P st)
    → ((s : Session) (h : Log) → Keeps hd s h → P (Mounted s) s → Q (Mounted s) (mounted h)) → Q st r
of_mounted hd Unmounted r P Q g p then = absurd p
of_mounted hd (Armed a) r P Q g p then = absurd p
of_mounted hd (Mounted s) unmounted P Q g p then = absurd g
of_mounted hd (Mounted s) (armed h) P Q g p then = absurd g
of_mounted hd (Mounted s) (mounted h) P Q g p then = then s h g p

pub arms : (layer : ℕ) (hd : Header) (st : State) (r : Recorder LogEntry) → Goes hd st r → (m : Meaning) → Lawful m → (st' : State) (m' : Meaning) (answer : Result ℕ Failed) (off : Bool) → off ≡ went_off m.power m'.power
    → Arms layer st m answer st' m' → Advances hd r m st' m' (noted Events.Arm answer off)
arms layer hd st r g m law st' m' answer off went =
    decided hd r m st st' m' g (refusal st m.size Arm) answer (λ x. noted Events.Arm x off) _ (λ x b. refl)
    (λ e d. of_mounted hd st r (λ u s. Arming layer s m answer st' m') (λ u v. refusal u m.size Arm ≡ None → Advances hd v m st' m' (noted Events.Arm answer off)) g d
    (λ s h k c due. noted_as hd (mounted h) m st' m' (noted Events.Arm answer (went_off m.power m'.power)) (noted Events.Arm answer off)
    (λ b. ap (λ (x : Bool). noted Events.Arm answer x b) (sym went))
    (arming layer hd s h k (opening_follows s m.size law.size due) m st' m' answer c)) e)
