-- Whatever happens in a sitting is a step of the theory.
use Rattle.std.proofs.Common.{◌≡◌, ℕ, Bool, [], ◌∷◌, None, Ok, Err, Result, sym, refl, ap, subst, ⊎_elim}
use Rattle.device.specs.Faults.{Answer}
use Rattle.device.specs.Meaning.{Meaning}
use Rattle.device.specs.Meaning
use Rattle.device.specs.Calls.{Flushes}
use Rattle.device.specs.Cuts.{Cut}
use Rattle.journal.specs.declared.header.Header.{Header}
use Rattle.journal.specs.Headers.{Lawful, header_bytes}
use Rattle.journal.specs.Log.{LogEntry}
use Rattle.recorder.specs.declared.State.{State}
use Rattle.recorder.specs.declared.State.TheVariants.{Unmounted, Mounted, Armed}
use Rattle.recorder.specs.declared.call.Call.TheVariants.{Save}
use Rattle.recorder.specs.declared.failed.Name.TheVariants.{Save as SaveCall}
use Rattle.recorder.specs.declared.failed.Failed.{Failed}
use Rattle.recorder.specs.Refusals.{refusal}
use Rattle.recorder.specs.Answers.{answered}
use Rattle.recorder.specs.Entries.{Flushed}
use Rattle.recorder.proofs.Devices.{HasFlushed, flushed, not_flushed}
use Rattle.sitting.specs.Books.{Book}
use Rattle.sitting.specs.Events.{noted, Asked, Format, Mount, Arm, Begin, Record, End, Withdraw, Play, Export, Event, called}
use Rattle.sitting.specs.Events
use Rattle.sitting.specs.Sittings.{went_off, numbered, SavesBy, Looks, NotFormatted, Does, Happens}
use Rattle.sitting.proofs.Runs.{Recorder, unmounted, mounted, armed, Nothing, Saved, Step, save, save_armed, cut}
use Rattle.sitting.proofs.LogScheme.{log_scheme}
use Rattle.sitting.proofs.Projections.{on, disk, flushes, cuts}
use Rattle.sitting.proofs.Links.{Goes, Advances, noted_as, unchanged, lost, settled, decided}
use Rattle.sitting.proofs.Entering.{begins, ends, withdraws, records}
use Rattle.sitting.proofs.Arming.{arms}
use Rattle.sitting.proofs.Mounting.{mounts}

-- what the book notes of an event
abbrev pub noted_of : Event → Book LogEntry → Book LogEntry
noted_of (called asked r off) b = noted asked r off b
noted_of Events.cut b = b

-- a recorder that is mounted or armed saves
save_step : (hd : Header) (st : State) (r : Recorder LogEntry) (m m' : Meaning) → Goes hd st r → refusal st m.size Save ≡ None → HasFlushed m m' → Step (log_scheme hd) (disk m) (disk m') (on m.power) r Saved (on m'.power) r
save_step hd Unmounted r m m' g e f = cc
save_step hd (Mounted s) unmounted m m' g e f = absurd g
save_step hd (Mounted s) (armed h) m m' g e f = absurd g
save_step hd (Mounted s) (mounted h) m m' g e f = subst (λ (x : Bool). Step (log_scheme hd) (disk m) (disk m') x (mounted h) Saved (on m'.power) (mounted h)) (sym (ap on f.power)) (save (flushes m m' f))
save_step hd (Armed a) unmounted m m' g e f = absurd g
save_step hd (Armed a) (mounted h) m m' g e f = absurd g
save_step hd (Armed a) (armed h) m m' g e f = subst (λ (x : Bool). Step (log_scheme hd) (disk m) (disk m') x (armed h) Saved (on m'.power) (armed h)) (sym (ap on f.power)) (save_armed (flushes m m' f))

module _ (hd : Header) (st : State) (r : Recorder LogEntry) (g : Goes hd st r) (m : Meaning) (st' : State) (m' : Meaning) where
  module _ (off : Bool) where
    by_flush : (a : Answer) → st' ≡ st → refusal st m.size Save ≡ None → Flushes m a m' → Advances hd r m st' m' (noted Events.Save (numbered (answered SaveCall 0 0 tt a)) off)
    by_flush (Ok x) same e d = record {
      after = r;
      told = Saved;
      step = save_step hd st r m m' g e (flushed m m' d);
      goes = subst (λ (z : State). Goes hd z r) (sym same) g;
      notes = λ b. refl;
      proper = λ z. cc;
    }
    by_flush (Err f) same e d = ⊎_elim (λ t. unchanged hd r m st' m' st same g t.1) (λ l. lost hd r m st' m' st same g f l) (not_flushed m m' f d)

    saves : (answer : Result ℕ Failed) → SavesBy st m answer st' m' → Advances hd r m st' m' (noted Events.Save answer off)
    saves answer (s, e, d) =
        noted_as hd r m st' m' (noted Events.Save (numbered s) off) (noted Events.Save answer off) (λ b. ap (λ (x : Result ℕ Failed). noted Events.Save x off b) (sym e))
        (decided hd r m st st' m' g (refusal st m.size Save) s (λ x. noted Events.Save (numbered x) off) (Flushed st m s st' m') (λ x b. refl)
        (λ i c. subst (λ (x : Result (Unit {0}) Failed). Advances hd r m st' m' (noted Events.Save (numbered x) off)) (sym c.says) (by_flush c.flush c.same i c.did)) d)

  -- a call that only reads
  looks : Looks st m st' m' → Advances hd r m st' m' (λ b. b)
  looks (same, d) =
      ⊎_elim (λ e. unchanged hd r m st' m' st same g e)
      (λ z. ⊎_elim (λ k. settled hd r m st' m' st same g k.0 k.1) (λ l. lost hd r m st' m' st same g l.0 l.1) z) d

  -- a format that has not begun to write
  not_formatted : (answer : Result ℕ Failed) → NotFormatted answer st m st' m' → Advances hd r m st' m' (λ b. b)
  not_formatted (Ok n) d = absurd d
  not_formatted (Err e) (same, d) = unchanged hd r m st' m' st same g d

  -- a power cut
  cut_off : st' ≡ Unmounted → Cut m m' → Advances hd r m st' m' (λ b. b)
  cut_off same c = record {
    after = unmounted;
    told = Nothing;
    step = subst (λ (x : Bool). Step (log_scheme hd) (disk m) (disk m') (on m.power) r Nothing x unmounted) (sym (ap on c.power)) (cut (cuts m m' c));
    goes = subst (λ (z : State). Goes hd z unmounted) (sym same) tt;
    notes = λ b. refl;
    proper = λ z. cc;
  }

  -- whatever happens, on a device whose first sector holds the header
  module _ (layer : ℕ) (lawful : Lawful hd) (law : Meaning.Lawful m) (header : disk m 0 ≡ header_bytes hd ∷ []) where
    does : (asked : Asked) (answer : Result ℕ Failed) (off : Bool) → off ≡ went_off m.power m'.power → Does layer asked answer st m st' m' → Advances hd r m st' m' (noted asked answer off)
    does (Format kinds rate sitting) answer off went d = not_formatted answer d
    does Mount answer off went d = mounts layer hd lawful m header st' m' st r g answer off d
    does Arm answer off went d = arms layer hd st r g m law st' m' answer off went d
    does (Begin t p) answer off went d = begins layer hd st r g m law st' m' answer off went t p d
    does (Record kind k items) answer off went (honest, d) = records layer hd st r g m law st' m' answer off went kind k items honest d
    does (End k) answer off went d = ends layer hd st r g m law st' m' answer off went k d
    does (Withdraw t) answer off went d = withdraws layer hd st r g m law st' m' answer off went t d
    does Events.Save answer off went d = saves off answer d
    does (Play kind t from) answer off went d = looks d
    does (Export t) answer off went d = looks d

    pub happens : (e : Event) → Happens layer e st m st' m' → Advances hd r m st' m' (noted_of e)
    happens (called asked answer off) (d, went) = does asked answer off went d
    happens Events.cut (same, c) = cut_off same c
