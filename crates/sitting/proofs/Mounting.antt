-- Mount is a step of the theory.
use Rattle.std.proofs.Common.{◌≡◌, ℕ, suc, Bool, true, false, cond, List, [], ◌∷◌, length, nat_lt, Some, None, Ok, Err, Result, sym, refl, ap, ◌∙◌, subst, subst₂, ⊎_elim}
use Rattle.std.proofs.lemmas.Bool.{ltb-true}
use Rattle.device.specs.Meaning.{Sector, sick, held, Meaning, contents}
use Rattle.device.specs.Meaning
use Rattle.device.specs.Calls.{sick_fault}
use Rattle.takes.specs.Entries.{next_place}
use Rattle.journal.specs.declared.header.Header.{Header}
use Rattle.journal.specs.Headers.{Lawful, header_bytes}
use Rattle.journal.specs.Log.{LogEntry, Log, Run, Continues}
use Rattle.recorder.specs.declared.State.{State}
use Rattle.recorder.specs.declared.State.TheVariants.{Unmounted, Mounted, Armed}
use Rattle.recorder.specs.declared.call.Call.TheVariants.{Mount}
use Rattle.recorder.specs.declared.failed.Failed.{Failed}
use Rattle.recorder.specs.declared.failed.Failed.TheVariants.{Refused, Faulted}
use Rattle.recorder.specs.Refusals.{refusal}
use Rattle.recorder.specs.Devices.{Settled, Readable}
use Rattle.recorder.specs.Mounts.{FoundLog, Searched, Mounts}
use Rattle.recorder.specs.Mounts
use Rattle.sitting.specs.Books.{with_found}
use Rattle.sitting.specs.Events.{noted}
use Rattle.sitting.specs.Events
use Rattle.sitting.proofs.Disks.{newest, Settles}
use Rattle.sitting.proofs.Lists.{newest_snoc}
use Rattle.sitting.proofs.Schemes.{Fits, Found, IsLog}
use Rattle.sitting.proofs.Runs.{Recorder, unmounted, mounted, armed, Step, mount}
use Rattle.sitting.proofs.Runs
use Rattle.sitting.proofs.LogScheme.{log_scheme, header_only}
use Rattle.sitting.proofs.Projections.{on, disk, on_sector, settles}
use Rattle.sitting.proofs.Links.{Goes, Advances, unchanged, lost, decided}

-- a sector's newest content, as the theory has it
newest_held : (s : Sector) → sick_fault s ≡ None → newest (contents s) ≡ Some (Meaning.newest s)
newest_held (sick f) e = cc
newest_held (held old new) e = newest_snoc old new

newest_told : (s : Sector) (c : List ℕ) → newest (contents s) ≡ Some c → (sick_fault s ≡ None) × (Meaning.newest s ≡ c)
newest_told (sick f) c e = cc
newest_told (held old new) c e = (refl, let k = newest_snoc old new in cc)

module _ (m : Meaning) (p : ℕ) where
  pub readable_newest : Readable m p → newest (disk m p) ≡ Some (Meaning.newest (m.sector p))
  readable_newest r = ap newest (on_sector m p r.0) ∙ newest_held (m.sector p) r.1

  pub newest_readable : (c : List ℕ) → newest (disk m p) ≡ Some c → Readable m p × (Meaning.newest (m.sector p) ≡ c)
  newest_readable c e = go (nat_lt p m.size) refl
    where
      go : (b : Bool) → nat_lt p m.size ≡ b → Readable m p × (Meaning.newest (m.sector p) ≡ c)
      go true i =
          let t = newest_told (m.sector p) c (sym (ap (λ (x : Bool). newest (cond x (contents (m.sector p)) [])) i) ∙ e) in
          ((ltb-true p m.size i, t.0), t.1)
      go false i = absurd (let z = ap (λ (x : Bool). newest (cond x (contents (m.sector p)) [])) i in cc)

-- what the theory finds, it finds where every newest content stays
found_settled : (hd : Header) (D D' : ℕ → List (List ℕ)) → Settles D D' → (h : Log) → Found (log_scheme hd) D h → Found (log_scheme hd) D' h
found_settled hd D D' s [] f = (s 0).1 ∙ f
found_settled hd D D' s (e ∷ h) f = (found_settled hd D D' s h f.0, f.1, (s (suc (length h))).1 ∙ f.2)

module _ (hd : Header) (m : Meaning) (header : newest (disk m 0) ≡ Some (header_bytes hd)) where
  found_on : (h : Log) → Run hd h → Mounts.Found hd m h → Found (log_scheme hd) (disk m) h
  found_on [] r f = header
  found_on (e ∷ h) r f = (found_on h r.0 f.0, r, readable_newest m (next_place h) f.1 ∙ ap Some f.2)

  -- the log of a device is the log of its disk, and of one that settled
  pub log_on : (m' : Meaning) → Settled m m' → (h : Log) → Run hd h → Mounts.Found hd m h → (Readable m (next_place h) → Continues hd h (Meaning.newest (m.sector (next_place h))) → ⊥) → IsLog (log_scheme hd) (disk m') h
  log_on m' k h r f ends = (found_settled hd (disk m) (disk m') (settles m m' k) h (found_on h r f), last)
    where
      last : (c : List ℕ) → newest (disk m' (next_place h)) ≡ Some c → ¬ (Fits (log_scheme hd) h c)
      last c e (x, a, b) =
          let t = newest_readable m (next_place h) c (sym (settles m m' k (next_place h)).1 ∙ e) in
          ends t.0 (x, a.1, t.1 ∙ b)

-- A mount over a device whose first sector holds the header of the sitting and nothing else.
module _ (layer : ℕ) (hd : Header) (lawful : Lawful hd) (m : Meaning) (header : disk m 0 ≡ header_bytes hd ∷ []) (st' : State) (m' : Meaning) where
  pub header_newest : newest (disk m 0) ≡ Some (header_bytes hd)
  header_newest = ap newest header

  module _ (n : ℕ) (f : FoundLog m n st' m') where
    pub header_same : f.session.header ≡ hd
    header_same = header_only f.session.header hd f.is_log.lawful lawful (sym f.is_log.header ∙ (newest_readable m 0 (header_bytes hd) header_newest).1)

    pub log_found : IsLog (log_scheme hd) (disk m') f.log
    log_found =
        log_on hd m header_newest m' f.kept f.log (subst (λ (x : Header). Run x f.log) header_same f.is_log.run) (subst (λ (x : Header). Mounts.Found x m f.log) header_same f.is_log.found)
        (subst (λ (x : Header). Readable m (next_place f.log) → Continues x f.log (Meaning.newest (m.sector (next_place f.log))) → ⊥) header_same f.is_log.ends)

    -- an accepted mount is a step by itself
    pub mount_step : Step (log_scheme hd) (disk m) (disk m') (on m.power) unmounted (Runs.Mounted n) (on m'.power) (mounted f.log)
    mount_step =
        subst₂ (λ (x : Bool) (y : ℕ). Step (log_scheme hd) (disk m) (disk m') x unmounted (Runs.Mounted y) (on m'.power) (mounted f.log)) (sym (ap on f.power)) (sym f.count)
        (mount f.log (settles m m' f.kept) log_found)

    mount_found : Advances hd unmounted m st' m' (with_found n)
    mount_found = record {
      after = mounted f.log;
      told = Runs.Mounted n;
      step = mount_step;
      goes = subst (λ (x : State). Goes hd x (mounted f.log)) (sym f.state) (record { step = f.step; header = header_same });
      notes = λ b. refl;
      proper = λ e. cc;
    }

  searched : (answer : Result ℕ Failed) (off : Bool) → Searched layer Unmounted m answer st' m' → Advances hd unmounted m st' m' (noted Events.Mount answer off)
  searched (Ok n) off f = mount_found n f
  searched (Err (Refused x)) off (e, none, same, k, readable, power) = absurd (none hd lawful (newest_readable m 0 (header_bytes hd) header_newest).1)
  searched (Err (Faulted call t k f)) off (a, b, c, same, d) =
      ⊎_elim (λ z. unchanged hd unmounted m st' m' Unmounted same tt z.1) (λ z. lost hd unmounted m st' m' Unmounted same tt f z) d

  -- an unmounted recorder's
  by_state : (st : State) (r : Recorder LogEntry) → Goes hd st r → (answer : Result ℕ Failed) (off : Bool) → refusal st m.size Mount ≡ None → Searched layer st m answer st' m' → Advances hd r m st' m' (noted Events.Mount answer off)
  by_state Unmounted unmounted g answer off e d = searched answer off d
  by_state Unmounted (mounted h) g answer off e d = absurd g
  by_state Unmounted (armed h) g answer off e d = absurd g
  by_state (Mounted s) r g answer off e d = cc
  by_state (Armed a) r g answer off e d = cc

  pub mounts : (st : State) (r : Recorder LogEntry) → Goes hd st r → (answer : Result ℕ Failed) (off : Bool) → Mounts layer st m answer st' m' → Advances hd r m st' m' (noted Events.Mount answer off)
  mounts st r g answer off =
      decided hd r m st st' m' g (refusal st m.size Mount) answer (λ x. noted Events.Mount x off) _ (λ x b. refl) (λ e d. by_state st r g answer off e d)
