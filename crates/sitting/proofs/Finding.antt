-- What a mount in a sitting finds.
use Rattle.std.proofs.Common.{◌≡◌, ◌≢◌, ℕ, Bool, true, false, [], ◌∷◌, ◌++◌, length, nat_le, None, Ok, Err, Result, sym, refl, ap, ◌∙◌, subst}
use Rattle.device.specs.Meaning.{Meaning}
use Rattle.journal.specs.declared.header.Header.{Header}
use Rattle.journal.specs.Headers.{Lawful, header_bytes}
use Rattle.journal.specs.Log.{LogEntry, Log}
use Rattle.recorder.specs.declared.State.{State}
use Rattle.recorder.specs.declared.State.TheVariants.{Unmounted, Mounted, Armed}
use Rattle.recorder.specs.declared.failed.Failed.{Failed}
use Rattle.recorder.specs.declared.failed.Failed.TheVariants.{Refused, Faulted}
use Rattle.recorder.specs.declared.refusal.Refusal.{Refusal}
use Rattle.recorder.specs.declared.refusal.Refusal.TheVariants.{TooSmall, NotUnmounted, NoRecording}
use Rattle.recorder.specs.Refusals.{unless}
use Rattle.recorder.specs.Answers.{Decided}
use Rattle.recorder.specs.Mounts.{IsLog, FoundLog, Searched, Mounts}
use Rattle.sitting.specs.Books.{Book, all_of, first}
use Rattle.sitting.specs.Events.{Format, Arm, Begin, Record, End, Withdraw, Save, Play, Export, Event, called, cut, Events, book}
use Rattle.sitting.specs.Events
use Rattle.sitting.specs.Sittings.{Happens, Sitting, formatted, goes_on}
use Rattle.sitting.specs.Claims.{WhereAccepted, Finds, FindsBook, Secures, FindsSaved}
use Rattle.sitting.proofs.Runs.{Recorder, unmounted, mounted, armed, note, Step}
use Rattle.sitting.proofs.Runs
use Rattle.sitting.proofs.Invariants.{headed, kept}
use Rattle.sitting.proofs.Holds.{one_log}
use Rattle.sitting.proofs.Secured.{Secured, secured_all, secured_first, secured_step, ⊑_later}
use Rattle.sitting.proofs.LogScheme.{log_scheme, log_lawful}
use Rattle.sitting.proofs.Projections.{on, disk}
use Rattle.sitting.proofs.Mounting.{mount_step, header_same, log_found, newest_readable, header_newest}
use Rattle.sitting.proofs.Happening.{happens}
use Rattle.sitting.proofs.Abstraction.{Abstracts, book_goes_on, sitting_lawful, abstracted}

-- An accepted mount of an unmounted recorder, with power on, in a sitting of the theory.
module _ (layer : ℕ) (hd : Header) (lawful : Lawful hd) (es : Events) (m : Meaning) (st' : State) (m' : Meaning)
    (s : Runs.Sitting (log_scheme hd) (book es) (disk m) (on m.power) unmounted) where
  headed_disk : disk m 0 ≡ header_bytes hd ∷ []
  headed_disk = headed (log_scheme hd) (log_lawful hd lawful) (book es) (disk m) (on m.power) unmounted s

  module _ (n : ℕ) (f : FoundLog m n st' m') where
    found_first : Runs.Finds (log_scheme hd) (disk m') n (book es)
    found_first =
        kept (log_scheme hd) (log_lawful hd lawful) (book es) (disk m) (disk m') (on m'.power) n (mounted f.log)
        (subst (λ (b : Bool). Runs.Sitting (log_scheme hd) (book es) (disk m) b unmounted) (ap on f.power) s)
        (subst (λ (b : Bool). Step (log_scheme hd) (disk m) (disk m') b unmounted (Runs.Mounted n) (on m'.power) (mounted f.log)) (ap on f.power)
        (mount_step layer hd lawful m headed_disk st' m' n f))

    -- the log that it found is that of the book
    same_log : first n (all_of (book es)) ≡ f.log
    same_log =
        one_log (log_scheme hd) (log_lawful hd lawful) (disk m') (first n (all_of (book es))) f.log found_first.log
        (log_found layer hd lawful m headed_disk st' m' n f)

    finds : Finds hd (book es) m n
    finds = record {
      log = subst (IsLog hd m) (sym same_log) (subst (λ (x : Header). IsLog x m f.log) (header_same layer hd lawful m headed_disk st' m' n f) f.is_log);
      count = found_first.counted;
      safe = found_first.safe;
    }

  -- and a mount that was not refused at once
  searched_finds : (r : Result ℕ Failed) → Searched layer Unmounted m r st' m' → FindsBook hd (book es) m r
  searched_finds (Ok n) f = finds n f
  searched_finds (Err (Refused x)) (e, none, same, k, readable, power) = absurd (none hd lawful (newest_readable m 0 (header_bytes hd) (header_newest layer hd lawful m headed_disk st' m')).1)
  searched_finds (Err (Faulted call t k f)) d = tt

-- a refusal that is not for want of a recording
refused_finds : (hd : Header) (b : Book LogEntry) (m : Meaning) (r : Result ℕ Failed) (x : Refusal) → r ≡ Err (Refused x) → x ≢ NoRecording → FindsBook hd b m r
refused_finds hd b m r x e ne = subst (FindsBook hd b m) (sym e) ne

small_finds : (layer : ℕ) (hd : Header) (b : Book LogEntry) (m : Meaning) (r : Result ℕ Failed) (st' : State) (m' : Meaning) (big : Bool)
    → Decided (unless big TooSmall None) r Unmounted m st' m' (Searched layer Unmounted m r st' m') → (Searched layer Unmounted m r st' m' → FindsBook hd b m r) → FindsBook hd b m r
small_finds layer hd b m r st' m' true did then = then did
small_finds layer hd b m r st' m' false did then = refused_finds hd b m r TooSmall did.0 (λ e. cc)

module _ (layer : ℕ) (hd : Header) (es : Events) (m : Meaning) (st' : State) (m' : Meaning) (r : Result ℕ Failed) where
  by_state : (st : State) (a : Abstracts hd es st m) → Lawful hd → Mounts layer st m r st' m' → FindsBook hd (book es) m r
  by_state Unmounted (unmounted, g, s, law) lawful did = small_finds layer hd (book es) m r st' m' (nat_le 2 m.size) did (searched_finds layer hd lawful es m st' m' s r)
  by_state Unmounted (mounted h, g, s, law) lawful did = absurd g
  by_state Unmounted (armed h, g, s, law) lawful did = absurd g
  by_state (Mounted x) a lawful did = refused_finds hd (book es) m r NotUnmounted did.0 (λ e. cc)
  by_state (Armed x) a lawful did = refused_finds hd (book es) m r NotUnmounted did.0 (λ e. cc)

  -- whatever a mount answers in a sitting
  pub mount_finds_book : (st : State) → Sitting layer hd es st m → Mounts layer st m r st' m' → FindsBook hd (book es) m r
  mount_finds_book st z did = by_state st (abstracted layer hd z) (sitting_lawful layer hd z) did

-- an accepted save or arming makes every entry of the book safe
secures : (e : Event) (es : Events) → Secures e → (book (e ∷ es)).safe ≡ length (book (e ∷ es)).entries
secures (called (Format kinds rate sitting) r off) es h = absurd h
secures (called Events.Mount r off) es h = absurd h
secures (called Arm (Ok n) off) es h = refl
secures (called Arm (Err x) off) es h = absurd h
secures (called (Begin t p) r off) es h = absurd h
secures (called (Record kind k items) r off) es h = absurd h
secures (called (End k) r off) es h = absurd h
secures (called (Withdraw t) r off) es h = absurd h
secures (called Save (Ok n) off) es h = refl
secures (called Save (Err x) off) es h = absurd h
secures (called (Play kind t from) r off) es h = absurd h
secures (called (Export t) r off) es h = absurd h
secures cut es h = absurd h

module _ (layer : ℕ) (hd : Header) (e : Event) (earlier : Events) (sec : Secures e) where
  abbrev pub saved_entries : Log
  saved_entries = (book (e ∷ earlier)).entries

  now_secured : Secured saved_entries (book (e ∷ earlier))
  now_secured = secured_all (book (e ∷ earlier)) (secures e earlier sec)

  -- they stay so, whatever happens
  stays_secured : (x : Event) (es : Events) (st st' : State) (m m' : Meaning) → Sitting layer hd es st m → Happens layer x st m st' m' → Secured saved_entries (book es) → Secured saved_entries (book (x ∷ es))
  stays_secured x es st st' m m' z h b =
      let lawful = sitting_lawful layer hd z in
      let (r, g, s, law) = abstracted layer hd z in
      let a = happens hd st r g m st' m' layer lawful law (headed (log_scheme hd) (log_lawful hd lawful) (book es) (disk m) (on m.power) r s) x h in
      subst (Secured saved_entries) (a.notes (book es) ∙ book_goes_on x es)
      (secured_step (log_scheme hd) (log_lawful hd lawful) saved_entries (book es) a.step s a.proper b)

  pub later_secured : {es : Events} {st : State} {m : Meaning} → Sitting layer hd es st m → (later : Events) → es ≡ later ++ (e ∷ earlier) → Secured saved_entries (book es)
  later_secured (formatted kinds rate sitting n m small i f law) [] q = cc
  later_secured (formatted kinds rate sitting n m small i f law) (x ∷ later) q = cc
  later_secured (goes_on {es = es} {e = x} st m z h law) [] q = subst (λ (y : Events). Secured saved_entries (book y)) (sym q) now_secured
  later_secured (goes_on {es = es} {e = x} st {st' = st'} m {m' = m'} z h law) (y ∷ later) q =
      let tail : es ≡ later ++ (e ∷ earlier) = cc in
      stays_secured x es st st' m m' z h (later_secured z later tail)

-- what was saved is found
pub mount_finds_what_was_saved : (layer : ℕ) (hd : Header) (es : Events) (m : Meaning) (st' : State) (m' : Meaning) (r : Result ℕ Failed) (st : State) → Sitting layer hd es st m → Mounts layer st m r st' m'
    → WhereAccepted r (λ n. FindsSaved es n)
mount_finds_what_was_saved layer hd es m st' m' r st z did = record {
  so = λ n ok later earlier e q sec.
      let f : Finds hd (book es) m n = subst (FindsBook hd (book es) m) ok (mount_finds_book layer hd es m st' m' r st z did) in
      ⊑_later (secured_first (book (e ∷ earlier)).entries (book es) n f.safe (later_secured layer hd e earlier sec z later q));
}
