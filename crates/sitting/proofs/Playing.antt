-- What a call of a recorder that has a log reads of it in a sitting; and a play.
use Rattle.std.proofs.Common.{◌≡◌, ℕ, ◌-◌, ◌*◌, Bool, true, ◌==◌, min, nat_le, ◌⊎◌, List, [], ◌∷◌, ◌++◌, length, map, Some, None, Option, Ok, Err, Result, sym, refl, ap, ap₂, ◌∙◌, subst, inl, inr, ⊎_elim, arith, eqb-true}
use Rattle.std.proofs.lemmas.List.Elements.{All-head, All-tail}
use Rattle.std.specs.List.{flat_map, All}
use Rattle.device.specs.declared.fault.Fault.{Fault}
use Rattle.device.specs.Meaning.{Meaning, newest}
use Rattle.element.specs.declared.kind.Kind.{Kind}
use Rattle.element.specs.Kinds.{kind_number, width_of}
use Rattle.element.specs.Payload.{unpacked}
use Rattle.takes.specs.declared.Row.{Row}
use Rattle.takes.specs.Entries.{next_place}
use Rattle.takes.specs.Table.{end_of}
use Rattle.takes.specs.Tracks.{track}
use Rattle.takes.proofs.Ordered.{ends}
use Rattle.journal.specs.declared.header.Header.{Header}
use Rattle.journal.specs.declared.session.Session.{Session}
use Rattle.journal.specs.Headers.{kind_of, Lawful}
use Rattle.journal.specs.Log.{LogEntry, Log, LawfulElement, Run, entry_bytes}
use Rattle.journal.specs.Shown.{InSectors, cells_each, shown}
use Rattle.journal.proofs.Payloads.{lawful_width}
use Rattle.journal.proofs.InStep.{table_run, rows_same}
use Rattle.journal.proofs.Shows.{painted_log, same_spots, one_cell, one_value}
use Rattle.recorder.specs.declared.State.{State}
use Rattle.recorder.specs.declared.State.TheVariants.{Unmounted, Mounted, Armed}
use Rattle.recorder.specs.declared.failed.Name.{Name}
use Rattle.recorder.specs.declared.failed.Name.TheVariants.{Play as PlayCall}
use Rattle.recorder.specs.declared.failed.Failed.{Failed}
use Rattle.recorder.specs.declared.failed.Failed.TheVariants.{Refused, Faulted}
use Rattle.recorder.specs.declared.refusal.Refusal.{Refusal}
use Rattle.recorder.specs.declared.refusal.Refusal.TheVariants.{NoSuchTrack, OtherKind, BeyondEnd}
use Rattle.recorder.specs.Refusals.{unless, has_track, track_end, play_refusal, if_session}
use Rattle.recorder.specs.Answers.{OfSession}
use Rattle.recorder.specs.Devices.{Settled, Lost}
use Rattle.recorder.specs.Plays.{played, Halted, Painted, SliceDecided, Played, Plays}
use Rattle.sitting.specs.Events.{Events, book}
use Rattle.sitting.specs.Sittings.{Looks, Sitting}
use Rattle.sitting.specs.Claims.{WhereAccepted, PlaysLog}
use Rattle.sitting.proofs.Schemes.{Found}
use Rattle.sitting.proofs.Runs.{Recorder, unmounted, mounted, armed}
use Rattle.sitting.proofs.Runs
use Rattle.sitting.proofs.Invariants.{agreed, found_own}
use Rattle.sitting.proofs.LogScheme.{log_scheme, log_lawful}
use Rattle.sitting.proofs.Projections.{on, disk}
use Rattle.sitting.proofs.Links.{Keeps, unless_none}
use Rattle.sitting.proofs.Mounting.{newest_readable}
use Rattle.sitting.proofs.Entering.{kinds_alike}
use Rattle.sitting.proofs.Abstraction.{Abstracts, sitting_lawful, abstracted}
use Rattle.sitting.proofs.TrackElements.{track_lawful}

-- The session that a recorder goes by is that of a log, and the newest content at each place of the log is the sector of its entry.
pub record OwnLog (hd : Header) (s : Session) (m : Meaning) (h : Log) : Type 0 where
  pub keeps : Keeps hd s h
  pub held : InSectors hd (λ p. newest (m.sector p)) h

-- what the theory finds stands on the device
held_found : (hd : Header) (m : Meaning) (h : Log) → Found (log_scheme hd) (disk m) h → InSectors hd (λ p. newest (m.sector p)) h
held_found hd m [] f = tt
held_found hd m (e ∷ h) (f, a, i) = (held_found hd m h f, (newest_readable m (next_place h) (entry_bytes hd h e) i).1)

-- With power on, a recorder of a sitting goes by the log of the book's entries.
module _ (hd : Header) (lawful : Lawful hd) (es : Events) (m : Meaning) (P : Session → Type 0) (power : (s : Session) → P s → m.power ≡ Ok tt) where
  abbrev OfBook : Type 0
  OfBook = (s : Session) × P s × OwnLog hd s m (book es).entries

  abbrev RunsTo : Recorder LogEntry → Type 0
  RunsTo r = Runs.Sitting (log_scheme hd) (book es) (disk m) (on m.power) r

  lit : (s : Session) (r : Recorder LogEntry) → P s → RunsTo r → Runs.Sitting (log_scheme hd) (book es) (disk m) true r
  lit s r p z = subst (λ (b : Bool). Runs.Sitting (log_scheme hd) (book es) (disk m) b r) (ap on (power s p)) z

  owned : (s : Session) (h : Log) → P s → Keeps hd s h → (book es).entries ≡ h → Found (log_scheme hd) (disk m) h → OfBook
  owned s h p k e f = (s, p, subst (OwnLog hd s m) (sym e) (record { keeps = k; held = held_found hd m h f }))

  own_by_state : (st : State) → Abstracts hd es st m → OfSession st P → OfBook
  own_by_state Unmounted a p = absurd p
  own_by_state (Mounted s) (unmounted, g, z, law) p = absurd g
  own_by_state (Mounted s) (mounted h, g, z, law) p =
      let u = lit s (mounted h) p z in
      let S = log_scheme hd in
      owned s h p g ((agreed S (log_lawful hd lawful) (book es) (disk m) h).0 u).own ((found_own S (log_lawful hd lawful) (book es) (disk m) h).0 u)
  own_by_state (Mounted s) (armed h, g, z, law) p = absurd g
  own_by_state (Armed a) (unmounted, g, z, law) p = absurd g
  own_by_state (Armed a) (mounted h, g, z, law) p = absurd g
  own_by_state (Armed a) (armed h, g, z, law) p =
      let u = lit a.session (armed h) p z in
      let S = log_scheme hd in
      owned a.session h p g ((agreed S (log_lawful hd lawful) (book es) (disk m) h).1 u).own ((found_own S (log_lawful hd lawful) (book es) (disk m) h).1 u)

pub own_log : (layer : ℕ) (hd : Header) (es : Events) (st : State) (m : Meaning) → Sitting layer hd es st m → (P : Session → Type 0) → ((s : Session) → P s → m.power ≡ Ok tt)
    → OfSession st P → (s : Session) × P s × OwnLog hd s m (book es).entries
own_log layer hd es st m z P power p = own_by_state hd (sitting_lawful layer hd z) es m P power st (abstracted layer hd z) p

-- What a session shows that goes by a log on the device.
module _ (hd : Header) (s : Session) (m : Meaning) (h : Log) (o : OwnLog hd s m h) (t : ℕ) where
  -- its tracks end where the log's do
  pub end_same : track_end s t ≡ length (track h t)
  end_same =
      let i = o.keeps.step in
      sym (ends h (table_run s.header h i.run) t ∙ ap₂ (λ (R : ℕ → Row) (n : ℕ). end_of R t n) (rows_same s h i) (sym i.count))

  -- the log was run with the sitting's header
  pub runs : Run hd h
  runs = subst (λ (x : Header). Run x h) o.keeps.header o.keeps.step.run

  module _ {E : Type 0} (value : List ℕ → E) (w per : ℕ) (each : cells_each s.header t w ≡ per) (even : per * w ≡ width_of (kind_of hd t)) where
    -- all its sectors show the track's cells
    pub played_track : (from : ℕ) (out : List E) → played value w s m t from s.entries out ≡ shown (from * per) (flat_map (unpacked value w per) (track h t)) out
    played_track from out =
        rw (each, same_spots s h o.keeps.step t, o.keeps.step.entries) (painted_log value w per hd h runs (λ p. newest (m.sector p)) o.held t even (from * per) out)

-- elements of one cell each are their values
values : {E : Type 0} (value : List ℕ → E) (kind : Kind) (xs : List (List ℕ)) → All (LawfulElement kind) xs → flat_map (unpacked value (width_of kind) 1) xs ≡ map value xs
values value kind [] l = refl
values value kind (x ∷ xs) l =
    ap₂ (λ a b. a ++ b) (one_value value (width_of kind) x (lawful_width kind x (All-head (LawfulElement kind) x xs l))) (values value kind xs (All-tail (LawfulElement kind) x xs l))

-- a call on a slice that was accepted was not refused, and did what it does
not_refused : {E : Type 0} (due : Option Refusal) (n : ℕ) (st : State) (m : Meaning) (out : List E) (st' : State) (m' : Meaning) (out' : List E) (P : Type 0)
    → SliceDecided due (Ok n) st m out st' m' out' P → (due ≡ None) × P
not_refused (Some x) n st m out st' m' out' P d = absurd (let e = d.0 in cc)
not_refused None n st m out st' m' out' P d = (refl, d)

pub accepted : {E : Type 0} (due : Session → Option Refusal) (n : ℕ) (st : State) (m : Meaning) (out : List E) (st' : State) (m' : Meaning) (out' : List E) (P : Session → Type 0)
    → SliceDecided (if_session st due) (Ok n) st m out st' m' out' (OfSession st P) → OfSession st (λ s. (due s ≡ None) × P s)
accepted due n Unmounted m out st' m' out' P d = absurd (let e = d.0 in cc)
accepted due n (Mounted s) m out st' m' out' P d = not_refused (due s) n (Mounted s) m out st' m' out' (P s) d
accepted due n (Armed a) m out st' m' out' P d = not_refused (due a.session) n (Armed a) m out st' m' out' (P a.session) d

-- a play that is not refused is of the track's own kind
played_kind : (s : Session) (t : ℕ) (kind : Kind) (from : ℕ) → play_refusal s t kind from ≡ None → kind ≡ kind_of s.header t
played_kind s t kind from due =
    let last = unless (nat_le from (track_end s t)) BeyondEnd None in
    let other = unless (kind_number kind == kind_number (kind_of s.header t)) OtherKind last in
    let a = unless_none (has_track s t) NoSuchTrack other due in
    let b = unless_none (kind_number kind == kind_number (kind_of s.header t)) OtherKind last a.1 in
    kinds_alike kind (kind_of s.header t) (eqb-true (kind_number kind) (kind_number (kind_of s.header t)) b.0)

module _ (layer : ℕ) {E : Type 0} (kind : Kind) (value : List ℕ → E) (width : ℕ) (same : width ≡ width_of kind) (st : State) (m : Meaning) (t from : ℕ) (out : List E) (st' : State) (m' : Meaning) (out' : List E) where
  -- a play by the session of a log shows the track of the log
  plays_own : (hd : Header) (s : Session) (h : Log) → OwnLog hd s m h → (n : ℕ) → play_refusal s t kind from ≡ None → Played layer value width s st m t from out (Ok n) st' m' out' → PlaysLog value h t from out n out'
  plays_own hd s h o n due d =
      let alike : kind ≡ kind_of s.header t = played_kind s t kind from due in
      let kinds : kind ≡ kind_of hd t = alike ∙ ap (λ (x : Header). kind_of x t) o.keeps.header in
      let wide : width ≡ width_of (kind_of hd t) = same ∙ ap width_of kinds in
      let one : cells_each s.header t width ≡ 1 = one_cell s.header t width (same ∙ ap width_of alike) in
      let even : 1 * width ≡ width_of (kind_of hd t) = omega (arith, wide) in
      let shows = played_track hd s m h o t value width 1 one even from out in
      let all : flat_map (unpacked value width 1) (track h t) ≡ map value (track h t) =
      ap (λ (w : ℕ). flat_map (unpacked value w 1) (track h t)) wide ∙ values value (kind_of hd t) (track h t) (track_lawful hd h (runs hd s m h o t) t) in (
        d.0 ∙ ap (λ (x : ℕ). min (length out) (x - from)) (end_same hd s m h o t),
        d.2.slice ∙ shows ∙ ap₂ (λ (x : ℕ) (ys : List E). shown x ys out) (omega arith) all,
      )

  -- an accepted play in a sitting shows the track of the book's entries
  pub play_shows_log : (hd : Header) (es : Events) → Sitting layer hd es st m → (r : Result ℕ Failed) → Plays layer kind value width st m t from out r st' m' out'
      → WhereAccepted r (λ n. PlaysLog value (book es).entries t from out n out')
  play_shows_log hd es z r did = record {
    so = λ n ok.
        let P : Session → Type 0 = λ s. (play_refusal s t kind from ≡ None) × Played layer value width s st m t from out (Ok n) st' m' out' in
        let d : Plays layer kind value width st m t from out (Ok n) st' m' out' = subst (λ (x : Result ℕ Failed). Plays layer kind value width st m t from out x st' m' out') ok did in
        let a : OfSession st P = accepted (λ s. play_refusal s t kind from) n st m out st' m' out' (λ s. Played layer value width s st m t from out (Ok n) st' m' out') d in
        let (s, p, o) = own_log layer hd es st m z P (λ s p. p.1.2.power) a in
        plays_own hd s (book es).entries o n p.0 p.1;
  }

-- A call that paints leaves the recorder as it was, and the device as it was but for older contents and its power.
module _ {E : Type 0} (layer entries : ℕ) (m : Meaning) (made : ℕ → List E) (m' : Meaning) (out' : List E) where
  halted_looks : (f : Fault) → Halted layer entries m made f m' out' → ((m.power ≡ Ok tt) × Settled m m') ⊎ ((f : Fault) × Lost f m m')
  halted_looks f h = ⊎_elim (λ a. inl (h.slice.power, a.1)) (λ b. inr (f, b)) h.device

  painted_looks : (call : Name) (st : State) (t answer : ℕ) (out : List E) (r : Result ℕ Failed) (st' : State) → Painted layer call entries st m t answer made out r st' m' out' → Looks st m st' m'
  painted_looks call st t answer out (Ok n) st' d = (d.1, inr (inl (d.2.power, d.3)))
  painted_looks call st t answer out (Err (Refused x)) st' d = absurd d
  painted_looks call st t answer out (Err (Faulted c u k f)) st' d = (d.3, ⊎_elim (λ a. inl a.1) (λ b. inr (halted_looks f b)) d.4)

-- and so does one that is refused
module _ {E : Type 0} (r : Result ℕ Failed) (st : State) (m : Meaning) (out : List E) (st' : State) (m' : Meaning) (out' : List E) where
  slice_looks : (due : Option Refusal) (P : Type 0) → (P → Looks st m st' m') → SliceDecided due r st m out st' m' out' P → Looks st m st' m'
  slice_looks (Some x) P looks d = (d.1, inl d.2)
  slice_looks None P looks d = looks d

  of_session : (u : State) (P : Session → Type 0) → ((s : Session) → P s → Looks st m st' m') → OfSession u P → Looks st m st' m'
  of_session Unmounted P looks p = absurd p
  of_session (Mounted s) P looks p = looks s p
  of_session (Armed a) P looks p = looks a.session p

  pub painting_looks : (layer : ℕ) (call : Name) (due : Session → Option Refusal) (t : ℕ) (answer : Session → ℕ) (made : Session → ℕ → List E)
      → SliceDecided (if_session st due) r st m out st' m' out' (OfSession st (λ s. Painted layer call s.entries st m t (answer s) (made s) out r st' m' out')) → Looks st m st' m'
  painting_looks layer call due t answer made =
      slice_looks (if_session st due) (OfSession st (λ s. Painted layer call s.entries st m t (answer s) (made s) out r st' m' out'))
      (of_session st (λ s. Painted layer call s.entries st m t (answer s) (made s) out r st' m' out')
      (λ s p. painted_looks layer s.entries m (made s) m' out' call st t (answer s) out r st' p))

pub play_looks : {E : Type 0} (layer : ℕ) (kind : Kind) (value : List ℕ → E) (width : ℕ) (st : State) (m : Meaning) (t from : ℕ) (out : List E) (r : Result ℕ Failed) (st' : State) (m' : Meaning) (out' : List E)
    → Plays layer kind value width st m t from out r st' m' out' → Looks st m st' m'
play_looks layer kind value width st m t from out r st' m' out' =
    painting_looks r st m out st' m' out' layer PlayCall (λ s. play_refusal s t kind from) t (λ s. min (length out) (track_end s t - from)) (λ s n. played value width s m t from n out)
