-- A fault that a call tells names the sector that was asked, and the layer of the device where it arose: in whatever state the recorder is,
-- and on whatever device.
use Rattle.std.proofs.Common.{◌≡◌, ℕ, suc, ◌+◌, ◌-◌, ◌<◌, min, Bool, List, [], length, Option, Some, None, Result, Ok, Err, refl, sym, subst, ap, ◌∙◌, ⊎_elim, arith}
use Rattle.device.specs.declared.fault.Cause.{Cause}
use Rattle.device.specs.declared.fault.Fault.{Fault}
use Rattle.device.specs.Faults.{Answer}
use Rattle.device.specs.Meaning.{Meaning, Lawful, newest}
use Rattle.device.specs.Calls.{ByAnswer, Refused as RefusedRead, Went, Accepted, Reads, Writes, Flushes, filled, standing}
use Rattle.device.specs.Piles.{Pile, LayerAt, Arises, NamesSector, Named, sector_named}
use Rattle.device.proofs.Steps.{by_some}
use Rattle.device.proofs.Named.{read_names, power_names}
use Rattle.element.specs.declared.kind.Kind.{Kind}
use Rattle.takes.specs.declared.Outline.{Outline}
use Rattle.takes.specs.declared.Outline.TheVariants.{Opening as OpeningEntry}
use Rattle.journal.specs.declared.header.Header.{Header}
use Rattle.journal.specs.declared.session.Session.{Session}
use Rattle.journal.specs.Sessions.{session_place}
use Rattle.recorder.specs.declared.State.{State}
use Rattle.recorder.specs.declared.State.TheVariants.{Unmounted, Mounted, Armed}
use Rattle.recorder.specs.declared.refusal.Refusal.{Refusal}
use Rattle.recorder.specs.declared.failed.Name.{Name}
use Rattle.recorder.specs.declared.failed.Name.TheVariants.{Save as SaveCall, Play as PlayCall, Export as ExportCall}
use Rattle.recorder.specs.declared.failed.Failed.{Failed}
use Rattle.recorder.specs.declared.failed.Failed.TheVariants.{Refused, Faulted}
use Rattle.recorder.specs.Refusals.{track_end, file_length, play_refusal, export_refusal, if_session}
use Rattle.recorder.specs.Answers.{answered, Decided, OfArmed, OfMounted, OfSession}
use Rattle.recorder.specs.Formats.{Formatted, Formats, header_of}
use Rattle.recorder.specs.Mounts.{Searched, Mounts}
use Rattle.recorder.specs.Entries.{next_sector, Added, ArmStops, ArmFlushes, ArmWrites, Arming, Arms, Begins, Records, Ends, Withdraws, Flushed, Saves}
use Rattle.recorder.specs.Plays.{played, Halted, Painted, SliceDecided, Plays}
use Rattle.recorder.specs.Exports.{exported, Exports}
use Rattle.recorder.proofs.Devices.{lost_cause, not_written, not_flushed}
use Rattle.sitting.specs.Claims.{Names, NamesWithin, place_of}
use Rattle.sitting.specs.Sittings.{numbered}

module _ (p : Pile) (layer : ℕ) (m : Meaning) (law : Lawful m) (named : Named p m) (top : LayerAt p 0 layer) where
  -- the fault that power is off with names whichever sector was asked
  off_names : (s : ℕ) (f : Fault) → m.power ≡ Err f → NamesSector s f × Arises p f
  off_names s f e =
      let n = power_names p m f law named e in
      (n.0 ∙ sym (ap (λ (c : Cause). sector_named c s) (lost_cause m f law e)), n.1)

  -- the fault that stands in the way of sector s names it, as that of a read which is refused for it does
  standing_names : (s : ℕ) (f : Fault) → standing layer m s ≡ Some f → NamesSector s f × Arises p f
  standing_names s f e = read_names p layer s m m law law named named top f [] [] read
    where
      read : Reads layer m s [] (Err f) m []
      read =
          by_some (λ g. RefusedRead g m (Err f) m × ([] ≡ []))
          (Went m m.sector (Accepted m.sector m) (Err f) m × ([] ≡ filled (Err f) (newest (m.sector s)) []))
          (standing layer m s) f e (record { says = refl; same = refl }, refl)

  -- so does the fault of a write to it, after which the device means this
  write_names : (s : ℕ) (f : Fault) (before : Meaning) (content : List ℕ) → Writes layer before s content (Err f) m → NamesSector s f × Arises p f
  write_names s f before content h =
      ⊎_elim (λ a. standing_names s f (ap (λ (x : Meaning). standing layer x s) a.1 ∙ a.0)) (λ b. off_names s f b.after)
      (not_written layer before m s content f h)

  -- the fault of a flush, after which the device means this, is that of power that is off
  flush_names : (s : ℕ) (f : Fault) (before : Meaning) → Flushes before (Err f) m → NamesSector s f × Arises p f
  flush_names s f before h =
      ⊎_elim (λ a. off_names s f (ap (λ (x : Meaning). x.power) a.1 ∙ a.0)) (λ b. off_names s f b.after) (not_flushed before m f h)

module _ (p : Pile) where
  -- a call that tells what the device answered
  answered_names : (s : ℕ) (call : Name) (t k a : ℕ) (r : Result ℕ Failed) (answer : Answer) → r ≡ answered call t k a answer
      → ((f : Fault) → answer ≡ Err f → NamesSector s f × Arises p f) → Names p s r
  answered_names s call t k a r (Ok x) e due = subst (λ (q : Result ℕ Failed). Names p s q) (sym e) tt
  answered_names s call t k a r (Err f) e due = subst (λ (q : Result ℕ Failed). Names p s q) (sym e) (due f refl)

  -- a call that is refused tells no fault
  decided_names : (s : ℕ) (x : Option Refusal) (r : Result ℕ Failed) (st st' : State) (m m' : Meaning) (P : Type 0)
      → Decided x r st m st' m' P → (P → Names p s r) → Names p s r
  decided_names s (Some x) r st st' m m' P h due = subst (λ (q : Result ℕ Failed). Names p s q) (sym h.0) tt
  decided_names s None r st st' m m' P h due = due h

  -- so it is with a call that only a mounted recorder does, and with one that only an armed recorder does
  mounted_names : (st : State) (x : Option Refusal) (r : Result ℕ Failed) (st' : State) (m m' : Meaning) (P : Session → Type 0)
      → Decided x r st m st' m' (OfMounted st P) → ((s : Session) → P s → Names p (session_place s) r) → Names p (place_of st) r
  mounted_names Unmounted x r st' m m' P h due = decided_names 0 x r Unmounted st' m m' _ h (λ q. absurd q)
  mounted_names (Mounted s) x r st' m m' P h due = decided_names (session_place s) x r (Mounted s) st' m m' _ h (due s)
  mounted_names (Armed a) x r st' m m' P h due = decided_names (session_place a.session) x r (Armed a) st' m m' _ h (λ q. absurd q)

  armed_names : (st : State) (x : Option Refusal) (r : Result ℕ Failed) (st' : State) (m m' : Meaning) (P : Session → Type 0)
      → Decided x r st m st' m' (OfArmed st P) → ((s : Session) → P s → Names p (session_place s) r) → Names p (place_of st) r
  armed_names Unmounted x r st' m m' P h due = decided_names 0 x r Unmounted st' m m' _ h (λ q. absurd q)
  armed_names (Mounted s) x r st' m m' P h due = decided_names (session_place s) x r (Mounted s) st' m m' _ h (λ q. absurd q)
  armed_names (Armed a) x r st' m m' P h due = decided_names (session_place a.session) x r (Armed a) st' m m' _ h (due a.session)

-- a device, with the laws of every device, before and after a call
module _ {D : Type 0} (means : D → Meaning) (p : Pile) (layer : ℕ) (named : (d : D) → Named p (means d)) (law : (d : D) → Lawful (means d)) (top : LayerAt p 0 layer) (d d' : D) where
  -- format
  formatted_names : (hd : Header) (st st' : State) (r : Result ℕ Failed) → Formatted layer hd st (means d) r st' (means d') → Names p 0 r
  formatted_names hd st st' (Ok n) h = tt
  formatted_names hd st st' (Err (Refused x)) h = tt
  formatted_names hd st st' (Err (Faulted call t k f)) h =
      let off = off_names p layer (means d') (law d') (named d') top 0 f in
      ⊎_elim (λ a. standing_names p layer (means d) (law d) (named d) top 0 f a.0) (λ b. ⊎_elim (λ c. off c.after) (λ c. off c.after) b) h.4

  pub format_names : (st st' : State) (kinds : List ℕ) (rate sitting : ℕ) (r : Result ℕ Failed)
      → Formats layer st (means d) kinds rate sitting r st' (means d') → Names p 0 r
  format_names st st' kinds rate sitting r h =
      decided_names p 0 _ r st st' (means d) (means d') _ h (formatted_names (header_of kinds rate sitting) st st' r)

  -- mount
  searched_names : (st st' : State) (r : Result ℕ Failed) → Searched layer st (means d) r st' (means d') → Names p 0 r
  searched_names st st' (Ok n) h = tt
  searched_names st st' (Err (Refused x)) h = tt
  searched_names st st' (Err (Faulted call t k f)) h =
      ⊎_elim (λ a. standing_names p layer (means d) (law d) (named d) top 0 f a.0)
      (λ b. off_names p layer (means d') (law d') (named d') top 0 f b.after) h.4

  pub mount_names : (st st' : State) (r : Result ℕ Failed) → Mounts layer st (means d) r st' (means d') → Names p 0 r
  mount_names st st' r h = decided_names p 0 _ r st st' (means d) (means d') _ h (searched_names st st' r)

  -- save
  flushed_names : (st st' : State) (r : Result (Unit {0}) Failed) → Flushed st (means d) r st' (means d') → Names p 0 (numbered r)
  flushed_names st st' r h = go h.flush h.did h.says
    where
      go : (flush : Answer) → Flushes (means d) flush (means d') → r ≡ answered SaveCall 0 0 tt flush → Names p 0 (numbered r)
      go (Ok x) did e = subst (λ (q : Result (Unit {0}) Failed). Names p 0 (numbered q)) (sym e) tt
      go (Err f) did e =
          subst (λ (q : Result (Unit {0}) Failed). Names p 0 (numbered q)) (sym e)
          (flush_names p layer (means d') (law d') (named d') top 0 f (means d) did)

  pub save_names : (st st' : State) (r : Result (Unit {0}) Failed) → Saves st (means d) r st' (means d') → Names p 0 (numbered r)
  save_names st st' r h = go _ h
    where
      go : (x : Option Refusal) → Decided x r st (means d) st' (means d') (Flushed st (means d) r st' (means d')) → Names p 0 (numbered r)
      go (Some x) h = subst (λ (q : Result (Unit {0}) Failed). Names p 0 (numbered q)) (sym h.0) tt
      go None h = flushed_names st st' r h

  -- arm, its last step first
  arm_flushes_names : (s : Session) (m : Meaning) (st' : State) (r : Result ℕ Failed) → ArmFlushes s m r st' (means d') → Names p (session_place s) r
  arm_flushes_names s m st' r h =
      answered_names p (session_place s) _ _ _ _ r h.flush h.says
      (λ f e. flush_names p layer (means d') (law d') (named d') top (session_place s) f m (subst (λ (a : Answer). Flushes m a (means d')) e h.did))

  arm_stops_names : (s : Session) (left : Meaning) (st' : State) (r : Result ℕ Failed) (f : Fault) → ArmStops s left r st' (means d') f
      → (left ≡ means d' → NamesSector (session_place s) f × Arises p f) → Names p (session_place s) r
  arm_stops_names s left st' r f h due = subst (λ (q : Result ℕ Failed). Names p (session_place s) q) (sym h.0) (due (sym h.2))

  arm_writes_names : (s : Session) (m : Meaning) (st' : State) (r : Result ℕ Failed) → ArmWrites layer s m r st' (means d') → Names p (session_place s) r
  arm_writes_names s m st' r h = go h.write h.did h.after
    where
      go : (write : Answer) → Writes layer m (session_place s) (next_sector s OpeningEntry []) write h.left
          → ByAnswer write (ArmFlushes s h.left r st' (means d')) (ArmStops s h.left r st' (means d')) → Names p (session_place s) r
      go (Ok x) did after = arm_flushes_names s h.left st' r after
      go (Err f) did after =
          arm_stops_names s h.left st' r f after
          (λ e. write_names p layer (means d') (law d') (named d') top (session_place s) f m (next_sector s OpeningEntry [])
          (subst (λ (x : Meaning). Writes layer m (session_place s) (next_sector s OpeningEntry []) (Err f) x) e did))

  arming_names : (s : Session) (m : Meaning) (st' : State) (r : Result ℕ Failed) → Arming layer s m r st' (means d') → Names p (session_place s) r
  arming_names s m st' r h = go h.flush h.did h.after
    where
      go : (flush : Answer) → Flushes m flush h.left → ByAnswer flush (ArmWrites layer s h.left r st' (means d')) (ArmStops s h.left r st' (means d'))
          → Names p (session_place s) r
      go (Ok x) did after = arm_writes_names s h.left st' r after
      go (Err f) did after =
          arm_stops_names s h.left st' r f after
          (λ e. flush_names p layer (means d') (law d') (named d') top (session_place s) f m (subst (λ (x : Meaning). Flushes m (Err f) x) e did))

  pub arm_names : (st st' : State) (r : Result ℕ Failed) → Arms layer st (means d) r st' (means d') → Names p (place_of st) r
  arm_names st st' r h = mounted_names p st _ r st' (means d) (means d') _ h (λ s. arming_names s (means d) st' r)

  -- the calls that add an entry
  added_names : (st st' : State) (s : Session) (o : Outline) (elements : List ℕ) (call : Name) (t k a : ℕ) (r : Result ℕ Failed)
      → Added layer st s o elements call t k a (means d) r st' (means d') → Names p (session_place s) r
  added_names st st' s o elements call t k a r h =
      answered_names p (session_place s) call t k a r h.write h.says
      (λ f e. write_names p layer (means d') (law d') (named d') top (session_place s) f (means d) (next_sector s o elements)
      (subst (λ (w : Answer). Writes layer (means d) (session_place s) (next_sector s o elements) w (means d')) e h.did))

  pub begin_names : (st st' : State) (t at : ℕ) (r : Result ℕ Failed) → Begins layer st (means d) t at r st' (means d') → Names p (place_of st) r
  begin_names st st' t at r h = armed_names p st _ r st' (means d) (means d') _ h (λ s. added_names st st' s _ _ _ _ _ _ r)

  pub record_names : {E : Type 0} (kind : Kind) (lawful : E → Bool) (bytes : E → List ℕ) (st st' : State) (k : ℕ) (xs : List E) (r : Result ℕ Failed)
      → Records layer kind lawful bytes st (means d) k xs r st' (means d') → Names p (place_of st) r
  record_names kind lawful bytes st st' k xs r h = armed_names p st _ r st' (means d) (means d') _ h (λ s. added_names st st' s _ _ _ _ _ _ r)

  pub end_names : (st st' : State) (k : ℕ) (r : Result ℕ Failed) → Ends layer st (means d) k r st' (means d') → Names p (place_of st) r
  end_names st st' k r h = armed_names p st _ r st' (means d) (means d') _ h (λ s. added_names st st' s _ _ _ _ _ _ r)

  pub withdraw_names : (st st' : State) (t : ℕ) (r : Result ℕ Failed) → Withdraws layer st (means d) t r st' (means d') → Names p (place_of st) r
  withdraw_names st st' t r h = armed_names p st _ r st' (means d) (means d') _ h (λ s. added_names st st' s _ _ _ _ _ _ r)

  -- play and export, which paint the sectors of the log
  module _ {E : Type 0} (call : Name) (st st' : State) (t : ℕ) (out out' : List E) where
    halted_names : (entries : ℕ) (made : ℕ → List E) (f : Fault) → Halted layer entries (means d) made f (means d') out'
        → (q : ℕ) × (q < entries + 1) × NamesSector q f × Arises p f
    halted_names entries made f h =
        let within : suc h.done < entries + 1 = omega (arith, h.fewer) in
        ⊎_elim
        (λ a. let n = standing_names p layer (means d) (law d) (named d) top (suc h.done) f a.0 in (suc h.done, within, n.0, n.1))
        (λ b. let n = off_names p layer (means d') (law d') (named d') top (suc h.done) f b.after in (suc h.done, within, n.0, n.1)) h.device

    painted_names : (entries answer : ℕ) (made : ℕ → List E) (r : Result ℕ Failed) → Painted layer call entries st (means d) t answer made out r st' (means d') out'
        → NamesWithin p (entries + 1) r
    painted_names entries answer made (Ok n) h = tt
    painted_names entries answer made (Err (Refused x)) h = tt
    painted_names entries answer made (Err (Faulted call' t' k f)) h =
        ⊎_elim (λ a. let n = off_names p layer (means d) (law d) (named d) top 0 f a.0 in (0, omega arith, n.0, n.1)) (halted_names entries made f) h.4

    slice_names : (x : Option Refusal) (place : ℕ) (r : Result ℕ Failed) (P : Type 0) → SliceDecided x r st (means d) out st' (means d') out' P
        → (P → NamesWithin p place r) → NamesWithin p place r
    slice_names (Some x) place r P h due = subst (λ (q : Result ℕ Failed). NamesWithin p place q) (sym h.0) tt
    slice_names None place r P h due = due h

    paint_by_state : (at : State) (x : Option Refusal) (r : Result ℕ Failed) (answer : Session → ℕ) (made : Session → ℕ → List E)
        → SliceDecided x r st (means d) out st' (means d') out' (OfSession at (λ s. Painted layer call s.entries st (means d) t (answer s) (made s) out r st' (means d') out'))
        → NamesWithin p (place_of at) r
    paint_by_state Unmounted x r answer made h = slice_names x 0 r _ h (λ q. absurd q)
    paint_by_state (Mounted s) x r answer made h = slice_names x (session_place s) r _ h (painted_names s.entries (answer s) (made s) r)
    paint_by_state (Armed a) x r answer made h = slice_names x (session_place a.session) r _ h (painted_names a.session.entries (answer a.session) (made a.session) r)

  pub play_names : {E : Type 0} (kind : Kind) (value : List ℕ → E) (width : ℕ) (st st' : State) (t from : ℕ) (out out' : List E) (r : Result ℕ Failed)
      → Plays layer kind value width st (means d) t from out r st' (means d') out' → NamesWithin p (place_of st) r
  play_names kind value width st st' t from out out' r h =
      paint_by_state PlayCall st st' t out out' st (if_session st (λ s. play_refusal s t kind from)) r
      (λ s. min (length out) (track_end s t - from)) (λ s n. played value width s (means d) t from n out) h

  pub export_names : (st st' : State) (t : ℕ) (out out' : List ℕ) (r : Result ℕ Failed) → Exports layer st (means d) t out r st' (means d') out'
      → NamesWithin p (place_of st) r
  export_names st st' t out out' r h =
      paint_by_state ExportCall st st' t out out' st (if_session st (λ s. export_refusal s t (length out))) r
      (λ s. file_length s t) (λ s n. exported s (means d) t n out) h
