-- What an accepted record and an accepted withdrawal make of the tracks that the book gives.
use Rattle.std.proofs.Common.{◌≡◌, ℕ, ◌+◌, Bool, List, [], ◌∷◌, length, map, Some, None, Option, Ok, Err, Result, sym, refl, ap, ◌∙◌, subst, subst₂}
use Rattle.std.specs.List.{flat_map, list_all, All}
use Rattle.std.proofs.lemmas.List.{length-map}
use Rattle.device.specs.Faults.{Answer}
use Rattle.device.specs.Meaning.{Meaning}
use Rattle.device.specs.Meaning
use Rattle.device.specs.Calls.{Writes}
use Rattle.element.specs.declared.kind.Kind.{Kind}
use Rattle.takes.specs.declared.Outline.TheVariants.{Begin as BeginEntry, Block as BlockEntry, Trailer as TrailerEntry, Withdrawal as WithdrawalEntry}
use Rattle.takes.specs.Entries.{begin, block, trailer, withdrawal}
use Rattle.takes.specs.Takes.{takes}
use Rattle.journal.specs.declared.header.Header.{Header}
use Rattle.journal.specs.Headers.{Lawful as LawfulHeader}
use Rattle.journal.specs.Log.{LogEntry, Log, LawfulElement, Run}
use Rattle.journal.specs.Sessions.{table_of}
use Rattle.recorder.specs.declared.State.{State}
use Rattle.recorder.specs.declared.call.Call.TheVariants.{Begin, End, Withdraw}
use Rattle.recorder.specs.declared.failed.Name.{Name}
use Rattle.recorder.specs.declared.failed.Name.TheVariants.{Begin as BeginCall, Record as RecordCall, End as EndCall, Withdraw as WithdrawCall}
use Rattle.recorder.specs.declared.failed.Failed.{Failed}
use Rattle.recorder.specs.declared.failed.Failed.TheVariants.{Refused}
use Rattle.recorder.specs.declared.refusal.Refusal.{Refusal}
use Rattle.recorder.specs.Refusals.{passed, refusal, if_armed, chosen, begin_refusal, record_refusal, end_refusal, withdraw_refusal}
use Rattle.recorder.specs.Answers.{answered, Decided}
use Rattle.recorder.specs.Entries.{Added, Begins, Records, Ends, Withdraws}
use Rattle.recorder.proofs.Devices.{wrote}
use Rattle.recorder.proofs.Follows.{begin_follows, record_follows, end_follows, withdraw_follows}
use Rattle.sitting.specs.Events.{Item, Events, book}
use Rattle.sitting.specs.Sittings.{Honest, Sitting}
use Rattle.sitting.specs.Claims.{WhereAccepted, PunchedIn, OtherTracksStay, TracksStay, Restored}
use Rattle.sitting.proofs.Runs.{Recorder, unmounted, mounted, armed}
use Rattle.sitting.proofs.Runs
use Rattle.sitting.proofs.Invariants.{agreed}
use Rattle.sitting.proofs.LogScheme.{log_scheme, log_lawful}
use Rattle.sitting.proofs.Projections.{on, disk}
use Rattle.sitting.proofs.Links.{Goes}
use Rattle.sitting.proofs.Additions.{runs}
use Rattle.sitting.proofs.Entering.{of_armed, allowed, lawful_elements}
use Rattle.sitting.proofs.Abstraction.{sitting_lawful, abstracted}
use Rattle.sitting.proofs.Tracks.{punched_in, block_stays, restored, withdrawal_stays, begin_stays, trailer_stays}

-- the entry was admitted after those that the theory's recorder goes by, and power was on
abbrev Entered : Header → Meaning → Recorder LogEntry → LogEntry → Type 0
Entered hd m r e = (h : Log) × (r ≡ armed h) × Run hd (e ∷ h) × (m.power ≡ Ok tt)

-- an accepted call was not refused
not_refused : {A : Type 0} (n : ℕ) (r : Result ℕ Failed) (x : Refusal) → r ≡ Ok n → r ≡ Err (Refused x) → A
not_refused n r x e q = absurd (let z : ◌≡◌ {A = Result ℕ Failed} (Ok n) (Err (Refused x)) = sym e ∙ q in cc)

-- and its entry was written with power on
had_power : (layer p : ℕ) (c : List ℕ) (m m' : Meaning) (call : Name) (t k a n : ℕ) (w : Answer) → Writes layer m p c w m' → answered call t k a w ≡ Ok n → m.power ≡ Ok tt
had_power layer p c m m' call t k a n (Ok x) d e = (wrote layer m m' p c d).free.power
had_power layer p c m m' call t k a n (Err f) d e = cc

module _ (layer : ℕ) (hd : Header) (st : State) (r : Recorder LogEntry) (g : Goes hd st r) (m : Meaning) (law : Meaning.Lawful m) (st' : State) (m' : Meaning) (n : ℕ) (answer : Result ℕ Failed) (ok : answer ≡ Ok n) where
  -- it did what it does where no refusal is due
  done : (P Q : Type 0) (o : Option Refusal) → (o ≡ None → P → Q) → Decided o answer st m st' m' P → Q
  done P Q (Some x) then did = not_refused n answer x ok did.0
  done P Q None then did = then refl did

  record_entered : (kind : Kind) (k : ℕ) (items : List Item) → Honest kind items
      → Records layer kind (λ (i : Item). i.lawful) (λ (i : Item). i.bytes) st m k items answer st' m' → Entered hd m r (block k (map (λ (i : Item). i.bytes) items))
  record_entered kind k items honest =
      let xs = map (λ (i : Item). i.bytes) items in
      let lawful = list_all (λ (i : Item). i.lawful) items in
      done _ (Entered hd m r (block k xs)) (if_armed st (λ s. record_refusal s m.size k kind (length items) lawful))
      (λ e d. of_armed hd st r
      (λ u s. Added layer u s (BlockEntry k (length items)) (flat_map (λ (i : Item). i.bytes) items) RecordCall (table_of s k).track k ((table_of s k).len + length items) m answer st' m')
      (λ u v. if_armed u (λ s. record_refusal s m.size k kind (length items) lawful) ≡ None → Entered hd m v (block k xs)) g d
      (λ a h keeps c due.
      let s = a.session in
      let may = allowed s m.size k kind (length items) lawful due in
      let long : length xs ≡ length items = length-map items (λ (i : Item). i.bytes) in (
        h,
        refl,
        runs hd s h keeps (block k xs)
            (record_follows s m.size k kind (length items) (length xs) lawful (passed (record_refusal s m.size k kind (length items) lawful)) long a.opened law.size refl (ap passed due))
            (subst (λ (x : Kind). All (LawfulElement x) xs) may.kind_same (lawful_elements kind items honest may.all)),
        had_power layer _ _ m m' RecordCall (table_of s k).track k ((table_of s k).len + length items) n c.write c.did (sym c.says ∙ ok),
      )) e)

  begin_entered : (t p : ℕ) → Begins layer st m t p answer st' m' → Entered hd m r (begin t p)
  begin_entered t p =
      done _ (Entered hd m r (begin t p)) (refusal st m.size (Begin t p))
      (λ e d. of_armed hd st r
      (λ u s. Added layer u s (BeginEntry t p) [] BeginCall t (s.table.inner.count + 1) (s.table.inner.count + 1) m answer st' m')
      (λ u v. refusal u m.size (Begin t p) ≡ None → Entered hd m v (begin t p)) g d
      (λ a h keeps c due.
      let s = a.session in (
        h,
        refl,
        runs hd s h keeps (begin t p) (begin_follows s m.size t p (passed (begin_refusal s m.size t p)) a.opened law.size refl (ap passed due)) tt,
        had_power layer _ _ m m' BeginCall t (s.table.inner.count + 1) (s.table.inner.count + 1) n c.write c.did (sym c.says ∙ ok),
      )) e)

  end_entered : (k : ℕ) → Ends layer st m k answer st' m' → Entered hd m r (trailer k)
  end_entered k =
      done _ (Entered hd m r (trailer k)) (refusal st m.size (End k))
      (λ e d. of_armed hd st r
      (λ u s. Added layer u s (TrailerEntry k) [] EndCall (table_of s k).track k (table_of s k).len m answer st' m')
      (λ u v. refusal u m.size (End k) ≡ None → Entered hd m v (trailer k)) g d
      (λ a h keeps c due.
      let s = a.session in (
        h,
        refl,
        runs hd s h keeps (trailer k) (end_follows s m.size k (passed (end_refusal s m.size k)) a.opened law.size refl (ap passed due)) tt,
        had_power layer _ _ m m' EndCall (table_of s k).track k (table_of s k).len n c.write c.did (sym c.says ∙ ok),
      )) e)

  -- the take that a withdrawal answers is the one that it chose
  chosen_told : (t c : ℕ) (w : Answer) → answered WithdrawCall t c c w ≡ Ok n → c ≡ n
  chosen_told t c (Ok x) e = cc
  chosen_told t c (Err f) e = cc

  withdraw_entered : (t : ℕ) → Withdraws layer st m t answer st' m' → Entered hd m r (withdrawal t n)
  withdraw_entered t =
      done _ (Entered hd m r (withdrawal t n)) (refusal st m.size (Withdraw t))
      (λ e d. of_armed hd st r
      (λ u s. Added layer u s (WithdrawalEntry t (chosen s t)) [] WithdrawCall t (chosen s t) (chosen s t) m answer st' m')
      (λ u v. refusal u m.size (Withdraw t) ≡ None → Entered hd m v (withdrawal t n)) g d
      (λ a h keeps c due.
      let s = a.session in
      let same : chosen s t ≡ n = chosen_told t (chosen s t) c.write (sym c.says ∙ ok) in (
        h,
        refl,
        subst (λ (j : ℕ). Run hd (withdrawal t j ∷ h)) same
            (runs hd s h keeps (withdrawal t (chosen s t))
            (withdraw_follows s m.size t (chosen s t) (passed (withdraw_refusal s m.size t)) refl a.opened law.size refl (ap passed due)) tt),
        had_power layer _ _ m m' WithdrawCall t (chosen s t) (chosen s t) n c.write c.did (sym c.says ∙ ok),
      )) e)

-- the history that an armed recorder goes by is that of the book
own : (hd : Header) → LawfulHeader hd → (es : Events) (m : Meaning) (r : Recorder LogEntry) (h : Log) → m.power ≡ Ok tt → r ≡ armed h
    → Runs.Sitting (log_scheme hd) (book es) (disk m) (on m.power) r → (book es).entries ≡ h
own hd lawful es m r h power e s =
    ((agreed (log_scheme hd) (log_lawful hd lawful) (book es) (disk m) h).1
    (subst₂ (λ (b : Bool) (x : Recorder LogEntry). Runs.Sitting (log_scheme hd) (book es) (disk m) b x) (ap on power) e s)).own

module _ (layer : ℕ) (hd : Header) (es : Events) (st : State) (m : Meaning) (st' : State) (m' : Meaning) (z : Sitting layer hd es st m) where
  -- so the entry was admitted after the book's
  follows_book : (e : LogEntry) → ((r : Recorder LogEntry) → Goes hd st r → Meaning.Lawful m → Entered hd m r e) → Run hd (e ∷ (book es).entries)
  follows_book e enters =
      let (r, g, s, law) = abstracted layer hd z in
      let (h, is, runs, power) = enters r g law in
      subst (λ (x : Log). Run hd (e ∷ x)) (sym (own hd (sitting_lawful layer hd z) es m r h power is s)) runs

  module _ (kind : Kind) (k : ℕ) (items : List Item) (honest : Honest kind items) where
    abbrev bytes_of : List (List ℕ)
    bytes_of = map (λ (i : Item). i.bytes) items

    record_follows_book : (n : ℕ) (answer : Result ℕ Failed) → answer ≡ Ok n
        → Records layer kind (λ (i : Item). i.lawful) (λ (i : Item). i.bytes) st m k items answer st' m' → Run hd (block k bytes_of ∷ (book es).entries)
    record_follows_book n answer ok did =
        follows_book (block k bytes_of) (λ r g law. record_entered layer hd st r g m law st' m' n answer ok kind k items honest did)

    pub record_punches : (answer : Result ℕ Failed) → Records layer kind (λ (i : Item). i.lawful) (λ (i : Item). i.bytes) st m k items answer st' m'
        → WhereAccepted answer (λ n. PunchedIn (block k bytes_of ∷ (book es).entries) k)
    record_punches answer did = record { so = λ n ok. punched_in hd (book es).entries k bytes_of (record_follows_book n answer ok did) }

    pub record_leaves_others : (answer : Result ℕ Failed) → Records layer kind (λ (i : Item). i.lawful) (λ (i : Item). i.bytes) st m k items answer st' m'
        → WhereAccepted answer (λ n. OtherTracksStay (book es).entries (block k bytes_of) (takes (book es).entries k).track)
    record_leaves_others answer did = record { so = λ n ok. block_stays hd (book es).entries k bytes_of (record_follows_book n answer ok did) }

  withdraw_follows_book : (t n : ℕ) (answer : Result ℕ Failed) → answer ≡ Ok n → Withdraws layer st m t answer st' m' → Run hd (withdrawal t n ∷ (book es).entries)
  withdraw_follows_book t n answer ok did = follows_book (withdrawal t n) (λ r g law. withdraw_entered layer hd st r g m law st' m' n answer ok t did)

  pub withdraw_restores_track : (t : ℕ) (answer : Result ℕ Failed) → Withdraws layer st m t answer st' m' → WhereAccepted answer (λ k. Restored (book es).entries t k)
  withdraw_restores_track t answer did = record { so = λ n ok. restored hd (book es).entries t n (withdraw_follows_book t n answer ok did) }

  pub withdraw_leaves_others : (t : ℕ) (answer : Result ℕ Failed) → Withdraws layer st m t answer st' m'
      → WhereAccepted answer (λ k. OtherTracksStay (book es).entries (withdrawal t k) t)
  withdraw_leaves_others t answer did = record { so = λ n ok. withdrawal_stays hd (book es).entries t n (withdraw_follows_book t n answer ok did) }

  pub begin_leaves_tracks : (t p : ℕ) (answer : Result ℕ Failed) → Begins layer st m t p answer st' m' → WhereAccepted answer (λ n. TracksStay (book es).entries (begin t p))
  begin_leaves_tracks t p answer did = record {
    so = λ n ok. begin_stays hd (book es).entries t p (follows_book (begin t p) (λ r g law. begin_entered layer hd st r g m law st' m' n answer ok t p did));
  }

  pub end_leaves_tracks : (k : ℕ) (answer : Result ℕ Failed) → Ends layer st m k answer st' m' → WhereAccepted answer (λ n. TracksStay (book es).entries (trailer k))
  end_leaves_tracks k answer did = record {
    so = λ n ok. trailer_stays hd (book es).entries k (follows_book (trailer k) (λ r g law. end_entered layer hd st r g m law st' m' n answer ok k did));
  }
