-- What each call of a sitting does to it.
use Rattle.std.proofs.Common.{◌≡◌, ℕ, get_or, ◌+◌, ◌<◌, Bool, true, List, [], ◌∷◌, length, take, Option, Some, None, Result, Ok, Err, refl, sym, subst, ap, map}
use Rattle.std.specs.List.{flat_map, list_all}
use Rattle.std.proofs.lemmas.List.{length-map}
use Rattle.std.proofs.lemmas.List.Folds.{list_all-map, flat_map-map}
use Rattle.std.proofs.lemmas.List.Elements.{All-map}
use Rattle.takes.specs.declared.Outline.TheVariants.{Block as BlockEntry}
use Rattle.takes.specs.Entries.{begin, block, trailer, withdrawal}
use Rattle.takes.specs.Takes.{takes}
use Rattle.journal.specs.Log.{LawfulElement}
use Rattle.journal.specs.Sessions.{table_of}
use Rattle.recorder.specs.declared.failed.Name.TheVariants.{Record as RecordCall}
use Rattle.recorder.specs.Refusals.{if_armed, record_refusal}
use Rattle.recorder.specs.Answers.{Decided, OfArmed}
use Rattle.device.specs.Meaning.{Meaning, Lawful}
use Rattle.device.specs.Cuts.{EachCut}
use Rattle.little_endian.specs.Little.{Bytes}
use Rattle.element.specs.declared.kind.Kind.{Kind}
use Rattle.element.specs.Kinds.{width_of, bytes_lawful}
use Rattle.wave.specs.Export.{Exported}
use Rattle.recorder.specs.declared.Recorder.{Recorder}
use Rattle.recorder.specs.declared.State.{State}
use Rattle.recorder.specs.declared.State.TheVariants.{Unmounted, Mounted, Armed}
use Rattle.recorder.specs.declared.refusal.Refusal.{Refusal}
use Rattle.recorder.specs.declared.failed.Failed.TheVariants.{Refused, Faulted}
use Rattle.recorder.specs.declared.failed.Failed.{Failed}
use Rattle.recorder.specs.Formats.{Formatted, Formats, header_of}
use Rattle.recorder.specs.Mounts.{Mounts}
use Rattle.recorder.specs.Entries.{Added, Arms, Begins, Records, Ends, Withdraws, Saves}
use Rattle.recorder.specs.Plays.{Plays}
use Rattle.recorder.specs.Exports.{Exports}
use Rattle.sitting.specs.Claims.{WhereAccepted, FindsBook, FindsSaved, PunchedIn, OtherTracksStay, TracksStay, Restored, PlaysLog, track_bytes, ExportsLog}
use Rattle.sitting.proofs.Finding.{mount_finds_book, mount_finds_what_was_saved}
use Rattle.sitting.proofs.Accepted.{record_punches, record_leaves_others, withdraw_restores_track, withdraw_leaves_others, begin_leaves_tracks, end_leaves_tracks}
use Rattle.sitting.proofs.Playing.{play_looks, play_shows_log}
use Rattle.sitting.proofs.Exporting.{export_looks, export_writes_log, export_readable_file}
use Rattle.sitting.specs.Events.{Item, items_of, book, Asked, Format, Mount, Arm, Begin, Record, End, Withdraw, Save, Play, Export}
use Rattle.sitting.specs.Sittings.{numbered, NotFormatted, Honest, Does, Sitting, formatted, goes_on, Begun, Resumes, Leads, CutLeads, InSittings}

-- an accepted call was not refused
refused : {x : Refusal} {n : ℕ} {A B : Type 0} → (◌≡◌ {A = Result ℕ Failed} (Ok n) (Err (Refused x))) × A × B → ⊥
refused h = let e = h.0 in cc

module _ {D : Type 0} (means : D → Meaning) (layer : ℕ) (d d' : Recorder D) (law : Lawful (means d'.device)) where
  -- a call that does what it does in a sitting leads it on
  pub leads : (asked : Asked) (r : Result ℕ Failed) → Does layer asked r d.state (means d.device) d'.state (means d'.device) → Leads means layer asked r d d'
  leads asked r did = record { on = λ hd es z. goes_on d.state (means d.device) z (did, refl) law }

  pub mount_leads : (r : Result ℕ Failed) → Mounts layer d.state (means d.device) r d'.state (means d'.device) → Leads means layer Mount r d d'
  mount_leads r did = leads Mount r did

  -- what a mount finds is what the book says
  pub mount_finds : (r : Result ℕ Failed) → Mounts layer d.state (means d.device) r d'.state (means d'.device)
      → InSittings means layer d (λ hd es. FindsBook hd (book es) (means d.device) r)
  mount_finds r did = record {
    holds = λ hd es z.
        mount_finds_book layer hd es (means d.device) d'.state (means d'.device) r d.state z did;
  }

  pub mount_finds_saved : (r : Result ℕ Failed) → Mounts layer d.state (means d.device) r d'.state (means d'.device)
      → InSittings means layer d (λ hd es. WhereAccepted r (λ n. FindsSaved es n))
  mount_finds_saved r did = record {
    holds = λ hd es z.
        mount_finds_what_was_saved layer hd es (means d.device) d'.state (means d'.device) r d.state z did;
  }

  pub arm_leads : (r : Result ℕ Failed) → Arms layer d.state (means d.device) r d'.state (means d'.device) → Leads means layer Arm r d d'
  arm_leads r did = leads Arm r did

  pub begin_leads : (t p : ℕ) (r : Result ℕ Failed) → Begins layer d.state (means d.device) t p r d'.state (means d'.device) → Leads means layer (Begin t p) r d d'
  begin_leads t p r did = leads (Begin t p) r did

  -- a begin and an end change no track
  pub begin_leaves : (t p : ℕ) (r : Result ℕ Failed) → Begins layer d.state (means d.device) t p r d'.state (means d'.device)
      → InSittings means layer d (λ hd es. WhereAccepted r (λ n. TracksStay (book es).entries (begin t p)))
  begin_leaves t p r did = record { holds = λ hd es z. begin_leaves_tracks layer hd es d.state (means d.device) d'.state (means d'.device) z t p r did }

  pub end_leaves : (k : ℕ) (r : Result ℕ Failed) → Ends layer d.state (means d.device) k r d'.state (means d'.device)
      → InSittings means layer d (λ hd es. WhereAccepted r (λ n. TracksStay (book es).entries (trailer k)))
  end_leaves k r did = record { holds = λ hd es z. end_leaves_tracks layer hd es d.state (means d.device) d'.state (means d'.device) z k r did }

  pub end_leads : (k : ℕ) (r : Result ℕ Failed) → Ends layer d.state (means d.device) k r d'.state (means d'.device) → Leads means layer (End k) r d d'
  end_leads k r did = leads (End k) r did

  pub withdraw_leads : (t : ℕ) (r : Result ℕ Failed) → Withdraws layer d.state (means d.device) t r d'.state (means d'.device) → Leads means layer (Withdraw t) r d d'
  withdraw_leads t r did = leads (Withdraw t) r did

  -- what a withdrawal makes of the tracks
  pub withdraw_restores : (t : ℕ) (r : Result ℕ Failed) → Withdraws layer d.state (means d.device) t r d'.state (means d'.device)
      → InSittings means layer d (λ hd es. WhereAccepted r (λ k. Restored (book es).entries t k))
  withdraw_restores t r did = record {
    holds = λ hd es z.
        withdraw_restores_track layer hd es d.state (means d.device) d'.state (means d'.device) z t r did;
  }

  pub withdraw_leaves : (t : ℕ) (r : Result ℕ Failed) → Withdraws layer d.state (means d.device) t r d'.state (means d'.device)
      → InSittings means layer d (λ hd es. WhereAccepted r (λ k. OtherTracksStay (book es).entries (withdrawal t k) t))
  withdraw_leaves t r did = record {
    holds = λ hd es z.
        withdraw_leaves_others layer hd es d.state (means d.device) d'.state (means d'.device) z t r did;
  }

  pub save_leads : (r : Result (Unit {0}) Failed) → Saves d.state (means d.device) r d'.state (means d'.device) → Leads means layer Save (numbered r) d d'
  save_leads r did = leads Save (numbered r) (r, refl, did)

  -- only an unmounted recorder formats
  begun : (kinds : List ℕ) (rate sitting n : ℕ) (st : State) → sitting < 4294967296 → Formats layer st (means d.device) kinds rate sitting (Ok n) d'.state (means d'.device)
      → Sitting layer (header_of kinds rate sitting) [] d'.state (means d'.device)
  begun kinds rate sitting n Unmounted small did = formatted kinds rate sitting n (means d.device) small refl did law
  begun kinds rate sitting n (Mounted s) small did = absurd (refused did)
  begun kinds rate sitting n (Armed a) small did = absurd (refused did)

  pub format_begins : (kinds : List ℕ) (rate sitting : ℕ) (r : Result ℕ Failed) → sitting < 4294967296 → Formats layer d.state (means d.device) kinds rate sitting r d'.state (means d'.device)
      → Begun means layer (header_of kinds rate sitting) r d'
  format_begins kinds rate sitting (Ok n) small did = begun kinds rate sitting n d.state small did
  format_begins kinds rate sitting (Err e) small did = tt

  -- a format that is not accepted leaves the recorder as it was
  not_begun : (kinds : List ℕ) (rate sitting : ℕ) (x : Option Refusal) (e : Failed)
      → Decided {A = ℕ} x (Err e) d.state (means d.device) d'.state (means d'.device) (Formatted layer (header_of kinds rate sitting) d.state (means d.device) (Err e) d'.state (means d'.device))
      → d'.state ≡ d.state
  not_begun kinds rate sitting (Some x) e did = did.1
  not_begun kinds rate sitting None (Refused x) did = absurd did
  not_begun kinds rate sitting None (Faulted call t k f) did = did.3

  pub format_resumes : (kinds : List ℕ) (rate sitting : ℕ) (r : Result ℕ Failed) → Formats layer d.state (means d.device) kinds rate sitting r d'.state (means d'.device)
      → Resumes means layer (Format kinds rate sitting) r d d'
  format_resumes kinds rate sitting r did e is same =
      let did' : Formats layer d.state (means d.device) kinds rate sitting (Err e) d'.state (means d'.device) =
      subst (λ (x : Result ℕ Failed). Formats layer d.state (means d.device) kinds rate sitting x d'.state (means d'.device)) is did in
      let idle : NotFormatted (Err e) d.state (means d.device) d'.state (means d'.device) = (not_begun kinds rate sitting _ e did', same) in
      leads (Format kinds rate sitting) r (subst (λ (x : Result ℕ Failed). NotFormatted x d.state (means d.device) d'.state (means d'.device)) (sym is) idle)

  pub cut_leads : (ms ns : List Meaning) → d'.state ≡ Unmounted → EachCut (means d.device ∷ ms) (means d'.device ∷ ns) → CutLeads means layer d d'
  cut_leads ms ns u c = record { on = λ hd es z. goes_on d.state (means d.device) z (u, c.0) law }

  module _ {E : Type 0} (kind : Kind) (lawful : E → Bool) (bytes : E → List ℕ) (value : List ℕ → E) where
    -- what a record did with elements it did with their bytes
    records_items : (k : ℕ) (xs : List E) (r : Result ℕ Failed) → Records layer kind lawful bytes d.state (means d.device) k xs r d'.state (means d'.device)
        → Records layer kind (λ (i : Item). i.lawful) (λ (i : Item). i.bytes) d.state (means d.device) k (items_of lawful bytes xs) r d'.state (means d'.device)
    records_items k xs r did =
        let item : E → Item = λ x. record { lawful = lawful x; bytes = bytes x } in
        let n : length (items_of lawful bytes xs) ≡ length xs = length-map xs item in
        let b : list_all (λ (i : Item). i.lawful) (items_of lawful bytes xs) ≡ list_all lawful xs = list_all-map (λ (i : Item). i.lawful) item xs in
        let f : flat_map (λ (i : Item). i.bytes) (items_of lawful bytes xs) ≡ flat_map bytes xs = flat_map-map (λ (i : Item). i.bytes) item xs in
        let did_with : (c : ℕ) (l : Bool) (bs : List ℕ) → Type 0 =
        λ c l bs. Decided (if_armed d.state (λ s. record_refusal s (means d.device).size k kind c l)) r d.state (means d.device) d'.state (means d'.device)
        (OfArmed d.state (λ s. Added layer d.state s (BlockEntry k c) bs RecordCall (table_of s k).track k ((table_of s k).len + c) (means d.device) r d'.state (means d'.device))) in
        subst (λ (c : ℕ). did_with c (list_all (λ (i : Item). i.lawful) (items_of lawful bytes xs)) (flat_map (λ (i : Item). i.bytes) (items_of lawful bytes xs))) (sym n)
        (subst (λ (l : Bool). did_with (length xs) l (flat_map (λ (i : Item). i.bytes) (items_of lawful bytes xs))) (sym b)
        (subst (λ (bs : List ℕ). did_with (length xs) (list_all lawful xs) bs) (sym f) did))

    -- an element type calls an element lawful only if its bytes are
    honest : ((x : E) → lawful x ≡ true → Bytes (bytes x)) → ((x : E) → lawful x ≡ true → (bytes_lawful kind (bytes x) ≡ true) × (value (bytes x) ≡ x)) → (xs : List E) → Honest kind (items_of lawful bytes xs)
    honest small told xs =
        All-map (λ (i : Item). i.lawful ≡ true → LawfulElement kind i.bytes) (λ x. record { lawful = lawful x; bytes = bytes x }) xs
        (λ k x lt l. (small (get_or xs k x) l, (told (get_or xs k x) l).0))

    pub record_leads : (k : ℕ) (xs : List E) (r : Result ℕ Failed) → ((x : E) → lawful x ≡ true → Bytes (bytes x))
        → ((x : E) → lawful x ≡ true → (bytes_lawful kind (bytes x) ≡ true) × (value (bytes x) ≡ x)) → Records layer kind lawful bytes d.state (means d.device) k xs r d'.state (means d'.device)
        → Leads means layer (Record kind k (items_of lawful bytes xs)) r d d'
    record_leads k xs r small told did = leads (Record kind k (items_of lawful bytes xs)) r (honest small told xs, records_items k xs r did)

    -- the elements' bytes
    same_bytes : (xs : List E) → map (λ (i : Item). i.bytes) (items_of lawful bytes xs) ≡ map bytes xs
    same_bytes [] = refl
    same_bytes (x ∷ xs) = ap (λ (ys : List (List ℕ)). bytes x ∷ ys) (same_bytes xs)

    module _ (k : ℕ) (xs : List E) (r : Result ℕ Failed) (small : (x : E) → lawful x ≡ true → Bytes (bytes x))
        (told : (x : E) → lawful x ≡ true → (bytes_lawful kind (bytes x) ≡ true) × (value (bytes x) ≡ x))
        (did : Records layer kind lawful bytes d.state (means d.device) k xs r d'.state (means d'.device)) where
      -- what a record makes of the tracks
      pub record_punches_in : InSittings means layer d (λ hd es. WhereAccepted r (λ n. PunchedIn (block k (map bytes xs) ∷ (book es).entries) k))
      record_punches_in = record {
        holds = λ hd es z.
            subst (λ (ys : List (List ℕ)). WhereAccepted r (λ n. PunchedIn (block k ys ∷ (book es).entries) k)) (same_bytes xs)
            (record_punches layer hd es d.state (means d.device) d'.state (means d'.device) z kind k (items_of lawful bytes xs) (honest small told xs) r (records_items k xs r did));
      }

      pub record_leaves : InSittings means layer d (λ hd es. WhereAccepted r (λ n. OtherTracksStay (book es).entries (block k (map bytes xs)) (takes (book es).entries k).track))
      record_leaves = record {
        holds = λ hd es z.
            subst (λ (ys : List (List ℕ)). WhereAccepted r (λ n. OtherTracksStay (book es).entries (block k ys) (takes (book es).entries k).track)) (same_bytes xs)
            (record_leaves_others layer hd es d.state (means d.device) d'.state (means d'.device) z kind k (items_of lawful bytes xs) (honest small told xs) r (records_items k xs r did));
      }

  module _ {E : Type 0} (kind : Kind) (value : List ℕ → E) (width t from : ℕ) (out : List E) (r : Result ℕ Failed) (out' : List E)
      (did : Plays layer kind value width d.state (means d.device) t from out r d'.state (means d'.device) out') where
    pub play_leads : Leads means layer (Play kind t from) r d d'
    play_leads = leads (Play kind t from) r (play_looks layer kind value width d.state (means d.device) t from out r d'.state (means d'.device) out' did)

    -- what a play shows is what the book says; the elements are as wide as their kind's
    pub play_shows : width ≡ width_of kind → InSittings means layer d (λ hd es. WhereAccepted r (λ n. PlaysLog value (book es).entries t from out n out'))
    play_shows same = record {
      holds = λ hd es z.
          play_shows_log layer kind value width same d.state (means d.device) t from out d'.state (means d'.device) out' hd es z r did;
    }

  module _ (t : ℕ) (out : List ℕ) (r : Result ℕ Failed) (out' : List ℕ) (did : Exports layer d.state (means d.device) t out r d'.state (means d'.device) out') where
    pub export_leads : Leads means layer (Export t) r d d'
    export_leads = leads (Export t) r (export_looks layer d.state (means d.device) t out r d'.state (means d'.device) out' did)

    -- what an export writes is the file of what the book says
    pub export_writes : InSittings means layer d (λ hd es. WhereAccepted r (λ n. ExportsLog hd (book es).entries t out n out'))
    export_writes = record {
      holds = λ hd es z.
          export_writes_log layer d.state (means d.device) t out d'.state (means d'.device) out' hd es z r did;
    }

    pub export_readable : InSittings means layer d (λ hd es. WhereAccepted r (λ n. Exported (take n out') hd.rate (track_bytes (book es).entries t)))
    export_readable = record {
      holds = λ hd es z.
          export_readable_file layer d.state (means d.device) t out d'.state (means d'.device) out' hd es z r did;
    }
