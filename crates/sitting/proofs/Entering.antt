-- Begin, record, end and withdraw are steps of the theory.
use Rattle.std.proofs.Common.{◌≡◌, ℕ, ◌+◌, Bool, true, ◌==◌, List, [], length, map, None, Ok, Err, Result, sym, refl, ap, ◌∙◌, subst, arith}
use Rattle.std.specs.List.{flat_map, list_all, All}
use Rattle.std.proofs.lemmas.Bool.{eqb-true}
use Rattle.std.proofs.lemmas.List.{length-map}
use Rattle.std.proofs.lemmas.List.Elements.{All-map}
use Rattle.std.proofs.lemmas.List.Folds.{flat_map-map}
use Rattle.std.proofs.lemmas.List.Sums.{AllPass-from_list_all}
use Rattle.device.specs.Faults.{Answer}
use Rattle.device.specs.Meaning.{Meaning, Lawful}
use Rattle.element.specs.declared.kind.Kind.{Kind}
use Rattle.element.specs.declared.kind.Kind.TheVariants.{Sound, Mark}
use Rattle.element.specs.Kinds.{kind_number}
use Rattle.takes.specs.declared.Outline.TheVariants.{Begin as BeginEntry, Block as BlockEntry, Trailer as TrailerEntry, Withdrawal as WithdrawalEntry}
use Rattle.takes.specs.Entries.{begin, block, trailer, withdrawal}
use Rattle.takes.specs.Table.{is_open}
use Rattle.journal.specs.declared.header.Header.{Header}
use Rattle.journal.specs.declared.session.Session.{Session}
use Rattle.journal.specs.Headers.{kind_of}
use Rattle.journal.specs.Log.{LogEntry, Log, LawfulElement}
use Rattle.journal.specs.Sessions.{table_of}
use Rattle.recorder.specs.declared.State.{State}
use Rattle.recorder.specs.declared.State.TheVariants.{Unmounted, Mounted, Armed}
use Rattle.recorder.specs.declared.armed.ArmedSession.{ArmedSession}
use Rattle.recorder.specs.declared.call.Call.TheVariants.{Begin, End, Withdraw}
use Rattle.recorder.specs.declared.failed.Name.TheVariants.{Begin as BeginCall, Record as RecordCall, End as EndCall, Withdraw as WithdrawCall}
use Rattle.recorder.specs.declared.failed.Failed.{Failed}
use Rattle.recorder.specs.declared.refusal.Refusal.TheVariants.{NoSuchTake, NotOpen, OtherKind, BadCount, Unlawful, Full}
use Rattle.recorder.specs.Refusals.{unless, passed, refusal, if_armed, has_take, has_place, has_room, chosen, begin_refusal, record_refusal, end_refusal, withdraw_refusal}
use Rattle.recorder.specs.Answers.{answered, OfArmed}
use Rattle.recorder.specs.Entries.{Added, Begins, Records, Ends, Withdraws}
use Rattle.recorder.proofs.Follows.{begin_follows, record_follows, end_follows, withdraw_follows}
use Rattle.sitting.specs.Events.{Item, take_told, entered}
use Rattle.sitting.specs.Sittings.{went_off, Honest}
use Rattle.sitting.proofs.Runs.{Recorder, unmounted, mounted, armed}
use Rattle.sitting.proofs.Links.{Keeps, Goes, Advances, noted_as, decided, unless_none}
use Rattle.sitting.proofs.Additions.{enters}

-- a call of an armed recorder
pub of_armed : (hd : Header) (st : State) (r : Recorder LogEntry) (P : State → Session → Type 0) (Q : State → Recorder LogEntry → Type 0) → Goes hd st r → OfArmed st (P st)
    → ((a : ArmedSession) (h : Log) → Keeps hd a.session h → P (Armed a) a.session → Q (Armed a) (armed h)) → Q st r
of_armed hd Unmounted r P Q g p then = absurd p
of_armed hd (Mounted s) r P Q g p then = absurd p
of_armed hd (Armed a) unmounted P Q g p then = absurd g
of_armed hd (Armed a) (mounted h) P Q g p then = absurd g
of_armed hd (Armed a) (armed h) P Q g p then = then a h g p

-- kinds with one number are one kind
pub kinds_alike : (a b : Kind) → kind_number a ≡ kind_number b → a ≡ b
kinds_alike Sound Sound e = refl
kinds_alike Sound Mark e = absurd (omega (arith, e))
kinds_alike Mark Sound e = absurd (omega (arith, e))
kinds_alike Mark Mark e = refl

-- a record that is not refused: its kind is that of the take's track, and its elements are lawful
pub record Allowed (s : Session) (k : ℕ) (kind : Kind) (lawful : Bool) : Type 0 where
  pub kind_same : kind ≡ kind_of s.header (table_of s k).track
  pub all : lawful ≡ true

pub allowed : (s : Session) (size k : ℕ) (kind : Kind) (n : ℕ) (lawful : Bool) → record_refusal s size k kind n lawful ≡ None → Allowed s k kind lawful
allowed s size k kind n lawful h =
    let at = kind_of s.header (table_of s k).track in
    let room = unless (has_room s size) Full None in
    let bad = unless lawful Unlawful room in
    let many = unless (has_place kind n) BadCount bad in
    let other = unless (kind_number kind == kind_number at) OtherKind many in
    let shut = unless (is_open (table_of s k).state) NotOpen other in
    let a = unless_none (has_take s k) NoSuchTake shut h in
    let b = unless_none (is_open (table_of s k).state) NotOpen other a.1 in
    let c = unless_none (kind_number kind == kind_number at) OtherKind many b.1 in
    let d = unless_none (has_place kind n) BadCount bad c.1 in
    let e = unless_none lawful Unlawful room d.1 in
    record { kind_same = kinds_alike kind at (eqb-true (kind_number kind) (kind_number at) c.0); all = e.0 }

pub lawful_elements : (kind : Kind) (items : List Item) → Honest kind items → list_all (λ (i : Item). i.lawful) items ≡ true → All (LawfulElement kind) (map (λ (i : Item). i.bytes) items)
lawful_elements kind items honest all =
    All-map (LawfulElement kind) (λ (i : Item). i.bytes) items (λ k d lt. honest k d lt (AllPass-from_list_all (λ (i : Item). i.lawful) items all k d lt))

-- the take that a withdrawal answers or tells is its own
told_itself : (t k : ℕ) (w : Answer) → take_told (answered WithdrawCall t k k w) ≡ k
told_itself t k (Ok x) = refl
told_itself t k (Err f) = refl

module _ (layer : ℕ) (hd : Header) (st : State) (r : Recorder LogEntry) (g : Goes hd st r) (m : Meaning) (law : Lawful m) (st' : State) (m' : Meaning) (answer : Result ℕ Failed) (off : Bool) (went : off ≡ went_off m.power m'.power) where
  pub begins : (t p : ℕ) → Begins layer st m t p answer st' m' → Advances hd r m st' m' (entered (begin t p) answer off)
  begins t p =
      decided hd r m st st' m' g (refusal st m.size (Begin t p)) answer (λ x. entered (begin t p) x off) _ (λ x b. refl)
      (λ e d. of_armed hd st r
      (λ u s. Added layer u s (BeginEntry t p) [] BeginCall t (s.table.inner.count + 1) (s.table.inner.count + 1) m answer st' m')
      (λ u v. refusal u m.size (Begin t p) ≡ None → Advances hd v m st' m' (entered (begin t p) answer off)) g d
      (λ a h k c due. enters layer hd a h k (begin t p) (λ z. z)
      (begin_follows a.session m.size t p (passed (begin_refusal a.session m.size t p)) a.opened law.size refl (ap passed due)) tt [] refl m st' m'
      BeginCall t (a.session.table.inner.count + 1) (a.session.table.inner.count + 1) answer off c went) e)

  pub ends : (k : ℕ) → Ends layer st m k answer st' m' → Advances hd r m st' m' (entered (trailer k) answer off)
  ends n =
      decided hd r m st st' m' g (refusal st m.size (End n)) answer (λ x. entered (trailer n) x off) _ (λ x b. refl)
      (λ e d. of_armed hd st r
      (λ u s. Added layer u s (TrailerEntry n) [] EndCall (table_of s n).track n (table_of s n).len m answer st' m')
      (λ u v. refusal u m.size (End n) ≡ None → Advances hd v m st' m' (entered (trailer n) answer off)) g d
      (λ a h k c due. enters layer hd a h k (trailer n) (λ z. z)
      (end_follows a.session m.size n (passed (end_refusal a.session m.size n)) a.opened law.size refl (ap passed due)) tt [] refl m st' m'
      EndCall (table_of a.session n).track n (table_of a.session n).len answer off c went) e)

  pub withdraws : (t : ℕ) → Withdraws layer st m t answer st' m' → Advances hd r m st' m' (entered (withdrawal t (take_told answer)) answer off)
  withdraws t =
      decided hd r m st st' m' g (refusal st m.size (Withdraw t)) answer (λ x. entered (withdrawal t (take_told x)) x off) _ (λ x b. refl)
      (λ e d. of_armed hd st r
      (λ u s. Added layer u s (WithdrawalEntry t (chosen s t)) [] WithdrawCall t (chosen s t) (chosen s t) m answer st' m')
      (λ u v. refusal u m.size (Withdraw t) ≡ None → Advances hd v m st' m' (entered (withdrawal t (take_told answer)) answer off)) g d
      (λ a h k c due.
      let n = chosen a.session t in
      let same : take_told answer ≡ n = ap take_told c.says ∙ told_itself t n c.write in
      noted_as hd (armed h) m st' m' (entered (withdrawal t n) answer off) (entered (withdrawal t (take_told answer)) answer off)
      (λ b. ap (λ (x : ℕ). entered (withdrawal t x) answer off b) (sym same))
      (enters layer hd a h k (withdrawal t n) (λ z. z)
      (withdraw_follows a.session m.size t n (passed (withdraw_refusal a.session m.size t)) refl a.opened law.size refl (ap passed due)) tt [] refl m st' m'
      WithdrawCall t n n answer off c went)) e)

  module _ (kind : Kind) (n : ℕ) (items : List Item) (honest : Honest kind items) where
    pub records : Records layer kind (λ (i : Item). i.lawful) (λ (i : Item). i.bytes) st m n items answer st' m' → Advances hd r m st' m' (entered (block n (map (λ (i : Item). i.bytes) items)) answer off)
    records =
        decided hd r m st st' m' g (if_armed st (λ s. record_refusal s m.size n kind (length items) (list_all (λ (i : Item). i.lawful) items))) answer
        (λ x. entered (block n (map (λ (i : Item). i.bytes) items)) x off) _ (λ x b. refl)
        (λ e d. of_armed hd st r
        (λ u s. Added layer u s (BlockEntry n (length items)) (flat_map (λ (i : Item). i.bytes) items) RecordCall (table_of s n).track n ((table_of s n).len + length items) m answer st' m')
        (λ u v. if_armed u (λ s. record_refusal s m.size n kind (length items) (list_all (λ (i : Item). i.lawful) items)) ≡ None → Advances hd v m st' m' (entered (block n (map (λ (i : Item). i.bytes) items)) answer off)) g d
        (λ a h k c due.
        let s = a.session in
        let xs = map (λ (i : Item). i.bytes) items in
        let lawful = list_all (λ (i : Item). i.lawful) items in
        let may = allowed s m.size n kind (length items) lawful due in
        let long : length xs ≡ length items = length-map items (λ (i : Item). i.bytes) in
        enters layer hd a h k (block n xs) (λ z. z)
        (record_follows s m.size n kind (length items) (length xs) lawful (passed (record_refusal s m.size n kind (length items) lawful)) long a.opened law.size refl (ap passed due))
        (subst (λ (x : Kind). All (LawfulElement x) xs) may.kind_same (lawful_elements kind items honest may.all))
        (flat_map (λ (i : Item). i.bytes) items) (sym (flat_map-map (λ (x : List ℕ). x) (λ (i : Item). i.bytes) items)) m st' m'
        RecordCall (table_of s n).track n ((table_of s n).len + length items) answer off
        (subst (λ (x : ℕ). Added layer (Armed a) s (BlockEntry n x) (flat_map (λ (i : Item). i.bytes) items) RecordCall (table_of s n).track n ((table_of s n).len + length items) m answer st' m') (sym long) c)
        went) e)
