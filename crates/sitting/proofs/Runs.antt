-- What happens to a disk in a sitting, whatever its sectors are like.
use Rattle.std.specs.Prelude.{◌≡◌, ℕ, suc, ◌≤◌, Bool, true, false, List, [], ◌∷◌, length}
use Rattle.std.specs.Prelude.{None}
use Rattle.sitting.specs.Books.{Book, all_of, first, no_entries, with_entry, in_doubt, all_safe, with_found}
use Rattle.sitting.proofs.Disks.{In, Settles, Thins, Flushes, Writes, Tears, Cuts}
use Rattle.sitting.proofs.Schemes.{Scheme, IsLog}

-- what the book is told of a call, by its arguments and answer and whether power went off in it
pub data Event (A : Type 0) : Type 0 where
  Nothing Formatted Saved : Event A
  Mounted : ℕ → Event A
  Added Armed Doubted : A → Event A

module _ {A : Type 0} where
  abbrev pub note : Event A → Book A → Book A
  note Nothing k = k
  note Formatted k = no_entries
  note Saved k = all_safe k
  note (Mounted n) k = with_found n k
  note (Added e) k = with_entry e k
  note (Armed e) k = all_safe (with_entry e k)
  note (Doubted e) k = in_doubt e k

-- the recorder, with the history that it goes by
pub data Recorder (A : Type 0) : Type 0 where
  unmounted : Recorder A
  mounted armed : List A → Recorder A

module _ (S : Scheme) where
  open S use {Content, Entry, header, Sound, Admits, bytes, Opens}

  -- what format leaves
  pub record Fresh (D : ℕ → List Content) : Type 0 where
    pub headed : D 0 ≡ header ∷ []
    pub blank : (p : ℕ) (c : Content) → In c (D (suc p)) → ¬ (Sound c)

  -- an arm that answers power's fault, by the device call in which power went off
  pub data Falters (q : ℕ) (c : Content) (D D' : ℕ → List Content) : Type 0 where
    in_first : Thins D D' → Falters q c D D'
    after_first : Flushes D D' → Falters q c D D'
    in_write : (D₁ : ℕ → List Content) → Flushes D D₁ → Tears q c D₁ D' → Falters q c D D'
    after_write : (D₁ : ℕ → List Content) → Flushes D D₁ → Writes q c D₁ D' → Falters q c D D'
    in_second : (D₁ D₂ : ℕ → List Content) → Flushes D D₁ → Writes q c D₁ D₂ → Thins D₂ D' → Falters q c D D'

  -- A format in which power goes off and which answers the fault ends the sitting, and is no step of it: it may leave the header and blank an entry.
  -- What a call or a cut does: the disk, whether power is on and the recorder, before; what the book is told; power and the recorder after
  pub data Step (D D' : ℕ → List Content) : Bool → Recorder Entry → Event Entry → Bool → Recorder Entry → Type 0 where
    -- a refusal, or a fault of a cause that already stood
    refuse : {b : Bool} {r : Recorder Entry} → ((p : ℕ) → D' p ≡ D p) → Step D D' b r Nothing b r
    -- a call that tells the book nothing: its device calls were accepted; or power went off in one, which answered the fault
    keep : {b : Bool} {r : Recorder Entry} → Settles D D' → Step D D' true r Nothing b r
    fault : {r : Recorder Entry} → Thins D D' → Step D D' true r Nothing false r
    cut : {b : Bool} {r : Recorder Entry} → Cuts Sound D D' → Step D D' b r Nothing true unmounted
    -- a recorder made anew over the device, with no cut
    restart : {r : Recorder Entry} → ((p : ℕ) → D' p ≡ D p) → Step D D' true r Nothing true unmounted
    format : {b : Bool} → Fresh D' → Step D D' true unmounted Formatted b unmounted
    mount : {b : Bool} (F : List Entry) → Settles D D' → IsLog S D' F → Step D D' true unmounted (Mounted (length F)) b (mounted F)
    save : {b : Bool} {H : List Entry} → Flushes D D' → Step D D' true (mounted H) Saved b (mounted H)
    save_armed : {b : Bool} {H : List Entry} → Flushes D D' → Step D D' true (armed H) Saved b (armed H)
    add : {b : Bool} {H : List Entry} (e : Entry) → ¬ (Opens e) → Admits H e → Writes (suc (length H)) (bytes H e) D D' → Step D D' true (armed H) (Added e) b (armed (e ∷ H))
    add_fault : {H : List Entry} (e : Entry) → ¬ (Opens e) → Admits H e → Tears (suc (length H)) (bytes H e) D D' → Step D D' true (armed H) (Doubted e) false (armed H)
    arm : {b : Bool} {H : List Entry} (e : Entry) (D₁ D₂ : ℕ → List Content) → Opens e → Admits H e → Flushes D D₁ → Writes (suc (length H)) (bytes H e) D₁ D₂ → Flushes D₂ D' → Step D D' true (mounted H) (Armed e) b (armed (e ∷ H))
    arm_fault : {H : List Entry} (e : Entry) → Opens e → Admits H e → Falters (suc (length H)) (bytes H e) D D' → Step D D' true (mounted H) (Doubted e) false (mounted H)

  -- a sitting, from an accepted format on: its book, and the disk, power and recorder that it has come to
  pub data Sitting : Book Entry → (ℕ → List Content) → Bool → Recorder Entry → Type 0 where
    begin : {D : ℕ → List Content} {b : Bool} → Fresh D → Sitting no_entries D b unmounted
    next : {k : Book Entry} {D D' : ℕ → List Content} {b b' : Bool} {r r' : Recorder Entry} {v : Event Entry} → Sitting k D b r → Step D D' b r v b' r' → Sitting (note v k) D' b' r'

  -- a mount that answers n finds exactly the first n entries of the book, and every safe one
  pub record Finds (D : ℕ → List Content) (n : ℕ) (k : Book Entry) : Type 0 where
    pub log : IsLog S D (first n (all_of k))
    pub counted : length (first n (all_of k)) ≡ n
    pub safe : k.safe ≤ n

  abbrev pub Kept : Type 0
  Kept = (k : Book Entry) (D D' : ℕ → List Content) (b : Bool) (n : ℕ) (r : Recorder Entry) → Sitting k D true unmounted → Step D D' true unmounted (Mounted n) b r → Finds D' n k

  -- the header stays, so that no mount is refused for want of it
  abbrev pub Headed : Type 0
  Headed = (k : Book Entry) (D : ℕ → List Content) (b : Bool) (r : Recorder Entry) → Sitting k D b r → D 0 ≡ header ∷ []

  -- with power on, a mounted recorder goes by the book's entries, and nothing is in doubt
  pub record Agrees (H : List Entry) (k : Book Entry) : Type 0 where
    pub own : k.entries ≡ H
    pub sure : k.doubt ≡ None

  abbrev pub Agreed : Type 0
  Agreed = (k : Book Entry) (D : ℕ → List Content) (H : List Entry) → ((Sitting k D true (mounted H) → Agrees H k) × (Sitting k D true (armed H) → Agrees H k))
