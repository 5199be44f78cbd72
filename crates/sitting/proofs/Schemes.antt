-- What the log asks of its sectors. A history is a list of entries, the latest first.
use Rattle.std.specs.Prelude.{◌≡◌, ℕ, suc, ◌<◌, ◌≤◌, List, [], ◌∷◌, length}
use Rattle.std.specs.Prelude.{Some}
use Rattle.sitting.proofs.Disks.{newest}

pub record Scheme : Type 1 where
  pub Content : Type 0
  pub Entry : Type 0
  pub header : Content
  pub Sound : Content → Type 0
  pub epoch : Content → ℕ
  -- that the call of an entry would be accepted after a history, armed or not, and what it would write there
  pub Admits : List Entry → Entry → Type 0
  pub bytes : List Entry → Entry → Content
  pub Opens : Entry → Type 0
  -- the epoch of the last opening
  pub current : List Entry → ℕ

-- what the theorem asks of a scheme
pub record Lawful (S : Scheme) : Type 0 where
  -- what an accepted call writes is sound, and dated by the epoch that it leaves
  pub sound : (E : List S.Entry) (e : S.Entry) → S.Admits E e → S.Sound (S.bytes E e)
  pub dated : (E : List S.Entry) (e : S.Entry) → S.Admits E e → S.epoch (S.bytes E e) ≡ S.current (e ∷ E)
  -- an opening raises the epoch, and nothing else changes it
  pub opened : (E : List S.Entry) (e : S.Entry) → S.Opens e → S.current E < S.current (e ∷ E)
  pub stayed : (E : List S.Entry) (e : S.Entry) → ¬ (S.Opens e) → S.current (e ∷ E) ≡ S.current E
  pub grows : (E : List S.Entry) (e : S.Entry) → S.current E ≤ S.current (e ∷ E)
  -- the bytes tell the entry
  pub told : (E : List S.Entry) (e d : S.Entry) → S.Admits E e → S.Admits E d → S.bytes E e ≡ S.bytes E d → e ≡ d

module _ (S : Scheme) where
  open S use {Content, Entry, header, Admits, bytes}

  -- c continues the log after E
  abbrev pub Fits : List Entry → Content → Type 0
  Fits E c = (e : Entry) × Admits E e × (c ≡ bytes E e)

  -- the header and E are found in the newest contents
  abbrev pub Found : (ℕ → List Content) → List Entry → Type 0
  Found D [] = newest (D 0) ≡ Some header
  Found D (e ∷ E) = Found D E × Admits E e × (newest (D (suc (length E))) ≡ Some (bytes E e))

  -- E is the log: found, and nothing continues it
  abbrev pub IsLog : (ℕ → List Content) → List Entry → Type 0
  IsLog D E = Found D E × ((c : Content) → newest (D (suc (length E))) ≡ Some c → ¬ (Fits E c))
