-- What the tracks of a log are made of: lawful elements of the track's kind, and no more of them than a recording can have.
use Rattle.std.proofs.Common.{◌≡◌, ℕ, zero, suc, ◌+◌, ◌≤◌, List, [], ◌∷◌, ◌++◌, length, take, drop, sym, subst, arith, eqb-true}
use Rattle.std.proofs.lemmas.Bool.{cond_both, and_parts}
use Rattle.std.proofs.lemmas.List.Elements.{All-nil, All-append, All-take, All-drop}
use Rattle.std.specs.List.{All}
use Rattle.takes.specs.Entries.{opening, begin, block, trailer, withdrawal, next_place}
use Rattle.takes.specs.Takes.{Take, fresh, longer, in_state, count, takes, row}
use Rattle.takes.specs.declared.State.TheVariants.{Standing, Withdrawn}
use Rattle.takes.specs.Table.{heard_on}
use Rattle.takes.specs.Tracks.{splice, content, track}
use Rattle.takes.specs.Claims.{Opened}
use Rattle.takes.proofs.Changed.{changed_by}
use Rattle.takes.proofs.Bounds.{longest}
use Rattle.journal.specs.declared.header.Header.{Header}
use Rattle.journal.specs.Headers.{kind_of}
use Rattle.journal.specs.Log.{Log, LawfulElement, Run}
use Rattle.journal.proofs.InStep.{table_run}
use Rattle.journal.proofs.Shows.{small}

-- what holds of the elements of each take on a track holds of the track's
module _ {X : Type 0} (P : X → Type 0) where
  splice_all : (f : ℕ) (E C : List X) → All P E → All P C → All P (splice f E C)
  splice_all f E C e c = All-append P (take f C) (E ++ drop (f + length E) C) (All-take P f C c) (All-append P E (drop (f + length E) C) e (All-drop P (f + length E) C c))

  content_all : (T : ℕ → Take X) (t : ℕ) → ((k : ℕ) → (T k).track ≡ t → All P (T k).elements) → (n : ℕ) → All P (content T t n)
  content_all T t each zero = All-nil P
  content_all T t each (suc n) =
      let r = T (suc n) in
      let before = content_all T t each n in
      cond_both (heard_on t (row r)) (splice r.position r.elements (content T t n)) (content T t n) (All P)
      (λ e. splice_all r.position r.elements (content T t n) (each (suc n) (eqb-true r.track t (and_parts _ _ e).0)) before) (λ e. before)

-- a take's elements are lawful ones of its track's kind
abbrev LawfulTake : Header → Take (List ℕ) → Type 0
LawfulTake hd r = All (LawfulElement (kind_of hd r.track)) r.elements

takes_lawful : (hd : Header) (h : Log) → Run hd h → (k : ℕ) → LawfulTake hd (takes h k)
takes_lawful hd [] r k = All-nil (LawfulElement (kind_of hd 0))
takes_lawful hd (opening ∷ h) (r, a) k = takes_lawful hd h r k
takes_lawful hd (begin t p ∷ h) (r, a) k =
    changed_by (λ i x. LawfulTake hd x) (suc (count h)) (λ x. fresh t p (next_place h)) (takes h) k
    (λ e. All-nil (LawfulElement (kind_of hd t))) (λ e. takes_lawful hd h r k)
takes_lawful hd (block j xs ∷ h) (r, a) k =
    changed_by (λ i x. LawfulTake hd x) j (longer xs (next_place h)) (takes h) k
    (λ e. All-append (LawfulElement (kind_of hd (takes h k).track)) (takes h k).elements xs (takes_lawful hd h r k)
    (subst (λ (i : ℕ). All (LawfulElement (kind_of hd (takes h i).track)) xs) (sym e) a.1))
    (λ e. takes_lawful hd h r k)
takes_lawful hd (trailer j ∷ h) (r, a) k =
    changed_by (λ i x. LawfulTake hd x) j (in_state Standing) (takes h) k (λ e. takes_lawful hd h r k) (λ e. takes_lawful hd h r k)
takes_lawful hd (withdrawal t j ∷ h) (r, a) k =
    changed_by (λ i x. LawfulTake hd x) j (in_state Withdrawn) (takes h) k (λ e. takes_lawful hd h r k) (λ e. takes_lawful hd h r k)

-- each element of a track is a lawful one of the track's kind
pub track_lawful : (hd : Header) (h : Log) → Run hd h → (t : ℕ) → All (LawfulElement (kind_of hd t)) (track h t)
track_lawful hd h r t =
    content_all (LawfulElement (kind_of hd t)) (takes h) t
    (λ k e. subst (λ (u : ℕ). All (LawfulElement (kind_of hd u)) (takes h k).elements) e (takes_lawful hd h r k)) (count h)

-- the oldest entry of a log is an opening
opened : (hd : Header) (h : Log) → Run hd h → Opened (List ℕ) h
opened hd [] r = tt
opened hd (opening ∷ []) r = tt
opened hd (begin t p ∷ []) (r, a) = absurd (omega (arith, a.0.1))
opened hd (block k xs ∷ []) (r, a) = absurd (omega (arith, a.0.1))
opened hd (trailer k ∷ []) (r, a) = absurd (omega (arith, a.0.1))
opened hd (withdrawal t k ∷ []) (r, a) = absurd (omega (arith, a.0.1))
opened hd (e ∷ f ∷ h) (r, a) = opened hd (f ∷ h) r

-- a log has at most 65,535 entries
entries_few : (hd : Header) (h : Log) → Run hd h → length h ≤ 65535
entries_few hd [] r = omega arith
entries_few hd (e ∷ h) (r, a) = omega (arith, a.0.0)

-- no track of a log is longer than an export allows
pub track_few : (hd : Header) (h : Log) → Run hd h → (t : ℕ) → length (track h t) ≤ 15727920
track_few hd h r t = longest h (table_run hd h r) (opened hd h r) (entries_few hd h r) (small hd h r) t
