-- What reads and writes leave of a device, one after the other.
use Rattle.std.proofs.Common.{◌≡◌, ℕ, ◌<◌, ◌≤◌, Bool, true, false, cond, ◌⊎◌, List, [], ◌∷◌, ◌++◌, Some, None, Ok, Err, sym, refl, ap, ◌∙◌, subst, inl, inr, ⊎_elim, ltb-true, ltb-false, nat_lt, Option, arith}
use Rattle.device.specs.declared.fault.Cause.TheVariants.{Sick, PowerLost}
use Rattle.device.specs.declared.fault.Fault.{Fault}
use Rattle.device.specs.Faults.{Answer, out_of_range}
use Rattle.device.specs.Meaning.{Sector, sick, held, Meaning, newest, LawfulPower, LawfulSector, Lawful}
use Rattle.device.specs.Calls.{Remains, Kept, Worn, ByFault, Reads, Writes, Flushes, standing, first_fault, power_fault, sick_fault, settled, written}
use Rattle.device.proofs.Lists.{kept_refl, kept_worn}
use Rattle.recorder.specs.Devices.{Settled, Lost, Readable}

remains_trans : (xs ys zs : List (List ℕ)) → Remains xs ys → Remains ys zs → Remains xs zs
remains_trans [] ys zs h k = tt
remains_trans (x ∷ xs) [] zs h k = absurd h
remains_trans (x ∷ xs) (y ∷ ys) [] h k = absurd k
remains_trans (x ∷ xs) (y ∷ ys) (z ∷ zs) h k =
    ⊎_elim
    (λ p. ⊎_elim (λ q. inl (q.0 ∙ p.0, remains_trans xs ys zs q.1 p.1)) (λ q. inr (remains_trans (x ∷ xs) ys zs q p.1)) h)
    (λ p. inr (remains_trans (x ∷ xs) (y ∷ ys) zs h p)) k

pub kept_trans : (r s t : Sector) → Kept r s → Kept s t → Kept r t
kept_trans (sick f) s t h k = subst (λ (v : Sector). Kept v t) h k
kept_trans (held old new) (sick f) t h k = absurd h
kept_trans (held old new) (held old' new') (sick f) h k = absurd k
kept_trans (held old new) (held old' new') (held last newest) h k = (k.0 ∙ h.0, remains_trans last old' old k.1 h.1)

pub worn_trans : (r s t : Sector) → Worn r s → Worn s t → Worn r t
worn_trans (sick f) s t h k = subst (λ (v : Sector). Worn v t) h k
worn_trans (held old new) (sick f) t h k = absurd h
worn_trans (held old new) (held old' new') (sick f) h k = absurd k
worn_trans (held old new) (held old' new') (held last newest) h k = remains_trans (last ++ (newest ∷ [])) (old' ++ (new' ∷ [])) (old ++ (new ∷ [])) k h

-- a sector that is kept reads the same
pub kept_newest : (s t : Sector) → Kept s t → newest t ≡ newest s
kept_newest (sick f) t h = ap newest h
kept_newest (held old new) (sick f) h = absurd h
kept_newest (held old new) (held old' new') h = h.0

-- and is as sick as it was
pub kept_sick : (s t : Sector) → Kept s t → sick_fault t ≡ sick_fault s
kept_sick (sick f) t h = ap sick_fault h
kept_sick (held old new) (sick f) h = absurd h
kept_sick (held old new) (held old' new') h = refl

pub settled_refl : (m : Meaning) → Settled m m
settled_refl m = record { size = refl; each = λ t. kept_refl (m.sector t) }

pub settled_trans : (l m n : Meaning) → Settled l m → Settled m n → Settled l n
settled_trans l m n h k = record { size = k.size ∙ h.size; each = λ t. kept_trans (l.sector t) (m.sector t) (n.sector t) (h.each t) (k.each t) }

-- accepted calls, and then one in which power went off
pub settled_lost : (f : Fault) (l m n : Meaning) → l.power ≡ Ok tt → Settled l m → Lost f m n → Lost f l n
settled_lost f l m n p h k =
    record {
      size = k.size ∙ h.size;
      before = p;
      after = k.after;
      each = λ t. worn_trans (l.sector t) (m.sector t) (n.sector t) (kept_worn (l.sector t) (m.sector t) (h.each t)) (k.each t);
    }

-- accepted calls, in the last of which power went off unseen
pub settled_off : (f : Fault) (l m : Meaning) → l.power ≡ Ok tt → Settled l m → m.power ≡ Err f → Lost f l m
settled_off f l m p h e = record { size = h.size; before = p; after = e; each = λ t. kept_worn (l.sector t) (m.sector t) (h.each t) }

-- what stands in the way of a read or a write: the sector is not there; power is off; or the sector is sick
pub data Stands (layer : ℕ) (m : Meaning) (p : ℕ) (f : Fault) : Type 0 where
  outside : m.size ≤ p → f ≡ out_of_range layer p → Stands layer m p f
  unpowered : p < m.size → m.power ≡ Err f → Stands layer m p f
  unwell : p < m.size → m.power ≡ Ok tt → sick_fault (m.sector p) ≡ Some f → Stands layer m p f

stands_by : (layer : ℕ) (m : Meaning) (p : ℕ) (f : Fault) (b : Bool) (a : Answer) (s : Sector) → nat_lt p m.size ≡ b → m.power ≡ a → m.sector p ≡ s
    → cond b (first_fault (power_fault a) (sick_fault s)) (Some (out_of_range layer p)) ≡ Some f → Stands layer m p f
stands_by layer m p f true (Ok x) s eb ea es h = unwell (ltb-true p m.size eb) ea (ap sick_fault es ∙ h)
stands_by layer m p f true (Err g) s eb ea es h = let e : g ≡ f = cc in unpowered (ltb-true p m.size eb) (ea ∙ ap {B = Answer} Err e)
stands_by layer m p f false a s eb ea es h = outside (ltb-false p m.size eb) (cc)

pub stands : (layer : ℕ) (m : Meaning) (p : ℕ) (f : Fault) → standing layer m p ≡ Some f → Stands layer m p f
stands layer m p f h = stands_by layer m p f (nat_lt p m.size) m.power (m.sector p) refl refl refl h

-- nothing stands in the way: the sector is there and not sick, and power is on
pub record Free (m : Meaning) (p : ℕ) : Type 0 where
  pub readable : Readable m p
  pub power : m.power ≡ Ok tt

free_by : (layer : ℕ) (m : Meaning) (p : ℕ) (b : Bool) (a : Answer) (s : Sector) → nat_lt p m.size ≡ b → m.power ≡ a → m.sector p ≡ s
    → cond b (first_fault (power_fault a) (sick_fault s)) (Some (out_of_range layer p)) ≡ None → Free m p
free_by layer m p true (Ok x) s eb ea es h = record { readable = (ltb-true p m.size eb, ap sick_fault es ∙ h); power = ea }
free_by layer m p true (Err g) s eb ea es h = cc
free_by layer m p false a s eb ea es h = cc

pub free : (layer : ℕ) (m : Meaning) (p : ℕ) → standing layer m p ≡ None → Free m p
free layer m p h = free_by layer m p (nat_lt p m.size) m.power (m.sector p) refl refl refl h

-- a call by what stood in its way
by_fault : (P : Fault → Type 0) (Q X : Type 0) (o : Option Fault) → ByFault o P Q → ((f : Fault) → o ≡ Some f → P f → X) → (o ≡ None → Q → X) → X
by_fault P Q X (Some f) h due free = due f refl h
by_fault P Q X None h due free = free refl h

same_fault : (f g : Fault) → ◌≡◌ {A = Answer} (Err f) (Err g) → f ≡ g
same_fault f g e = cc

-- an accepted read
pub record HasRead (m : Meaning) (p : ℕ) (m' : Meaning) (buffer' : List ℕ) : Type 0 where
  pub free : Free m p
  pub kept : Settled m m'
  pub buffer : buffer' ≡ newest (m.sector p)

pub read : (layer : ℕ) (m m' : Meaning) (p : ℕ) (buffer buffer' : List ℕ) → Reads layer m p buffer (Ok tt) m' buffer' → HasRead m p m' buffer'
read layer m m' p buffer buffer' h =
    by_fault _ _ (HasRead m p m' buffer') (standing layer m p) h
    (λ f e k. let r = k.0.says in cc)
    (λ e k. record { free = free layer m p e; kept = record { size = k.0.size; each = k.0.so }; buffer = k.1 })

-- what a read leaves that tells a fault: nothing changed, since the fault stood before; or power went off
abbrev pub Unread : ℕ → Meaning → ℕ → Fault → Meaning → Type 0
Unread layer m p f m' = ((standing layer m p ≡ Some f) × (m' ≡ m)) ⊎ Lost f m m'

pub not_read : (layer : ℕ) (m m' : Meaning) (p : ℕ) (buffer buffer' : List ℕ) (f : Fault) → Reads layer m p buffer (Err f) m' buffer'
    → Unread layer m p f m' × (buffer' ≡ buffer)
not_read layer m m' p buffer buffer' f h =
    by_fault _ _ (Unread layer m p f m' × (buffer' ≡ buffer)) (standing layer m p) h
    (λ g e k. let same = same_fault f g k.0.says in (inl (e ∙ ap Some (sym same), k.0.same), k.1))
    (λ e k. let a = free layer m p e in (inr (record { size = k.0.size; before = a.power; after = k.0.so.power; each = k.0.so.each }), k.1))

-- an accepted write
pub record HasWritten (m : Meaning) (p : ℕ) (content : List ℕ) (m' : Meaning) : Type 0 where
  pub free : Free m p
  pub size : m'.size ≡ m.size
  pub each : (t : ℕ) → Kept (written p content m.sector t) (m'.sector t)

pub wrote : (layer : ℕ) (m m' : Meaning) (p : ℕ) (content : List ℕ) → Writes layer m p content (Ok tt) m' → HasWritten m p content m'
wrote layer m m' p content h =
    by_fault _ _ (HasWritten m p content m') (standing layer m p) h
    (λ f e k. let r = k.says in cc)
    (λ e k. record { free = free layer m p e; size = k.size; each = k.so })

-- a write in which power went off
pub record LostWriting (f : Fault) (m : Meaning) (p : ℕ) (content : List ℕ) (m' : Meaning) : Type 0 where
  pub size : m'.size ≡ m.size
  pub before : m.power ≡ Ok tt
  pub after : m'.power ≡ Err f
  pub each : (t : ℕ) → Worn (written p content m.sector t) (m'.sector t)

pub not_written : (layer : ℕ) (m m' : Meaning) (p : ℕ) (content : List ℕ) (f : Fault) → Writes layer m p content (Err f) m'
    → ((standing layer m p ≡ Some f) × (m' ≡ m)) ⊎ LostWriting f m p content m'
not_written layer m m' p content f h =
    by_fault _ _ (((standing layer m p ≡ Some f) × (m' ≡ m)) ⊎ LostWriting f m p content m') (standing layer m p) h
    (λ g e k. inl (e ∙ ap Some (sym (same_fault f g k.says)), k.same))
    (λ e k. let a = free layer m p e in inr (record { size = k.size; before = a.power; after = k.so.power; each = k.so.each }))

-- an accepted flush
pub record HasFlushed (m m' : Meaning) : Type 0 where
  pub power : m.power ≡ Ok tt
  pub size : m'.size ≡ m.size
  pub each : (t : ℕ) → m'.sector t ≡ settled (m.sector t)

powered : (a : Answer) → power_fault a ≡ None → a ≡ Ok tt
powered (Ok x) e = refl
powered (Err f) e = cc

unpowered_by : (a : Answer) (f : Fault) → power_fault a ≡ Some f → a ≡ Err f
unpowered_by (Ok x) f e = cc
unpowered_by (Err g) f e = cc

pub flushed : (m m' : Meaning) → Flushes m (Ok tt) m' → HasFlushed m m'
flushed m m' h =
    by_fault _ _ (HasFlushed m m') (power_fault m.power) h
    (λ f e k. let r = k.says in cc)
    (λ e k. record { power = powered m.power e; size = k.size; each = k.so })

pub not_flushed : (m m' : Meaning) (f : Fault) → Flushes m (Err f) m' → ((m.power ≡ Err f) × (m' ≡ m)) ⊎ Lost f m m'
not_flushed m m' f h =
    by_fault _ _ (((m.power ≡ Err f) × (m' ≡ m)) ⊎ Lost f m m') (power_fault m.power) h
    (λ g e k. inl (unpowered_by m.power f (e ∙ ap Some (sym (same_fault f g k.says))), k.same))
    (λ e k. inr (record { size = k.size; before = powered m.power e; after = k.so.power; each = k.so.each }))

-- the fault of power that is off says so
pub lost_cause : (m : Meaning) (f : Fault) → Lawful m → m.power ≡ Err f → f.cause ≡ PowerLost
lost_cause m f law e = let l : LawfulPower (Err f) = subst LawfulPower e law.power in l.0

sick_cause_of : (s : Sector) (f : Fault) → LawfulSector s → sick_fault s ≡ Some f → f.cause ≡ Sick
sick_cause_of (sick g) f law e = cc
sick_cause_of (held old new) f law e = cc

-- the fault of a sick sector says so
pub sick_cause : (m : Meaning) (p : ℕ) (f : Fault) → Lawful m → p < m.size → sick_fault (m.sector p) ≡ Some f → f.cause ≡ Sick
sick_cause m p f law lt e = sick_cause_of (m.sector p) f (law.each p lt) e

-- After accepted reads, the first of them with power on, a read tells a fault: the sector is sick, or power went off. The cause says which.
pub data Halt (l : Meaning) (p : ℕ) (f : Fault) (m' : Meaning) : Type 0 where
  at_sick : f.cause ≡ Sick → sick_fault (l.sector p) ≡ Some f → Settled l m' → Halt l p f m'
  off : f.cause ≡ PowerLost → Lost f l m' → Halt l p f m'

module _ (layer : ℕ) (l m m' : Meaning) (p : ℕ) (f : Fault) (law : Lawful m) (law' : Lawful m') (power : l.power ≡ Ok tt) (lt : p < l.size) (kept : Settled l m) where
  off_before : m.power ≡ Err f → m' ≡ m → Halt l p f m'
  off_before e same =
      off (lost_cause m f law e) (subst (λ (x : Meaning). Lost f l x) (sym same) (settled_off f l m power kept e))

  stood : Stands layer m p f → m' ≡ m → Halt l p f m'
  stood (outside le e) same = absurd (omega (arith, kept.size))
  stood (unpowered lt e) same = off_before e same
  stood (unwell lt e s) same =
      at_sick (sick_cause m p f law lt s) (sym (kept_sick (l.sector p) (m.sector p) (kept.each p)) ∙ s) (subst (λ (x : Meaning). Settled l x) (sym same) kept)

  pub halted : Unread layer m p f m' → Halt l p f m'
  halted h =
      ⊎_elim (λ a. stood (stands layer m p f a.0) a.1)
      (λ b. off (lost_cause m' f law' b.after) (settled_lost f l m m' power kept b)) h
