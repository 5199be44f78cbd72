-- What each call answers, and what it may do to a device.
use Rattle.std.specs.Prelude.{◌≡◌, ℕ, cond, ◌⊎◌, List, [], ◌∷◌, ◌++◌, Some, None, Ok, Err, Option, ◌==◌, nat_lt}
use Rattle.device.specs.declared.fault.Fault.{Fault}
use Rattle.device.specs.Faults.{Answer, out_of_range}
use Rattle.device.specs.Meaning.{Sector, sick, held, Meaning, newest}

-- the fault of power that is off
abbrev pub power_fault : Answer → Option Fault
power_fault (Ok x) = None
power_fault (Err f) = Some f

-- the fault of a sick sector
abbrev pub sick_fault : Sector → Option Fault
sick_fault (sick f) = Some f
sick_fault (held old new) = None

-- the first of two faults that there is
abbrev pub first_fault : Option Fault → Option Fault → Option Fault
first_fault (Some f) o = Some f
first_fault None o = o

-- the fault that stands in the way of a read or a write: range first, then power, then sickness
abbrev pub standing : ℕ → Meaning → ℕ → Option Fault
standing layer m s = cond (nat_lt s m.size) (first_fault (power_fault m.power) (sick_fault (m.sector s))) (Some (out_of_range layer s))

-- the answer of a device whose power never goes: what stands in the way, and nothing else
abbrev pub answer_of : Option Fault → Answer
answer_of None = Ok tt
answer_of (Some f) = Err f

-- P where the call was accepted, Q of the fault that it answered
abbrev pub ByAnswer : Answer → Type 0 → (Fault → Type 0) → Type 0
ByAnswer (Ok x) P Q = P
ByAnswer (Err f) P Q = Q f

-- P of the fault that stood, Q where none did
abbrev pub ByFault : Option Fault → (Fault → Type 0) → Type 0 → Type 0
ByFault (Some f) P Q = P f
ByFault None P Q = Q

-- xs is what remains of ys when some members are lost
abbrev pub Remains : List (List ℕ) → List (List ℕ) → Type 0
Remains [] ys = Unit {0}
Remains (x ∷ xs) [] = ⊥
Remains (x ∷ xs) (y ∷ ys) = ((x ≡ y) × Remains xs ys) ⊎ Remains (x ∷ xs) ys

-- a sector before and after an accepted call: it keeps its newest content, may lose others, and gains none
abbrev pub Kept : Sector → Sector → Type 0
Kept (sick f) t = t ≡ sick f
Kept (held old new) (sick f) = ⊥
Kept (held old new) (held old' new') = (new' ≡ new) × Remains old' old

-- a sector before and after a call that answers the loss of power: it may lose any contents but all, and gains none
abbrev pub Worn : Sector → Sector → Type 0
Worn (sick f) t = t ≡ sick f
Worn (held old new) (sick f) = ⊥
Worn (held old new) (held old' new') = Remains (old' ++ (new' ∷ [])) (old ++ (new ∷ []))

-- a sector with one content more, the newest
abbrev pub added : List ℕ → Sector → Sector
added b (sick f) = sick f
added b (held old new) = held (old ++ (new ∷ [])) b

-- the sectors after bytes b were written to sector s
abbrev pub written : ℕ → List ℕ → (ℕ → Sector) → ℕ → Sector
written s b at t = cond (t == s) (added b (at t)) (at t)

-- a sector that has lost all but its newest content
abbrev pub settled : Sector → Sector
settled (sick f) = sick f
settled (held old new) = held [] new

-- refused for a fault that stood before the call: nothing changes
pub record Refused (f : Fault) (m : Meaning) (r : Answer) (n : Meaning) : Type 0 where
  pub says : r ≡ Err f
  pub same : n ≡ m

-- power went off in the call, which answers the fault f; `at` has the sectors as the call would have left them
pub record Failed (at : ℕ → Sector) (f : Fault) (n : Meaning) : Type 0 where
  pub power : n.power ≡ Err f
  pub each : (t : ℕ) → Worn (at t) (n.sector t)

-- a call that nothing stood in the way of: accepted, and then Done, or power went off in it
pub record Went (m : Meaning) (at : ℕ → Sector) (Done : Type 0) (r : Answer) (n : Meaning) : Type 0 where
  pub size : n.size ≡ m.size
  pub so : ByAnswer r Done (λ f. Failed at f n)

-- each sector of `at` keeps its newest content
abbrev pub Accepted : (ℕ → Sector) → Meaning → Type 0
Accepted at n = (t : ℕ) → Kept (at t) (n.sector t)

-- what a buffer holds after a read: the newest content, or what it held before
abbrev pub filled : Answer → List ℕ → List ℕ → List ℕ
filled (Ok x) new old = new
filled (Err f) new old = old

-- a read of sector s
abbrev pub Reads : ℕ → Meaning → ℕ → List ℕ → Answer → Meaning → List ℕ → Type 0
Reads layer m s buffer r n buffer' =
    ByFault (standing layer m s)
    (λ f. Refused f m r n × (buffer' ≡ buffer))
    (Went m m.sector (Accepted m.sector n) r n × (buffer' ≡ filled r (newest (m.sector s)) buffer))

-- a write of bytes b to sector s
abbrev pub Writes : ℕ → Meaning → ℕ → List ℕ → Answer → Meaning → Type 0
Writes layer m s b r n =
    ByFault (standing layer m s)
    (λ f. Refused f m r n)
    (Went m (written s b m.sector) (Accepted (written s b m.sector) n) r n)

-- a flush: each sector is left only its newest content
abbrev pub Flushes : Meaning → Answer → Meaning → Type 0
Flushes m r n =
    ByFault (power_fault m.power)
    (λ f. Refused f m r n)
    (Went m m.sector ((t : ℕ) → n.sector t ≡ settled (m.sector t)) r n)
