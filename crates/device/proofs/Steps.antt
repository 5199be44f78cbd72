-- From what stands in the way of a call to the call's relation, and back.
use Rattle.std.proofs.Common.{◌≡◌, ℕ, ◌<◌, Bool, cond, List, Some, None, Ok, Option, sym, ap, ◌∙◌, subst, lt-ltb}
use Rattle.device.specs.declared.fault.Fault.{Fault}
use Rattle.device.specs.Faults.{Answer, out_of_range}
use Rattle.device.specs.Meaning.{Meaning, newest}
use Rattle.device.specs.Calls.{ByFault, Reads, Writes, Flushes, Refused, Went, Accepted, standing, first_fault, power_fault, sick_fault, filled, settled, written}

-- with the sector in range and power on, only sickness stands
pub standing_is : (layer s : ℕ) (m : Meaning) (o : Option Fault) → s < m.size → m.power ≡ Ok tt → sick_fault (m.sector s) ≡ o → standing layer m s ≡ o
standing_is layer s m o lt p i =
    ap (λ (b : Bool). cond b (first_fault (power_fault m.power) (sick_fault (m.sector s))) (Some (out_of_range layer s))) (lt-ltb s m.size lt)
    ∙ ap (λ (q : Answer). first_fault (power_fault q) (sick_fault (m.sector s))) p ∙ i

pub by_none : (P : Fault → Type 0) (Q : Type 0) (o : Option Fault) → o ≡ None → Q → ByFault o P Q
by_none P Q o e q = subst (λ (x : Option Fault). ByFault x P Q) (sym e) q

pub by_some : (P : Fault → Type 0) (Q : Type 0) (o : Option Fault) (f : Fault) → o ≡ Some f → P f → ByFault o P Q
by_some P Q o f e p = subst (λ (x : Option Fault). ByFault x P Q) (sym e) p

pub reads_went : (layer s : ℕ) (m n : Meaning) (buffer buffer' : List ℕ) (r : Answer) → standing layer m s ≡ None
    → Went m m.sector (Accepted m.sector n) r n → buffer' ≡ filled r (newest (m.sector s)) buffer → Reads layer m s buffer r n buffer'
reads_went layer s m n buffer buffer' r e w g =
    by_none (λ f. Refused f m r n × (buffer' ≡ buffer)) (Went m m.sector (Accepted m.sector n) r n × (buffer' ≡ filled r (newest (m.sector s)) buffer))
    (standing layer m s) e (w, g)

pub writes_went : (layer s : ℕ) (m n : Meaning) (b : List ℕ) (r : Answer) → standing layer m s ≡ None
    → Went m (written s b m.sector) (Accepted (written s b m.sector) n) r n → Writes layer m s b r n
writes_went layer s m n b r e w =
    by_none (λ f. Refused f m r n) (Went m (written s b m.sector) (Accepted (written s b m.sector) n) r n) (standing layer m s) e w

-- a flush that no loss of power stood in the way of
abbrev pub FlushWent : Meaning → Answer → Meaning → Type 0
FlushWent m r n = Went m m.sector ((t : ℕ) → n.sector t ≡ settled (m.sector t)) r n

pub flushes_went : (m n : Meaning) (r : Answer) → m.power ≡ Ok tt → FlushWent m r n → Flushes m r n
flushes_went m n r e w = by_none (λ f. Refused f m r n) (FlushWent m r n) (power_fault m.power) (ap power_fault e) w

pub flushed_went : (m n : Meaning) (r : Answer) → m.power ≡ Ok tt → Flushes m r n → FlushWent m r n
flushed_went m n r e w =
    let P : Answer → Type 0 = λ p. ByFault (power_fault p) (λ f. Refused f m r n) (FlushWent m r n) in
    subst P e w
