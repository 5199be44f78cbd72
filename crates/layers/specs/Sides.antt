-- What a mirror's calls do to each of its sides.
use Rattle.std.specs.Prelude.{◌≡◌, ℕ, Bool, false, cond, List, Some, Ok, Err, Option, ◌==◌, nat_lt, not, MatchBool}
use Rattle.device.specs.declared.fault.Cause.TheVariants.{PowerLost}
use Rattle.device.specs.declared.fault.Fault.{Fault}
use Rattle.device.specs.Faults.{cause_number, out_of_range, raised, Answer}
use Rattle.device.specs.Meaning.{Meaning}
use Rattle.device.specs.Calls.{ByAnswer, ByFault, Accepted, Reads, Writes, Flushes, power_fault, settled, written}
use Rattle.layers.specs.declared.mirror.Mirror.{Mirror}
use Rattle.layers.specs.Mirrored.{both_power, mirror_layer, mirror_meaning}

-- whether power went off in a call that answered so: every device's faults say their cause, so the cause tells it
abbrev pub lost_power : Answer → Bool
lost_power (Ok x) = false
lost_power (Err f) = cause_number f.cause == cause_number PowerLost

-- whether the call found its sector sick: it failed, and power did not go off in it
abbrev pub found_sick : Answer → Bool
found_sick (Ok x) = false
found_sick (Err f) = not (lost_power (Err f))

-- accepted where either side accepted, or else the first side's fault
abbrev pub either_answer : Answer → Answer → Answer
either_answer (Ok x) q = Ok tt
either_answer (Err f) (Ok x) = Ok tt
either_answer (Err f) (Err g) = Err (raised f)

-- the mirror's answer: its power after the call where power went off on a side in it, the first side's fault where both are sick, else accepted
abbrev pub joined : Answer → Answer → Answer → Answer
joined p q power = cond (lost_power p) power (cond (lost_power q) power (either_answer p q))

-- what a read did to a device: the device before, the sector, the buffer before, the answer, the device after, the buffer after
abbrev pub ReadRelation : Type 0 → Type 1
ReadRelation D = D → ℕ → List ℕ → Answer → D → List ℕ → Type 0

-- what a write did to a device: the device before, the sector, the content, the answer, the device after
abbrev pub WriteRelation : Type 0 → Type 1
WriteRelation D = D → ℕ → List ℕ → Answer → D → Type 0

-- what a flush did to a device: the device before, the answer, the device after
abbrev pub FlushRelation : Type 0 → Type 1
FlushRelation D = D → Answer → D → Type 0

-- what a cut did to a device: the device before, the plan, the device after
abbrev pub CutRelation : Type 0 → Type 1
CutRelation D = D → List ℕ → D → Type 0

-- a mirror of what each side means
abbrev pub sides_of : {D E : Type 0} → (D → Meaning) → (E → Meaning) → Mirror D E → Mirror Meaning Meaning
sides_of d e m = record { first = d m.first; second = e m.second }

-- what the mirror itself finds in the way of a read or a write: range first, then power
abbrev pub mirror_stands : Meaning → ℕ → Option Fault
mirror_stands m s = cond (nat_lt s m.size) (power_fault m.power) (Some (out_of_range mirror_layer s))

-- each side answers the call somehow, and the mirror answers the two answers joined
abbrev pub Joined : {D E : Type 0} → (D → Meaning) → (E → Meaning) → (Answer → Answer → Type 0) → Answer → Mirror D E → Type 0
Joined d e Ended r n = (p : Answer) × (q : Answer) × Ended p q × (r ≡ joined p q (both_power (d n.first).power (e n.second).power))

-- a read asks the first side, and the second where the first is sick; else the second stays as it was
abbrev pub SidesFetched : {D E : Type 0} → ReadRelation D → ReadRelation E
    → ℕ → List ℕ → List ℕ → Mirror D E → Mirror D E → Answer → Answer → Type 0
SidesFetched FetchedD FetchedE s b b' m n p q =
    MatchBool (found_sick p)
    (FetchedD m.first s b p n.first b × FetchedE m.second s b q n.second b')
    (FetchedD m.first s b p n.first b' × (q ≡ Ok tt) × (n.second ≡ m.second))

-- what a mirror's read did to its sides: they were read, and their answers are joined
abbrev pub EitherFetched : {D E : Type 0} → (D → Meaning) → (E → Meaning) → ReadRelation D → ReadRelation E → ReadRelation (Mirror D E)
EitherFetched d e FetchedD FetchedE m s b r n b' = Joined d e (SidesFetched FetchedD FetchedE s b b' m n) r n

-- what a mirror's read did: refused by the mirror itself, or else its sides were read
abbrev pub MirrorFetched : {D E : Type 0} → (D → Meaning) → (E → Meaning) → ReadRelation D → ReadRelation E → ReadRelation (Mirror D E)
MirrorFetched d e FetchedD FetchedE m s b r n b' =
    ByFault (mirror_stands (mirror_meaning d e m) s) (λ f. (r ≡ Err f) × (n ≡ m) × (b' ≡ b)) (EitherFetched d e FetchedD FetchedE m s b r n b')

-- what a mirror's write did to its sides: each was written, and their answers are joined
abbrev pub BothWrote : {D E : Type 0} → (D → Meaning) → (E → Meaning) → WriteRelation D → WriteRelation E → WriteRelation (Mirror D E)
BothWrote d e WroteD WroteE m s w r n = Joined d e (λ p q. WroteD m.first s w p n.first × WroteE m.second s w q n.second) r n

-- what a mirror's write did: refused by the mirror itself, or else both sides were written
abbrev pub MirrorWrote : {D E : Type 0} → (D → Meaning) → (E → Meaning) → WriteRelation D → WriteRelation E → WriteRelation (Mirror D E)
MirrorWrote d e WroteD WroteE m s w r n =
    ByFault (mirror_stands (mirror_meaning d e m) s) (λ f. (r ≡ Err f) × (n ≡ m)) (BothWrote d e WroteD WroteE m s w r n)

-- what a mirror's flush did to its sides: each was flushed, and their answers are joined
abbrev pub BothFlushed : {D E : Type 0} → (D → Meaning) → (E → Meaning) → FlushRelation D → FlushRelation E → FlushRelation (Mirror D E)
BothFlushed d e FlushedD FlushedE m r n = Joined d e (λ p q. FlushedD m.first p n.first × FlushedE m.second q n.second) r n

-- what a mirror's flush did: refused for want of power, or else both sides were flushed
abbrev pub MirrorFlushed : {D E : Type 0} → (D → Meaning) → (E → Meaning) → FlushRelation D → FlushRelation E → FlushRelation (Mirror D E)
MirrorFlushed d e FlushedD FlushedE m r n =
    ByFault (power_fault (mirror_meaning d e m).power) (λ f. (r ≡ Err f) × (n ≡ m)) (BothFlushed d e FlushedD FlushedE m r n)

-- what a mirror's cut did: each side was cut by the same plan
abbrev pub MirrorSevered : {D E : Type 0} → CutRelation D → CutRelation E → CutRelation (Mirror D E)
MirrorSevered SeveredD SeveredE m plan n = SeveredD m.first plan n.first × SeveredE m.second plan n.second

-- a read of the mirror, by what its sides mean
abbrev pub MirrorReads : ℕ → ℕ → ReadRelation (Mirror Meaning Meaning)
MirrorReads d e = MirrorFetched (λ a. a) (λ b. b) (Reads d) (Reads e)

-- a write to the mirror, by what its sides mean
abbrev pub MirrorWrites : ℕ → ℕ → WriteRelation (Mirror Meaning Meaning)
MirrorWrites d e = MirrorWrote (λ a. a) (λ b. b) (Writes d) (Writes e)

-- a flush of the mirror, by what its sides mean
abbrev pub MirrorFlushes : FlushRelation (Mirror Meaning Meaning)
MirrorFlushes = MirrorFlushed (λ a. a) (λ b. b) Flushes Flushes

-- an accepted write is in each side's lists
abbrev pub EachWrote : WriteRelation (Mirror Meaning Meaning)
EachWrote m s w r n =
    ByAnswer r (Accepted (written s w m.first.sector) n.first × Accepted (written s w m.second.sector) n.second) (λ f. Unit {0})

-- an accepted flush leaves each side only its newest contents
abbrev pub EachFlushed : FlushRelation (Mirror Meaning Meaning)
EachFlushed m r n =
    ByAnswer r
    (((t : ℕ) → n.first.sector t ≡ settled (m.first.sector t)) × ((t : ℕ) → n.second.sector t ≡ settled (m.second.sector t)))
    (λ f. Unit {0})
