-- What a fuse means over the device below it.
use Rattle.std.specs.Prelude.{◌≡◌, ℕ, zero, suc, ◌-◌, ◌<◌, Bool, true, false, if◌then◌else◌, List, is_ok, Some, None, Ok, Err, nat_eq, nat_lt}
use Rattle.std.specs.Bool.{then_some}
use Rattle.std.specs.Option.{option_eq, option_map}
use Rattle.std.specs.Result.{result_and}
use Rattle.device.specs.declared.fault.Layer.TheVariants.{Fuse as FuseKind}
use Rattle.device.specs.declared.fault.Fault.{Fault}
use Rattle.device.specs.Faults.{layer_number, power_lost, in_range, raised_answer, Answer}
use Rattle.device.specs.Meaning.{Meaning, raised_sector}
use Rattle.device.specs.Calls.{ByAnswer, Refused, Reads, Writes, Flushes}
use Rattle.layers.specs.declared.fuse.Counter.{Counter}
use Rattle.layers.specs.declared.fuse.Fuse.{Fuse}

-- the number by which a fuse names itself
abbrev pub fuse_layer : ℕ
fuse_layer = layer_number FuseKind

-- a counter that is not set: it never blows
abbrev pub unset : Counter
unset = record { remaining = None }

-- a counter is blown where it is set and none are left
abbrev pub is_blown : Counter → Bool
is_blown c = option_eq nat_eq c.remaining (Some 0)

-- a counter that is set to n, or to no number where n is 0; a blown one stays as it is
abbrev pub set_to : ℕ → Counter → Counter
set_to n c = if is_blown c then c else record { remaining = then_some (nat_lt 0 n) n }

-- a counter after one more accepted write or flush: one fewer is left, if it is set
abbrev pub counted : Counter → Counter
counted c = record { remaining = option_map (λ n. n - 1) c.remaining }

-- an accepted call is counted, and no other
abbrev pub Counts : Answer → Counter → Counter → Type 0
Counts r c c' = c' ≡ (if is_ok r then counted c else c)

-- a counter after k accepted writes and flushes
abbrev pub after : ℕ → Counter → Counter
after zero c = c
after (suc k) c = counted (after k c)

-- a counter set to n blows in the n-th accepted call and not before, and one that is not set never does
pub record BlowsInTime : Type 0 where
  pub never : (k : ℕ) → after k unset ≡ unset
  pub before : (n k : ℕ) → k < n → is_blown (after k (set_to n unset)) ≡ false
  pub last : (n : ℕ) → 0 < n → is_blown (after n (set_to n unset)) ≡ true

-- a fuse's own power: lost where it is blown
abbrev pub own_power : Counter → Answer
own_power c = if is_blown c then Err (power_lost fuse_layer) else Ok tt

-- power is off where the fuse is blown, and else as below
abbrev pub fused_power : Counter → Answer → Answer
fused_power c p = result_and (own_power c) (raised_answer p)

-- a device below a fuse
abbrev pub fused : Counter → Meaning → Meaning
fused c m = record { size = m.size; power = fused_power c m.power; sector = λ s. raised_sector (m.sector s) }

-- what a fuse means, by what the device in it means
abbrev pub fuse_meaning : {D : Type 0} → (D → Meaning) → Fuse D → Meaning
fuse_meaning means f = fused f.counter (means f.inner)

-- a fuse's own answer to a read or a write of sector s: range first, then that it is blown
abbrev pub fuse_ready : Counter → ℕ → ℕ → Answer
fuse_ready c size s = result_and (in_range fuse_layer size s) (own_power c)

-- where the fuse's own answer is a fault, Refusal holds of it; else the call was made below and its answer raised
abbrev pub Passed : Answer → (Fault → Type 0) → (Answer → Type 0) → Answer → Type 0
Passed own Refusal Made r = ByAnswer own ((q : Answer) × Made q × (r ≡ raised_answer q)) Refusal

-- a read of the device below is made unless the fuse itself stands in the way
abbrev pub FuseReads : Counter → ℕ → Meaning → ℕ → List ℕ → Answer → Meaning → List ℕ → Type 0
FuseReads c layer m s b r n b' =
    Passed (fuse_ready c m.size s) (λ f. Refused f m r n × (b' ≡ b)) (λ q. Reads layer m s b q n b') r

-- a write of the device below is made unless the fuse itself stands in the way
abbrev pub FuseWrites : Counter → ℕ → Meaning → ℕ → List ℕ → Answer → Meaning → Type 0
FuseWrites c layer m s b r n = Passed (fuse_ready c m.size s) (λ f. Refused f m r n) (λ q. Writes layer m s b q n) r

-- a flush of the device below is made unless the fuse is blown
abbrev pub FuseFlushes : Counter → Meaning → Answer → Meaning → Type 0
FuseFlushes c m r n = Passed (own_power c) (λ f. Refused f m r n) (λ q. Flushes m q n) r

-- exactly what a fuse's read did: refused by the fuse itself, or else read below, its answer raised and nothing counted
abbrev pub FuseFetched : {D : Type 0} → (D → Meaning) → (D → ℕ → List ℕ → Answer → D → List ℕ → Type 0) → Fuse D → ℕ → List ℕ → Answer → Fuse D → List ℕ → Type 0
FuseFetched means Fetched f s b r f' b' =
    Passed (fuse_ready f.counter (means f.inner).size s)
    (λ e. (r ≡ Err e) × (f' ≡ f) × (b' ≡ b))
    (λ q. Fetched f.inner s b q f'.inner b' × (f'.counter ≡ f.counter))
    r

-- exactly what a fuse's write did: refused by the fuse itself, or else written below, counted if accepted, and its answer raised
abbrev pub FuseWrote : {D : Type 0} → (D → Meaning) → (D → ℕ → List ℕ → Answer → D → Type 0) → Fuse D → ℕ → List ℕ → Answer → Fuse D → Type 0
FuseWrote means Wrote f s b r f' =
    Passed (fuse_ready f.counter (means f.inner).size s)
    (λ e. (r ≡ Err e) × (f' ≡ f))
    (λ q. Wrote f.inner s b q f'.inner × Counts q f.counter f'.counter)
    r

-- exactly what a fuse's flush did
abbrev pub FuseFlushed : {D : Type 0} → (D → Answer → D → Type 0) → Fuse D → Answer → Fuse D → Type 0
FuseFlushed Flushed f r f' =
    Passed (own_power f.counter)
    (λ e. (r ≡ Err e) × (f' ≡ f))
    (λ q. Flushed f.inner q f'.inner × Counts q f.counter f'.counter)
    r

-- exactly what a fuse's cut did: it cut below by the same plan, and is not set
abbrev pub FuseSevered : {D : Type 0} → (D → List ℕ → D → Type 0) → Fuse D → List ℕ → Fuse D → Type 0
FuseSevered Severed f plan f' = (f'.counter ≡ unset) × Severed f.inner plan f'.inner
