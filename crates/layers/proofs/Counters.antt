-- When a counter blows.
use Rattle.std.proofs.Common.{◌≡◌, ℕ, zero, suc, ◌-◌, ◌<◌, Some, refl, arith}
use Rattle.layers.specs.Fused.{unset, set_to, after, BlowsInTime}

unset_stays : (k : ℕ) → after k unset ≡ unset
unset_stays zero = refl
unset_stays (suc k) = rw (unset_stays k)

-- after k accepted calls n - k are left of the n that were set
left : (n k : ℕ) → 0 < n → after k (set_to n unset) ≡ record { remaining = Some (n - k) }
left n zero lt = grind arith
left n (suc k) lt = grind (arith, left n k lt)

pub blows_in_time : BlowsInTime
blows_in_time = record {
  never = unset_stays;
  before = λ n k lt. grind (arith, left);
  last = λ n lt. grind (arith, left);
}
