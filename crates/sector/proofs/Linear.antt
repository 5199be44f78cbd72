-- The register's step is linear over exclusive or, and so are many steps.
use Rattle.std.proofs.Common.{◌≡◌, ℕ, zero, suc, ◌+◌, ◌*◌, ◌/◌, ◌%◌, ◌^◌, ◌<◌, sym, refl, ap, ◌∙◌, ap₂, suc-add, zero-add, arith}
use lib.Bits.{bit_xor, xor_comm, xor_assoc, xor_zero_r, xor_shr, xor_mod, shifted_half, shifted_even}
use Rattle.sector.specs.Crc.{step, steps}

pub xor_mid : (a b c d : ℕ) → bit_xor (bit_xor a b) (bit_xor c d) ≡ bit_xor (bit_xor a c) (bit_xor b d)
xor_mid a b c d =
    xor_assoc a b (bit_xor c d) ∙ ap (bit_xor a) (sym (xor_assoc b c d) ∙ ap (λ (x : ℕ). bit_xor x d) (xor_comm b c) ∙ xor_assoc c b d)
    ∙ sym (xor_assoc a c (bit_xor b d))

-- one bit times the polynomial
bit_times : (x y : ℕ) → x < 2 → y < 2 → bit_xor x y * 0xEDB88320 ≡ bit_xor (x * 0xEDB88320) (y * 0xEDB88320)
bit_times zero y hx hy = refl
bit_times (suc zero) zero hx hy = refl
bit_times (suc zero) (suc zero) hx hy = refl
bit_times (suc zero) (suc (suc y)) hx hy = absurd (omega arith)
bit_times (suc (suc x)) y hx hy = absurd (omega arith)

step_xor : (a b : ℕ) → step (bit_xor a b) ≡ bit_xor (step a) (step b)
unfolding step
step_xor a b =
    ap₂ (λ (x y : ℕ). bit_xor x (y * 0xEDB88320)) (xor_shr a b 1) (xor_mod a b 1)
    ∙ ap (bit_xor (bit_xor (a / 2) (b / 2))) (bit_times (a % 2) (b % 2) (omega arith) (omega arith))
    ∙ xor_mid (a / 2) (b / 2) (a % 2 * 0xEDB88320) (b % 2 * 0xEDB88320)

pub steps_xor : (k a b : ℕ) → steps k (bit_xor a b) ≡ bit_xor (steps k a) (steps k b)
unfolding steps
steps_xor zero a b = refl
steps_xor (suc k) a b = ap (steps k) (step_xor a b) ∙ steps_xor k (step a) (step b)

-- zeros that leave add nothing
step_shift : (a k : ℕ) → step (a * 2 ^ suc k) ≡ a * 2 ^ k
unfolding step
step_shift a k =
    ap₂ (λ (x y : ℕ). bit_xor x (y * 0xEDB88320)) (shifted_half a k) (shifted_even a k) ∙ xor_zero_r (a * 2 ^ k)

pub steps_shift : (k a : ℕ) → steps k (a * 2 ^ k) ≡ a
unfolding steps
steps_shift zero a = omega arith
steps_shift (suc k) a = ap (steps k) (step_shift a k) ∙ steps_shift k a

pub steps_add : (j k c : ℕ) → steps (j + k) c ≡ steps k (steps j c)
unfolding steps
steps_add zero k c = ap (λ (n : ℕ). steps n c) (zero-add k)
steps_add (suc j) k c = ap (λ (n : ℕ). steps n c) (suc-add j k) ∙ steps_add j k (step c)

-- zeros leave zeros
pub steps_zero : (k : ℕ) → steps k 0 ≡ 0
unfolding step steps
steps_zero zero = refl
steps_zero (suc k) = steps_zero k
