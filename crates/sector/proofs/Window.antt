-- A word that leaves the window and its shares in the words above give the same register.
use Rattle.std.proofs.Common.{◌≡◌, ℕ, zero, suc, ◌+◌, ◌-◌, ◌*◌, ◌/◌, ◌%◌, ◌^◌, ◌<◌, ◌≤◌, Bool, true, ◌&&◌, T, eqb, List, [], ◌∷◌, ◌++◌, length, get_or, take_all, sym, refl, ap, ◌∙◌, subst, ap₂, add-zero, mod-lt, mul_comm, div-lt_iff_lt-mul, one-mul, pow-suc, div-add-mod', zero-mul, arith, eqb→eq, pow_pos}
use lib.Bits.{bit_xor, xor_comm, xor_assoc, xor_zero_l, xor_zero_r, xor_shr, xor_mod, xor_block, xor_shifted, xor_lt}
use Rattle.little_endian.proofs.Parts.{spelled, spelled_is}
use Rattle.sector.specs.Crc.{step, steps, register}
use Rattle.sector.specs.Window.{above, value, Loads}
use Rattle.sector.proofs.Table.{and_left, and_right}
use Rattle.sector.proofs.Linear.{xor_mid, steps_xor, steps_shift, steps_add}
use Rattle.sector.proofs.Slices.{bits, bits_is, register_xor, register_append}

-- a function that is linear over exclusive or
abbrev Linear : (ℕ → ℕ) → Type 0
Linear f = (x y : ℕ) → f (bit_xor x y) ≡ bit_xor (f x) (f y)

linear_xor : (f g : ℕ → ℕ) → Linear f → Linear g → Linear (λ x. bit_xor (f x) (g x))
linear_xor f g hf hg x y = ap₂ bit_xor (hf x y) (hg x y) ∙ xor_mid (f x) (f y) (g x) (g y)

times_xor : (k x y : ℕ) → bit_xor x y * 2 ^ k ≡ bit_xor (x * 2 ^ k) (y * 2 ^ k)
times_xor k x y =
    sym (ap₂ bit_xor (sym (add-zero (x * 2 ^ k))) (sym (add-zero (y * 2 ^ k))) ∙ xor_block k x y 0 0 (pow_pos k) (pow_pos k) ∙ add-zero (bit_xor x y * 2 ^ k))

linear_shl : (k : ℕ) → Linear (λ x. x * 2 ^ k % 2 ^ 64)
linear_shl k x y = ap (λ (n : ℕ). n % 2 ^ 64) (times_xor k x y) ∙ xor_mod (x * 2 ^ k) (y * 2 ^ k) 64

linear_shr : (k : ℕ) → Linear (λ x. x / 2 ^ k)
linear_shr k x y = xor_shr x y k

linear_above : (f g : ℕ → ℕ) → Linear f → Linear g → Linear (λ x. above (f x) (g x))
linear_above f g hf hg = linear_xor f (λ x. g x * 2 ^ 64) hf (λ x y. ap (λ (n : ℕ). n * 2 ^ 64) (hg x y) ∙ times_xor 64 (g x) (g y))

above_xor : (a b c d : ℕ) → bit_xor (above a b) (above c d) ≡ above (bit_xor a c) (bit_xor b d)
above_xor a b c d = xor_mid a (b * 2 ^ 64) c (d * 2 ^ 64) ∙ ap (bit_xor (bit_xor a c)) (sym (times_xor 64 b d))

-- windows of five words are added word by word
value_xor : (a b c d e p q r s t : ℕ) → bit_xor (value (a ∷ b ∷ c ∷ d ∷ e ∷ [])) (value (p ∷ q ∷ r ∷ s ∷ t ∷ []))
    ≡ value (bit_xor a p ∷ bit_xor b q ∷ bit_xor c r ∷ bit_xor d s ∷ bit_xor e t ∷ [])
unfolding value
value_xor a b c d e p q r s t =
    above_xor a _ p _
    ∙ ap (above (bit_xor a p))
    (above_xor b _ q _
    ∙ ap (above (bit_xor b q)) (above_xor c _ r _ ∙ ap (above (bit_xor c r)) (above_xor d _ s _ ∙ ap (above (bit_xor d s)) (above_xor e 0 t 0))))

-- What a word x that leaves adds to the four words that then follow the lowest: modulo the polynomial,
-- x moved up by 0 bits is the sum of x moved up by 145, 183, 211 and 300 bits.
unfoldable pub share1 : ℕ → ℕ
share1 x = bit_xor (x * 2 ^ 17 % 2 ^ 64) (x * 2 ^ 55 % 2 ^ 64)

unfoldable pub share2 : ℕ → ℕ
share2 x = bit_xor (bit_xor (x / 2 ^ 47) (x / 2 ^ 9)) (x * 2 ^ 19 % 2 ^ 64)

unfoldable pub share3 : ℕ → ℕ
share3 x = bit_xor (x / 2 ^ 45) (x * 2 ^ 44 % 2 ^ 64)

unfoldable pub share4 : ℕ → ℕ
share4 x = x / 2 ^ 20

-- the window after its lowest word has left as x
unfoldable pub advanced : List ℕ → ℕ → List ℕ
advanced s x =
    get_or s 1 0 ∷ bit_xor (get_or s 2 0) (share1 x) ∷ bit_xor (get_or s 3 0) (share2 x) ∷ bit_xor (get_or s 4 0) (share3 x) ∷ share4 x ∷ []

-- all shares of a word, as one number
unfoldable shares : ℕ → ℕ
shares x = above 0 (above (share1 x) (above (share2 x) (above (share3 x) (above (share4 x) 0))))

shares_xor : Linear shares
unfolding shares share1 share2 share3 share4
shares_xor =
    linear_above (λ x. 0) (λ x. above (share1 x) (above (share2 x) (above (share3 x) (above (share4 x) 0)))) (λ x y. refl)
    (linear_above share1 (λ x. above (share2 x) (above (share3 x) (above (share4 x) 0))) (linear_xor (λ x. x * 2 ^ 17 % 2 ^ 64) (λ x. x * 2 ^ 55 % 2 ^ 64) (linear_shl 17) (linear_shl 55))
    (linear_above share2 (λ x. above (share3 x) (above (share4 x) 0))
    (linear_xor (λ x. bit_xor (x / 2 ^ 47) (x / 2 ^ 9)) (λ x. x * 2 ^ 19 % 2 ^ 64) (linear_xor (λ x. x / 2 ^ 47) (λ x. x / 2 ^ 9) (linear_shr 47) (linear_shr 9)) (linear_shl 19))
    (linear_above share3 (λ x. above (share4 x) 0) (linear_xor (λ x. x / 2 ^ 45) (λ x. x * 2 ^ 44 % 2 ^ 64) (linear_shr 45) (linear_shl 44))
    (linear_above share4 (λ x. 0) (linear_shr 20) (λ x y. refl)))))

-- two functions agree at each power of two below 2 ^ k
agree : (ℕ → ℕ) → (ℕ → ℕ) → ℕ → Bool
agree f g zero = true
agree f g (suc k) = eqb (f (2 ^ k)) (g (2 ^ k)) && agree f g k

digit : (f g : ℕ → ℕ) → f 0 ≡ g 0 → (p d : ℕ) → d < 2 → f p ≡ g p → f (d * p) ≡ g (d * p)
digit f g z p zero h e = ap f (zero-mul p) ∙ z ∙ sym (ap g (zero-mul p))
digit f g z p (suc zero) h e = ap f (one-mul p) ∙ e ∙ sym (ap g (one-mul p))
digit f g z p (suc (suc d)) h e = absurd (omega arith)

-- linear functions that do so agree at every number below 2 ^ k
extend : (f g : ℕ → ℕ) → Linear f → Linear g → f 0 ≡ g 0 → (k : ℕ) → T (agree f g k) → (x : ℕ) → x < 2 ^ k → f x ≡ g x
unfolding agree
extend f g hf hg z zero t x h = let e : x ≡ 0 = omega arith in ap f e ∙ z ∙ sym (ap g e)
extend f g hf hg z (suc k) t x h =
    let r-lt : x % 2 ^ k < 2 ^ k = mod-lt x (pow_pos k) in
    let d-lt : x / 2 ^ k < 2 = (div-lt_iff_lt-mul (pow_pos k)).1 (subst (λ (n : ℕ). x < n) (pow-suc 2 k ∙ mul_comm (2 ^ k) 2) h) in
    let parts : bit_xor (x / 2 ^ k * 2 ^ k) (x % 2 ^ k) ≡ x = xor_shifted (x / 2 ^ k) k (x % 2 ^ k) r-lt ∙ div-add-mod' x (2 ^ k) in
    let t1 = and_left (eqb (f (2 ^ k)) (g (2 ^ k))) (agree f g k) t in
    let t2 = and_right (eqb (f (2 ^ k)) (g (2 ^ k))) (agree f g k) t in
    sym (ap f parts) ∙ hf (x / 2 ^ k * 2 ^ k) (x % 2 ^ k)
    ∙ ap₂ bit_xor (digit f g z (2 ^ k) (x / 2 ^ k) d-lt (eqb→eq (f (2 ^ k)) (g (2 ^ k)) t1)) (extend f g hf hg z k t2 (x % 2 ^ k) r-lt)
    ∙ sym (hg (x / 2 ^ k * 2 ^ k) (x % 2 ^ k)) ∙ ap g parts

-- a word and its shares, 300 bits later
same_shares : (x : ℕ) → x < 2 ^ 64 → steps 364 x ≡ steps 300 (shares x)
unfolding agree step steps shares share1 share2 share3 share4
same_shares x h =
    extend (steps 364) (λ y. steps 300 (shares y)) (steps_xor 364) (λ y z. ap (steps 300) (shares_xor y z) ∙ steps_xor 300 (shares y) (shares z)) refl 64 tt x h

-- registers that are equal 300 bits later are equal after 38 bytes and more
alike : (x y : ℕ) (rest : List ℕ) → steps 300 x ≡ steps 300 y → 38 ≤ length rest → steps (bits (length rest) 0) x ≡ steps (bits (length rest) 0) y
alike x y rest e h =
    let b = bits_is (length rest) in
    let m : ℕ = bits (length rest) 0 - 300 in
    let n : bits (length rest) 0 ≡ 300 + (bits (length rest) 0 - 300) = omega arith in
    ap (λ (k : ℕ). steps k x) n ∙ steps_add 300 m x ∙ ap (steps m) e ∙ sym (steps_add 300 m y) ∙ sym (ap (λ (k : ℕ). steps k y) n)

pub low_xor : (a s w : ℕ) → bit_xor (above a s) w ≡ above (bit_xor a w) s
low_xor a s w = xor_assoc a (s * 2 ^ 64) w ∙ ap (bit_xor a) (xor_comm (s * 2 ^ 64) w) ∙ sym (xor_assoc a w (s * 2 ^ 64))

steps_above : (x s : ℕ) → steps 64 (above x s) ≡ bit_xor (steps 64 x) s
steps_above x s = steps_xor 64 x (s * 2 ^ 64) ∙ ap (bit_xor (steps 64 x)) (steps_shift 64 s)

-- the lowest word leaves
pub leaves : (a s : ℕ) (chunk rest : List ℕ) (w : ℕ) → Loads chunk w
    → register (above a s) (chunk ++ rest) ≡ register (bit_xor (steps 64 (bit_xor a w)) s) rest
leaves a s chunk rest w hc =
    register_append chunk rest (above a s)
    ∙ ap (λ (x : ℕ). register x rest) (hc (above a s) ∙ ap (steps 64) (low_xor a s w) ∙ steps_above (bit_xor a w) s)

merged : (x b c d e : ℕ) → bit_xor (shares x) (value (b ∷ c ∷ d ∷ e ∷ []))
    ≡ value (b ∷ bit_xor c (share1 x) ∷ bit_xor d (share2 x) ∷ bit_xor e (share3 x) ∷ share4 x ∷ [])
unfolding shares value
merged x b c d e =
    xor_comm (shares x) (value (b ∷ c ∷ d ∷ e ∷ []))
    ∙ value_xor b c d e 0 0 (share1 x) (share2 x) (share3 x) (share4 x)
    ∙ ap₂ (λ (y z : ℕ). value (y ∷ bit_xor c (share1 x) ∷ bit_xor d (share2 x) ∷ bit_xor e (share3 x) ∷ z ∷ [])) (xor_zero_r b) (xor_zero_l (share4 x))

pub advance_is : (s : List ℕ) (chunk rest : List ℕ) (w : ℕ) → length s ≡ 5 → get_or s 0 0 < 2 ^ 64 → w < 2 ^ 64 → Loads chunk w → 38 ≤ length rest
    → register (value s) (chunk ++ rest) ≡ register (value (advanced s (bit_xor (get_or s 0 0) w))) rest
unfolding value advanced
advance_is s chunk rest w five ha hw hc long =
    let x : ℕ = bit_xor (get_or s 0 0) w in
    let tail : ℕ = value (spelled 4 1 s) in
    ap (λ (z : List ℕ). register (value z) (chunk ++ rest)) (sym (spelled_is 5 0 s (omega arith) ∙ take_all 5 s (omega arith)))
    ∙ leaves (get_or s 0 0) tail chunk rest w hc
    ∙ register_xor rest (steps 64 x) tail
    ∙ ap (λ (y : ℕ). bit_xor y (register tail rest)) (alike (steps 64 x) (shares x) rest (sym (steps_add 64 300 x) ∙ same_shares x (xor_lt 64 (get_or s 0 0) w ha hw)) long)
    ∙ sym (register_xor rest (shares x) tail)
    ∙ ap (λ (y : ℕ). register y rest) (merged x (get_or s 1 0) (get_or s 2 0) (get_or s 3 0) (get_or s 4 0))
