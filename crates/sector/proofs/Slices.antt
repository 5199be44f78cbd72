-- Several bytes at once: the register after them is a sum, by exclusive or, of steps of each.
use Rattle.std.proofs.Common.{◌≡◌, ℕ, zero, suc, ◌+◌, ◌*◌, ◌/◌, ◌%◌, ◌<◌, ◌≤◌, ◌-◌, List, [], ◌∷◌, ◌++◌, length, length-drop, drop, get_or, sym, refl, ap, ◌∙◌, ap₂, ◌^◌, div-add-mod', arith}
use lib.Bits.{bit_xor, xor_comm, xor_assoc, xor_zero_l, xor_zero_r, xor_shifted}
use Rattle.std.proofs.lemmas.List.{at_drop_more, at_drop_all}
use Rattle.std.specs.Simd.Lanes.{number_l, digits_l}
use Rattle.little_endian.specs.Little.{Bytes}
use Rattle.little_endian.proofs.Little.{number_little, length_little, bytes_little}
use Rattle.sector.specs.Crc.{steps, register}
use Rattle.sector.proofs.Linear.{steps_xor, steps_shift, steps_add}

-- the bits of m bytes and j more
abbrev pub bits : ℕ → ℕ → ℕ
bits zero j = j
bits (suc m) j = 8 + bits m j

pub bits_is : (n : ℕ) → bits n 0 ≡ 8 * n
bits_is zero = refl
bits_is (suc n) = let e = bits_is n in omega arith

-- the lowest byte leaves by itself
pub peel : (n z : ℕ) → steps (8 + n) z ≡ bit_xor (steps (8 + n) (z % 256)) (steps n (z / 256))
peel n z =
    ap (steps (8 + n)) (sym (div-add-mod' z 256) ∙ sym (xor_shifted (z / 256) 8 (z % 256) (omega arith)))
    ∙ steps_xor (8 + n) (z / 256 * 256) (z % 256)
    ∙ ap (λ (x : ℕ). bit_xor x (steps (8 + n) (z % 256))) (steps_add 8 n (z / 256 * 256) ∙ ap (steps n) (steps_shift 8 (z / 256)))
    ∙ xor_comm (steps n (z / 256)) (steps (8 + n) (z % 256))

-- the register after bytes: its own steps, and what the bytes give over another register
pub register_xor : (bs : List ℕ) (c d : ℕ) → register (bit_xor c d) bs ≡ bit_xor (steps (bits (length bs) 0) c) (register d bs)
unfolding register steps
register_xor [] c d = refl
register_xor (b ∷ bs) c d =
    ap (λ (x : ℕ). register (steps 8 x) bs) (xor_assoc c d b)
    ∙ ap (λ (x : ℕ). register x bs) (steps_xor 8 c (bit_xor d b))
    ∙ register_xor bs (steps 8 c) (steps 8 (bit_xor d b))
    ∙ ap (λ (x : ℕ). bit_xor x (register (steps 8 (bit_xor d b)) bs)) (sym (steps_add 8 (bits (length bs) 0) c))

-- the first byte gives what its own steps give, and the others the rest
register_first : (b : ℕ) (bs : List ℕ) → register 0 (b ∷ bs) ≡ bit_xor (steps (8 + 8 * length bs) b) (register 0 bs)
unfolding register steps
register_first b bs =
    ap (λ (x : ℕ). register (steps 8 x) bs) (xor_zero_l b) ∙ ap (λ (x : ℕ). register x bs) (sym (xor_zero_r (steps 8 b)))
    ∙ register_xor bs (steps 8 b) 0
    ∙ ap (λ (x : ℕ). bit_xor x (register 0 bs)) (sym (steps_add 8 (bits (length bs) 0) b) ∙ ap (λ (n : ℕ). steps (8 + n) b) (bits_is (length bs)))

-- one byte more was taken from its table
pub shift_more : (xs : List ℕ) (i t c e r : ℕ) → i < length xs → t ≡ length xs - 1 - i → e ≡ steps (8 + 8 * t) (get_or xs i 0)
    → bit_xor c (register 0 (drop i xs)) ≡ r → bit_xor (bit_xor c e) (register 0 (drop (i + 1) xs)) ≡ r
shift_more xs i t c e r h et ee inv =
    let rest : List ℕ = drop (i + 1) xs in
    let n : t ≡ length (drop (i + 1) xs) = simp length-drop (omega arith) in
    xor_assoc c e (register 0 rest)
    ∙ ap (bit_xor c)
    (ap (λ (x : ℕ). bit_xor x (register 0 rest)) (ee ∙ ap (λ (k : ℕ). steps (8 + 8 * k) (get_or xs i 0)) n)
    ∙ sym (register_first (get_or xs i 0) rest) ∙ sym (at_drop_more (register 0) xs i 0 h))
    ∙ inv

pub shift_all : (xs : List ℕ) (i c r : ℕ) → length xs ≤ i → bit_xor c (register 0 (drop i xs)) ≡ r → c ≡ r
unfolding register
shift_all xs i c r h inv = sym (xor_zero_r c) ∙ sym (at_drop_all (λ ys. bit_xor c (register 0 ys)) xs i h) ∙ inv

pub register_append : (xs bs : List ℕ) (c : ℕ) → register c (xs ++ bs) ≡ register (register c xs) bs
unfolding register
register_append [] bs c = refl
register_append (a ∷ xs) bs c = register_append xs bs (steps 8 (bit_xor c a))

aside : (c l b : ℕ) → bit_xor c (bit_xor l b) ≡ bit_xor (bit_xor c b) l
aside c l b = ap (bit_xor c) (xor_comm l b) ∙ sym (xor_assoc c b l)

-- to take bytes in is to take in their number
pub register_number : (bs : List ℕ) (c : ℕ) → Bytes bs → register c bs ≡ steps (bits (length bs) 0) (bit_xor c (number_l 256 bs))
unfolding register steps
register_number [] c h = sym (xor_zero_r c)
register_number (b ∷ bs) c h =
    let n : ℕ = number_l 256 bs in
    register_number bs (steps 8 (bit_xor c b)) (λ i. h (suc i))
    ∙ ap (steps (bits (length bs) 0))
    (ap (bit_xor (steps 8 (bit_xor c b))) (sym (steps_shift 8 n))
    ∙ sym (steps_xor 8 (bit_xor c b) (n * 256))
    ∙ ap (steps 8) (sym (aside c (n * 256) b) ∙ ap (bit_xor c) (xor_shifted n 8 b (h 0) ∙ omega arith)))
    ∙ sym (steps_add 8 (bits (length bs) 0) (bit_xor c (b + 256 * n)))

-- the register after the bytes of a number, from 0
pub register_little : (k z : ℕ) → z < 256 ^ k → register 0 (digits_l 256 k z) ≡ steps (bits k 0) z
register_little k z h =
    register_number (digits_l 256 k z) 0 (bytes_little k z)
    ∙ ap₂ (λ (n x : ℕ). steps (bits n 0) x) (length_little k z) (xor_zero_l (number_l 256 (digits_l 256 k z)) ∙ number_little k z h)
