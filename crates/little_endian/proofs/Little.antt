-- The laws of little-endian numbers, stated once over the number of bytes. `digits_l 256 k n` is n as k bytes, and `number_l 256 bs`
-- the number that bytes stand for.
use Rattle.std.proofs.Common.{◌≡◌, ℕ, zero, suc, ◌+◌, ◌*◌, ◌/◌, ◌%◌, ◌^◌, ◌<◌, List, [], ◌∷◌, ◌++◌, length, sym, refl, ap, ◌∙◌, subst, ap₂, pow-suc, arith}
use Rattle.std.proofs.Math.Nat.{div-one, div-div-eq-div-mul}
use Rattle.std.proofs.lemmas.Nat.{div_below, from_le_bytes-to_le_bytes_2, from_le_bytes-to_le_bytes_4}
use Rattle.std.specs.Int.{w16, w32, byte_at, bytes_low_first, from_le_bytes}
use Rattle.std.specs.Simd.Lanes.{number_l, digits_l}
use Rattle.little_endian.specs.Little.{Bytes, le16, le32}

pub length_little : (k n : ℕ) → length (digits_l 256 k n) ≡ k
length_little zero n = refl
length_little (suc k) n = ap (λ (m : ℕ). suc m) (length_little k (n / 256))

pub number_little : (k n : ℕ) → n < 256 ^ k → number_l 256 (digits_l 256 k n) ≡ n
number_little zero n h = omega arith
number_little (suc k) n h =
    let e = number_little k (n / 256) (div_below n 256 (256 ^ k) (omega arith) (subst (λ (m : ℕ). n < m) (pow-suc 256 k) h)) in
    omega arith

-- the number that bytes stand for has these bytes
pub little_number : (bs : List ℕ) → Bytes bs → digits_l 256 (length bs) (number_l 256 bs) ≡ bs
little_number [] h = refl
little_number (b ∷ bs) h =
    let lt : b < 256 = h 0 in
    let low : number_l 256 (b ∷ bs) % 256 ≡ b = omega arith in
    let high : number_l 256 (b ∷ bs) / 256 ≡ number_l 256 bs = omega arith in
    ap₂ (λ (x : ℕ) (ys : List ℕ). x ∷ ys) low (ap (digits_l 256 (length bs)) high ∙ little_number bs (λ i. h (suc i)))

byte_is : (i z : ℕ) → byte_at i z ≡ z / 256 ^ i % 256
byte_is zero z = ap (λ (n : ℕ). n % 256) (sym (div-one z))
byte_is (suc i) z = refl

low_little : (k i z : ℕ) → bytes_low_first i k z ≡ digits_l 256 k (z / 256 ^ i)
low_little zero i z = refl
low_little (suc k) i z = ap₂ (λ (x : ℕ) (xs : List ℕ). x ∷ xs) (byte_is i z) (low_little k (suc i) z ∙ ap (digits_l 256 k) (ap (λ (n : ℕ). z / n) (pow-suc 256 i) ∙ sym (div-div-eq-div-mul z (256 ^ i) 256)))

-- the bytes that the standard library writes
pub little_is : (k z : ℕ) → bytes_low_first 0 k z ≡ digits_l 256 k z
little_is k z = low_little k 0 z ∙ ap (digits_l 256 k) (div-one z)

-- bytes from bytes
pub bytes_none : Bytes []
bytes_none i = omega arith

pub bytes_cons : (x : ℕ) (xs : List ℕ) → x < 256 → Bytes xs → Bytes (x ∷ xs)
bytes_cons x xs h hs zero = h
bytes_cons x xs h hs (suc i) = hs i

pub bytes_little : (k n : ℕ) → Bytes (digits_l 256 k n)
bytes_little zero n = bytes_none
bytes_little (suc k) n = bytes_cons (n % 256) (digits_l 256 k (n / 256)) (omega arith) (bytes_little k (n / 256))

-- bytes behind bytes are bytes
pub bytes_append : (xs ys : List ℕ) → Bytes xs → Bytes ys → Bytes (xs ++ ys)
bytes_append [] ys hx hy i = hy i
bytes_append (x ∷ xs) ys hx hy zero = hx 0
bytes_append (x ∷ xs) ys hx hy (suc i) = bytes_append xs ys (λ j. hx (suc j)) hy i

-- a number as two bytes is bytes
pub bytes_le16 : (n : ℕ) → Bytes (le16 n)
bytes_le16 n = subst Bytes (sym (little_is 2 n)) (bytes_little 2 n)

-- a number as four bytes is bytes
pub bytes_le32 : (n : ℕ) → Bytes (le32 n)
bytes_le32 n = subst Bytes (sym (little_is 4 n)) (bytes_little 4 n)

-- numbers that fit are told apart by their bytes
pub same_le16 : (m n : ℕ) → m < 65536 → n < 65536 → le16 m ≡ le16 n → m ≡ n
same_le16 m n hm hn e = sym (from_le_bytes-to_le_bytes_2 m hm) ∙ ap (from_le_bytes w16) e ∙ from_le_bytes-to_le_bytes_2 n hn

pub same_le32 : (m n : ℕ) → m < 4294967296 → n < 4294967296 → le32 m ≡ le32 n → m ≡ n
same_le32 m n hm hn e = sym (from_le_bytes-to_le_bytes_4 m hm) ∙ ap (from_le_bytes w32) e ∙ from_le_bytes-to_le_bytes_4 n hn

same_low : (x y k : ℕ) → x ≡ y + k * 256 → y % 256 ≡ x % 256
same_low x y k e = omega arith

-- four bytes hold a number modulo 2^32
pub le32_wraps : (m n : ℕ) → m ≡ n % 2 ^ 32 → le32 m ≡ le32 n
le32_wraps m n e =
    let q : ℕ = n / 4294967296 in
    let whole : n ≡ m + q * 4294967296 = omega arith in
    let a = same_low n m (q * 16777216) (omega arith) in
    let b = same_low (n / 256) (m / 256) (q * 65536) (omega arith) in
    let c = same_low (n / 65536) (m / 65536) (q * 256) (omega arith) in
    let d = same_low (n / 16777216) (m / 16777216) q (omega arith) in
    rw (a, b, c, d)
