-- The loops over bytes, over chunks and over the words of the window, and the end.
use Rattle.std.proofs.Common.{◌≡◌, ℕ, zero, suc, ◌+◌, ◌*◌, ◌/◌, ◌%◌, ◌<◌, ◌≤◌, List, [], ◌∷◌, ◌++◌, length, get_or, take, drop, take_all, sym, ap, ◌∙◌, ap₂, append_assoc, append-nil, suc-mul, add_comm, zero-mul, arith, length-append, drop-drop}
use lib.Bits.{bit_xor, xor_comm, xor_zero_l, xor_zero_r}
use Rattle.std.specs.Simd.{first_chunks}
use Rattle.std.specs.List.{flat_map}
use Rattle.std.proofs.lemmas.List.{at_drop_more, at_drop_all, take-append-drop, drop_all}
use Rattle.little_endian.proofs.Parts.{spelled, spelled_is}
use Rattle.sector.specs.Crc.{steps, register}
use Rattle.sector.specs.Window.{above, value, Loads, Takes}
use Rattle.sector.proofs.Slices.{register_append}
use Rattle.sector.proofs.Window.{leaves, low_xor}

-- chunks one after the other
abbrev pub flat : List (List ℕ) → List ℕ
flat xss = flat_map (λ (w : List ℕ). w) xss

pub byte_more : (xs : List ℕ) (i c e r : ℕ) → i < length xs → register c (drop i xs) ≡ r → e ≡ register c (get_or xs i 0 ∷ []) → register e (drop (i + 1) xs) ≡ r
unfolding register
byte_more xs i c e r h inv is =
    ap (λ (x : ℕ). register x (drop (i + 1) xs)) is ∙ sym (at_drop_more (register c) xs i 0 h) ∙ inv

pub byte_all : (xs : List ℕ) (i c r : ℕ) → length xs ≤ i → register c (drop i xs) ≡ r → c ≡ r
unfolding register
byte_all xs i c r h inv = sym (at_drop_all (register c) xs i h) ∙ inv

pub chunk_more : (xss : List (List ℕ)) (i : ℕ) (d : List ℕ) (c e r : ℕ) → i < length xss → register c (flat (drop i xss)) ≡ r
    → e ≡ register c (get_or xss i d) → register e (flat (drop (i + 1) xss)) ≡ r
chunk_more xss i d c e r h inv is =
    ap (λ (x : ℕ). register x (flat (drop (i + 1) xss))) is
    ∙ sym (register_append (get_or xss i d) (flat (drop (i + 1) xss)) c)
    ∙ sym (at_drop_more (λ ys. register c (flat ys)) xss i d h) ∙ inv

pub chunk_all : (xss : List (List ℕ)) (i c r : ℕ) → length xss ≤ i → register c (flat (drop i xss)) ≡ r → c ≡ r
unfolding register
chunk_all xss i c r h inv = sym (at_drop_all (λ ys. register c (flat ys)) xss i h) ∙ inv

flat_chunked : (n k : ℕ) (xs : List ℕ) → flat (first_chunks n k xs) ++ drop (k * n) xs ≡ xs
flat_chunked n zero xs = ap (λ (m : ℕ). drop m xs) (zero-mul n)
flat_chunked n (suc k) xs =
    append_assoc (take n xs) (flat (first_chunks n k (drop n xs))) (drop (suc k * n) xs)
    ∙ ap (λ (ys : List ℕ). take n xs ++ (flat (first_chunks n k (drop n xs)) ++ ys))
    (ap (λ (m : ℕ). drop m xs) (suc-mul k n ∙ add_comm (k * n) n) ∙ sym (drop-drop (k * n) n xs))
    ∙ ap (λ (ys : List ℕ). take n xs ++ ys) (flat_chunked n k (drop n xs))
    ∙ take-append-drop n xs

-- the front in chunks and then the back are all the bytes
pub register_parts : (n k c d : ℕ) (xs back : List ℕ) (front : List (List ℕ)) → front ≡ first_chunks n k xs → back ≡ drop (k * n) xs
    → d ≡ register c (flat front) → register d back ≡ register c xs
register_parts n k c d xs back front ef eb ed =
    ap₂ register (ed ∙ ap (λ (ys : List (List ℕ)). register c (flat ys)) ef) eb
    ∙ sym (register_append (flat (first_chunks n k xs)) (drop (k * n) xs) c)
    ∙ ap (register c) (flat_chunked n k xs)

pub word_more : (xss : List (List ℕ)) (back : List ℕ) (i : ℕ) (d : List ℕ) (c e w r : ℕ) → i < length xss → 38 ≤ length back → Loads (get_or xss i d) w
    → ((chunk rest : List ℕ) → Loads chunk w → 38 ≤ length rest → register e rest ≡ register c (chunk ++ rest))
    → register c (flat (drop i xss) ++ back) ≡ r → register e (flat (drop (i + 1) xss) ++ back) ≡ r
word_more xss back i d c e w r h long hc step inv =
    let rest : List ℕ = flat (drop (i + 1) xss) in
    step (get_or xss i d) (rest ++ back) hc (simp length-append (omega arith))
    ∙ ap (register c) (sym (append_assoc (get_or xss i d) rest back))
    ∙ sym (at_drop_more (λ ys. register c (flat ys ++ back)) xss i d h) ∙ inv

-- the words are all taken in
pub word_all : (xss : List (List ℕ)) (back : List ℕ) (i c r : ℕ) → length xss ≤ i → register c (flat (drop i xss) ++ back) ≡ r → register c back ≡ r
word_all xss back i c r h inv = sym (at_drop_all (λ ys. register c (flat ys ++ back)) xss i h) ∙ inv

-- whole words are all the bytes
pub whole : (xs : List ℕ) (front : List (List ℕ)) → length xs % 8 ≡ 0 → front ≡ first_chunks 8 (length xs / 8) xs → flat front ≡ xs
whole xs front m ef =
    let z : drop (length xs / 8 * 8) xs ≡ [] = drop_all _ xs (omega arith) in
    sym (append-nil (flat front)) ∙ ap₂ (λ (x : List (List ℕ)) (y : List ℕ). flat x ++ y) ef (sym z) ∙ flat_chunked 8 (length xs / 8) xs

-- a word of the end, where c has left the words below it
pub word_leaves : (a c w e : ℕ) (chunk : List ℕ) → Loads chunk w → e ≡ steps 64 (bit_xor (bit_xor a c) w) → Takes a c chunk e
word_leaves a c w e chunk loads is s rest =
    ap (λ (x : ℕ). register x (chunk ++ rest)) (xor_comm c (above a s) ∙ low_xor a s c) ∙ leaves (bit_xor a c) s chunk rest w loads
    ∙ ap (λ (x : ℕ). register (bit_xor x s) rest) (sym is)

-- a chunk and what follows it
chunk_is : (n k i : ℕ) (xs d : List ℕ) → i < k → get_or (first_chunks n k xs) i d ≡ take n (drop (i * n) xs)
chunk_is n zero i xs d h = absurd (omega arith)
chunk_is n (suc k) zero xs d h = sym (ap (λ (m : ℕ). take n (drop m xs)) (zero-mul n))
chunk_is n (suc k) (suc i) xs d h =
    chunk_is n k i (drop n xs) d (omega arith) ∙ ap (take n) (drop-drop (i * n) n xs ∙ ap (λ (m : ℕ). drop m xs) (add_comm n (i * n) ∙ sym (suc-mul i n)))

chunk_first : (k i : ℕ) (xs d : List ℕ) → i < k → get_or (first_chunks 8 k xs) i d ++ drop ((i + 1) * 8) xs ≡ drop (i * 8) xs
chunk_first k i xs d h =
    ap₂ ◌++◌ (chunk_is 8 k i xs d h) (ap (λ (m : ℕ). drop m xs) (omega arith) ∙ sym (drop-drop 8 (i * 8) xs)) ∙ take-append-drop 8 (drop (i * 8) xs)

-- the words of the window and the last bytes
module _ (back : List ℕ) (front : List (List ℕ)) (d : List ℕ) (cut : front ≡ first_chunks 8 (length back / 8) back) where
  one_word : (i a c e v : ℕ) → i < length back / 8 → Takes a c (get_or front i d) e
      → register (bit_xor c (above a v)) (drop (i * 8) back) ≡ register (bit_xor e v) (drop ((i + 1) * 8) back)
  one_word i a c e v h takes =
      ap (register (bit_xor c (above a v)))
      (sym (ap (λ (xss : List (List ℕ)). get_or xss i d ++ drop ((i + 1) * 8) back) cut ∙ chunk_first (length back / 8) i back d h))
      ∙ takes v (drop ((i + 1) * 8) back)

  pub finish_is : (s : List ℕ) (c0 c1 c2 c3 c4 r : ℕ) → length s ≡ 5 → 40 ≤ length back → Takes (get_or s 0 0) 0 (get_or front 0 d) c0
      → Takes (get_or s 1 0) c0 (get_or front 1 d) c1 → Takes (get_or s 2 0) c1 (get_or front 2 d) c2 → Takes (get_or s 3 0) c2 (get_or front 3 d) c3
      → Takes (get_or s 4 0) c3 (get_or front 4 d) c4 → r ≡ register c4 (drop 40 back) → r ≡ register (value s) back
  unfolding value
  finish_is s c0 c1 c2 c3 c4 r five long t0 t1 t2 t3 t4 er =
      er
      ∙ sym
      (ap (λ (z : List ℕ). register (value z) back) (sym (spelled_is 5 0 s (omega arith) ∙ take_all 5 s (omega arith)))
      ∙ ap (λ (x : ℕ). register x back) (sym (xor_zero_l (value (spelled 5 0 s))))
      ∙ one_word 0 (get_or s 0 0) 0 c0 (value (spelled 4 1 s)) (omega arith) t0
      ∙ one_word 1 (get_or s 1 0) c0 c1 (value (spelled 3 2 s)) (omega arith) t1
      ∙ one_word 2 (get_or s 2 0) c1 c2 (value (spelled 2 3 s)) (omega arith) t2
      ∙ one_word 3 (get_or s 3 0) c2 c3 (value (spelled 1 4 s)) (omega arith) t3
      ∙ one_word 4 (get_or s 4 0) c3 c4 0 (omega arith) t4
      ∙ ap (λ (x : ℕ). register x (drop 40 back)) (xor_zero_r c4))
