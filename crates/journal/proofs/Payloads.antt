-- Elements in a payload.
use Rattle.std.proofs.Common.{◌≡◌, ◌↔◌, ℕ, zero, suc, ◌+◌, ◌-◌, ◌*◌, ◌/◌, ◌<◌, ◌≤◌, true, List, [], ◌∷◌, ◌++◌, length, take, drop, replicate, sym, refl, ap, ap₂, ◌∙◌, subst, suc-mul, zero-mul, length-append, length-drop, length-take-le, append_assoc, take-add, eqb-true, arith, Bor}
use Rattle.std.proofs.Math.Nat.{add-div_right, div-eq_of_lt, mul-div_cancel}
use Rattle.std.proofs.lemmas.Bool.{and_parts}
use Rattle.std.proofs.lemmas.List.{take_at, drop_at, take-append-drop, get_or-drop, length-replicate}
use Rattle.std.proofs.lemmas.List.Elements.{All-head, All-tail, All-cons, All-nil}
use Rattle.std.proofs.lemmas.Iterator.{YieldsList}
use Rattle.std.proofs.lemmas.Iterator.Splits.{YieldsList-from_shown_while}
use Rattle.std.proofs.lemmas.List.Sums.{AllPass-from_list_all, list_all-from_AllPass}
use Rattle.std.specs.List.{All, AllPass}
use Rattle.std.specs.declared.slice.ChunksExact.{ChunksExact}
use Rattle.std.specs.Slice.Iter.{chunks_exact_steps, chunks_exact_rest, chunks_exact_size}
use Rattle.little_endian.specs.Little.{Bytes}
use Rattle.sector.proofs.Loops.{flat}
use Rattle.element.specs.declared.kind.Kind.{Kind}
use Rattle.element.specs.declared.kind.Kind.TheVariants.{Sound, Mark}
use Rattle.element.specs.Kinds.{width_of, capacity_of, bytes_lawful}
use Rattle.element.specs.Payload.{unpacked}
use Rattle.element.proofs.Unpacks.{length-unpacked}
use Rattle.journal.specs.Headers.{padded}
use Rattle.journal.specs.Log.{LawfulElement}
use Rattle.journal.specs.Payloads.{elements_of, Holds, all_lawful}
use Rattle.journal.proofs.Fills.{unpacked_front}

-- an element is at least one byte
pub width_positive : (kind : Kind) → 0 < width_of kind
width_positive Sound = omega arith
width_positive Mark = omega arith

-- as many elements as a block can have fit it
pub room : (kind : Kind) (n : ℕ) → n ≤ capacity_of kind → n * width_of kind ≤ 480
room Sound n h = omega arith
room Mark n h = omega arith

-- a lawful element has its kind's width
pub lawful_width : (kind : Kind) (x : List ℕ) → LawfulElement kind x → length x ≡ width_of kind
lawful_width Sound x h = eqb-true (length x) 2 h.1
lawful_width Mark x h = eqb-true (length x) 8 (and_parts _ _ h.1).0

pub length-flat : (kind : Kind) (xs : List (List ℕ)) → All (LawfulElement kind) xs → length (flat xs) ≡ length xs * width_of kind
length-flat kind [] h = sym (zero-mul (width_of kind))
length-flat kind (x ∷ xs) h =
    let first = lawful_width kind x (All-head (LawfulElement kind) x xs h) in
    let rest = length-flat kind xs (All-tail (LawfulElement kind) x xs h) in
    length-append x (flat xs) ∙ omega (arith, suc-mul (length xs) (width_of kind))

pub flat_fits : (kind : Kind) (xs : List (List ℕ)) → All (LawfulElement kind) xs → length xs ≤ capacity_of kind → length (flat xs) ≤ 480
flat_fits kind xs h l = rw (length-flat kind xs h) (room kind (length xs) l)

pub length-padded : (bytes : List ℕ) → length bytes ≤ 480 → length (padded bytes) ≡ 480
length-padded bytes h = length-append bytes (replicate (480 - length bytes) 0) ∙ omega (arith, length-replicate {A = ℕ} (480 - length bytes) 0)

-- the payload of an entry that has no elements is zeros
pub padded_nil : (p : List ℕ) → length p ≡ 480 → (p ≡ padded []) ↔ (p ≡ replicate (length p) 0)
padded_nil p l =
    let e : padded [] ≡ replicate (length p) 0 = ap (λ (n : ℕ). replicate n 0) (sym l) in
    ((λ z. z ∙ e), (λ z. z ∙ sym e))

pub length-elements : (kind : Kind) (n : ℕ) (p : List ℕ) → length (elements_of kind n p) ≡ n
length-elements kind n p = length-unpacked (λ (x : List ℕ). x) (width_of kind) n p

-- the elements that bytes begin with
pub elements_flat : (kind : Kind) (xs : List (List ℕ)) (rest : List ℕ) → All (LawfulElement kind) xs → elements_of kind (length xs) (flat xs ++ rest) ≡ xs
elements_flat kind [] rest h = refl
elements_flat kind (x ∷ xs) rest h =
    let w = width_of kind in
    let l = lawful_width kind x (All-head (LawfulElement kind) x xs h) in
    let e = append_assoc x (flat xs) rest in
    ap₂ (λ (y : List ℕ) (ys : List (List ℕ)). y ∷ ys)
    (ap (take w) e ∙ take_at x (flat xs ++ rest) w l)
    (ap (λ (q : List ℕ). elements_of kind (length xs) (drop w q)) e ∙ ap (elements_of kind (length xs)) (drop_at x (flat xs ++ rest) w l)
    ∙ elements_flat kind xs rest (All-tail (LawfulElement kind) x xs h))

-- the elements that were written are those that the payload tells
pub told_back : (kind : Kind) (xs : List (List ℕ)) (p : List ℕ) → All (LawfulElement kind) xs → p ≡ padded (flat xs) → elements_of kind (length xs) p ≡ xs
told_back kind xs p h e = ap (elements_of kind (length xs)) e ∙ elements_flat kind xs (replicate (480 - length (flat xs)) 0) h

-- a payload that was written holds its elements
pub holds_back : (kind : Kind) (xs : List (List ℕ)) (p : List ℕ) → All (LawfulElement kind) xs → length xs ≤ capacity_of kind → p ≡ padded (flat xs) → Holds kind (length xs) p
holds_back kind xs p h l e =
    let told = told_back kind xs p h e in
    (l, subst (All (LawfulElement kind)) (sym told) h, e ∙ ap (λ (ys : List (List ℕ)). padded (flat ys)) (sym told))

-- elements of bytes are bytes
bytes_take : (n : ℕ) (p : List ℕ) → Bytes p → Bytes (take n p)
bytes_take zero p b i = omega arith
bytes_take (suc n) [] b i = omega arith
bytes_take (suc n) (x ∷ p) b zero = b 0
bytes_take (suc n) (x ∷ p) b (suc i) = bytes_take n p (λ j. b (suc j)) i

elements_bytes : (kind : Kind) (n : ℕ) (p : List ℕ) → Bytes p → All Bytes (elements_of kind n p)
elements_bytes kind zero p b = All-nil Bytes
elements_bytes kind (suc n) p b =
    let w = width_of kind in
    All-cons Bytes (take w p) (elements_of kind n (drop w p)) (bytes_take w p b) (elements_bytes kind n (drop w p) (λ i. rw get_or-drop (b (w + i))))

-- the bytes of the first elements, one after the other
flat_elements : (kind : Kind) (n : ℕ) (p : List ℕ) → flat (elements_of kind n p) ≡ take (n * width_of kind) p
flat_elements kind zero p = ap (λ (k : ℕ). take k p) (sym (zero-mul (width_of kind)))
flat_elements kind (suc n) p =
    let w = width_of kind in
    let e : suc n * w ≡ w + n * w = omega (arith, suc-mul n w) in
    ap (λ (x : List ℕ). take w p ++ x) (flat_elements kind n (drop w p)) ∙ sym (ap (λ (k : ℕ). take k p) e ∙ take-add w (n * w) p)

-- a payload in two parts: the bytes of n elements, and the rest
module _ (kind : Kind) (n : ℕ) (p front back : List ℕ) (few : n ≤ capacity_of kind) (long : length p ≡ 480) (bytes : Bytes p) (is_front : front ≡ take (n * width_of kind) p) (is_back : back ≡ drop (n * width_of kind) p) where
  fits : n * width_of kind ≤ length p
  fits = rw long (room kind n few)

  same_elements : elements_of kind (length front / width_of kind) front ≡ elements_of kind n p
  same_elements =
      let l : length front ≡ n * width_of kind = ap length is_front ∙ length-take-le (n * width_of kind) p fits in
      ap₂ (elements_of kind) (ap (λ (k : ℕ). k / width_of kind) l ∙ mul-div_cancel n (width_positive kind)) is_front ∙ unpacked_front (λ (x : List ℕ). x) (width_of kind) n p

  length-flat_elements : length (flat (elements_of kind n p)) ≡ n * width_of kind
  length-flat_elements = ap length (flat_elements kind n p) ∙ length-take-le (n * width_of kind) p fits

  length-back : length back ≡ 480 - length (flat (elements_of kind n p))
  length-back = ap length is_back ∙ length-drop (n * width_of kind) p ∙ ap₂ ◌-◌ long (sym length-flat_elements)

  parts_if_holds : Holds kind n p → (all_lawful kind front ≡ true) × (back ≡ replicate (length back) 0)
  parts_if_holds h =
      let pass : AllPass (bytes_lawful kind) (elements_of kind n p) = λ k d l. (h.1 k d l).1 in (
        list_all-from_AllPass (bytes_lawful kind) _ (subst (AllPass (bytes_lawful kind)) (sym same_elements) pass),
        is_back ∙ ap (drop (n * width_of kind)) h.2
            ∙ drop_at (flat (elements_of kind n p)) (replicate (480 - length (flat (elements_of kind n p))) 0) (n * width_of kind) length-flat_elements
            ∙ ap (λ (k : ℕ). replicate k 0) (sym length-back),
      )

  holds_if_parts : (all_lawful kind front ≡ true) × (back ≡ replicate (length back) 0) → Holds kind n p
  holds_if_parts h =
      let pass : AllPass (bytes_lawful kind) (elements_of kind n p) =
      subst (AllPass (bytes_lawful kind)) same_elements (AllPass-from_list_all (bytes_lawful kind) _ h.0) in (
        few,
        (λ k d l. (elements_bytes kind n p bytes k d l, pass k d l)),
        sym (take-append-drop (n * width_of kind) p)
            ∙ ap₂ ◌++◌ (sym (flat_elements kind n p)) (sym is_back ∙ h.1 ∙ ap (λ (k : ℕ). replicate k 0) length-back),
      )

  pub parts_tell : Holds kind n p ↔ ((all_lawful kind front ≡ true) × (back ≡ replicate (length back) 0))
  parts_tell = (parts_if_holds, holds_if_parts)

-- whole chunks, one after the other
abbrev pub chunks : ChunksExact ℕ → List (List ℕ)
chunks s = unpacked (λ (x : List ℕ). x) (chunks_exact_size s) (length (chunks_exact_rest s) / chunks_exact_size s) (chunks_exact_rest s)

length_chunks : (s : ChunksExact ℕ) → length (chunks s) ≡ length (chunks_exact_rest s) / chunks_exact_size s
length_chunks s = length-unpacked (λ (x : List ℕ). x) (chunks_exact_size s) (length (chunks_exact_rest s) / chunks_exact_size s) (chunks_exact_rest s)

chunk_first : (w : ℕ) (bs x rest : List ℕ) → 0 < w → bs ≡ x ++ rest → length x ≡ w
    → unpacked (λ (y : List ℕ). y) w (length bs / w) bs ≡ x ∷ unpacked (λ (y : List ℕ). y) w (length rest / w) rest
chunk_first w bs x rest h e l =
    let more : length bs / w ≡ suc (length rest / w) = ap (λ (n : ℕ). n / w) (ap length e ∙ length-append x rest ∙ omega arith) ∙ add-div_right (length rest) h ∙ omega arith in
    ap (λ (n : ℕ). unpacked (λ (y : List ℕ). y) w n bs) more
    ∙ ap₂ (λ (y z : List ℕ). y ∷ unpacked (λ (v : List ℕ). v) w (length rest / w) z)
    (ap (take w) e ∙ take_at x rest w l) (ap (drop w) e ∙ drop_at x rest w l)

-- what `chunks_exact` gives
pub chunks_yielded : (s : ChunksExact ℕ) → 0 < chunks_exact_size s → YieldsList chunks_exact_steps (λ (x : Bor (List ℕ)). x.now) s (chunks s)
chunks_yielded = YieldsList-from_shown_while chunks_exact_steps (λ (x : Bor (List ℕ)). x.now) chunks (λ s. 0 < chunks_exact_size s)
    (λ s t h k. length_chunks s ∙ div-eq_of_lt k.1.0)
    (λ s x t h k. (
      subst (λ (n : ℕ). 0 < n) (sym k.0) h,
      chunk_first (chunks_exact_size s) (chunks_exact_rest s) x.now (chunks_exact_rest t) h k.1.0 k.1.1
          ∙ ap (λ (w : ℕ). x.now ∷ unpacked (λ (v : List ℕ). v) w (length (chunks_exact_rest t) / w) (chunks_exact_rest t)) (sym k.0),
    ))
