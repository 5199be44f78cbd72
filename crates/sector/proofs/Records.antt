-- The layout: what is written part by part, what is read part by part, and that the bytes tell the record.
use Rattle.std.proofs.Common.{◌≡◌, ℕ, zero, suc, ◌+◌, ◌<◌, ◌≤◌, Bool, cond, eqb, List, [], ◌∷◌, ◌++◌, length, get_or, take, drop, MatchBool, sym, refl, ap, ◌∙◌, subst, ap₂, ⊎_elim, append_assoc, append-nil, arith, length-append, length-take-le, take_all, drop-drop, take-add, MatchOption, Ok, Err, Result}
use Rattle.std.proofs.lemmas.List.{take_at, drop_at, drop_all, length-drop, take-append-drop, get_or_append_left, get_or-take, get_or-drop}
use Rattle.std.proofs.lemmas.Bool.Decides.{eqb_tells}
use Rattle.std.proofs.lemmas.Nat.{le_bytes_2, le_bytes_4}
use Rattle.std.proofs.lemmas.Simd.{length-chunk}
use Rattle.std.specs.Int.{w16, w32, from_le_bytes}
use Rattle.little_endian.specs.Little.{Bytes, le16, le32}
use Rattle.little_endian.proofs.Little.{same_le16, same_le32}
use Rattle.little_endian.proofs.Parts.{spelled_is}
use Rattle.std.specs.Result.{result_ok}
use Rattle.sector.specs.Crc.{crc32}
use Rattle.sector.specs.declared.layout.Kind.{Kind}
use Rattle.sector.specs.declared.layout.Kind.TheVariants.{Header, Begin, Block, Trailer, Withdrawal, Opening}
use Rattle.sector.specs.declared.layout.UnknownKind.{UnknownKind}
use Rattle.sector.specs.declared.layout.Fields.{Fields}
use Rattle.sector.specs.Layout.{kind_number, IsKindNumber, Decodes, field_bytes, sealed, sector_bytes, payload_of, Fits, Sound, NoRecord}

-- one more part was written, where what was written before it ends
pub put_more : (s t u front ys zs : List ℕ) (a n : ℕ) → length front ≡ a → t ≡ front ++ drop a s → ys ≡ zs → u ≡ take a t ++ (ys ++ drop (a + n) t)
    → u ≡ (front ++ zs) ++ drop (a + n) s
put_more s t u front ys zs a n l e ez eu =
    let ef : take a t ≡ front = ap (take a) e ∙ take_at front (drop a s) a l in
    let ed : drop a t ≡ drop a s = ap (drop a) e ∙ drop_at front (drop a s) a l in
    eu
    ∙ ap (λ (x : List ℕ). take a t ++ (x ++ drop (a + n) t)) ez
    ∙ ap₂ (λ (x y : List ℕ). x ++ (zs ++ y)) ef (sym (drop-drop n a t) ∙ ap (drop n) ed ∙ drop-drop n a s)
    ∙ sym (append_assoc front zs (drop (a + n) s))

-- the payload stands in its place
pub payload_put : (s t p : List ℕ) → length s ≡ 512 → length t ≡ 512 → t ≡ take 28 s ++ (p ++ drop 508 s) → payload_of t ≡ p
payload_put s t p ls lt e =
    let long : length (take 28 s ++ (p ++ drop 508 s)) ≡ 512 = sym (ap length e) ∙ lt in
    let parts = simp (length-append, length-drop) at long in
    let front : length (take 28 s) ≡ 28 = length-take-le 28 s (omega arith) in
    ap payload_of e ∙ ap (take 480) (drop_at (take 28 s) (p ++ drop 508 s) 28 front) ∙ take_at p (drop 508 s) 480 (omega arith)

-- the numbers stand before the payload
pub fields_put : (f : Fields) (s t : List ℕ) → t ≡ field_bytes f ++ drop 28 s → take 508 t ≡ field_bytes f ++ payload_of s
unfolding field_bytes
fields_put f s t e = ap (take 508) e

pub check_put : (s t ys : List ℕ) (m : ℕ) → length s ≡ 512 → m ≡ crc32 (take 508 s) → ys ≡ le32 m → t ≡ take 508 s ++ (ys ++ drop 512 s) → t ≡ sealed (take 508 s)
check_put s t ys m l e ey et =
    et
    ∙ ap₂ (λ (x y : List ℕ). take 508 s ++ (x ++ y)) (ey ∙ ap le32 e) (drop_all 512 s (omega arith))
    ∙ ap (λ (x : List ℕ). take 508 s ++ x) (append-nil (le32 (crc32 (take 508 s))))

-- a sector of a known kind is sound once its check is written
pub check_sound : (s t : List ℕ) → length s ≡ 512 → t ≡ sealed (take 508 s) → IsKindNumber (get_or s 0 0) → Sound t
check_sound s t l e k =
    let l508 : length (take 508 s) ≡ 508 = length-take-le 508 s (omega arith) in
    let first : get_or t 0 0 ≡ get_or s 0 0 =
    ap (λ (x : List ℕ). get_or x 0 0) e ∙ get_or_append_left (take 508 s) (le32 (crc32 (take 508 s))) 0 0 (omega arith) ∙ get_or-take 508 s 0 0 (omega arith) in
    let same : take 508 t ≡ take 508 s = ap (take 508) e ∙ take_at (take 508 s) (le32 (crc32 (take 508 s))) 508 l508 in
    record { low = rw first k.0; high = rw first k.1; checked = e ∙ ap sealed (sym same) }

-- neighbouring parts are one part
glue : (s : List ℕ) (a m n : ℕ) → take m (drop a s) ++ take n (drop (a + m) s) ≡ take (m + n) (drop a s)
glue s a m n = ap (λ (x : List ℕ). take m (drop a s) ++ take n x) (sym (drop-drop m a s)) ∙ sym (take-add m n (drop a s))

-- a part of bytes is bytes
bytes_take : (m : ℕ) (xs : List ℕ) → Bytes xs → Bytes (take m xs)
bytes_take zero xs h i = omega arith
bytes_take (suc m) [] h i = omega arith
bytes_take (suc m) (x ∷ xs) h zero = h 0
bytes_take (suc m) (x ∷ xs) h (suc i) = bytes_take m xs (λ j. h (suc j)) i

bytes_part : (s : List ℕ) (a m : ℕ) → Bytes s → Bytes (take m (drop a s))
bytes_part s a m h = bytes_take m (drop a s) (λ i. rw get_or-drop (h (a + i)))

-- a number that was read from a place has the bytes that stand there
pub read16 : (s bs : List ℕ) (a n : ℕ) → Bytes s → a + 2 ≤ length s → bs ≡ take 2 (drop a s) → n ≡ from_le_bytes w16 bs → le16 n ≡ take 2 (drop a s)
read16 s bs a n b h e en =
    le_bytes_2 (take 2 (drop a s)) n (length-chunk a 2 s h) (bytes_part s a 2 b) (en ∙ ap (from_le_bytes w16) e)

pub read32 : (s bs : List ℕ) (a n : ℕ) → Bytes s → a + 4 ≤ length s → bs ≡ take 4 (drop a s) → n ≡ from_le_bytes w32 bs → le32 n ≡ take 4 (drop a s)
read32 s bs a n b h e en =
    le_bytes_4 (take 4 (drop a s)) n (length-chunk a 4 s h) (bytes_part s a 4 b) (en ∙ ap (from_le_bytes w32) e)

-- numbers that were read each from its place
pub record ReadFrom (s : List ℕ) (f : Fields) : Type 0 where
  pub kind : kind_number f.kind ≡ get_or s 0 0
  pub track : f.track ≡ get_or s 1 0
  pub count : le16 f.count ≡ take 2 (drop 2 s)
  pub sitting : le32 f.sitting ≡ take 4 (drop 4 s)
  pub place : le32 f.place ≡ take 4 (drop 8 s)
  pub epoch : le32 f.epoch ≡ take 4 (drop 12 s)
  pub number : le32 f.take ≡ take 4 (drop 16 s)
  pub first : le32 f.a ≡ take 4 (drop 20 s)
  pub second : le32 f.b ≡ take 4 (drop 24 s)

fields_read : (s : List ℕ) (f : Fields) → 28 ≤ length s → ReadFrom s f → field_bytes f ≡ take 28 s
unfolding field_bytes
fields_read s f l r =
    ap₂ (λ (x : ℕ) (y : List ℕ). x ∷ y) r.kind
    (ap₂ (λ (x : ℕ) (y : List ℕ). x ∷ y) r.track
    (ap₂ ◌++◌ r.count
    (ap₂ ◌++◌ r.sitting
    (ap₂ ◌++◌ r.place
    (ap₂ ◌++◌ r.epoch
    (ap₂ ◌++◌ r.number (ap₂ ◌++◌ r.first r.second ∙ glue s 20 4 4) ∙ glue s 16 4 8)
    ∙ glue s 12 4 12)
    ∙ glue s 8 4 16)
    ∙ glue s 4 4 20)
    ∙ glue s 2 2 24))
    ∙ ap (λ (x : List ℕ). x ++ take 26 (drop 2 s)) (spelled_is 2 0 s (omega arith))
    ∙ sym (take-add 2 26 s)

pub record_read : (s : List ℕ) (f : Fields) (q : List ℕ) → length s ≡ 512 → ReadFrom s f → q ≡ payload_of s → field_bytes f ++ q ≡ take 508 s
record_read s f q l r e = ap₂ ◌++◌ (fields_read s f (omega arith) r) e ∙ sym (take-add 28 480 s)

-- the kind of a number
kind_of : ℕ → Kind
kind_of n = cond (eqb n 1) Header (cond (eqb n 2) Begin (cond (eqb n 3) Block (cond (eqb n 4) Trailer (cond (eqb n 5) Withdrawal Opening))))

kind_back : (k : Kind) → kind_of (kind_number k) ≡ k
unfolding kind_of
kind_back Header = refl
kind_back Begin = refl
kind_back Block = refl
kind_back Trailer = refl
kind_back Withdrawal = refl
kind_back Opening = refl

kind_known : (k : Kind) → IsKindNumber (kind_number k)
kind_known Header = (omega arith, omega arith)
kind_known Begin = (omega arith, omega arith)
kind_known Block = (omega arith, omega arith)
kind_known Trailer = (omega arith, omega arith)
kind_known Withdrawal = (omega arith, omega arith)
kind_known Opening = (omega arith, omega arith)

made : (f : Fields) (k : Kind) (t n s p e m a b : ℕ) → k ≡ f.kind → t ≡ f.track → n ≡ f.count → s ≡ f.sitting → p ≡ f.place → e ≡ f.epoch → m ≡ f.take → a ≡ f.a
    → b ≡ f.b → (record { kind = k; track = t; count = n; sitting = s; place = p; epoch = e; take = m; a = a; b = b }) ≡ f
made f k t n s p e m a b ek et en es ep ee em ea eb = rw (ek, et, en, es, ep, ee, em, ea, eb)

-- numbers that fit are told by their bytes
fields_told : (f g : Fields) (p q : List ℕ) → Fits f p → Fits g q → field_bytes g ≡ field_bytes f → g ≡ f
unfolding field_bytes
fields_told f g p q hf hg e =
    made f g.kind g.track g.count g.sitting g.place g.epoch g.take g.a g.b
    (sym (kind_back g.kind) ∙ ap kind_of (ap (λ (x : List ℕ). get_or x 0 0) e) ∙ kind_back f.kind)
    (ap (λ (x : List ℕ). get_or x 1 0) e)
    (same_le16 g.count f.count hg.count hf.count (ap (λ (x : List ℕ). take 2 (drop 2 x)) e))
    (same_le32 g.sitting f.sitting hg.sitting hf.sitting (ap (λ (x : List ℕ). take 4 (drop 4 x)) e))
    (same_le32 g.place f.place hg.place hf.place (ap (λ (x : List ℕ). take 4 (drop 8 x)) e))
    (same_le32 g.epoch f.epoch hg.epoch hf.epoch (ap (λ (x : List ℕ). take 4 (drop 12 x)) e))
    (same_le32 g.take f.take hg.take hf.take (ap (λ (x : List ℕ). take 4 (drop 16 x)) e))
    (same_le32 g.a f.a hg.first hf.first (ap (λ (x : List ℕ). take 4 (drop 20 x)) e))
    (same_le32 g.b f.b hg.second hf.second (ap (λ (x : List ℕ). take 4 (drop 24 x)) e))

length_fields : (f : Fields) → length (field_bytes f) ≡ 28
unfolding field_bytes
length_fields f = refl

-- what stands before the check
body_is : (s : List ℕ) (f : Fields) (p : List ℕ) → Fits f p → s ≡ sector_bytes f p → take 508 s ≡ field_bytes f ++ p
body_is s f p h e =
    let lf = length_fields f in
    let lp : length p ≡ 480 = h.whole in
    let l : length (field_bytes f ++ p) ≡ 508 = simp length-append (omega arith) in
    ap (take 508) e ∙ take_at (field_bytes f ++ p) (le32 (crc32 (field_bytes f ++ p))) 508 l

-- a sector's bytes have one record
pub record_told : (s : List ℕ) (g : Fields) (q : List ℕ) → Fits g q → field_bytes g ++ q ≡ take 508 s
    → (f : Fields) (p : List ℕ) → Fits f p → s ≡ sector_bytes f p → (g ≡ f) × (q ≡ p)
record_told s g q hg eg f p hf e =
    let both : field_bytes g ++ q ≡ field_bytes f ++ p = eg ∙ body_is s f p hf e in (
      fields_told f g p q hf hg
          (sym (take_at (field_bytes g) q 28 (length_fields g)) ∙ ap (take 28) both ∙ take_at (field_bytes f) p 28 (length_fields f)),
      sym (drop_at (field_bytes g) q 28 (length_fields g)) ∙ ap (drop 28) both ∙ drop_at (field_bytes f) p 28 (length_fields f),
    )

first_byte : (f : Fields) (p : List ℕ) → get_or (sector_bytes f p) 0 0 ≡ kind_number f.kind
unfolding field_bytes
first_byte f p = refl

-- the numbers that were written begin with a kind's
pub known_put : (f : Fields) (rest t : List ℕ) → take 508 t ≡ field_bytes f ++ rest → IsKindNumber (get_or t 0 0)
unfolding field_bytes
known_put f rest t e =
    subst IsKindNumber (sym (ap (λ (x : List ℕ). get_or x 0 0) e) ∙ get_or-take 508 t 0 0 (omega arith)) (kind_known f.kind)

-- the first byte is no kind's number
pub no_kind : (s : List ℕ) → (IsKindNumber (get_or s 0 0) → ⊥) → NoRecord s
no_kind s h = (
  λ sound. h (sound.low, sound.high),
  λ f p fits e. h (subst IsKindNumber (sym (ap (λ (x : List ℕ). get_or x 0 0) e ∙ first_byte f p)) (kind_known f.kind)),
)

-- the last four bytes are not the check
pub not_sealed : (s : List ℕ) → (s ≡ sealed (take 508 s) → ⊥) → NoRecord s
not_sealed s h = (λ sound. h sound.checked, λ f p fits e. h (e ∙ ap sealed (sym (body_is s f p fits e))))

-- the test of the check
pub sealed_test : (s : List ℕ) (w m : ℕ) → length s ≡ 512 → w < 4294967296 → m < 4294967296 → le32 w ≡ take 4 (drop 508 s) → m ≡ crc32 (take 508 s)
    → MatchBool (eqb w m) (s ≡ sealed (take 508 s)) (NoRecord s)
sealed_test s w m l hw hm ew em =
    let P : Type 0 = s ≡ sealed (take 508 s) in
    let last : take 4 (drop 508 s) ≡ drop 508 s = take_all 4 (drop 508 s) (simp length-drop (omega arith)) in
    let yes : w ≡ m → s ≡ sealed (take 508 s) =
    λ e. sym (take-append-drop 508 s) ∙ ap (λ (x : List ℕ). take 508 s ++ x) (sym last ∙ sym ew ∙ ap le32 (e ∙ em)) in
    let l508 : length (take 508 s) ≡ 508 = length-take-le 508 s (omega arith) in
    let back : s ≡ sealed (take 508 s) → w ≡ m =
    λ e. same_le32 w m hw hm (ew ∙ last ∙ ap (drop 508) e ∙ drop_at (take 508 s) (le32 (crc32 (take 508 s))) 508 l508 ∙ ap le32 (sym em)) in
    ⊎_elim (λ t. subst (λ (b : Bool). MatchBool b P (NoRecord s)) (sym t.0) (yes t.1))
    (λ t. subst (λ (b : Bool). MatchBool b P (NoRecord s)) (sym t.0) (not_sealed s (λ e. t.1 (back e))))
    (eqb_tells w m)

-- the kind that the first byte names, or none
pub kind_test : (s : List ℕ) (r : Result Kind UnknownKind) → Decodes (get_or s 0 0) r
    → MatchOption (result_ok r) (NoRecord s) (λ k. (kind_number k ≡ get_or s 0 0) × IsKindNumber (get_or s 0 0))
kind_test s (Ok k) h = h
kind_test s (Err e) h = no_kind s h.1
