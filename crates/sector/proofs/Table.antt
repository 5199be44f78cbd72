-- The rule of a table at each entry, from the one test over all of them.
use Rattle.std.proofs.Common.{◌≡◌, ℕ, zero, suc, ◌+◌, ◌*◌, ◌<◌, Bool, true, false, ◌&&◌, T, eqb, List, [], ◌∷◌, length, get_or, sym, ap, ◌∙◌, subst, add-zero, add-suc, suc-add, arith, eqb→eq}
use Rattle.sector.specs.Crc.{steps}
use Rattle.sector.specs.Table.{row_holds, tables_hold}

pub and_left : (a b : Bool) → T (a && b) → T a
and_left true b t = tt
and_left false b t = t

pub and_right : (a b : Bool) → T (a && b) → T b
and_right true b t = t
and_right false b t = absurd t

row_entry : (n k : ℕ) (xs : List ℕ) → T (row_holds n k xs) → (b : ℕ) → b < length xs → get_or xs b 0 ≡ steps n (k + b)
row_entry n k [] t b h = absurd (omega arith)
row_entry n k (x ∷ xs) t zero h = eqb→eq x (steps n k) (and_left (eqb x (steps n k)) (row_holds n (suc k) xs) t) ∙ ap (steps n) (sym (add-zero k))
row_entry n k (x ∷ xs) t (suc b) h =
    row_entry n (suc k) xs (and_right (eqb x (steps n k)) (row_holds n (suc k) xs) t) b (omega arith) ∙ ap (steps n) (suc-add k b ∙ sym (add-suc k b))

-- the test of one table
abbrev row_test : ℕ → List ℕ → Bool
row_test n xs = eqb (length xs) 256 && row_holds n 0 xs

table_row : (n : ℕ) (xss : List (List ℕ)) → T (tables_hold n xss) → (t : ℕ) → t < length xss → T (row_test (n + 8 * t) (get_or xss t []))
table_row n [] p t h = absurd (omega arith)
table_row n (xs ∷ xss) p zero h =
    subst (λ (m : ℕ). T (row_test m xs)) (omega arith) (and_left (row_test n xs) (tables_hold (8 + n) xss) p)
table_row n (xs ∷ xss) p (suc t) h =
    subst (λ (m : ℕ). T (row_test m (get_or xss t []))) (omega arith) (table_row (8 + n) xss (and_right (row_test n xs) (tables_hold (8 + n) xss) p) t (omega arith))

pub table_entry : (xss : List (List ℕ)) → T (tables_hold 8 xss) → (t b : ℕ) → t < length xss → b < 256 → get_or (get_or xss t []) b 0 ≡ steps (8 + 8 * t) b
table_entry xss p t b ht hb =
    let row : List ℕ = get_or xss t [] in
    let q = table_row 8 xss p t ht in
    let long : length (get_or xss t []) ≡ 256 = eqb→eq (length row) 256 (and_left (eqb (length row) 256) (row_holds (8 + 8 * t) 0 row) q) in
    row_entry (8 + 8 * t) 0 row (and_right (eqb (length row) 256) (row_holds (8 + 8 * t) 0 row) q) b (omega arith) ∙ ap (steps (8 + 8 * t)) (omega arith)
