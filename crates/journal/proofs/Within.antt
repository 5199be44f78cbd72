-- What so many entries can have made of the rows of a table, and of the numbers of the next entry's sector.
use Rattle.std.proofs.Common.{◌≡◌, ℕ, zero, suc, ◌+◌, ◌*◌, ◌≤◌, List, length, sym, subst, arith}
use Rattle.std.proofs.lemmas.Bool.{cond_both}
use Rattle.sector.specs.Layout.{Fits}
use Rattle.element.specs.declared.kind.Kind.{Kind}
use Rattle.element.specs.declared.kind.Kind.TheVariants.{Sound, Mark}
use Rattle.element.specs.Kinds.{capacity_of}
use Rattle.takes.specs.declared.Row.{Row}
use Rattle.takes.specs.declared.State.TheVariants.{Withdrawn, Standing}
use Rattle.takes.specs.declared.Outline.{Outline}
use Rattle.takes.specs.declared.Outline.TheVariants.{Opening, Begin, Block, Trailer, Withdrawal}
use Rattle.takes.specs.Table.{heard_on, end_of}
use Rattle.takes.specs.Steps.{fresh_row, longer_row, row_in_state, next_rows}
use Rattle.takes.proofs.Changed.{changed_by}
use Rattle.journal.specs.declared.header.Header.{Header}
use Rattle.journal.specs.declared.session.Session.{Session}
use Rattle.journal.specs.Headers.{kind_of}
use Rattle.journal.specs.Log.{Follows}
use Rattle.journal.specs.Rows.{row_at, RowWithin, Within, Steps}
use Rattle.journal.specs.Sessions.{table_of, SessionFollows, session_fields}
use Rattle.takes.proofs.Bounds.{withdrawn_at_most}
use Rattle.journal.proofs.Tables.{open_begun}

-- a block holds at most 240 elements
pub capacity_small : (kind : Kind) → capacity_of kind ≤ 240
capacity_small Sound = omega arith
capacity_small Mark = omega arith

-- a track ends at or before a place that no row is beyond
pub end_within : (R : ℕ → Row) (b : ℕ) → ((k : ℕ) → (R k).position + (R k).len ≤ b) → (t n : ℕ) → end_of R t n ≤ b
end_within R b h t zero = omega arith
end_within R b h t (suc n) =
    let i = end_within R b h t n in
    let j = h (suc n) in
    cond_both (heard_on t (R (suc n))) _ _ (λ a. a ≤ b) (λ e. omega arith) (λ e. omega arith)

-- after one entry more a row that is the same, or in another state, is within what the entries can have made of it
row_later : (hd : Header) (m : ℕ) (r : Row) → RowWithin hd m r → RowWithin hd (m + 1) r
row_later hd m r (t, e, s, l) = (t, omega arith, omega arith, omega arith)

-- so is each row after an entry that may follow
pub rows_within : (hd : Header) (m n : ℕ) (R : ℕ → Row) (o : Outline) → ((k : ℕ) → RowWithin hd m (R k)) → Follows hd m n (λ t. end_of R t n) R o
    → (k : ℕ) → RowWithin hd (m + 1) (next_rows (m + 1) n R o k)
rows_within hd m n R Opening w f k = row_later hd m (R k) (w k)
rows_within hd m n R (Begin t p) w f k =
    let e = end_within R (240 * m) (λ i. (w i).1) t n in
    changed_by (λ i r. RowWithin hd (m + 1) r) (suc n) (λ r. fresh_row t p (m + 1)) R k
    (λ q. (f.2.1, omega (arith, f.3.1), omega arith, omega arith)) (λ q. row_later hd m (R k) (w k))
rows_within hd m n R (Block j c) w f k =
    let a = capacity_small (kind_of hd (R j).track) in
    let v = w k in
    changed_by (λ i r. RowWithin hd (m + 1) r) j (longer_row c (m + 1)) R k
    (λ q. (v.0, omega (arith, f.2.1), omega arith, omega arith)) (λ q. row_later hd m (R k) v)
rows_within hd m n R (Trailer j) w f k =
    changed_by (λ i r. RowWithin hd (m + 1) r) j (row_in_state Standing) R k (λ q. row_later hd m (R k) (w k)) (λ q. row_later hd m (R k) (w k))
rows_within hd m n R (Withdrawal t j) w f k =
    changed_by (λ i r. RowWithin hd (m + 1) r) j (row_in_state Withdrawn) R k (λ q. row_later hd m (R k) (w k)) (λ q. row_later hd m (R k) (w k))

-- an entry that may follow makes no more of the table than so many entries can
pub within_step : (hd : Header) (m n n' : ℕ) (rows rows' : List Row) (o : Outline) → Within hd m rows → Follows hd m n (λ t. end_of (row_at rows) t n) (row_at rows) o
    → Steps (m + 1) o rows n rows' n' → Within hd (m + 1) rows'
within_step hd m n n' rows rows' o w f s = record {
  each = λ k. subst (λ (R : ℕ → Row). RowWithin hd (m + 1) (R k)) (sym s.0) (rows_within hd m n (row_at rows) o w.each f k);
}

-- the numbers of the next entry fit their places in a sector
pub fields_fit : (s : Session) (o : Outline) (payload : List ℕ) → length payload ≡ 480 → SessionFollows s o
    → Fits (session_fields s o) payload
fields_fit s Opening payload whole f =
    let small = s.small in
    let low = s.low in
    record { track = omega arith; count = omega arith; sitting = omega arith; place = omega (arith, f.0); epoch = omega (arith, f.0); take = omega arith; first = omega arith; second = omega arith; whole = whole }
fields_fit s (Begin t p) payload whole f =
    let small = s.small in
    let low = s.low in
    let few = s.table.few in
    let e = end_within (table_of s) (240 * s.entries) (λ i. (s.within.each i).1) t s.table.inner.count in
    record { track = omega (arith, f.2.1); count = omega arith; sitting = omega arith; place = omega (arith, f.0); epoch = omega (arith, f.0); take = omega arith; first = omega (arith, f.0, f.3.1); second = omega arith; whole = whole }
fields_fit s (Block k c) payload whole f =
    let small = s.small in
    let low = s.low in
    let w = s.within.each k in
    let l = (open_begun s.table.inner.rows s.table.inner.count k s.table.rest f.3).1 in
    let a = capacity_small (kind_of s.header (table_of s k).track) in
    record { track = omega (arith, w.0); count = omega (arith, f.2.1); sitting = omega arith; place = omega (arith, f.0); epoch = omega (arith, f.0); take = omega arith; first = omega (arith, f.0, w.1); second = omega (arith, f.0, w.3); whole = whole }
fields_fit s (Trailer k) payload whole f =
    let small = s.small in
    let low = s.low in
    let w = s.within.each k in
    let l = (open_begun s.table.inner.rows s.table.inner.count k s.table.rest f.3).1 in
    record { track = omega (arith, w.0); count = omega arith; sitting = omega arith; place = omega (arith, f.0); epoch = omega (arith, f.0); take = omega arith; first = omega (arith, f.0, w.1); second = omega (arith, f.0, w.3); whole = whole }
fields_fit s (Withdrawal t k) payload whole f =
    let small = s.small in
    let low = s.low in
    let few = s.table.few in
    let w = s.within.each k in
    let most = withdrawn_at_most (table_of s) t s.table.inner.count in
    let l : k ≤ s.table.inner.count = omega (arith, most, f.3.2) in
    record { track = omega (arith, f.2.1); count = omega arith; sitting = omega arith; place = omega (arith, f.0); epoch = omega (arith, f.0); take = omega arith; first = omega arith; second = omega (arith, f.0, w.2); whole = whole }
