-- What a session that is in step with a log knows of it.
use Rattle.std.proofs.Common.{◌≡◌, ℕ, suc, ◌+◌, [], ◌∷◌, length, sym, refl, ap, ◌∙◌, subst, ap₂, arith}
use Rattle.std.proofs.Math.Path.{fun_ext}
use Rattle.takes.specs.declared.Row.{Row}
use Rattle.takes.specs.declared.Outline.{Outline}
use Rattle.takes.specs.Entries.{outline, next_place, epoch}
use Rattle.takes.specs.Takes.{count, rows}
use Rattle.takes.specs.Table.{end_of}
use Rattle.takes.specs.Tracks.{track, TableRun}
use Rattle.takes.specs.Steps.{next_rows, next_count, next_epoch}
use Rattle.takes.proofs.Ordered.{ends}
use Rattle.takes.proofs.Steps.{rows_step, count_step, epoch_step}
use Rattle.journal.specs.declared.header.Header.{Header}
use Rattle.journal.specs.declared.session.Session.{Session}
use Rattle.journal.specs.Log.{LogEntry, Log, Follows, LawfulElements, Admits, Run, entry_fields}
use Rattle.journal.specs.Sessions.{table_of, SessionFollows, session_fields, Adds, InStep}

-- the take table admitted each entry of a log
pub table_run : (hd : Header) (h : Log) → Run hd h → TableRun h
table_run hd [] r = tt
table_run hd (e ∷ h) (r, a) = (table_run hd h r, a.0.3)

-- where each track ends, by a log
abbrev log_ends : Log → ℕ → ℕ
log_ends h t = length (track h t)

-- and by a session
abbrev session_ends : Session → ℕ → ℕ
session_ends s t = end_of (table_of s) t s.table.inner.count

module _ (s : Session) (h : Log) (i : InStep s h) where
  -- its table is the log's
  pub rows_same : rows h ≡ table_of s
  rows_same = fun_ext (λ k. sym (i.rows k))

  -- and so do the places at which the tracks end
  ends_same : log_ends h ≡ session_ends s
  ends_same = fun_ext (λ t. ends h (table_run s.header h i.run) t ∙ ap₂ (λ (R : ℕ → Row) (n : ℕ). end_of R t n) rows_same (sym i.count))

  -- what holds of a log's numbers, ends and rows holds of the session's
  pub as_session : (P : (m ep n : ℕ) → (ℕ → ℕ) → (ℕ → Row) → Type 0) → P (length h) (epoch h) (count h) (log_ends h) (rows h)
      → P s.entries s.epoch s.table.inner.count (session_ends s) (table_of s)
  as_session P p =
      subst (λ (m : ℕ). P m s.epoch s.table.inner.count (session_ends s) (table_of s)) (sym i.entries)
      (subst (λ (ep : ℕ). P (length h) ep s.table.inner.count (session_ends s) (table_of s)) (sym i.epoch)
      (subst (λ (n : ℕ). P (length h) (epoch h) n (session_ends s) (table_of s)) (sym i.count)
      (subst (λ (E : ℕ → ℕ). P (length h) (epoch h) (count h) E (table_of s)) ends_same
      (subst (λ (R : ℕ → Row). P (length h) (epoch h) (count h) (log_ends h) R) rows_same p))))

  -- an entry that the log admits may follow in the session
  pub follows_session : (e : LogEntry) → Admits s.header h e → SessionFollows s (outline e) × LawfulElements s.header (table_of s) e
  follows_session e a = as_session (λ m ep n E R. Follows s.header m n E R (outline e) × LawfulElements s.header R e) a

  -- and the other way round
  pub follows_log : (e : LogEntry) → SessionFollows s (outline e) → LawfulElements s.header (table_of s) e → Admits s.header h e
  follows_log e f l =
      as_session (λ m ep n E R. Follows s.header m n E R (outline e) × LawfulElements s.header R e → Admits s.header h e) (λ a. a) (f, l)

  -- the numbers of an entry's sector
  pub fields_same : (o : Outline) → entry_fields s.header (next_place h) (epoch h) (count h) (rows h) o ≡ session_fields s o
  fields_same o =
      let same : entry_fields s.header (next_place h) (epoch h) (count h) (rows h) o ≡ entry_fields s.header (suc s.entries) s.epoch s.table.inner.count (table_of s) o =
      as_session (λ m ep n E R. entry_fields s.header (next_place h) (epoch h) (count h) (rows h) o ≡ entry_fields s.header (suc m) ep n R o) refl in
      same ∙ ap (λ (p : ℕ). entry_fields s.header p s.epoch s.table.inner.count (table_of s) o) (omega arith)

  -- a session to which the entry was added is in step with the log and the entry
  pub in_step_after : (s' : Session) (e : LogEntry) → Admits s.header h e → Adds s (outline e) s' → InStep s' (e ∷ h)
  in_step_after s' e a d = record {
    run = subst (λ (hd : Header). Run hd (e ∷ h)) (sym d.header) (i.run, a);
    entries = let n = d.entries in let m = i.entries in omega arith;
    epoch = d.epoch ∙ ap (λ (n : ℕ). next_epoch n (outline e)) i.epoch ∙ sym (epoch_step h e);
    count = d.table.1 ∙ ap (λ (n : ℕ). next_count n (outline e)) i.count ∙ sym (count_step h e);
    rows = λ k. ap (λ (R : ℕ → Row). R k) d.table.0 ∙ next_row k ∙ sym (rows_step h e k);
  }
    where
      next_row : (k : ℕ) → next_rows (s.entries + 1) s.table.inner.count (table_of s) (outline e) k ≡ next_rows (next_place h) (count h) (rows h) (outline e) k
      next_row k =
          let same : next_rows (suc s.entries) s.table.inner.count (table_of s) (outline e) k ≡ next_rows (next_place h) (count h) (rows h) (outline e) k =
          as_session (λ m ep n E R. next_rows (suc m) n R (outline e) k ≡ next_rows (next_place h) (count h) (rows h) (outline e) k) refl in
          ap (λ (p : ℕ). next_rows p s.table.inner.count (table_of s) (outline e) k) (omega arith) ∙ same
