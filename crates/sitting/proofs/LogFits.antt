-- The numbers of an admitted entry's sector fit their places.
use Rattle.std.proofs.Common.{◌≡◌, ℕ, suc, ◌+◌, ◌*◌, ◌≤◌, List, [], ◌∷◌, length, sym, subst, arith}
use Rattle.sector.specs.declared.layout.Fields.{Fields}
use Rattle.sector.specs.Layout.{Fits}
use Rattle.takes.specs.declared.Row.{Row}
use Rattle.takes.specs.Entries.{opening, begin, block, trailer, withdrawal, outline, next_place, epoch}
use Rattle.takes.specs.Takes.{count, rows}
use Rattle.takes.specs.Tracks.{track}
use Rattle.takes.proofs.Bounds.{withdrawn_at_most, parts}
use Rattle.takes.proofs.Ordered.{ordered, same_rule, ends}
use Rattle.takes.proofs.Steps.{rows_step}
use Rattle.journal.specs.declared.header.Header.{Header}
use Rattle.journal.specs.Headers.{kind_of, padded, Lawful as LawfulHeader}
use Rattle.journal.specs.Log.{LogEntry, Log, Suits, LawfulElements, Admits, Run, entry_fields, payload}
use Rattle.journal.specs.Rows.{RowWithin}
use Rattle.journal.proofs.Payloads.{flat_fits, length-padded}
use Rattle.journal.proofs.Within.{capacity_small, end_within, rows_within}
use Rattle.journal.proofs.InStep.{table_run}

-- a run's entries make no more of the rows than so many entries can
pub log_within : (hd : Header) (h : Log) → Run hd h → (k : ℕ) → RowWithin hd (length h) (rows h k)
log_within hd [] r k = (omega arith, omega arith, omega arith, omega arith)
log_within hd (e ∷ h) (r, a) k =
    let rule = (same_rule h e (ordered h (table_run hd h r)).laid).0 a.0.3 in
    let w = rows_within hd (length h) (count h) (rows h) (outline e) (log_within hd h r) (a.0.0, a.0.1, a.0.2, rule) k in
    let m : length h + 1 ≡ suc (length h) = omega arith in
    subst (RowWithin hd (suc (length h))) (sym (rows_step h e k)) (rw m at w)

-- no track of a run ends beyond what its blocks can hold
log_end : (hd : Header) (h : Log) → Run hd h → (t : ℕ) → length (track h t) ≤ 240 * length h
log_end hd h r t = omega (arith, ends h (table_run hd h r) t, end_within (rows h) (240 * length h) (λ k. (log_within hd h r k).1) t (count h))

-- the payload of an admitted entry is whole
payload_whole : (hd : Header) (R : ℕ → Row) (e : LogEntry) → Suits hd R (outline e) → LawfulElements hd R e → length (padded (payload e)) ≡ 480
payload_whole hd R opening s l = length-padded [] (omega arith)
payload_whole hd R (begin t p) s l = length-padded [] (omega arith)
payload_whole hd R (block k xs) s l = length-padded (payload (block k xs)) (flat_fits (kind_of hd (R k).track) xs l s.1)
payload_whole hd R (trailer k) s l = length-padded [] (omega arith)
payload_whole hd R (withdrawal t k) s l = length-padded [] (omega arith)

-- the numbers of an entry's sector
abbrev pub log_fields : Header → Log → LogEntry → Fields
log_fields hd h e = entry_fields hd (next_place h) (epoch h) (count h) (rows h) (outline e)

-- they fit their places, where the entry is admitted
numbers_fit : (hd : Header) → LawfulHeader hd → (h : Log) (e : LogEntry) → Run hd h → Admits hd h e → (p : List ℕ) → length p ≡ 480 → Fits (log_fields hd h e) p
numbers_fit hd ok h opening r a p whole =
    let m = parts h in
    record {
      track = omega arith;
      count = omega arith;
      sitting = ok.sitting;
      place = omega (arith, a.0.0);
      epoch = omega (arith, a.0.0);
      take = omega arith;
      first = omega arith;
      second = omega arith;
      whole = whole;
    }
numbers_fit hd ok h (begin t q) r a p whole =
    let m = parts h in
    record {
      track = omega (arith, ok.few, a.0.2.1);
      count = omega arith;
      sitting = ok.sitting;
      place = omega (arith, a.0.0);
      epoch = omega (arith, a.0.0);
      take = omega (arith, a.0.0);
      first = omega (arith, a.0.0, a.0.3.1, log_end hd h r t);
      second = omega arith;
      whole = whole;
    }
numbers_fit hd ok h (block k xs) r a p whole =
    let m = parts h in
    let w = log_within hd h r k in
    record {
      track = omega (arith, ok.few, w.0);
      count = omega (arith, a.0.2.1, capacity_small (kind_of hd (rows h k).track));
      sitting = ok.sitting;
      place = omega (arith, a.0.0);
      epoch = omega (arith, a.0.0);
      take = omega (arith, a.0.0, ((ordered h (table_run hd h r)).within k a.0.3).1);
      first = omega (arith, a.0.0, w.1);
      second = omega (arith, a.0.0, w.3);
      whole = whole;
    }
numbers_fit hd ok h (trailer k) r a p whole =
    let m = parts h in
    let w = log_within hd h r k in
    record {
      track = omega (arith, ok.few, w.0);
      count = omega arith;
      sitting = ok.sitting;
      place = omega (arith, a.0.0);
      epoch = omega (arith, a.0.0);
      take = omega (arith, a.0.0, ((ordered h (table_run hd h r)).within k a.0.3).1);
      first = omega (arith, a.0.0, w.1);
      second = omega (arith, a.0.0, w.3);
      whole = whole;
    }
numbers_fit hd ok h (withdrawal t k) r a p whole =
    let m = parts h in
    let w = log_within hd h r k in
    record {
      track = omega (arith, ok.few, a.0.2.1);
      count = omega arith;
      sitting = ok.sitting;
      place = omega (arith, a.0.0);
      epoch = omega (arith, a.0.0);
      take = omega (arith, a.0.0, a.0.3.2, withdrawn_at_most (rows h) t (count h));
      first = omega arith;
      second = omega (arith, a.0.0, w.2);
      whole = whole;
    }

-- an admitted entry's sector is of numbers that fit and a whole payload
pub entry_fits : (hd : Header) → LawfulHeader hd → (h : Log) (e : LogEntry) → Run hd (e ∷ h) → Fits (log_fields hd h e) (padded (payload e))
entry_fits hd ok h e (r, a) = numbers_fit hd ok h e r a (padded (payload e)) (payload_whole hd (rows h) e a.0.2 a.1)
