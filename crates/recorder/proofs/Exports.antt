-- How long a track can be.
use Rattle.std.proofs.Common.{ℕ, zero, suc, ◌+◌, ◌*◌, ◌≤◌, arith}
use Rattle.std.proofs.lemmas.Bool.{cond_both}
use Rattle.takes.specs.declared.Row.{Row}
use Rattle.takes.specs.Table.{heard_on, end_of}
use Rattle.journal.specs.declared.session.Session.{Session}
use Rattle.journal.specs.Sessions.{table_of}
use Rattle.recorder.specs.Refusals.{track_end}

-- a track ends at or before a place that no row is beyond
end_within : (R : ℕ → Row) (b : ℕ) → ((k : ℕ) → (R k).position + (R k).len ≤ b) → (t n : ℕ) → end_of R t n ≤ b
end_within R b h t zero = omega arith
end_within R b h t (suc n) =
    let i = end_within R b h t n in
    let j = h (suc n) in
    cond_both (heard_on t (R (suc n))) _ _ (λ a. a ≤ b) (λ e. omega arith) (λ e. omega arith)

-- no track is longer than 65,535 entries can make it
pub end_few : (s : Session) (t : ℕ) → track_end s t ≤ 15728400
end_few s t =
    let few = s.few in
    omega (arith, end_within (table_of s) (240 * s.entries) (λ k. (s.within.each k).1) t s.table.inner.count)
