-- Play: the loop over the sectors of the log, and the fault that ends it.
use Rattle.std.proofs.Common.{◌≡◌, ℕ, suc, ◌+◌, ◌*◌, ◌<◌, ◌≤◌, cond, ◌⊎◌, List, Some, Ok, Err, sym, ap, ◌∙◌, subst, inl, inr, ⊎_elim, arith, add-one, below_more}
use Rattle.std.proofs.lemmas.Bool.{le-ltb}
use Rattle.device.specs.declared.fault.Fault.{Fault}
use Rattle.device.specs.Faults.{out_of_range}
use Rattle.device.specs.Meaning.{Meaning, newest}
use Rattle.device.specs.Calls.{Reads, standing, first_fault, power_fault, sick_fault}
use Rattle.device.proofs.Steps.{standing_is}
use Rattle.takes.specs.Painting.{paint_one, spot_of}
use Rattle.journal.specs.declared.session.Session.{Session}
use Rattle.journal.specs.Sessions.{table_of}
use Rattle.journal.specs.Painting.{content_of}
use Rattle.journal.specs.Shown.{cells_each}
use Rattle.recorder.specs.Devices.{Settled, Lost, Readable}
use Rattle.recorder.specs.Plays.{played, PlayedTo, Halted}
use Rattle.recorder.proofs.Devices.{Stands, outside, unpowered, unwell, stands, kept_newest, kept_sick, settled_lost, settled_off, HasRead, not_read}

-- what stands in the way of the next read after accepted ones: it stood at the beginning, or power went off meanwhile
blocked : (layer p : ℕ) (m l : Meaning) (f : Fault) → m.power ≡ Ok tt → Settled m l → Stands layer l p f
    → ((standing layer m p ≡ Some f) × Settled m l) ⊎ Lost f m l
blocked layer p m l f on kept (outside far e) =
    let beyond : m.size ≤ p = omega (arith, kept.size) in
    inl (ap (λ b. cond b (first_fault (power_fault m.power) (sick_fault (m.sector p))) (Some (out_of_range layer p))) (le-ltb p m.size beyond) ∙ ap Some (sym e), kept)
blocked layer p m l f on kept (unpowered near e) = inr (settled_off f m l on kept e)
blocked layer p m l f on kept (unwell near lit e) =
    let within : p < m.size = omega (arith, kept.size) in
    inl (standing_is layer p m (Some f) within on (sym (kept_sick (m.sector p) (l.sector p) (kept.each p)) ∙ e), kept)

-- what could be read after accepted reads could be read at the beginning
readable_before : (p : ℕ) (m l : Meaning) → Settled m l → Readable l p → Readable m p
readable_before p m l kept h = (omega (arith, kept.size, h.0), sym (kept_sick (m.sector p) (l.sector p) (kept.each p)) ∙ h.1)

module _ {E : Type 0} (m : Meaning) (made : ℕ → List E) where
  -- before the first sector
  pub starts : m.power ≡ Ok tt → (out : List E) → out ≡ made 0 → PlayedTo m made 0 out
  starts on out e = record { power = on; each = λ p h. absurd (omega arith); slice = e }

  -- a fault in the loop
  pub halts : (layer entries k : ℕ) (f : Fault) (l m' : Meaning) (buffer buffer' : List ℕ) (slice : List E)
      → k < entries → Settled m l → PlayedTo m made k slice → Reads layer l (k + 1) buffer (Err f) m' buffer'
      → Halted layer entries m made f m' slice
  halts layer entries k f l m' buffer buffer' slice fewer kept so_far h =
      let told = not_read layer l m' (suc k) buffer buffer' f (subst (λ n. Reads layer l n buffer (Err f) m' buffer') (add-one k) h) in
      record {
        done = k;
        fewer = fewer;
        slice = so_far;
        device =
            ⊎_elim
            (λ p. subst (λ (n : Meaning). ((standing layer m (suc k) ≡ Some f) × Settled m n) ⊎ Lost f m n) (sym p.1) (blocked layer (suc k) m l f so_far.power kept (stands layer l (suc k) f p.0)))
            (λ lost. inr (settled_lost f m l m' so_far.power kept lost)) told.0;
      }

-- one sector more, read after accepted reads
pub goes_on : {E : Type 0} (value : List ℕ → E) (width : ℕ) (s : Session) (m : Meaning) (t from : ℕ) (out : List E) (k : ℕ) (l m' : Meaning) (buffer : List ℕ) (before after : List E)
    → Settled m l → HasRead l (k + 1) m' buffer → PlayedTo m (λ n. played value width s m t from n out) k before
    → (let per = cells_each s.header t width in after ≡ paint_one per (spot_of (table_of s) t) (from * per) (content_of per value width buffer) before)
    → PlayedTo m (λ n. played value width s m t from n out) (k + 1) after
goes_on {E = E} value width s m t from out k l m' buffer before after kept got so_far e =
    let per = cells_each s.header t width in
    let laid : List ℕ → List E → List E = λ bytes slice. paint_one per (spot_of (table_of s) t) (from * per) (content_of per value width bytes) slice in
    let found : buffer ≡ newest (m.sector (suc k)) =
    got.buffer ∙ ap (λ n. newest (l.sector n)) (add-one k) ∙ kept_newest (m.sector (suc k)) (l.sector (suc k)) (kept.each (suc k)) in
    let here : Readable m (suc k) = readable_before (suc k) m l kept (subst (λ n. Readable l n) (add-one k) got.free.readable) in
    record {
      power = so_far.power;
      each = below_more (λ p. Readable m (suc p)) k so_far.each here;
      slice =
          subst (λ n. after ≡ played value width s m t from n out) (sym (add-one k))
          (e ∙ ap (λ bytes. laid bytes before) found ∙ ap (λ slice. laid (newest (m.sector (suc k))) slice) so_far.slice);
    }
