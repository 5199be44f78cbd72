use Rattle.std.proofs.Common.{◌≡◌, refl, cond, eqb, Bool, ℕ, List, get_or, ap, ◌∙◌, arith, rules}
use Rattle.std.proofs.lemmas.Bool.{le-ltb}
use Rattle.images.specs.declared.queue.WaitingWrite.{WaitingWrite}
use Rattle.images.specs.Sectors.{whole, content}
use Rattle.images.specs.Image.{waiting_for}
use Rattle.images.specs.Queue.{left_of, left_at}
use Rattle.images.specs.Queued.{waiting}
use Rattle.images.proofs.Chooses.{same_left, left_more}
use Rattle.images.proofs.queued.QueuedImage.choose_by_sector.Goals as goal
use Rattle.images.proofs.queued.QueuedImage.choose_by_sector.Goals.{in-Some, in_default}

pub loop-sector-preserved : goal.loop-sector-preserved
loop-sector-preserved c =
    let plan = c.args.plan.now in
    let p = c.args.self.now in
    let bytes = p.sectors.bytes.now in
    let now = c.loop-sector.self in
    let disk = now.sectors.bytes.now in
    let s = c.loop-sector.sector in
    let h = c.loop-sector.invariant in
    let choice : c.unwrap_or-choice.result ≡ get_or plan s 0 = search rules in
    let x = content bytes s in
    let left : left_of c.unwrap_or-choice.result x (waiting_for s (waiting now)) ≡ left_at plan bytes (waiting p) s =
    ap (λ (k : ℕ). left_of k x (waiting_for s (waiting now))) choice ∙ ap (λ (q : List WaitingWrite). left_of (get_or plan s 0) x (waiting_for s q)) h.queue in
    elim c.match-left.branch [
      | in-Some w ↦
          rw w.self-is (record {
            bytes = left_more (left_at plan bytes (waiting p)) (content bytes) (content disk) (content w.store.new.self.bytes.now) s h.bytes
                (λ t. w.store.ensures.each t ∙ ap (λ (z : List ℕ). cond (eqb t s) z (content disk t)) (w.in-Some.ensures x ∙ left));
            long = w.store.ensures.long ∙ h.long;
            queue = h.queue;
            stays = record { power = refl; sick = w.store.ensures.rewrites.sick ∙ h.stays.sick; lender = w.store.ensures.rewrites.lender ∙ h.stays.lender };
          })
      | in_default w ↦
          let here : content disk s ≡ x = h.bytes s ∙ ap (λ (v : Bool). cond v (left_at plan bytes (waiting p) s) x) (le-ltb s s (omega arith)) in
          rw w.self-is (record {
            bytes = left_more (left_at plan bytes (waiting p)) (content bytes) (content disk) (content disk) s h.bytes (same_left (content disk) s (left_at plan bytes (waiting p) s) (here ∙ w.in_default.ensures x ∙ left));
            long = h.long;
            queue = h.queue;
            stays = h.stays;
          })
    ]

pub returns : goal.returns
returns c =
    let h = c.loop-sector.invariant in
    let all : c.loop-sector.sector ≡ whole c.args.self.now.sectors.bytes.now = search rules in
    record { bytes = rw (← all) h.bytes; long = h.long; stays = h.stays }
