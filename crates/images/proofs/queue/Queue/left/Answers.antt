use Rattle.std.proofs.Common.{Bor, ◌≡◌, ◌+◌, ℕ, List, Option, Some, replicate, slice_get, unwrap_or, ap, ◌∙◌, rules}
use Rattle.std.proofs.lemmas.Option.{unwrap_or-slice_get}
use Rattle.images.specs.Image.{waiting_for}
use Rattle.images.proofs.Chooses.{unwrap_copied, left_other}
use Rattle.images.proofs.queue.Queue.left.Goals as goal

pub returns : goal.returns
returns c =
    let xs = waiting_for c.args.sector c.args.self.now.writes.items in
    let k = c.in_ok-place.place in
    let above : c.args.choice ≡ k + 1 = search rules in
    let oldest : slice_get xs 0 ≡ Some c.in_ok-waiting.field-0.now = search rules in
    λ x. ap (λ (b : Bor (List ℕ)). b.now) c.unwrap_or.ensures ∙ unwrap_copied c.waiting-2.result _ ∙ ap (λ (o : Option (List ℕ)). unwrap_or o (replicate 512 0)) c.waiting-2.ensures ∙ unwrap_or-slice_get xs k (replicate 512 0) ∙ left_other c.args.choice k x c.in_ok-waiting.field-0.now xs above oldest
