use Rattle.std.proofs.Common.{Bor, ℕ, List, Option, replicate, unwrap_or, ap, ◌∙◌}
use Rattle.std.proofs.lemmas.Option.{unwrap_or-slice_get}
use Rattle.images.specs.Image.{waiting_for}
use Rattle.images.proofs.Chooses.{unwrap_copied}
use Rattle.images.proofs.queue.Queue.chosen.Goals as goal

pub returns : goal.returns
returns c =
    ap (λ (b : Bor (List ℕ)). b.now) c.unwrap_or.ensures ∙ unwrap_copied c.waiting.result _ ∙ ap (λ (o : Option (List ℕ)). unwrap_or o (replicate 512 0)) c.waiting.ensures
    ∙ unwrap_or-slice_get (waiting_for c.args.sector c.args.self.now.writes.items) c.args.place (replicate 512 0)
