use Rattle.std.proofs.Common.{eqb, rules}
use Rattle.std.proofs.lemmas.Iterator.Search.{any_from_yields_List}
use Rattle.std.proofs.lemmas.Iterator.{YieldsList-from_take}
use Rattle.std.proofs.lemmas.Iterator.Consumers.{YieldsList-from_deque}
use Rattle.images.proofs.queue.Queue.waits_before.Goals as goal

pub returns : goal.returns
returns c =
    any_from_yields_List (λ w. eqb c.args.sector w.sector) _ _ c.any.result c.any.ensures.ran (YieldsList-from_take c.args.place (YieldsList-from_deque c.args.self.now.writes.items (cc)) (cc)) (λ x b q k. search rules)
