use Rattle.std.proofs.Common.{◌≡◌, eqb, ap, ◌∙◌, rules}
use Rattle.std.specs.Option.{option_map, option_copied}
use Rattle.std.proofs.lemmas.Iterator.Consumers.{nth_from_yields_List, YieldsList-from_deque, YieldsList-from_filter}
use Rattle.images.proofs.Waits.{waiting_at}
use Rattle.images.proofs.queue.Queue.waiting.Goals as goal

pub returns : goal.returns
returns c =
    let m : option_copied c.map.result ≡ option_map (λ w. w.content) (option_map (λ x. x.now) c.nth.result) = search rules in
    let e = nth_from_yields_List _ _ c.args.place c.nth.ensures.ran (YieldsList-from_filter _ (λ w. eqb c.args.sector w.sector) (YieldsList-from_deque c.args.self.now.writes.items cc) c.filter.ensures.closure (λ x b q k. search rules)) in
    m ∙ ap (option_map (λ w. w.content)) e ∙ waiting_at c.args.sector c.args.place c.args.self.now.writes.items
