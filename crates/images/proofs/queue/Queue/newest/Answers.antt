use Rattle.std.proofs.Common.{◌≡◌, eqb, List, ℕ, ap, ◌∙◌, rules, Option, unwrap_or}
use Rattle.std.specs.Option.{option_map, option_copied}
use Rattle.std.proofs.lemmas.Iterator.Search.{find_from_yields_List}
use Rattle.images.proofs.Waits.{yields_back}
use Rattle.images.proofs.Settles.{newest_found}
use Rattle.images.proofs.queue.Queue.newest.Goals as goal

pub returns : goal.returns
returns c =
    let queue = c.args.self.now.writes.items in
    let e = find_from_yields_List (λ w. eqb c.args.sector w.sector) _ _ c.rfind.result c.rfind.ensures.ran (yields_back c.iter.result queue c.iter.ensures.rest) (λ x b q k. search rules) in
    let m : option_copied c.map.result ≡ option_map (λ w. w.content) (option_map (λ x. x.now) c.rfind.result) = search rules in
    λ x. ap (λ (o : Option (List ℕ)). unwrap_or o x) (m ∙ ap (option_map (λ w. w.content)) e) ∙ newest_found c.args.sector x queue
