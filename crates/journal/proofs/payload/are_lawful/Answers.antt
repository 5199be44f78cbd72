use Rattle.std.proofs.Common.{◌≡◌, ◌<◌, ◌/◌, length, rules, tests, subst, sym, ap₂, ◌∙◌}
use Rattle.std.proofs.lemmas.Iterator.Search.{all_from_yields_List}
use Rattle.std.specs.List.{list_all}
use Rattle.std.specs.Slice.Iter.{chunks_exact_rest, chunks_exact_size}
use Rattle.element.specs.Kinds.{width_of, bytes_lawful}
use Rattle.element.specs.Payload.{unpacked}
use Rattle.journal.proofs.Payloads.{width_positive, chunks_yielded}
use Rattle.journal.proofs.payload.are_lawful.Goals as goal

pub returns : goal.returns
returns c =
    let size : chunks_exact_size c.chunks_exact.result ≡ width_of c.args.kind = c.chunks_exact.ensures.size ∙ c.width.ensures in
    let rest : chunks_exact_rest c.chunks_exact.result ≡ c.args.elements.now = c.chunks_exact.ensures.rest in
    all_from_yields_List (bytes_lawful c.args.kind) _ _ c.all.result c.all.ensures.ran
    (chunks_yielded c.chunks_exact.result (subst (λ n. 0 < n) (sym size) (width_positive c.args.kind))) (λ x b q k. search (rules, tests))
    ∙ ap₂ (λ w xs. list_all (bytes_lawful c.args.kind) (unpacked (λ x. x) w (length xs / w) xs)) size rest
