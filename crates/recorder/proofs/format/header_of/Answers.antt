-- Each turn puts the kind of one number more.
use Rattle.std.proofs.Common.{◌≡◌, ℕ, suc, ◌+◌, ◌-◌, ◌<◌, ◌≤◌, List, [], ◌∷◌, ◌++◌, length, get_or, set, take, map, replicate, sym, ap, ◌∙◌, append_assoc, arith}
use Rattle.std.proofs.lemmas.List.{set_at, map_more, length-map, length-take-le}
use Rattle.element.specs.declared.kind.Kind.{Kind}
use Rattle.element.specs.declared.kind.Kind.TheVariants.{Sound}
use Rattle.recorder.specs.Formats.{kind_named}
use Rattle.recorder.proofs.format.header_of.Goals as goal

kind_put : (numbers : List ℕ) (kinds : List Kind) (i : ℕ) (kind : Kind) → i < length numbers → length numbers ≤ 8 → kind ≡ kind_named (get_or numbers i 0)
    → kinds ≡ map kind_named (take i numbers) ++ replicate (8 - i) Sound
    → set kinds i kind ≡ map kind_named (take (i + 1) numbers) ++ replicate (8 - (i + 1)) Sound
kind_put numbers kinds i kind lt le named e =
    let front : List Kind = map kind_named (take i numbers) in
    let rest : List Kind = replicate (8 - (i + 1)) Sound in
    let one : 8 - i ≡ suc (8 - (i + 1)) = omega arith in
    let long : length front ≡ i = length-map (take i numbers) kind_named ∙ length-take-le i numbers (omega arith) in
    let split : kinds ≡ front ++ (Sound ∷ rest) = e ∙ ap (λ (n : ℕ). front ++ replicate n Sound) one in
    ap (λ (l : List Kind). set l i kind) split ∙ set_at front Sound rest kind i long ∙ ap (λ (k : Kind). front ++ (k ∷ rest)) named
    ∙ sym (append_assoc front (kind_named (get_or numbers i 0) ∷ []) rest) ∙ ap (λ (l : List Kind). l ++ rest) (sym (map_more kind_named numbers i 0 lt))

pub loop-i-preserved : goal.loop-i-preserved
loop-i-preserved c = kind_put c.args.numbers.now c.loop-i.kinds c.loop-i.i c.kind_named.result c.loop-i-test.true c.requires c.kind_named.ensures c.loop-i.invariant
