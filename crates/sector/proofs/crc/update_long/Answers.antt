use Rattle.std.proofs.Common.{ℕ, List, ◌-◌, ◌*◌, ◌/◌, ◌++◌, length, ap, ◌∙◌, ap₂, arith}
use lib.Bits.{xor_zero_r}
use Rattle.std.proofs.lemmas.List.{take-append-drop}
use Rattle.sector.specs.Crc.{register}
use Rattle.sector.specs.Window.{value}
use Rattle.sector.proofs.Loops.{whole}
use Rattle.sector.proofs.crc.update_long.Goals as goal

pub returns : goal.returns
unfolding value
returns c =
    let xs = c.args.bytes.now in
    let front : List ℕ = c.split_at.result.0.now in
    let back : List ℕ = c.split_at.result.1.now in
    let words = whole front c.as_chunks.result.0.now (omega (arith, c.split_at.ensures.front_len)) c.as_chunks.ensures.front in
    c.finish.ensures ∙ c.fold.ensures back (omega (arith, c.split_at.ensures.back_len))
    ∙ ap₂ register (xor_zero_r c.args.start)
    (ap (λ (ys : List ℕ). ys ++ back) words ∙ ap₂ ◌++◌ c.split_at.ensures.front c.split_at.ensures.back ∙ take-append-drop ((length xs - 40) / 8 * 8) xs)
