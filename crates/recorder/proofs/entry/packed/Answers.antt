use Rattle.std.proofs.Common.{ℕ, length, ap, ◌∙◌}
use Rattle.std.proofs.lemmas.List.{length-replicate}
use Rattle.std.proofs.lemmas.Result.{IfOk-at_ok}
use Rattle.recorder.specs.Formats.{zeros}
use Rattle.recorder.proofs.Packs.{packed_placed}
use Rattle.recorder.proofs.entry.packed.Goals as goal

pub returns : goal.returns
unfolding zeros
returns g c =
    packed_placed g.E.Element.KIND g.E.Element.bytes c.args.elements.now _ _ g.met.E.Element.wide c.requires (ap length c.blank-sector.ensures.zeros ∙ length-replicate {A = ℕ} 512 0)
    c.blank-sector.ensures.payload (IfOk-at_ok _ c.unwrap.ensures c.pack.ensures.ok)
