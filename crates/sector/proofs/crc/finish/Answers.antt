use Rattle.std.proofs.Common.{ap, ◌∙◌}
use Rattle.std.proofs.lemmas.List.{take_rest}
use Rattle.sector.specs.Crc.{register}
use Rattle.sector.proofs.Loops.{finish_is}
use Rattle.sector.proofs.crc.finish.Goals as goal

pub returns : goal.returns
returns c =
    finish_is c.args.back.now c.as_chunks.result.0.now _ c.as_chunks.ensures.front c.args.s.now
    c.take_word-r.result c.take_word-r-2.result c.take_word-r-3.result c.take_word-r-4.result c.take_word-r-5.result c.update.result c.told-s c.requires
    c.take_word-r.ensures c.take_word-r-2.ensures c.take_word-r-3.ensures c.take_word-r-4.ensures c.take_word-r-5.ensures
    (c.update.ensures ∙ ap (register c.take_word-r-5.result) (take_rest c.args.back.now 40))
