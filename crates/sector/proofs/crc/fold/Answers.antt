use Rattle.sector.specs.Window.{value}
use Rattle.sector.proofs.Loops.{word_more}
use Rattle.sector.proofs.crc.fold.Goals as goal

pub loop-chunk-preserved : goal.loop-chunk-preserved
loop-chunk-preserved c =
    λ back long. word_more c.args.words.now back c.loop-chunk.chunk-index _ (value c.loop-chunk.s) (value c.advance-s.result) c.load.result _
    c.loop-chunk-test.true long c.load.ensures c.advance-s.ensures (c.loop-chunk.invariant back long)
