use Rattle.std.proofs.Common.{◌/◌, length, ◌∙◌}
use Rattle.sector.proofs.Loops.{chunk_more, chunk_all, register_parts}
use Rattle.sector.proofs.crc.update.Goals as goal

pub loop-chunk-preserved : goal.loop-chunk-preserved
loop-chunk-preserved c =
    chunk_more c.as_chunks.result.0.now c.loop-chunk.chunk-index _ c.loop-chunk.c c.take_four-c.result _ c.loop-chunk-test.true c.loop-chunk.invariant
    c.take_four-c.ensures

pub returns : goal.returns
returns c =
    let xs = c.args.bytes.now in
    c.take_bytes.ensures
    ∙ register_parts 4 (length xs / 4) c.args.start c.loop-chunk.c xs c.as_chunks.result.1.now c.as_chunks.result.0.now
    c.as_chunks.ensures.front c.as_chunks.ensures.back
    (chunk_all c.as_chunks.result.0.now c.loop-chunk.chunk-index c.loop-chunk.c _ c.loop-chunk-test.false c.loop-chunk.invariant)
