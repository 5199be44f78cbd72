use Rattle.sector.proofs.Loops.{byte_more, byte_all}
use Rattle.sector.proofs.crc.take_bytes.Goals as goal

pub loop-b-preserved : goal.loop-b-preserved
loop-b-preserved c =
    byte_more c.args.bytes.now c.loop-b.b-index c.loop-b.c c.take_byte-c.result _ c.loop-b-test.true c.loop-b.invariant c.take_byte-c.ensures

pub returns : goal.returns
returns c = byte_all c.args.bytes.now c.loop-b.b-index c.loop-b.c _ c.loop-b-test.false c.loop-b.invariant
