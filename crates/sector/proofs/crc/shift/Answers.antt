use Rattle.std.proofs.Common.{arith}
use Rattle.sector.proofs.Slices.{shift_more, shift_all}
use Rattle.sector.proofs.crc.shift.Goals as goal

pub loop-i-preserved : goal.loop-i-preserved
loop-i-preserved g c =
    shift_more c.args.bytes.now c.loop-i.i _ c.loop-i.c c.entry-c.result _ (omega arith) (omega arith) c.entry-c.ensures c.loop-i.invariant

pub returns : goal.returns
returns g c = shift_all c.args.bytes.now c.loop-i.i c.loop-i.c _ (omega arith) c.loop-i.invariant
