use Rattle.std.proofs.Common.{rules}
use lib.Bits.{bit_xor, xor_lt}
use Rattle.sector.proofs.Words.{shift_is}
use Rattle.sector.proofs.Loops.{word_leaves}
use Rattle.sector.proofs.crc.take_word.Goals as goal

pub returns : goal.returns
returns c =
    word_leaves c.args.own c.args.c c.load.result c.shift.result c.args.chunk.now c.load.ensures
    (shift_is 8 (bit_xor (bit_xor c.args.own c.args.c) c.load.result) c.shift.result c.to_le_bytes.result
    (xor_lt 64 (bit_xor c.args.own c.args.c) c.load.result (xor_lt 64 c.args.own c.args.c (search rules) (search rules)) c.load.type_inv)
    c.to_le_bytes.ensures c.shift.ensures)
