use Rattle.std.proofs.Common.{sym, ◌∙◌, arith, rules}
use lib.Bits.{bit_xor, xor_lt}
use Rattle.sector.proofs.Words.{load_is, shift_is}
use Rattle.sector.proofs.crc.take_four.Goals as goal

pub returns : goal.returns
returns c =
    shift_is 4 (bit_xor c.args.c c.from_le_bytes.result) c.shift.result c.to_le_bytes.result
    (xor_lt 32 c.args.c c.from_le_bytes.result (search rules) c.from_le_bytes.type_inv) c.to_le_bytes.ensures c.shift.ensures
    ∙ sym (load_is 4 c.args.chunk.now c.from_le_bytes.result c.told-chunk c.fits-chunk (c.from_le_bytes.ensures ∙ omega arith) c.args.c)
