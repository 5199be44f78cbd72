use lib.Bits.{bit_xor}
use Rattle.sector.specs.Crc.{register}
use Rattle.sector.proofs.Words.{byte_is}
use Rattle.sector.proofs.crc.take_byte.Goals as goal

pub returns : goal.returns
unfolding register
returns c = byte_is (bit_xor c.args.c c.args.b) c.entry.result c.entry.ensures
