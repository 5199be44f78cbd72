use Rattle.std.proofs.Common.{◌∙◌, arith}
use Rattle.sector.proofs.Words.{load_is}
use Rattle.sector.proofs.crc.load.Goals as goal

pub returns : goal.returns
returns c = load_is 8 c.args.chunk.now c.from_le_bytes.result c.told-chunk c.fits-chunk (c.from_le_bytes.ensures ∙ omega arith)
