use Rattle.std.proofs.Common.{arith}
use Rattle.sector.proofs.Records.{read32, sealed_test}
use Rattle.sector.proofs.layout.is_sealed.Goals as goal

pub returns : goal.returns
returns c =
    let s = c.args.sector.now in
    sealed_test s c.from_le_bytes.result c.crc32.result c.told-sector c.from_le_bytes.type_inv c.crc32.type_inv
    (read32 s c.bytes_at.result.now 508 c.from_le_bytes.result c.fits-sector (omega arith) c.bytes_at.ensures.value c.from_le_bytes.ensures) c.crc32.ensures
