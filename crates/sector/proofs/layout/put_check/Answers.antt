use Rattle.sector.proofs.Records.{check_put, check_sound}
use Rattle.sector.proofs.layout.put_check.Goals as goal

pub returns : goal.returns
returns c =
    let s = c.args.sector.now in
    let t = c.put.new.sector in
    let e = check_put s t c.to_le_bytes.result c.crc32-check.result c.told-sector c.crc32-check.ensures c.to_le_bytes.ensures c.put.ensures in
    record { bytes = e; sound = check_sound s t c.told-sector e }
