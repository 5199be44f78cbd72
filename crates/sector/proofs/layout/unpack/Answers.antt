use Rattle.std.proofs.Common.{refl, arith}
use Rattle.sector.specs.declared.layout.Fields.{Fields}
use Rattle.sector.specs.Layout.{Fits}
use Rattle.sector.proofs.Records.{ReadFrom, read16, read32, record_read, record_told}
use Rattle.sector.proofs.layout.unpack.Goals as goal

pub returns : goal.returns
returns c =
    let s = c.args.sector.now in
    let p = c.bytes_at-8.result.now in
    let f : Fields =
    record {
      kind = c.args.kind;
      track = lib.ListN.get_or s 1 0;
      count = c.from_le_bytes.result;
      sitting = c.from_le_bytes-2.result;
      place = c.from_le_bytes-3.result;
      epoch = c.from_le_bytes-4.result;
      take = c.from_le_bytes-5.result;
      a = c.from_le_bytes-6.result;
      b = c.from_le_bytes-7.result;
    } in
    let r : ReadFrom s f =
    record {
      kind = c.requires;
      track = refl;
      count = read16 s _ 2 _ c.fits-sector (omega arith) c.bytes_at.ensures.value c.from_le_bytes.ensures;
      sitting = read32 s _ 4 _ c.fits-sector (omega arith) c.bytes_at-2.ensures.value c.from_le_bytes-2.ensures;
      place = read32 s _ 8 _ c.fits-sector (omega arith) c.bytes_at-3.ensures.value c.from_le_bytes-3.ensures;
      epoch = read32 s _ 12 _ c.fits-sector (omega arith) c.bytes_at-4.ensures.value c.from_le_bytes-4.ensures;
      number = read32 s _ 16 _ c.fits-sector (omega arith) c.bytes_at-5.ensures.value c.from_le_bytes-5.ensures;
      first = read32 s _ 20 _ c.fits-sector (omega arith) c.bytes_at-6.ensures.value c.from_le_bytes-6.ensures;
      second = read32 s _ 24 _ c.fits-sector (omega arith) c.bytes_at-7.ensures.value c.from_le_bytes-7.ensures;
    } in
    let fits : Fits f p =
    record {
      track = c.fits-sector 1;
      count = c.from_le_bytes.type_inv;
      sitting = c.from_le_bytes-2.type_inv;
      place = c.from_le_bytes-3.type_inv;
      epoch = c.from_le_bytes-4.type_inv;
      take = c.from_le_bytes-5.type_inv;
      first = c.from_le_bytes-6.type_inv;
      second = c.from_le_bytes-7.type_inv;
      whole = c.bytes_at-8.ensures.len;
    } in
    let only = record_read s f p c.told-sector r c.bytes_at-8.ensures.value in
    record { only = only; back = record_told s f p fits only }
