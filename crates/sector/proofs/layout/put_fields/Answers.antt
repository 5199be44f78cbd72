use Rattle.std.proofs.Common.{ℕ, List, [], ◌∷◌, ◌++◌, refl, ap}
use Rattle.little_endian.specs.Little.{le16, le32}
use Rattle.sector.specs.Layout.{kind_number, field_bytes, payload_of}
use Rattle.sector.proofs.Records.{put_more, fields_put, known_put}
use Rattle.sector.proofs.layout.put_fields.Goals as goal

pub returns : goal.returns
unfolding field_bytes
returns c =
    let f = c.args.fields in
    let s = c.args.sector.now in
    let t2 : List ℕ = kind_number f.kind ∷ f.track ∷ [] in
    let t4 : List ℕ = t2 ++ le16 f.count in
    let t8 : List ℕ = t4 ++ le32 f.sitting in
    let t12 : List ℕ = t8 ++ le32 f.place in
    let t16 : List ℕ = t12 ++ le32 f.epoch in
    let t20 : List ℕ = t16 ++ le32 f.take in
    let t24 : List ℕ = t20 ++ le32 f.a in
    let e2 = put_more s s c.put.new.sector [] _ t2 0 2 refl refl (ap (λ (x : ℕ). x ∷ f.track ∷ []) c.into.ensures) c.put.ensures in
    let e4 = put_more s c.put.new.sector c.put-2.new.sector t2 _ (le16 f.count) 2 2 refl e2 c.to_le_bytes.ensures c.put-2.ensures in
    let e8 = put_more s c.put-2.new.sector c.put-3.new.sector t4 _ (le32 f.sitting) 4 4 refl e4 c.to_le_bytes-2.ensures c.put-3.ensures in
    let e12 = put_more s c.put-3.new.sector c.put-4.new.sector t8 _ (le32 f.place) 8 4 refl e8 c.to_le_bytes-3.ensures c.put-4.ensures in
    let e16 = put_more s c.put-4.new.sector c.put-5.new.sector t12 _ (le32 f.epoch) 12 4 refl e12 c.to_le_bytes-4.ensures c.put-5.ensures in
    let e20 = put_more s c.put-5.new.sector c.put-6.new.sector t16 _ (le32 f.take) 16 4 refl e16 c.to_le_bytes-5.ensures c.put-6.ensures in
    let e24 = put_more s c.put-6.new.sector c.put-7.new.sector t20 _ (le32 f.a) 20 4 refl e20 c.to_le_bytes-6.ensures c.put-7.ensures in
    let body =
    fields_put f s c.put-8.new.sector (put_more s c.put-7.new.sector c.put-8.new.sector t24 _ (le32 f.b) 24 4 refl e24 c.to_le_bytes-7.ensures c.put-8.ensures) in
    record { body = body; known = known_put f (payload_of s) c.put-8.new.sector body }
