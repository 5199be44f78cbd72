use Rattle.std.proofs.Common.{◌≡◌, length, refl, rules}
use Rattle.images.proofs.Contents.{stores}
use Rattle.images.proofs.sectors.Sectors.store.Goals as goal

pub returns : goal.returns
returns c =
    let l : length c.args.content.now ≡ 512 = search rules in
    stores c.args.self.now _ c.args.sector c.args.content.now c.requires l (record { bytes = search rules; sick = refl; lender = refl })
