use Rattle.std.proofs.Common.{Ok}
use Rattle.wavecheck.proofs.Beginnings.{found_whole}
use Rattle.wavecheck.proofs.examine.Goals as goal

pub returns-clause-found : goal.returns-clause-found
returns-clause-found g c =
    found_whole (g.S.Shelf.file c.args.shelf.now c.args.name.now) c.in_ok-bytes.bytes.items (Ok c.in_ok-sound.sound)
    c.in_ok-bytes.ensures.ok (rw c.deref.ensures.value at c.in_ok-sound.ensures)
