use Rattle.std.proofs.Common.{◌≡◌, ◌*◌}
use Rattle.takes.specs.Painting.{spot_of, paint}
use Rattle.journal.specs.Sessions.{table_of}
use Rattle.journal.specs.Painting.{content_of}
use Rattle.journal.specs.Shown.{cells_each, numbered}
use Rattle.journal.proofs.session.Session.paint_all.Given as goal

-- the sectors so far are painted
abbrev pub invariant-loop-sector : goal.invariant-loop-sector
invariant-loop-sector g l =
    let w = g.C.Cell.WIDTH in
    let per = cells_each l.self.header l.track w in
    l.out ≡ paint per (spot_of (table_of l.self) l.track) (l.from * per) (λ p. content_of per g.C.Cell.value w (numbered l.sectors p)) l.sector-index l.initial.out
