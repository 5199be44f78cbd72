use Rattle.std.proofs.Common.{◌≡◌, ℕ, cond, ltb, length}
use Rattle.images.specs.Sectors.{content}
use Rattle.images.specs.Queue.{left_at}
use Rattle.images.specs.Queued.{waiting, Stays}
use Rattle.images.proofs.queued.QueuedImage.choose_by_sector.Given as goal

abbrev pub invariant-loop-sector : goal.invariant-loop-sector
invariant-loop-sector l = record {
  bytes : (t : ℕ) → content l.self.sectors.bytes.now t ≡ cond (ltb t l.sector) (left_at l.plan l.initial.self.sectors.bytes.now (waiting l.initial.self) t) (content l.initial.self.sectors.bytes.now t);
  long : length l.self.sectors.bytes.now ≡ length l.initial.self.sectors.bytes.now;
  queue : waiting l.self ≡ waiting l.initial.self;
  stays : Stays l.initial.self l.self;
}
