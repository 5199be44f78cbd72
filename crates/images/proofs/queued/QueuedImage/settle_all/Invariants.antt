use Rattle.std.proofs.Common.{◌≡◌, length}
use Rattle.images.specs.Queue.{settle_all}
use Rattle.images.specs.Queued.{waiting, Stays}
use Rattle.images.proofs.queued.QueuedImage.settle_all.Given as goal

abbrev pub invariant-loop-write : goal.invariant-loop-write
invariant-loop-write l = record {
  settles : settle_all l.self.sectors.bytes.now (waiting l.self) ≡ settle_all l.initial.self.sectors.bytes.now (waiting l.initial.self);
  stays : Stays l.initial.self l.self;
}

abbrev pub decreases-loop-write : goal.decreases-loop-write
decreases-loop-write l = length (waiting l.self)
