use Rattle.std.proofs.Common.{◌≡◌, [], sym, refl, ap, ◌∙◌, rules}
use Rattle.images.specs.Queue.{settle_all}
use Rattle.images.specs.Queued.{queued_number, waiting}
use Rattle.images.proofs.Settles.{flush_flushes, flush_lists}
use Rattle.images.proofs.queued.QueuedImage.settle_all.Goals as goal

pub returns : goal.returns
returns c =
    let p = c.args.self.now.sectors in
    let queue = waiting c.args.self.now in
    let n = c.loop-write.self in
    let h = c.loop-write.invariant in
    let none : waiting n ≡ [] = search rules in
    let left : c.take_oldest.new.self.writes.items ≡ [] = search rules in
    let e = sym (ap (settle_all n.sectors.bytes.now) none) ∙ h.settles in
    let full = c.args.self.now.queue.full in
    record {
      meets = rw h.stays.sick (flush_flushes queued_number p.sick p.bytes.now n.sectors.bytes.now queue c.take_oldest.new.self.writes.items full e left);
      exact = record {
        answer = refl;
        lists = λ t. rw h.stays.sick (flush_lists queued_number p.sick p.bytes.now n.sectors.bytes.now queue c.take_oldest.new.self.writes.items full e left t);
        becomes = record { bytes = e; queue = left; stays = record { power = refl; sick = h.stays.sick; lender = h.stays.lender } };
      };
    }
