use Rattle.std.proofs.Common.{◌≡◌, ◌+◌, ◌≤◌, ◌++◌, ℕ, cond, eqb, length, map}
use Rattle.std.specs.List.{list_any}
use Rattle.std.specs.VecDeque.Iter.{deque_iter_rest}
use Rattle.images.specs.Sectors.{content}
use Rattle.images.specs.Queue.{cut_content}
use Rattle.images.specs.Queued.{waiting}
use Rattle.images.proofs.queued.QueuedImage.choose_by_write.Given as goal

-- the sectors of the writes so far are as the plan says, the others as they were
abbrev pub invariant-loop-place : goal.invariant-loop-place
invariant-loop-place l = record {
  bytes : (t : ℕ) → content l.self.1.0.bytes.now t ≡ cond (list_any (λ w. eqb t w.sector) (map (λ w. w.now) l.yielded))
      (cut_content l.plan l.fn.self.sectors.bytes.now (waiting l.fn.self) t) (content l.fn.self.sectors.bytes.now t);
  long : length l.self.1.0.bytes.now ≡ length l.fn.self.sectors.bytes.now;
  sick : l.self.1.0.sick ≡ l.fn.self.sectors.sick;
  lender : l.self.1.0.bytes.ghost_name ≡ l.fn.self.sectors.bytes.ghost_name;
  writes : map (λ w. w.now) l.yielded ++ deque_iter_rest l.write-iterator ≡ waiting l.fn.self;
  place : l.place ≡ length l.yielded;
  few : l.place + length (deque_iter_rest l.write-iterator) ≤ 16;
}
