use Rattle.std.proofs.Common.{◌≡◌, ℕ, length, refl}
use Rattle.device.specs.Cuts.{cut_by}
use Rattle.device.proofs.Cuts.{cut_by_plan}
use Rattle.images.specs.Sectors.{content}
use Rattle.images.specs.Image.{image_meaning}
use Rattle.images.specs.Queue.{cut_content}
use Rattle.images.specs.Queued.{queued_number, waiting, queued_meaning, Stays}
use Rattle.images.proofs.Chooses.{queued_cut}
use Rattle.images.proofs.queued.QueuedImage.leave_chosen.Goals as goal
use Rattle.images.proofs.queued.QueuedImage.leave_chosen.Goals.{then-size-len, else-size-len}

pub returns : goal.returns
returns c =
    let plan = c.args.plan.now in
    let p = c.args.self.now in
    let n = c.if-size-len.self in
    let did : ((t : ℕ) → content n.sectors.bytes.now t ≡ cut_content plan p.sectors.bytes.now (waiting p) t) × (length n.sectors.bytes.now ≡ length p.sectors.bytes.now) × Stays p n =
    elim c.if-size-len.branch [
      | then-size-len w ↦ rw w.self-is (w.choose_by_sector.ensures.bytes, w.choose_by_sector.ensures.long, w.choose_by_sector.ensures.stays)
      | else-size-len w ↦ rw w.self-is (w.choose_by_write.ensures.bytes, w.choose_by_write.ensures.long, w.choose_by_write.ensures.stays)
    ] in
    let e : image_meaning queued_number n.sectors.sick n.sectors.bytes.now c.clear.new.self.writes.items ≡ cut_by plan (queued_meaning p) =
    rw did.2.sick (queued_cut queued_number plan p.sectors.sick p.sectors.bytes.now n.sectors.bytes.now (waiting p) c.clear.new.self.writes.items did.1 c.clear.ensures did.0) in
    record {
      each = (cut_by_plan plan (queued_meaning p) _ e, tt);
      exact = record { meaning = e; queue = c.clear.ensures; bytes = did.0; long = did.1; stays = record { power = refl; sick = did.2.sick; lender = did.2.lender } };
    }
