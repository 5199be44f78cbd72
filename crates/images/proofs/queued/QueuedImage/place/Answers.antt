use Rattle.std.proofs.Common.{[], ◌∷◌, ◌++◌, List, sym, refl, ap, ◌∙◌}
use Rattle.device.specs.Calls.{answer_of}
use Rattle.images.specs.declared.queue.WaitingWrite.{WaitingWrite}
use Rattle.images.specs.Queued.{queued_number, waiting}
use Rattle.images.proofs.Contents.{ready_is, ready_stands}
use Rattle.images.proofs.Settles.{write_writes, write_lists}
use Rattle.images.proofs.queued.QueuedImage.place.Goals as goal

pub returns : goal.returns
returns c =
    let p = c.args.self.now.sectors in
    let queue = waiting c.args.self.now in
    let h = c.make_room.ensures.exact in
    let disk = c.make_room.new.self.sectors.bytes.now in
    let r = ready_is queued_number p.bytes.now p.sick c.args.sector c.requires in
    let w : WaitingWrite = record { sector = c.args.sector; content = c.args.content.now } in
    let e = c.add.ensures ∙ ap (λ (q : List WaitingWrite). q ++ (w ∷ [])) h.queue in
    let full = c.args.self.now.queue.full in
    record {
      meets = rw h.stays.sick (write_writes queued_number p.sick p.bytes.now disk queue c.add.new.self.writes.items w full r h.bytes e);
      exact = record {
        answer = sym (ap answer_of (ready_stands queued_number p.bytes.now p.sick queue c.args.sector r));
        lists = λ t. rw h.stays.sick (write_lists queued_number p.sick p.bytes.now disk queue c.add.new.self.writes.items w full r h.bytes e t);
        becomes = record { bytes = h.bytes; queue = e; stays = record { power = refl; sick = h.stays.sick; lender = h.stays.lender } };
      };
    }
