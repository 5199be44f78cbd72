use Rattle.std.proofs.Common.{sym, refl, ap, ◌∙◌}
use Rattle.device.specs.Calls.{answer_of}
use Rattle.device.specs.Meaning.{newest}
use Rattle.images.specs.Sectors.{content}
use Rattle.images.specs.Queued.{queued_number, waiting}
use Rattle.images.proofs.Contents.{ready_is, ready_stands, ready_listed, ready_reads}
use Rattle.images.proofs.queued.QueuedImageDevice.read.Goals as goal

pub returns-in-Some : goal.returns-in-Some
returns-in-Some c =
    let p = c.args.self.now.sectors in
    let queue = waiting c.args.self.now in
    let r = ready_is queued_number p.bytes.now p.sick c.args.sector (sym c.in_ok-ready.ensures) in
    let e = c.copy_from_slice.ensures.after ∙ c.in-Some.ensures (content p.bytes.now c.args.sector) ∙ sym (ap newest (ready_listed queued_number p.bytes.now p.sick queue c.args.sector r)) in
    record {
      meets = ready_reads queued_number p.bytes.now p.sick queue c.args.sector c.args.buffer.now c.copy_from_slice.new.self r e;
      exact = record { answer = sym (ap answer_of (ready_stands queued_number p.bytes.now p.sick queue c.args.sector r)); buffer = e; same = refl };
    }

pub returns-in-None : goal.returns-in-None
returns-in-None c =
    let p = c.args.self.now.sectors in
    let queue = waiting c.args.self.now in
    let r = ready_is queued_number p.bytes.now p.sick c.args.sector (sym c.in_ok-ready.ensures) in
    let e = c.load.ensures ∙ c.in-None.ensures (content p.bytes.now c.args.sector) ∙ sym (ap newest (ready_listed queued_number p.bytes.now p.sick queue c.args.sector r)) in
    record {
      meets = ready_reads queued_number p.bytes.now p.sick queue c.args.sector c.args.buffer.now c.load.new.buffer r e;
      exact = record { answer = sym (ap answer_of (ready_stands queued_number p.bytes.now p.sick queue c.args.sector r)); buffer = e; same = refl };
    }
