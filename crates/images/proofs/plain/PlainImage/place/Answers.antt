use Rattle.std.proofs.Common.{◌≡◌, [], length, sym, refl, ap, rules}
use Rattle.device.specs.Calls.{answer_of}
use Rattle.images.specs.Plain.{plain_number}
use Rattle.images.proofs.Contents.{ready_is, ready_stands}
use Rattle.images.proofs.Plains.{plain_writes, plain_lists}
use Rattle.images.proofs.plain.PlainImage.place.Goals as goal

pub returns : goal.returns
returns c =
    let p = c.args.self.now.sectors in
    let h = c.store.ensures.rewrites in
    let r = ready_is plain_number p.bytes.now p.sick c.args.sector c.requires in
    let l : length c.args.content.now ≡ 512 = search rules in
    record {
      meets = rw h.sick (plain_writes plain_number p.sick p.bytes.now c.store.new.self.bytes.now c.args.content.now c.args.sector r l h.bytes);
      exact = record {
        answer = sym (ap answer_of (ready_stands plain_number p.bytes.now p.sick [] c.args.sector r));
        lists = λ t. rw h.sick (plain_lists plain_number p.sick p.bytes.now c.store.new.self.bytes.now c.args.content.now c.args.sector r l h.bytes t);
        bytes = h.bytes;
        power = refl;
        sick = h.sick;
        lender = h.lender;
      };
    }
