use Rattle.std.proofs.Common.{◌≡◌, ◌≢◌, Some, None, get_or, arith, sym, ◌∙◌}
use Rattle.std.proofs.lemmas.List.{length-set, get_or-set_other}
use Rattle.element.specs.declared.kind.Kind.TheVariants.{Sound}
use Rattle.element.specs.Kinds.{kind_number}
use Rattle.journal.proofs.Headers.{kind_read, number_at, kind_put}
use Rattle.journal.proofs.header.kinds_from.Goals as goal

pub returns-in_err-kinds : goal.returns-in_err-kinds
returns-in_err-kinds c =
    let none = kind_read (get_or c.args.numbers.now c.loop-i.i 0) c.try_from.result None c.try_from.ensures (sym c.in_err-kinds.was ∙ c.ok.ensures.value) in
    rw c.from_residual.ensures
    (λ kinds e. none (get_or kinds c.loop-i.i Sound) (number_at c.args.numbers.now kinds c.loop-i.i c.loop-i-test.true e))

pub loop-i-preserved : goal.loop-i-preserved
loop-i-preserved c =
    let some : get_or c.args.numbers.now c.loop-i.i 0 ≡ kind_number c.in_ok-kinds.field-0 =
    kind_read (get_or c.args.numbers.now c.loop-i.i 0) c.try_from.result (Some c.in_ok-kinds.field-0) c.try_from.ensures (sym c.in_ok-kinds.was ∙ c.ok.ensures.value) in
    record {
      eight = simp length-set c.loop-i.invariant.eight;
      front = kind_put c.args.numbers.now c.loop-i.kinds c.loop-i.i c.in_ok-kinds.field-0 c.loop-i-test.true (omega arith) some c.loop-i.invariant.front;
      rest = λ k h. let other : k ≢ c.loop-i.i = omega arith in rw get_or-set_other (c.loop-i.invariant.rest k (omega arith));
    }
