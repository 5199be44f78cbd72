use Rattle.std.proofs.Common.{arith}
use Rattle.takes.proofs.Bounds.{withdrawn_at_most}
use Rattle.journal.specs.Rows.{row_at}
use Rattle.journal.proofs.Tables.{keeps}
use Rattle.journal.proofs.table.Table.step.Goals as goal

pub invariant_of-self : goal.invariant_of-self
invariant_of-self c = keeps c.args.self.now c.args.place c.args.outline _ _ c.requires.allowed (rw c.in-Opening.is (c.settle.ensures c.args.place))

pub returns-in-Opening : goal.returns-in-Opening
returns-in-Opening c = rw c.in-Opening.is (c.settle.ensures c.args.place)

pub invariant_of-self-in-Begin : goal.invariant_of-self-in-Begin
invariant_of-self-in-Begin c = keeps c.args.self.now c.args.place c.args.outline _ _ c.requires.allowed (rw c.in-Begin.is c.begin.ensures)

pub returns-in-Begin : goal.returns-in-Begin
returns-in-Begin c = rw c.in-Begin.is c.begin.ensures

pub invariant_of-self-in-Block : goal.invariant_of-self-in-Block
invariant_of-self-in-Block c = keeps c.args.self.now c.args.place c.args.outline _ _ c.requires.allowed (rw c.in-Block.is c.extend.ensures)

pub returns-in-Block : goal.returns-in-Block
returns-in-Block c = rw c.in-Block.is c.extend.ensures

pub returns-in-Trailer : goal.returns-in-Trailer
returns-in-Trailer c = rw c.in-Trailer.is (c.end.ensures c.args.place)

pub withdraw-requires : goal.withdraw-requires
withdraw-requires c =
    let a = rw c.in-Withdrawal.is at c.requires.allowed in
    let w = withdrawn_at_most (row_at c.args.self.now.inner.rows) c.in-Withdrawal.track c.args.self.now.inner.count in
    (omega (arith, a.1), omega (arith, a.2, c.args.self.now.few))

pub invariant_of-self-in-Withdrawal : goal.invariant_of-self-in-Withdrawal
invariant_of-self-in-Withdrawal c = keeps c.args.self.now c.args.place c.args.outline _ _ c.requires.allowed (rw c.in-Withdrawal.is (c.withdraw.ensures c.args.place c.in-Withdrawal.track))

pub returns-in-Withdrawal : goal.returns-in-Withdrawal
returns-in-Withdrawal c = rw c.in-Withdrawal.is (c.withdraw.ensures c.args.place c.in-Withdrawal.track)
