use Rattle.std.proofs.Common.{arith}
use Rattle.recorder.proofs.Exports.{end_few}
use Rattle.recorder.proofs.checks.samples_of.Goals as goal

pub overflow_cast-result : goal.overflow_cast-result
overflow_cast-result c = let few = end_few c.args.session.now c.args.track in omega (arith, few, c.track_end.ensures)

pub returns-clause-few : goal.returns-clause-few
returns-clause-few c = let few = end_few c.args.session.now c.args.track in omega (arith, few, c.track_end.ensures)
