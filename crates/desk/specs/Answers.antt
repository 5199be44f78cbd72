-- What is answered to a line, by what came of the recorder's call.
use Rattle.std.specs.Prelude.{ℕ, Result, Ok, Err}
use Rattle.recorder.specs.declared.failed.Failed.{Failed}
use Rattle.recorder.specs.declared.failed.Failed.TheVariants.{Refused, Faulted}
use Rattle.desk.specs.declared.answer.Answer.{Answer}
use Rattle.desk.specs.declared.answer.Answer.TheVariants.{Done, Number, Refused as RefusedAnswer, Faulted as FaultedAnswer}

-- the answer of a call that failed: its refusal, or the device's fault
abbrev pub failed : Failed → Answer
failed (Refused x) = RefusedAnswer x
failed (Faulted call t k f) = FaultedAnswer f

-- the answer of a call that answers a number
abbrev pub numbered : Result ℕ Failed → Answer
numbered (Ok n) = Number n
numbered (Err e) = failed e

-- the answer of a call that answers nothing
abbrev pub done : Result (Unit {0}) Failed → Answer
done (Ok n) = Done
done (Err e) = failed e
