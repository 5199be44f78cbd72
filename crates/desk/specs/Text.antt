-- How answers are written.
use Rattle.std.specs.Prelude.{ℕ, ℤ, List, ◌∷◌, ◌++◌, length, codes}
use Rattle.std.specs.List.{flat_map}
use Rattle.std.specs.Fmt.{decimal, signed_decimal}
use Rattle.device.specs.Faults.{cause_number}
use Rattle.element.specs.declared.mark.Mark.{Mark}
use Rattle.recorder.specs.Refusals.{refusal_number}
use Rattle.desk.specs.declared.answer.Answer.{Answer}
use Rattle.desk.specs.declared.answer.Answer.TheVariants.{Done, Number, Sound, Marks, Refused, Faulted, Cut, Bad}

-- a number behind a space, which is 32
abbrev pub spaced : ℕ → List ℕ
spaced n = 32 ∷ decimal n

-- a sample behind a space
abbrev pub sample_text : ℤ → List ℕ
sample_text sample = 32 ∷ signed_decimal sample

-- the three numbers of a mark, each behind a space
abbrev pub mark_text : Mark → List ℕ
mark_text mark = spaced mark.tick ++ spaced mark.point ++ spaced mark.event

-- an answer as it is written
abbrev pub text : Answer → List ℕ
text Done = codes "ok"
text (Number n) = codes "ok" ++ spaced n
text (Sound samples) = codes "ok" ++ spaced (length samples.items) ++ flat_map sample_text samples.items
text (Marks marks) = codes "ok" ++ spaced (length marks.items) ++ flat_map mark_text marks.items
text (Refused x) = codes "no" ++ spaced (refusal_number x)
text (Faulted f) = codes "fault" ++ spaced (cause_number f.cause) ++ spaced f.sector ++ spaced f.layer ++ spaced f.depth
text Cut = codes "cut"
text Bad = codes "bad"
