-- What a command says, and words.
use Rattle.std.specs.Prelude.{ℕ, List, map}
use Rattle.std.specs.Borrow.{Bor}
use Rattle.script.specs.Said.{Said}
use Rattle.script.specs.Said as says
use Rattle.script.specs.declared.Command.{Command}
use Rattle.script.specs.declared.Command.TheVariants.{Format, Mount, Arm, Begin, Sound, Mark, End, Withdraw, Play, Save, Cut, Fuse}

-- a command, wherever its lists lie
abbrev pub said : Command → Said
said (Format kinds rate sitting) = says.Format kinds.items rate sitting
said Mount = says.Mount
said Arm = says.Arm
said (Begin track position) = says.Begin track position
said (Sound take samples) = says.Sound take samples.items
said (Mark take mark) = says.Mark take mark
said (End take) = says.End take
said (Withdraw track) = says.Withdraw track
said (Play track) = says.Play track
said Save = says.Save
said (Cut plan) = says.Cut plan.items
said (Fuse count) = says.Fuse count

-- the words that are borrowed
abbrev pub texts : List (Bor (List ℕ)) → List (List ℕ)
texts words = map (λ word. word.now) words
