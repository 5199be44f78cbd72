-- How files are counted.
use Rattle.std.specs.Prelude.{ℕ, ◌+◌, ◌-◌, ◌^◌, min, Ok, Err, Result}
use Rattle.wavecheck.specs.declared.Sound.{Sound}
use Rattle.wavecheck.specs.declared.Problem.{Problem}
use Rattle.wavecheck.specs.declared.Problem.TheVariants.{Refused, Unreadable}
use Rattle.wavecheck.specs.declared.Tally.{Tally}

-- one more; the largest count stays
abbrev more : ℕ → ℕ
more n = min (n + 1) (2 ^ 64 - 1)

-- a file counts once among all, and once among those of its kind
abbrev pub counted : Result Sound Problem → Tally → Tally
counted (Ok sound) t = record t { files = more t.files; accepted = more t.accepted }
counted (Err (Refused refusal)) t = record t { files = more t.files; refused = more t.refused }
counted (Err (Unreadable error)) t = record t { files = more t.files; unreadable = more t.unreadable }
