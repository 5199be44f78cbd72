-- Waiting writes of whole sectors.
use Rattle.std.specs.Prelude.{Bool, List, length, ◌==◌}
use Rattle.std.specs.List.{list_all}
use Rattle.images.specs.declared.queue.WaitingWrite.{WaitingWrite}

-- each write has 512 bytes
abbrev pub all_full : List WaitingWrite → Bool
all_full queue = list_all (λ w. length w.content == 512) queue
