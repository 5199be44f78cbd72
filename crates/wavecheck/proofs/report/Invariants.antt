use Rattle.std.proofs.Common.{◌≡◌, take}
use Rattle.std.specs.List.{FoldsTo}
use Rattle.std.specs.Io.KnownBytes.{Appends}
use Rattle.wavecheck.specs.Reports.{Run, Goes, begun}
use Rattle.wavecheck.proofs.report.Given as goal

-- what was counted and printed so far is right for the files so far
abbrev pub invariant-loop-name : goal.invariant-loop-name
invariant-loop-name g l =
    (run : Run) × FoldsTo (Goes (g.S.Shelf.file l.shelf) (g.S.Shelf.fails l.shelf)) begun (take l.name-index l.files) run × (l.tally ≡ run.tally)
    × Appends (g.W.Write.contents l.initial.out) (g.W.Write.contents l.out) run.text
