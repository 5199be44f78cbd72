use Rattle.std.proofs.Common.{string_bytes}
use Rattle.wavecheck.proofs.Runs.{one_more, at_last}
use Rattle.wavecheck.proofs.report.Goals as goal

pub loop-name-preserved : goal.loop-name-preserved
loop-name-preserved g c =
    let inv = c.loop-name.invariant in
    one_more (g.S.Shelf.file c.args.shelf.now) (g.S.Shelf.fails c.args.shelf.now) c.files_of-files.result.now c.loop-name.name-index
    (g.W.Write.contents c.args.out.now) (g.W.Write.contents c.loop-name.out) (g.W.Write.contents c.writeln.new.self)
    inv.0 c.name-item.result c.loop-name.tally c.add.new.self c.examine-finding.result c.as_str.result.now (string_bytes c.in_ok-text.text)
    c.loop-name-test.true c.name-item.is c.as_str.ensures.value inv.1 inv.2 inv.3
    c.examine-finding.ensures.found c.examine-finding.ensures.unread c.in_ok-text.ensures c.in_ok-writeln.ensures.bytes c.add.ensures

pub returns : goal.returns
returns g c =
    let inv = c.loop-name.invariant in
    at_last (g.S.Shelf.file c.args.shelf.now) (g.S.Shelf.fails c.args.shelf.now) c.files_of-files.result.now c.loop-name.name-index
    (g.W.Write.contents c.args.out.now) (g.W.Write.contents c.loop-name.out) (g.W.Write.contents c.writeln-2.new.self)
    c.writeln-2.result c.args.names.now inv.0 c.loop-name.tally (string_bytes c.in_ok-last.last)
    c.files_of-files.ensures c.loop-name-test.false inv.1 inv.2 inv.3 c.in_ok-last.ensures c.writeln-2.ensures.bytes
