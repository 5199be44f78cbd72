use Rattle.wavecheck.proofs.Beginnings.{begins}
use Rattle.wavecheck.proofs.read_beginning.Goals as goal

pub returns : goal.returns
returns g c =
    begins (g.R.Read.remaining c.args.file) c.take.result.limit c.args.bytes.items c.read_to_end.new.buf.items
    c.take.ensures.limit (rw c.take.ensures.inner at c.in_ok-read_to_end.ensures.bytes)
