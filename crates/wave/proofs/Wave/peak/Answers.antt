-- The pairs of bytes are the samples.
use Rattle.wave.proofs.Samples.{peak_is}
use Rattle.wave.proofs.Wave.peak.Goals as goal

pub returns : goal.returns
returns c =
    let told = c.largest_distance.ensures in
    peak_is _ _ _ _ c.as_chunks.ensures.front c.as_chunks.ensures.front_len told.none.0 told.bound told.reached c.unwrap_or.ensures
