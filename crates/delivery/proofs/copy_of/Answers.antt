-- The copy starts at data_offset and ends in the sample named. Assumes nothing.
use Rattle.tables.specs.Tables.{recording_in}
use Rattle.delivery.proofs.Steps.{sample_from}
use Rattle.delivery.proofs.copy_of.Goals as goal

pub returns : goal.returns
unfolding recording_in
returns c = let a = c.args in
    let s = sample_from a.b.now a.t.now a.m.0 c.track_of-track.ensures c.sample_bytes-z.ensures in
    rw (c.copy_end_in-end.ensures, ← s, c.track_of-track.ensures)
