-- What the next step needs is known from those before it. Assumes nothing.
use native.Mathlib.Omega.{arith}
use Rattle.records.proofs.Walked.{head_there, pictures_there}
use Rattle.records.proofs.record_of.Goals as goal

pub walk_sequences-requires : goal.walk_sequences-requires
walk_sequences-requires c = head_there _ _ c.in_ok-head_fault.ensures

pub follow_of-requires : goal.follow_of-requires
follow_of-requires c =
    let h = head_there _ _ c.in_ok-head_fault.ensures in
    let j = pictures_there _ _ c.in_ok-p.ensures.end c.in_ok-q.ensures.end c.in_ok-q.ensures.fault in
    (omega arith, j.0, j.1)
