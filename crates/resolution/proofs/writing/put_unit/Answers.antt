-- The 4 bytes in front, then the unit: two writes, one after the other. Assumes nothing.
use native.Mathlib.Omega.{arith}
use mathlib.Core.Path.{◌≡◌, sym, ap}
use lib.ListN.{length}
use native.Mathlib.Nat.{add-sub_cancel_left}
use Rattle.words.proofs.Bytes.{bytes_length}
use Rattle.words.proofs.Numbered.{put_put}
use Rattle.bundles.specs.Recordings.{content_of}
use Rattle.tables.specs.Tables.{recording_in}
use Rattle.delivery.specs.Deliveries.{span_for}
use Rattle.resolution.specs.Framing.{front_of, framed_unit}
use Rattle.resolution.proofs.Framing.{framed_length}
use Rattle.resolution.proofs.writing.put_unit.Goals as goal
use Rattle.resolution.proofs.writing.put_unit.Goals.{After-sample_bytes-z}

-- the sample that the unit stands in
same : (c : After-sample_bytes-z) → let a = c.args in length c.sample_bytes-z.result.now ≡ length (content_of (recording_in a.b.now a.t.now) a.u.sample.0)
same c = ap length c.sample_bytes-z.ensures

pub overflow_add-end : goal.overflow_add-end
overflow_add-end c = let s = same (goal.at.overflow_add-end c).After-sample_bytes-z in let h = c.requires.0 in omega arith

pub slice_bounds-put_bytes-end : goal.slice_bounds-put_bytes-end
slice_bounds-put_bytes-end c = let s = same (goal.at.slice_bounds-put_bytes-end c).After-sample_bytes-z in let h = c.requires.0 in omega arith

pub returns : goal.returns
unfolding framed_unit
returns c = let a = c.args in
    let l = framed_length a.f (recording_in a.b.now a.t.now) (span_for a.u) c.requires.0 in
    let s = bytes_length 4 (front_of a.f a.u.size) in
    (sym l, rw (c.put_bytes.ensures, c.put_number.ensures, c.front.ensures, add-sub_cancel_left, c.sample_bytes-z.ensures) (put_put _ _ _ _ _ (omega arith) (let h = c.requires.1 in omega arith)))
