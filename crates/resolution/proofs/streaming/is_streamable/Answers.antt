-- The unit lies in its sample. Assumes nothing.
use native.Mathlib.Omega.{arith}
use native.Mathlib.Nat.{add-sub_cancel_left}
use mathlib.Core.Path.{◌≡◌, ap, ◌∙◌}
use Prim.Native.Nat.{ℕ}
use lib.ListN.{length}
use Rattle.words.specs.Bytes.{part}
use Rattle.byte_streams.specs.Writing.{is_streamable}
use Rattle.bundles.specs.Recordings.{content_of}
use Rattle.tables.specs.Tables.{recording_in}
use Rattle.resolution.proofs.streaming.is_streamable.Goals as goal
use Rattle.resolution.proofs.streaming.is_streamable.Goals.{After-sample_bytes-z}

-- the sample that the unit stands in
same : (c : After-sample_bytes-z) → let a = c.args in length c.sample_bytes-z.result.now ≡ length (content_of (recording_in a.b.now a.t.now) a.u.sample.0)
same c = ap length c.sample_bytes-z.ensures

pub overflow_add-end : goal.overflow_add-end
overflow_add-end c = let s = same (goal.at.overflow_add-end c).After-sample_bytes-z in let h = c.requires in omega arith

pub slice_bounds-is_streamable-end : goal.slice_bounds-is_streamable-end
slice_bounds-is_streamable-end c = let s = same (goal.at.slice_bounds-is_streamable-end c).After-sample_bytes-z in let h = c.requires in omega arith

pub returns : goal.returns
returns c = let a = c.args in
    c.is_streamable.ensures
    ∙ rw c.sample_bytes-z.ensures (ap (λ (n : ℕ). is_streamable (part (content_of (recording_in a.b.now a.t.now) a.u.sample.0) a.u.start.0 n)) (add-sub_cancel_left a.u.start.0 a.u.size))
