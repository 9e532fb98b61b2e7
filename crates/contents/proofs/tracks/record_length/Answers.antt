-- The field lies in the entry's head. Assumes nothing.
use native.Mathlib.Omega.{arith}
use Rattle.bundles.proofs.Sections.{track_good}
use Rattle.contents.proofs.tracks.record_length.Goals as goal

pub overflow_add-p : goal.overflow_add-p
overflow_add-p c = let g = track_good c.args.b.now c.args.p c.requires in omega (arith, g.head)
