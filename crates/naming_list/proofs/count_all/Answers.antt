-- The loop's invariant: the extractors of the samples so far are counted, and the count kept beside each sample tells how many stand in it. Assumes nothing.
use native.Mathlib.Omega.{arith}
use Prim.Native.Nat.{◌≤◌, ◌<◌}
use Rattle.bundles.specs.Recordings.{sample_count}
use Rattle.tables.specs.Tables.{layout_in}
use Rattle.tables.proofs.Layouts.{samples_most}
use Rattle.bundles.specs.Limits.{sample_most}
use Rattle.naming_list.proofs.Listings.{counting_start, counting_fits, counting_more, counting_end}
use Rattle.naming_list.proofs.count_all.Goals as goal
use Rattle.naming_list.proofs.count_all.Goals.{In-loop-n}

-- one sample more
next : (c : In-loop-n) → (c.loop-n.n < sample_count (layout_in c.args.t.now)) × (sample_count (layout_in c.args.t.now) ≤ sample_most)
next c = (rw c.sample_count-total.ensures at c.loop-n-test.true, samples_most c.args.t.now)

pub loop-n-init : goal.loop-n-init
loop-n-init c = counting_start _ _ _

pub overflow_add-sample : goal.overflow_add-sample
overflow_add-sample c = let h = next (goal.at.overflow_add-sample c).In-loop-n in omega arith

pub count_in-found-requires : goal.count_in-found-requires
count_in-found-requires c = c.requires.0

pub overflow_add-count : goal.overflow_add-count
overflow_add-count c = let h = next (goal.at.overflow_add-count c).In-loop-n in let f = counting_fits _ _ _ _ _ _ c.loop-n.invariant h.0 c.requires.0 c.count_in-found.ensures in omega arith

pub loop-n-preserved : goal.loop-n-preserved
loop-n-preserved c = rw c.keep_count.ensures (counting_more _ _ _ _ _ _ c.loop-n.invariant (next (goal.at.loop-n-preserved c).In-loop-n).0 c.requires.0 c.count_in-found.ensures c.requires.1)

pub shape_of-t : goal.shape_of-t
shape_of-t c = c.loop-n.invariant.equal_length

pub returns : goal.returns
returns c = counting_end _ _ _ _ _ _ c.loop-n.invariant (rw c.sample_count-total.ensures at c.loop-n-test.false)
