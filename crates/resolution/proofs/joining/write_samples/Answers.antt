-- The invariant: what the samples up to n give is written. Assumes nothing.
use native.Mathlib.Omega.{arith}
use mathlib.Core.Path.{refl}
use Prim.Native.Nat.{◌+◌, ◌-◌}
use Rattle.tables.specs.Tables.{recording_in}
use Rattle.resolution.proofs.Ranges.{joining_start, joining_length, joining_room, joining_more, joining_end}
use Rattle.resolution.proofs.joining.write_samples.Goals as goal

pub loop-n-init : goal.loop-n-init
loop-n-init c = joining_start (recording_in c.args.b.now c.args.t.now) c.args.first c.args.last c.args.out.now c.requires.1 c.requires.2 c.requires.4 (c.args.first - 1) refl

pub write_sample-at-requires : goal.write_sample-at-requires
write_sample-at-requires c = let f = c.loop-n.invariant.from in let i = c.loop-n-test.true in let r = joining_room (recording_in c.args.b.now c.args.t.now) c.args.first c.args.last c.args.out.now c.loop-n.out c.loop-n.at c.loop-n.n c.loop-n.invariant i in let e = joining_length (recording_in c.args.b.now c.args.t.now) c.args.first c.args.last c.args.out.now c.loop-n.out c.loop-n.at c.loop-n.n c.loop-n.invariant in
    (c.requires.0 (c.loop-n.n + 1) (omega arith) (omega arith), omega arith, omega (arith, c.requires.3), omega arith)

pub loop-n-preserved : goal.loop-n-preserved
loop-n-preserved c = let w = c.write_sample-at.ensures in joining_more (recording_in c.args.b.now c.args.t.now) c.args.first c.args.last c.args.out.now c.loop-n.out c.loop-n.at c.loop-n.n c.loop-n.invariant c.loop-n-test.true _ w.1 _ w.0

pub shape_of-out : goal.shape_of-out
shape_of-out c = joining_length (recording_in c.args.b.now c.args.t.now) c.args.first c.args.last c.args.out.now c.loop-n.out c.loop-n.at c.loop-n.n c.loop-n.invariant

pub returns : goal.returns
returns c = joining_end (recording_in c.args.b.now c.args.t.now) c.args.first c.args.last c.args.out.now c.loop-n.out c.loop-n.at c.loop-n.n c.loop-n.invariant c.loop-n-test.false
