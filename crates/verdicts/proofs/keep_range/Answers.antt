-- The invariant: the judgements up to sample n are kept, and their sizes added. Assumes nothing.
use native.Mathlib.Omega.{arith}
use mathlib.Core.Path.{refl}
use Prim.Native.Nat.{◌-◌}
use Rattle.verdicts.proofs.Keeping.{judgement_small}
use Rattle.verdicts.proofs.Ranges.{keeping_start, keeping_length, keeping_recording, keeping_most, keeping_fits, keeping_more, keeping_end}
use Rattle.verdicts.proofs.keep_range.Goals as goal

pub loop-before-init : goal.loop-before-init
loop-before-init c = keeping_start c.args.b.now c.args.t.now c.args.first c.args.last c.requires.2 c.requires.3 (c.args.first - 1) refl

pub judge_known-judged-requires : goal.judge_known-judged-requires
judge_known-judged-requires c = (c.requires.0, λ m. rw (keeping_recording c.args.b.now c.args.t.now c.args.first c.args.last c.loop-before.t c.loop-before.size c.loop-before.before c.loop-before.invariant) (c.requires.1 m))

pub judgement_word-requires : goal.judgement_word-requires
judgement_word-requires c = rw c.judge_known-judged.ensures (judgement_small c.args.b.now c.loop-before.t _ c.requires.0)

pub judged_size-size-requires : goal.judged_size-size-requires
judged_size-size-requires c = keeping_most c.args.b.now c.args.t.now c.args.first c.args.last c.loop-before.t c.loop-before.size c.loop-before.before c.loop-before.invariant c.requires.0 c.requires.4 c.loop-before-test.true c.judge_known-judged.ensures

pub overflow_add-size : goal.overflow_add-size
overflow_add-size c = let h = keeping_fits c.args.b.now c.args.t.now c.args.first c.args.last c.loop-before.t c.loop-before.size c.loop-before.before c.loop-before.invariant c.requires.0 c.requires.4 c.loop-before-test.true c.judge_known-judged.ensures in
    omega (arith, c.judged_size-size.ensures)

pub loop-before-preserved : goal.loop-before-preserved
loop-before-preserved c = rw (c.judged_size-size.ensures, c.keep_count.ensures) (keeping_more c.args.b.now c.args.t.now c.args.first c.args.last c.loop-before.t c.loop-before.size c.loop-before.before c.loop-before.invariant c.requires.0 c.requires.4 c.loop-before-test.true c.judge_known-judged.ensures c.judgement_word.ensures)

pub shape_of-t : goal.shape_of-t
shape_of-t c = keeping_length c.args.b.now c.args.t.now c.args.first c.args.last c.loop-before.t c.loop-before.size c.loop-before.before c.loop-before.invariant

pub returns : goal.returns
returns c = keeping_end c.args.b.now c.args.t.now c.args.first c.args.last c.loop-before.t c.loop-before.size c.loop-before.before c.loop-before.invariant c.loop-before-test.false
