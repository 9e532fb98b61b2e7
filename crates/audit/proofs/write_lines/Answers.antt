-- The invariant: the lines of the samples up to n are written. Assumes nothing.
use native.Mathlib.Omega.{arith}
use mathlib.Core.Path.{ap, ◌∙◌}
use Rattle.words.specs.Buffers.{put}
use Rattle.audit.proofs.Lining.{line_for_lem, kept_none, kept_short, lining_start, lining_length, lining_room, lining_more, lining_end}
use Rattle.audit.proofs.write_lines.Goals as goal

pub returns-then-last-skipped : goal.returns-then-last-skipped
returns-then-last-skipped c = kept_none c.args.t.now c.args.skipped c.args.last.0 c.if-last-skipped.true c.args.lines.now

pub overflow_sub-last : goal.overflow_sub-last
overflow_sub-last c = omega (arith, c.if-last-skipped.false)

pub returns-then-lines-last : goal.returns-then-lines-last
returns-then-lines-last c = let h = c.if-last-skipped.false in let l = c.if-lines-last.true in kept_short c.args.t.now c.args.skipped c.args.last.0 c.args.lines.now h (omega arith)

pub loop-n-init : goal.loop-n-init
loop-n-init c = let h = c.if-last-skipped.false in let l = c.if-lines-last.false in lining_start c.args.t.now c.args.skipped c.args.last.0 c.args.lines.now h (omega arith)

pub put_line-requires : goal.put_line-requires
put_line-requires c = let r = lining_room c.args.t.now c.args.skipped c.args.last.0 c.args.lines.now c.loop-n.lines c.loop-n.n c.loop-n.at c.loop-n.invariant c.loop-n-test.true in let e = lining_length c.args.t.now c.args.skipped c.args.last.0 c.args.lines.now c.loop-n.lines c.loop-n.n c.loop-n.at c.loop-n.invariant in omega arith

pub overflow_add-at : goal.overflow_add-at
overflow_add-at c = let r = lining_room c.args.t.now c.args.skipped c.args.last.0 c.args.lines.now c.loop-n.lines c.loop-n.n c.loop-n.at c.loop-n.invariant c.loop-n-test.true in let k = c.well_formed.0 in omega arith

pub loop-n-preserved : goal.loop-n-preserved
loop-n-preserved c = lining_more c.args.t.now c.args.skipped c.args.last.0 c.args.lines.now c.loop-n.lines c.loop-n.n c.loop-n.at c.loop-n.invariant c.loop-n-test.true c.kept_verdict.ensures _ (c.put_line.ensures ∙ ap (put c.loop-n.lines c.loop-n.at) (line_for_lem c.kept_verdict.result))

pub shape_of-lines : goal.shape_of-lines
shape_of-lines c = lining_length c.args.t.now c.args.skipped c.args.last.0 c.args.lines.now c.loop-n.lines c.loop-n.n c.loop-n.at c.loop-n.invariant

pub returns : goal.returns
returns c = lining_end c.args.t.now c.args.skipped c.args.last.0 c.args.lines.now c.loop-n.lines c.loop-n.n c.loop-n.at c.loop-n.invariant c.loop-n-test.false
