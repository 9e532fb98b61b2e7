-- The loop's invariant: the unit looked for is the one at `left` of those that are left. Assumes nothing.
use native.Mathlib.Omega.{arith}
use mathlib.Core.Path.{sym}
use Rattle.words.specs.Lists.{nth}
use Rattle.copies.proofs.Plain.{finding_end, finding_cut, finding_aggregator, finding_extractor, finding_found, finding_take}
use Rattle.copies.proofs.place_among.Goals as goal

pub returns-then-i-eq0 : goal.returns-then-i-eq0
unfolding nth
returns-then-i-eq0 c = rw c.if-i-eq0.true

pub returns-in-Nothing : goal.returns-in-Nothing
returns-in-Nothing c = sym (finding_cut _ _ _ _ _ _ c.loop-q.invariant c.loop-q-test.true c.requires (sym c.in-Nothing.ensures))

pub loop-q-smaller-in-Aggregator : goal.loop-q-smaller-in-Aggregator
loop-q-smaller-in-Aggregator c = let w = finding_aggregator _ _ _ _ _ _ c.loop-q.invariant c.loop-q-test.true (sym c.in-Aggregator.ensures) in omega arith

pub loop-q-preserved-in-Aggregator : goal.loop-q-preserved-in-Aggregator
loop-q-preserved-in-Aggregator c = (finding_aggregator _ _ _ _ _ _ c.loop-q.invariant c.loop-q-test.true (sym c.in-Aggregator.ensures)).0

pub loop-q-smaller-in-Extractor : goal.loop-q-smaller-in-Extractor
loop-q-smaller-in-Extractor c = let w = finding_extractor _ _ _ _ _ _ c.loop-q.invariant c.loop-q-test.true (sym c.in-Extractor.ensures) in omega arith

pub loop-q-preserved-in-Extractor : goal.loop-q-preserved-in-Extractor
loop-q-preserved-in-Extractor c = (finding_extractor _ _ _ _ _ _ c.loop-q.invariant c.loop-q-test.true (sym c.in-Extractor.ensures)).0

pub returns-then-left-eq0 : goal.returns-then-left-eq0
returns-then-left-eq0 c = (finding_found _ _ _ _ _ _ c.loop-q.invariant c.loop-q-test.true (sym c.in-Unit.ensures) c.if-left-eq0.true, omega arith)

pub loop-q-smaller : goal.loop-q-smaller
loop-q-smaller c = let w = finding_take _ _ _ _ _ _ c.loop-q.invariant c.loop-q-test.true (sym c.in-Unit.ensures) c.if-left-eq0.false in omega arith

pub loop-q-preserved : goal.loop-q-preserved
loop-q-preserved c = (finding_take _ _ _ _ _ _ c.loop-q.invariant c.loop-q-test.true (sym c.in-Unit.ensures) c.if-left-eq0.false).0

pub returns : goal.returns
returns c = sym (finding_end _ _ _ _ _ _ c.loop-q.invariant c.loop-q-test.false)
