-- The loop's invariant: the first i entries have no refusal, p is where the next stands, and total is the sum of their lengths.
-- Assumes nothing.
use native.Mathlib.Omega.{arith}
use mathlib.Core.Path.{◌≡◌}
use Prim.Native.Nat.{◌+◌, ◌≤◌}
use lib.ListN.{length}
use Rattle.std.proofs.lemmas.Result.{err_from_is_err_and}
use Rattle.numbers.proofs.Faults.{place_none, place_value, place_fault}
use Rattle.bundles.specs.Limits.{count_fault, sample_most}
use Rattle.bundles.specs.Fields.{sample_count_size, sample_entry_size}
use Rattle.bundles.specs.Samples.{entry_fault, lengths, samples_verdict}
use Rattle.bundles.proofs.Passing.{passed_start, passed_next, passed_refused, passed_end}
use Rattle.bundles.proofs.Sections.{count_good, entry_good}
use Rattle.bundles.proofs.Checking.{at_count, at_entry, at_end, total_start, total_next}
use Rattle.bundles.proofs.check_samples.Goals as goal
use Rattle.bundles.proofs.check_samples.Goals.{In_ok-n, In_ok-at_place}

-- the count has no refusal
counted : (c : In_ok-n) → count_fault c.args.b.now c.args.at sample_count_size 0 sample_most ≡ 0
counted c = place_none c.count_at-count.result c.args.at c.in_ok-n.ensures c.count_at-count.ensures.fault

-- the entry at hand has none
here : (c : In_ok-at_place) → entry_fault c.args.b.now (c.loop-i.i + 1) ≡ 0
here c = place_none c.entry_fault.result c.loop-i.p c.in_ok-at_place.ensures c.entry_fault.ensures

inside : (c : In_ok-at_place) → c.loop-i.p + sample_entry_size ≤ length c.args.b.now
inside c = rw c.loop-i.invariant.1 (entry_good c.args.b.now (c.loop-i.i + 1) (here c)).inside

pub returns-in_err-n : goal.returns-in_err-n
unfolding samples_verdict
returns-in_err-n c =
    let p = err_from_is_err_and c.from_residual.result c.from_residual.ensures.1 in
    rw (p.1, p.2, ← c.requires) (at_count _ _ _ _ (place_fault c.count_at-count.result c.args.at c.in_err-n.ensures c.count_at-count.ensures.fault))

pub overflow_add-p : goal.overflow_add-p
overflow_add-p c = let h = count_good c.args.b.now c.args.at sample_count_size 0 sample_most (counted (goal.at.overflow_add-p c).In_ok-n) in omega arith

pub loop-i-init : goal.loop-i-init
loop-i-init c = (passed_start, omega (arith, c.requires), total_start c.args.b.now, omega arith)

pub entry_fault-requires : goal.entry_fault-requires
entry_fault-requires c = (omega arith, c.loop-i.invariant.1)

pub returns-in_err-at_place : goal.returns-in_err-at_place
unfolding samples_verdict
returns-in_err-at_place c =
    let p = err_from_is_err_and c.from_residual-in_err-at_place.result c.from_residual-in_err-at_place.ensures.1 in
    let n = place_value c.count_at-count.result _ c.args.at c.in_ok-n.ensures c.count_at-count.ensures.value in
    let f = place_fault c.entry_fault.result c.loop-i.p c.in_err-at_place.ensures c.entry_fault.ensures in
    let w = passed_refused c.loop-i.invariant.0 c.loop-i-test.true (rw c.loop-i.invariant.1 at f) in
    rw (p.1, p.2, ← c.requires) (at_entry _ _ _ _ (counted (goal.at.returns-in_err-at_place c).In_ok-n) (rw (← c.requires, n) at w))

pub sample_length-total-requires : goal.sample_length-total-requires
sample_length-total-requires c = inside (goal.at.sample_length-total-requires c).In_ok-at_place

pub overflow_add-total : goal.overflow_add-total
overflow_add-total c = let h = count_good c.args.b.now c.args.at sample_count_size 0 sample_most (counted (goal.at.overflow_add-total c).In_ok-n) in
    let n = place_value c.count_at-count.result _ c.args.at c.in_ok-n.ensures c.count_at-count.ensures.value in
    omega (arith, c.sample_length-total.ensures.1)

pub overflow_add-p-in-loop-i : goal.overflow_add-p-in-loop-i
overflow_add-p-in-loop-i c = let h = inside (goal.at.overflow_add-p-in-loop-i c).In_ok-at_place in omega arith

pub loop-i-preserved : goal.loop-i-preserved
loop-i-preserved c = let v = c.loop-i.invariant in (
  passed_next v.0 c.loop-i-test.true (here (goal.at.loop-i-preserved c).In_ok-at_place),
  omega (arith, v.1),
  total_next c.args.b.now c.loop-i.i c.loop-i.p _ _ v.2 v.1 c.sample_length-total.ensures.0,
  omega (arith, c.sample_length-total.ensures.1),
)

pub returns : goal.returns
unfolding samples_verdict lengths
returns c = let v = c.loop-i.invariant in
    let n = place_value c.count_at-count.result _ c.args.at c.in_ok-n.ensures c.count_at-count.ensures.value in
    let w = passed_end v.0 (omega arith) in
    let i : c.loop-i.i ≡ c.in_ok-n.n = omega (arith, v.0.within) in
    rw (v.2, i, n, c.requires) (at_end _ _ _ _ (rw c.requires at (counted (goal.at.returns c).In_ok-n)) (rw (n, c.requires) at w))
