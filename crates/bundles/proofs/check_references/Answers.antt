-- The loop's invariant: the walk over the references has passed some of them and come to the place p. Assumes nothing.
use native.Mathlib.Omega.{arith}
use mathlib.Core.Path.{◌≡◌, refl, ◌∙◌}
use Prim.Native.Nat.{◌+◌, ◌*◌}
use Rattle.std.proofs.lemmas.Result.{err_from_is_err_and}
use Rattle.words.proofs.Walks.{skip_stride}
use Rattle.words.proofs.Entries.{walked_start, walked_next, walked_end}
use Rattle.numbers.proofs.Faults.{place_none, place_value, place_fault}
use Rattle.bundles.specs.Limits.{count_fault, reference_most}
use Rattle.bundles.specs.Fields.{reference_count_size, reference_size}
use Rattle.bundles.specs.References.{references_verdict, samples_at, reference_fault}
use Rattle.bundles.proofs.Sections.{count_good, reference_good}
use Rattle.bundles.proofs.Checking.{at_count, at_entry, at_end, walked_fault}
use Rattle.bundles.proofs.check_references.Goals as goal
use Rattle.bundles.proofs.check_references.Goals.{In_ok-n, In_ok-at_place}

-- the count has no refusal, and what it is
counted : (c : In_ok-n) → count_fault c.args.b.now c.args.at reference_count_size 0 reference_most ≡ 0
counted c = place_none c.count_at-count.result c.args.at c.in_ok-n.ensures c.count_at-count.ensures.fault

-- the reference at hand has none
here : (c : In_ok-at_place) → reference_fault c.args.b.now c.loop.p ≡ 0
here c = place_none c.reference_fault.result c.loop.p c.in_ok-at_place.ensures c.reference_fault.ensures

pub returns-in_err-n : goal.returns-in_err-n
unfolding references_verdict
returns-in_err-n c =
    let p = err_from_is_err_and c.from_residual.result c.from_residual.ensures.1 in
    rw (p.1, p.2, ← c.requires.0) (at_count _ _ _ _ (place_fault c.count_at-count.result c.args.at c.in_err-n.ensures c.count_at-count.ensures.fault))

pub overflow_add-p : goal.overflow_add-p
overflow_add-p c = let h = count_good c.args.b.now c.args.at reference_count_size 0 reference_most (counted (goal.at.overflow_add-p c).In_ok-n) in omega arith

pub loop-init : goal.loop-init
loop-init c = walked_start

pub returns-in_err-at_place : goal.returns-in_err-at_place
unfolding references_verdict
returns-in_err-at_place c =
    let p = err_from_is_err_and c.from_residual-in_err-at_place.result c.from_residual-in_err-at_place.ensures.1 in
    let n = place_value c.count_at-count.result _ c.args.at c.in_ok-n.ensures c.count_at-count.ensures.value in
    let w = walked_fault c.loop.invariant c.loop-test.true (place_fault c.reference_fault.result c.loop.p c.in_err-at_place.ensures c.reference_fault.ensures) in
    rw (p.1, p.2, ← c.requires.0) (at_entry _ _ _ _ (counted (goal.at.returns-in_err-at_place c).In_ok-n) (rw n at w))

pub overflow_add-p-in-loop : goal.overflow_add-p-in-loop
overflow_add-p-in-loop c = let h = reference_good c.args.b.now c.loop.p (here (goal.at.overflow_add-p-in-loop c).In_ok-at_place) in omega arith

pub loop-preserved : goal.loop-preserved
loop-preserved c = walked_next c.loop.invariant c.loop-test.true (here (goal.at.loop-preserved c).In_ok-at_place) refl

pub returns : goal.returns
unfolding references_verdict samples_at
returns c = let a = c.args in
    let n = place_value c.count_at-count.result _ a.at c.in_ok-n.ensures c.count_at-count.ensures.value in
    let w = walked_end c.loop.invariant (omega arith) in
    let e : c.loop.p ≡ a.at + reference_count_size + c.in_ok-n.n * reference_size = w.1 ∙ skip_stride reference_size c.in_ok-n.n (a.at + reference_count_size) in
    rw (← c.requires.0, e, n) (at_end _ _ _ _ (counted (goal.at.returns c).In_ok-n) (rw n at w.0))
