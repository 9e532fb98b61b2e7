-- The loop's invariant: what is counted so far, and what is left, are all. Assumes nothing.
use native.Mathlib.Omega.{arith}
use mathlib.Core.Path.{◌≡◌}
use Prim.Native.Nat.{◌+◌, ◌-◌, ◌*◌, ◌≤◌}
use lib.ListN.{length}
use Rattle.units.specs.Units.{Sample, sample, next}
use Rattle.units.specs.Rules.{Whole}
use Rattle.units.proofs.Units.{whole_end, next_after}
use Rattle.samples.proofs.Walks.{next_is}
use Rattle.salvage_rules.specs.Salvage.{change_size}
use Rattle.salvage.specs.Steps.{left_size, list_size}
use Rattle.salvage.proofs.Loops.{measuring_start, measuring_fits, measuring_next, measuring_end, walking_whole, walking_has}
use Rattle.salvage.proofs.writing.measure.Goals as goal
use Rattle.salvage.proofs.writing.measure.Goals.{After-fate_of-f, After-left_size-left, After-number, In-loop-at}

abbrev X : In-loop-at → Sample
X c = sample c.args.k c.args.y.now

here : (c : In-loop-at) → Whole (X c) (length c.args.y.now) c.loop-at.at
here c = walking_whole (X c) c.loop-at.at c.loop-at.invariant.walking c.loop-at-test.true

abbrev X_After_number : After-number → Sample
X_After_number c = sample c.args.k c.args.y.now

goes : (c : After-number) → c.loop-at.at + c.bytes-n.result + c.number.result ≡ next (X_After_number c) c.loop-at.at
goes c = let a = c.args in next_is a.k a.y.now _ _ _ c.bytes-n.ensures.0 c.number.ensures

abbrev X_After_left_size : After-left_size-left → Sample
X_After_left_size c = sample c.args.k c.args.y.now

goes_After_left_size : (c : After-left_size-left) → c.loop-at.at + c.bytes-n.result + c.number.result ≡ next (X_After_left_size c) c.loop-at.at
goes_After_left_size c = let a = c.args in next_is a.k a.y.now _ _ _ c.bytes-n.ensures.0 c.number.ensures

left_is : (c : After-left_size-left) → c.left_size-left.result ≡ left_size c.fate_of-f.result (next (X_After_left_size c) c.loop-at.at - c.loop-at.at)
left_is c = rw (← goes_After_left_size c) c.left_size-left.ensures

abbrev X_After_fate_of : After-fate_of-f → Sample
X_After_fate_of c = sample c.args.k c.args.y.now

fits : (c : After-fate_of-f) → let p = c.loop-at.at in let f = c.fate_of-f.result in
    (c.loop-at.left + left_size f (next (X_After_fate_of c) p - p) ≤ next (X_After_fate_of c) p) × (c.loop-at.listed + list_size f ≤ change_size * next (X_After_fate_of c) p) × (next (X_After_fate_of c) p ≤ length c.args.y.now)
fits c = measuring_fits _ _ _ _ c.loop-at.invariant c.loop-at-test.true _ c.fate_of-f.ensures

pub loop-at-init : goal.loop-at-init
loop-at-init c = measuring_start _ c.requires.0

pub overflow_add-end : goal.overflow_add-end
overflow_add-end c = let h = here (goal.at.overflow_add-end c).In-loop-at in omega arith

pub overflow_add-end-in-loop-at : goal.overflow_add-end-in-loop-at
overflow_add-end-in-loop-at c = let w = whole_end _ _ _ (here (goal.at.overflow_add-end-in-loop-at c).In-loop-at) in let e = goes (goal.at.overflow_add-end-in-loop-at c).After-number in omega arith

pub fate_of-f-requires : goal.fate_of-f-requires
fate_of-f-requires c = (c.requires.0, walking_has _ _ c.loop-at.invariant.walking c.loop-at-test.true)

pub overflow_add-left : goal.overflow_add-left
overflow_add-left c = let l = left_is (goal.at.overflow_add-left c).After-left_size-left in let f = fits (goal.at.overflow_add-left c).After-fate_of-f in omega arith

pub overflow_add-listed : goal.overflow_add-listed
overflow_add-listed c = let l = c.list_size-listed.ensures in let f = fits (goal.at.overflow_add-listed c).After-fate_of-f in let m = c.requires.1 in omega arith

pub loop-at-smaller : goal.loop-at-smaller
loop-at-smaller c = let w = whole_end _ _ _ (here (goal.at.loop-at-smaller c).In-loop-at) in let e = goes (goal.at.loop-at-smaller c).After-number in let n = next_after (X (goal.at.loop-at-smaller c).In-loop-at) c.loop-at.at in omega arith

pub loop-at-preserved : goal.loop-at-preserved
loop-at-preserved c = rw (c.list_size-listed.ensures, left_is (goal.at.loop-at-preserved c).After-left_size-left, goes (goal.at.loop-at-preserved c).After-number) (measuring_next _ _ _ _ c.loop-at.invariant c.loop-at-test.true _ c.fate_of-f.ensures)

pub returns : goal.returns
returns c = measuring_end _ _ _ _ c.loop-at.invariant c.loop-at-test.false
