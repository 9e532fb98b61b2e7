-- The loop's invariant: what is left of the walk from p on gives the whole walk's answer. Assumes nothing.
use native.Mathlib.Omega.{arith}
use mathlib.Core.Path.{◌≡◌, sym, ◌∙◌}
use Prim.Native.Nat.{◌+◌, ◌-◌}
use Rattle.numbers.proofs.Faults.{fault_some, exit, no_fault}
use Rattle.sets.proofs.Laws.{Whole, whole, sets_none, sets_here, sets_on}
use Rattle.sets.proofs.walk_sets.Goals as goal
use Rattle.sets.proofs.walk_sets.Goals.{In_ok-set_fault}

-- the set at hand is whole
here : (c : In_ok-set_fault) → Whole c.args.types c.args.s.now c.loop.p
here c = whole _ _ _ (no_fault c.in_ok-set_fault.was c.set_fault.ensures)

pub returns-in_err-set_fault-clause-fault : goal.returns-in_err-set_fault-clause-fault
returns-in_err-set_fault-clause-fault c =
    let s = fault_some c.in_err-set_fault.field-0.0 in
    exit _ _ c.from_residual.ensures.1 ∙ sets_here _ _ {n = c.args.n - c.loop.counter} _ (omega arith) c.in_err-set_fault.ensures (λ z. omega arith) ∙ c.loop.invariant.0

pub overflow_add-p : goal.overflow_add-p
overflow_add-p c = let w = here (goal.at.overflow_add-p c).In_ok-set_fault in omega arith

pub overflow_add-p-in-loop : goal.overflow_add-p-in-loop
overflow_add-p-in-loop c = let w = here (goal.at.overflow_add-p-in-loop c).In_ok-set_fault in omega (arith, c.number.ensures)

pub loop-preserved : goal.loop-preserved
loop-preserved c =
    let i = c.loop.invariant in
    let m : c.args.n - (c.loop.counter + 1) ≡ c.args.n - c.loop.counter - 1 = omega arith in
    let o = sets_on c.args.types c.args.s.now (c.args.n - c.loop.counter) c.loop.p (omega arith) (no_fault c.in_ok-set_fault.was c.set_fault.ensures) in
    rw (c.number.ensures, m) (sym o.0 ∙ i.0, sym o.1 ∙ i.1)

pub returns-clause-fault : goal.returns-clause-fault
returns-clause-fault c = sym (sets_none _ _ {n = c.args.n - c.loop.counter} c.loop.p (omega arith)).0 ∙ c.loop.invariant.0

pub returns-clause-end : goal.returns-clause-end
returns-clause-end c = sym (sets_none c.args.types _ {n = c.args.n - c.loop.counter} c.loop.p (omega arith)).1 ∙ c.loop.invariant.1
