-- The loop's invariant: what is left of the walk from here on gives the whole verdict. Assumes nothing.
use native.Mathlib.Omega.{arith}
use mathlib.Core.Path.{◌≡◌, sym, ◌∙◌}
use Prim.Native.Nat.{◌+◌}
use Rattle.std.proofs.lemmas.Result.{err_from_is_err_and}
use Rattle.units.specs.Units.{sample, next}
use Rattle.samples.proofs.Faults.{ok_at, err_at}
use Rattle.samples.proofs.Walks.{TopWalk, top_start, top_next, top_stop, top_done}
use Rattle.samples.proofs.check_top.Goals as goal
use Rattle.samples.proofs.check_top.Goals.{In_ok-at_place}

-- the unit at hand has no fault, and the walk goes on to the next one
goes : (c : In_ok-at_place) → let a = c.args in let x = sample a.k a.s.now in (c.loop-at.at + c.bytes-n.result + c.judge_unit-u.result.size ≡ next x c.loop-at.at) × TopWalk x (next x c.loop-at.at)
goes c = (
  rw (c.bytes-n.ensures.0, c.judge_unit-u.ensures.1),
  top_next _ _ c.loop-at.invariant c.loop-at-test.true (ok_at _ _ c.judge_unit-u.ensures.0 (sym c.at_place.ensures ∙ c.in_ok-at_place.was)),
)

pub loop-at-init : goal.loop-at-init
loop-at-init c = top_start _

pub returns-in_err-at_place : goal.returns-in_err-at_place
returns-in_err-at_place c =
    let p = err_from_is_err_and c.from_residual.result c.from_residual.ensures.1 in
    rw (p.1, p.2) (top_stop _ _ c.loop-at.invariant c.loop-at-test.true (err_at _ _ c.judge_unit-u.ensures.0 (sym c.at_place.ensures ∙ c.in_err-at_place.was)))

pub overflow_add-at-in-loop-at : goal.overflow_add-at-in-loop-at
overflow_add-at-in-loop-at c = let g = goes (goal.at.overflow_add-at-in-loop-at c).In_ok-at_place in let i = g.1.inside in omega arith

pub loop-at-preserved : goal.loop-at-preserved
loop-at-preserved c = let g = goes (goal.at.loop-at-preserved c).In_ok-at_place in rw g.0 g.1

pub returns : goal.returns
returns c = top_done _ _ c.loop-at.invariant c.loop-at-test.false
