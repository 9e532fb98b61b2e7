-- Each return is a case of the answer; nothing is written before both rooms are judged. Assumes nothing.
use native.Mathlib.Omega.{arith}
use mathlib.Core.Logic.{inl, inr}
use Rattle.words.proofs.Buffers.{refuse_all}
use Rattle.units.specs.Units.{sample}
use Rattle.salvage.proofs.Answers.{of_long, of_short, of_done}
use Rattle.salvage.proofs.salvage_of.Goals as goal

pub returns-then-s-gt-LISTABLE_MOST : goal.returns-then-s-gt-LISTABLE_MOST
returns-then-s-gt-LISTABLE_MOST c = let a = c.args in rw c.at.ensures (refuse_all (of_long (sample a.k a.s.now) a.out.now a.changes.now c.if-s-gt-LISTABLE_MOST.true))

pub plan_of-plan-requires : goal.plan_of-plan-requires
plan_of-plan-requires c = c.if-s-gt-LISTABLE_MOST.false

pub returns-then-out-plan : goal.returns-then-out-plan
returns-then-out-plan c = let e = c.plan_of-plan.ensures.1 in let h = c.if-out-plan.true in let a = c.args in rw c.at-then-out-plan.ensures (refuse_all (of_short (sample a.k a.s.now) a.out.now a.changes.now c.if-s-gt-LISTABLE_MOST.false (inl (omega arith))))

pub returns-then-changes-plan : goal.returns-then-changes-plan
returns-then-changes-plan c = let e = c.plan_of-plan.ensures.2 in let h = c.if-changes-plan.true in let a = c.args in rw c.at-then-changes-plan.ensures (refuse_all (of_short (sample a.k a.s.now) a.out.now a.changes.now c.if-s-gt-LISTABLE_MOST.false (inr (omega arith))))

pub write-requires : goal.write-requires
write-requires c = let e = c.plan_of-plan.ensures in let h = c.if-out-plan.false in let g = c.if-changes-plan.false in (e.0, omega arith, omega arith)

pub returns : goal.returns
returns c = let e = c.plan_of-plan.ensures in let w = c.write.ensures in of_done _ _ _ c.if-s-gt-LISTABLE_MOST.false _ _ _ _ e.1 e.2 c.if-out-plan.false c.if-changes-plan.false w.0 w.1
