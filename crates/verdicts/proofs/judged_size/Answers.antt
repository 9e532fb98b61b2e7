-- A refused sample adds nothing. Assumes nothing.
use native.Mathlib.Omega.{arith}
use Rattle.verdicts.proofs.judged_size.Goals as goal

pub overflow_add-result : goal.overflow_add-result
overflow_add-result c = let h = rw c.in-Ok.is at c.requires in omega arith

pub overflow_mul-result : goal.overflow_mul-result
overflow_mul-result c = let h = rw c.in-Ok.is at c.requires in omega arith

pub overflow_add-result-in-Ok : goal.overflow_add-result-in-Ok
overflow_add-result-in-Ok c = let h = rw c.in-Ok.is at c.requires in omega arith

pub returns-in-Err : goal.returns-in-Err
returns-in-Err c = rw c.in-Err.is

pub returns-in-Ok : goal.returns-in-Ok
returns-in-Ok c = rw c.in-Ok.is
