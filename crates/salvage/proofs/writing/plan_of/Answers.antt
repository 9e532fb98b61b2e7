-- The units before the first top-level fault, and the tail. Assumes nothing.
use native.Mathlib.Omega.{arith}
use mathlib.Core.Path.{ap, sym, ◌∙◌}
use Prim.Native.Nat.{ℕ, ◌≤◌}
use lib.ListN.{length}
use Rattle.words.specs.Tests.{◌<?◌, ◌when◌else◌}
use Rattle.words.proofs.Tests.{by_bool}
use Rattle.salvage_rules.specs.Salvage.{change_size}
use Rattle.salvage.proofs.Answers.{cut_top, cut_length, fault_inside, new_is, list_counted}
use Rattle.salvage.proofs.writing.plan_of.Goals as goal

-- a drop of the tail has 5 bytes
tail-small : (f n : ℕ) → (change_size when f <? n else 0) ≤ change_size
tail-small f n = by_bool (f <? n) (λ t. rw t (omega arith)) (λ t. rw t (omega arith))

pub slice_bounds-measure-end : goal.slice_bounds-measure-end
slice_bounds-measure-end c = sym (cut_length _ _ _ c.first_fault-fault.ensures)

pub measure-m-requires : goal.measure-m-requires
measure-m-requires c = let a = c.args in let e = c.first_fault-fault.ensures in let n = cut_length a.k a.s.now _ e in let i = fault_inside a.k a.s.now _ e in let m = c.requires in (cut_top _ _ _ e, omega arith)

pub overflow_add-listed : goal.overflow_add-listed
overflow_add-listed c = let e = c.first_fault-fault.ensures in let m = c.measure-m.ensures.2 in let n = cut_length c.args.k c.args.s.now _ e in let i = fault_inside c.args.k c.args.s.now _ e in let p = c.requires in let t = c.tail_size.ensures in let z = tail-small c.first_fault-fault.result (length c.args.s.now) in omega arith

pub returns : goal.returns
returns c = let e = c.first_fault-fault.ensures in let m = c.measure-m.ensures in (e, m.0 ∙ ap length (new_is _ _ _ e), list_counted _ _ _ e _ _ m.1 c.tail_size.ensures)
