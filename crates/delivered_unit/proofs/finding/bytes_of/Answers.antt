-- An own unit lies in the sample; a copied one is what the function on two samples gives. Assumes nothing.
use native.Mathlib.Omega.{arith}
use mathlib.Core.Path.{◌≡◌, ◌∙◌}
use Prim.Native.Nat.{◌+◌, ◌≤◌}
use lib.ListN.{length}
use native.Mathlib.Nat.{add-sub_cancel_left}
use Rattle.delivery.specs.Deliveries.{unit_for}
use Rattle.delivery.proofs.Steps.{sample_from}
use Rattle.delivery.proofs.Sources.{own_there, copy_extracted}
use Rattle.delivered_unit.proofs.Answered.{unit_inside}
use Rattle.delivered_unit.proofs.finding.bytes_of.Goals as goal
use Rattle.delivered_unit.proofs.finding.bytes_of.Goals.{In-Own}

-- an own unit stands in the sample, and lies in it
there : (c : In-Own) → (unit_for c.args.u).span.sample ≡ c.args.n.0
there c = own_there _ _ _ c.requires.1 c.in-Own.is

inside : (c : In-Own) → c.args.u.span.start.0 + c.args.u.span.size ≤ length c.sample_bytes-x.result.now
inside c = rw (c.sample_bytes-x.ensures, ← there c) (unit_inside _ _ _ c.requires.1 c.requires.0)

pub overflow_add-end : goal.overflow_add-end
overflow_add-end c = let i = inside (goal.at.overflow_add-end c).In-Own in omega arith

pub slice_bounds-result-end : goal.slice_bounds-result-end
slice_bounds-result-end c = let i = inside (goal.at.slice_bounds-result-end c).In-Own in omega arith

pub returns-in-Own : goal.returns-in-Own
returns-in-Own c = rw (there (goal.at.returns-in-Own c).In-Own, add-sub_cancel_left, ← c.sample_bytes-x.ensures)

pub returns-in-Copy : goal.returns-in-Copy
returns-in-Copy c = c.extracted.ensures
    ∙ rw (sample_from c.args.b.now c.args.t.now c.args.n.0 c.track_of-k.ensures c.sample_bytes-x.ensures, sample_from c.args.b.now c.args.t.now _ c.track_of-linked.ensures c.sample_bytes-z.ensures)
    (copy_extracted _ _ (unit_for c.args.u) c.requires.1 c.requires.0 c.in-Copy.is)
