-- The loop's invariant: what is written so far, with what is left, is the sample. The rest falls. Assumes nothing.
use native.Mathlib.Omega.{arith}
use Prim.Native.Nat.{◌+◌, ◌-◌, ◌≤◌, ◌<◌}
use mathlib.Core.Path.{refl, sym, ◌∙◌}
use lib.ListN.{length}
use Rattle.numbers.specs.Sizes.{in_bytes}
use Rattle.byte_streams.specs.Places.{zeros_end}
use Rattle.stream_reader.proofs.Writes.{Writing, writing_start, writing_next, writing_full, writing_end, writing_place}
use Rattle.stream_reader.proofs.write_units.Goals as goal
use Rattle.stream_reader.proofs.write_units.Goals.{After-slice_known-in-loop-p-2-1, After-unit_stop-stop}

-- where the unit stands, and that it fits after its length
place :
    (c : After-unit_stop-stop) →
    let a = c.args in
    let i = c.loop-p in
    let stop = c.unit_stop-stop.result in
    (i.p + 1 ≤ stop) × (stop ≤ length a.s.now) × (i.at + c.bytes-w.result + (stop - (i.p + 1)) ≤ length a.out.now)
place c =
    let a = c.args in
    let i = c.loop-p in
    let u = c.unit_stop-stop in
    let w = c.bytes-w.ensures.0 in
    let k = writing_place (in_bytes a.l) a.s.now a.first a.out.now i.out i.at i.p i.invariant c.loop-p-test.true u.result u.ensures in
    (k.0, k.1, let r = k.2 in omega arith)

pub loop-p-init : goal.loop-p-init
loop-p-init c = let a = c.args in
    let e = c.requires in
    writing_start (in_bytes a.l) a.s.now a.first a.out.now e.0 e.1 (let f = e.2 in let g = e.3 in omega arith)

pub overflow_sub-stop : goal.overflow_sub-stop
overflow_sub-stop c = (place (goal.at.overflow_sub-stop c).After-unit_stop-stop).0

pub overflow_add-at : goal.overflow_add-at
overflow_add-at c = let k = (place (goal.at.overflow_add-at c).After-unit_stop-stop).2 in omega arith

pub slice_bounds-put_bytes-count : goal.slice_bounds-put_bytes-count
slice_bounds-put_bytes-count c = (place (goal.at.slice_bounds-put_bytes-count c).After-unit_stop-stop).0

pub slice_bounds-put_bytes-start : goal.slice_bounds-put_bytes-start
slice_bounds-put_bytes-start c = let k = (place (goal.at.slice_bounds-put_bytes-start c).After-unit_stop-stop).0 in omega arith

pub slice_bounds-put_bytes-end : goal.slice_bounds-put_bytes-end
slice_bounds-put_bytes-end c = let k = (place (goal.at.slice_bounds-put_bytes-end c).After-unit_stop-stop).1 in omega arith

pub overflow_add-at-in-loop-p : goal.overflow_add-at-in-loop-p
overflow_add-at-in-loop-p c = let k = (place (goal.at.overflow_add-at-in-loop-p c).After-unit_stop-stop).2 in omega arith

pub overflow_sub-at : goal.overflow_sub-at
overflow_sub-at c = (place (goal.at.overflow_sub-at c).After-unit_stop-stop).0

pub overflow_add-at-in-loop-p-2 : goal.overflow_add-at-in-loop-p-2
overflow_add-at-in-loop-p-2 c = let k = (place (goal.at.overflow_add-at-in-loop-p-2 c).After-unit_stop-stop).2 in omega arith

-- a step: the unit is written, and the next start code, if there is one, ends after the zeros
written :
    (c : After-slice_known-in-loop-p-2-1) →
    let a = c.args in
    let i = c.loop-p in
    let stop = c.unit_stop-stop.result in
    (i.p < zeros_end a.s.now stop)
    × Writing (in_bytes a.l) a.s.now a.first a.out.now c.put_bytes.new.out (i.at + c.bytes-w.result + (stop - (i.p + 1))) (zeros_end a.s.now stop)
written c =
    let a = c.args in
    let i = c.loop-p in
    let h = c.loop-p-test.true in
    let u = c.unit_stop-stop in
    rw (c.put_bytes.ensures, c.put_length.ensures, c.bytes-w.ensures.0)
    (writing_next (in_bytes a.l) a.s.now a.first a.out.now i.out i.at i.p i.invariant h u.result u.ensures (zeros_end a.s.now u.result) refl)

pub returns-then-at-size : goal.returns-then-at-size
returns-then-at-size c = let e = c.requires.2 in
    writing_full _ _ _ _ _ _ _ (written (goal.at.returns-then-at-size c).After-slice_known-in-loop-p-2-1).1 (c.if-at-size.true ∙ sym e)

pub loop-p-smaller : goal.loop-p-smaller
loop-p-smaller c = let k = (written (goal.at.loop-p-smaller c).After-slice_known-in-loop-p-2-1).0 in let e = c.zeros_end-p.ensures in omega arith

pub loop-p-preserved : goal.loop-p-preserved
loop-p-preserved c = rw c.zeros_end-p.ensures (written (goal.at.loop-p-preserved c).After-slice_known-in-loop-p-2-1).1

pub returns : goal.returns
returns c = let a = c.args in
    let i = c.loop-p in
    writing_end (in_bytes a.l) a.s.now a.first a.out.now i.out i.at i.p i.invariant c.loop-p-test.false
