-- The loop's invariant: what was added up so far, with what is left, is the size of the sample. The rest falls. Assumes nothing.
use Rattle.std.proofs.lemmas.Result.{err_from_is_err_and}
use native.Mathlib.Omega.{arith}
use Prim.Native.Nat.{◌<◌}
use mathlib.Core.Path.{sym, ap, ◌∙◌}
use Rattle.words.specs.RefusalNumbers.{bad_byte_stream}
use Rattle.words.specs.Refusals.{refused}
use Rattle.numbers.specs.Sizes.{in_bytes}
use Rattle.byte_streams.specs.Reading.{units_in}
use Rattle.stream_reader.specs.Steps.{judged_of}
use Rattle.words.proofs.Tests.{not-true, not-false}
use borrow.Author.Tests.{eqb-true, eqb-false, ltb-false}
use Rattle.stream_reader.proofs.Front.{stray_short, stray_byte, started_end, started_code, Stray}
use Rattle.stream_reader.proofs.Measures.{Measuring, measuring_start, measuring_good, measuring_end, measuring_refused, sized, sized_refused, sized_end}
use Rattle.stream_reader.proofs.measure.Goals as goal
use Rattle.stream_reader.proofs.measure.Goals.{else-first-n-via-then-first-n+else-s-first-ne1, then-first-lt2, else-first-lt2, else-first-n-via-else-first-n, After-added-t}

pub returns-then-s-first-ne1 : goal.returns-then-s-first-ne1
returns-then-s-first-ne1 c = let a = c.args in
    let L = in_bytes a.l in
    let b : Stray a.s.now = elim c.if-first-lt2.branch [
      | then-first-lt2 w ↦ stray_short a.s.now a.first c.requires (omega arith) (omega (arith, w.if-first-lt2.true))
      | else-first-lt2 w ↦ stray_byte a.s.now a.first c.requires (omega arith) (eqb-false _ _ (not-true _ (sym w.value-is ∙ c.if-s-first-ne1.true)))
    ] in
    rw c.at.ensures (sized_refused L a.room (units_in L a.s.now) (ap (sized L) (b.units L) ∙ ap (refused bad_byte_stream) (sym c.requires)))

-- no byte before the first start code is above 00
pub loop-p-init : goal.loop-p-init
loop-p-init c = let a = c.args in
    let e = c.requires in
    measuring_start (in_bytes a.l) a.s.now a.room a.first e (elim c.else-first-n.branch [
      | else-first-n-via-then-first-n+else-s-first-ne1 w ↦ elim w.if-first-lt2.branch [
        | then-first-lt2 v ↦ let short = v.if-first-lt2.true in absurd (omega (arith, ltb-false _ _ (sym v.value-is ∙ w.if-s-first-ne1.false)))
        | else-first-lt2 v ↦ started_code a.s.now a.first e (omega (arith, v.if-first-lt2.false)) (eqb-true _ _ (not-false _ (sym v.value-is ∙ w.if-s-first-ne1.false)))
      ]
      | else-first-n-via-else-first-n w ↦ started_end a.s.now a.first e (omega (arith, w.if-first-n.false))
    ])

pub returns-in_err-unit : goal.returns-in_err-unit
returns-in_err-unit c = let a = c.args in
    let i = c.loop-p in
    let L = in_bytes a.l in
    let p = err_from_is_err_and c.from_residual.result c.from_residual.ensures.1 in
    rw (p.1, p.2)
    (sized_refused L a.room (units_in L a.s.now)
    (measuring_refused L a.s.now a.room i.t i.p i.invariant c.loop-p-test.true c.judge.ensures (ap judged_of c.in_err-unit.was)))

-- a step
next :
    (c : After-added-t) →
    let a = c.args in
    let i = c.loop-p in
    (i.p < c.in_ok-unit.unit.next) × Measuring (in_bytes a.l) a.s.now a.room c.added-t.result c.in_ok-unit.unit.next
next c =
    let a = c.args in
    let i = c.loop-p in
    rw (c.added-t.ensures, c.bytes-w.ensures.0)
    (measuring_good (in_bytes a.l) a.s.now a.room i.t i.p i.invariant c.loop-p-test.true c.judge.ensures (ap judged_of c.in_ok-unit.was))

pub loop-p-smaller : goal.loop-p-smaller
loop-p-smaller c = let k = (next (goal.at.loop-p-smaller c).After-added-t).0 in omega arith

pub loop-p-preserved : goal.loop-p-preserved
loop-p-preserved c = (next (goal.at.loop-p-preserved c).After-added-t).1

pub returns : goal.returns
returns c = let a = c.args in
    let i = c.loop-p in
    let L = in_bytes a.l in
    rw (c.ok_or.ensures.value, c.at-2.ensures)
    (sized_end L a.room (units_in L a.s.now) i.t (measuring_end L a.s.now a.room i.t i.p i.invariant c.loop-p-test.false) i.invariant.total)
