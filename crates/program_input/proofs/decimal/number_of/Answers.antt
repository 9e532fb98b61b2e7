-- The loop's invariant: the digits before the index are read (Reading). Assumes nothing.
use native.Mathlib.Omega.{arith}
use mathlib.Core.Path.{◌≡◌, sym, ◌∙◌}
use Prim.Native.Nat.{◌<◌}
use lib.ListN.{length}
use borrow.Author.Tests.{eqb-true, eqb-false}
use Rattle.program_input.proofs.Reading.{read_digit, read_other, read_nothing, read_end}
use Rattle.program_input.proofs.decimal.number_of.Goals as goal

pub returns-then-is_empty : goal.returns-then-is_empty
returns-then-is_empty c = sym (read_nothing _ (eqb-true _ 0 (sym c.is_empty.ensures ∙ c.if-is_empty.true)))

pub returns-then-not-is_ascii_digit : goal.returns-then-not-is_ascii_digit
returns-then-not-is_ascii_digit c = let l = c.loop-c in
    let h : l.c-index < length c.args.s.now = omega arith in
    sym (read_other _ l.n l.c-index l.invariant h (sym c.if-not-is_ascii_digit.ensures.value))

pub loop-c-preserved : goal.loop-c-preserved
loop-c-preserved c = let l = c.loop-c in
    let h : l.c-index < length c.args.s.now = omega arith in
    let d = c.if-not-is_ascii_digit.ensures.cases in
    rw c.with_digit-n.ensures (read_digit _ l.n l.c-index l.invariant h d.0 d.1)

pub returns : goal.returns
returns c = let a = c.args in
    let l = c.loop-c in
    let w = l.invariant.inside in
    let e : l.c-index ≡ length a.s.now = omega arith in
    sym (read_end a.s.now l.n l.c-index l.invariant e (eqb-false _ 0 (sym c.is_empty.ensures ∙ c.if-is_empty.false)))
