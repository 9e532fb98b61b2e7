-- By what follows the unit, then by its length. Assumes nothing.
use native.Mathlib.Omega.{arith}
use Prim.Native.Nat.{ℕ, ◌-◌}
use mathlib.Core.Path.{◌≡◌, ap, ap₂, sym, ◌∙◌}
use lib.ListN.{length}
use Rattle.words.specs.Refusals.{Answer, refused, ok, Verdict, ◌and_then◌}
use Rattle.words.specs.RefusalNumbers.{bad_byte_stream}
use Rattle.numbers.specs.Sizes.{in_bytes}
use Rattle.std.specs.Prelude.{Err}
use Rattle.stream_reader.specs.Steps.{unit_from, next_from, judged_of}
use Rattle.stream_reader.proofs.Judged.{judged_empty, judged_long, judged_inside}
use Rattle.stream_reader.proofs.Found.{Good, Bad, found_good, found_bad, next_inside, next_by}
use Rattle.stream_reader.proofs.units.judge.Goals as goal
use Rattle.stream_reader.proofs.units.judge.Goals.{else-next-s-via-then-next-s+else-s-next-ne1, else-next-s-via-else-next-s, Joined-else-next-s, Then-s-next-ne1}

-- a byte follows that may not
bad : (c : Then-s-next-ne1) → let a = c.args in Bad a.s.now a.start
bad c =
    let a = c.args in
    let h = c.requires.1 in
    let z = c.zeros_end-next.result in
    found_bad a.s.now a.start h z (next_by _ _ _ c.unit_stop-stop.ensures c.zeros_end-next.ensures) c.if-next-s.true c.if-s-next-ne1.true

-- nothing or a start code does
good : (c : Joined-else-next-s) → let a = c.args in Good a.s.now a.start
good c =
    let a = c.args in
    let h = c.requires.1 in
    found_good a.s.now a.start h c.zeros_end-next.result (next_by _ _ _ c.unit_stop-stop.ensures c.zeros_end-next.ensures)
    (λ i. elim c.else-next-s.branch [
      | else-next-s-via-then-next-s+else-s-next-ne1 w ↦ w.if-s-next-ne1.false
      | else-next-s-via-else-next-s w ↦ absurd (omega (arith, w.if-next-s.false))
    ])

-- its size
size :
    (c : Joined-else-next-s) →
    let a = c.args in
    c.unit_stop-stop.result - a.start ≡ length (unit_from a.s.now a.start)
size c = let g = (good c).size in let u = c.unit_stop-stop.ensures in omega arith

pub judge_bad-requires : goal.judge_bad-requires
judge_bad-requires c = let a = c.args in (c.requires.1, (bad (goal.at.judge_bad-requires c).Then-s-next-ne1).verdict ∙ ap (refused bad_byte_stream) (sym (next_by a.s.now a.start _ c.unit_stop-stop.ensures c.zeros_end-next.ensures)))

pub overflow_sub-size : goal.overflow_sub-size
overflow_sub-size c = let a = c.args in
    let k = next_inside a.s.now a.start c.requires.1 in
    let u = c.unit_stop-stop.ensures in
    let n = next_by a.s.now a.start _ c.unit_stop-stop.ensures c.zeros_end-next.ensures in
    omega arith

pub returns-then-size-eq0 : goal.returns-then-size-eq0
returns-then-size-eq0 c = let a = c.args in
    let u = unit_from a.s.now a.start in
    let z = size (goal.at.returns-then-size-eq0 c).Joined-else-next-s in
    let t = c.if-size-eq0.true in
    ap (λ r. judged_of (Err r)) c.at.ensures ∙ sym (judged_empty (in_bytes a.l) a.start u (ok (length u, next_from a.s.now a.start)) (omega arith))

pub returns-then-length_limit-size : goal.returns-then-length_limit-size
returns-then-length_limit-size c = let a = c.args in
    let u = unit_from a.s.now a.start in
    let z = size (goal.at.returns-then-length_limit-size c).Joined-else-next-s in
    let some = c.if-size-eq0.false in
    let k = c.length_limit.ensures in
    let t = c.if-length_limit-size.true in
    ap (λ r. judged_of (Err r)) c.at-then-length_limit-size.ensures
    ∙ sym (judged_long (in_bytes a.l) a.start u (ok (length u, next_from a.s.now a.start)) (λ e. omega arith) (omega arith))

pub returns : goal.returns
returns c = let a = c.args in
    let u = unit_from a.s.now a.start in
    let all : Answer (ℕ × ℕ) = ok (length u, next_from a.s.now a.start) in
    let z = size (goal.at.returns c).Joined-else-next-s in
    let some = c.if-size-eq0.false in
    let k = c.length_limit.ensures in
    let t = c.if-length_limit-size.false in
    ap₂ (λ (m n : ℕ). ok (m, n)) z (next_by a.s.now a.start _ c.unit_stop-stop.ensures c.zeros_end-next.ensures)
    ∙ sym (judged_inside (in_bytes a.l) a.start u all (λ e. omega arith) (omega arith)
    ∙ ap (λ (v : Verdict). v and_then all) (good (goal.at.returns c).Joined-else-next-s).verdict)
