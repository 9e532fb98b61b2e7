-- By the length of the unit, which goes on after that byte. Assumes nothing.
use borrow.Author.Tests.{leb-true, leb-false}
use native.Mathlib.Omega.{arith}
use Prim.Native.Nat.{ℕ}
use mathlib.Core.Path.{ap, sym, ◌∙◌}
use lib.ListN.{length}
use Rattle.words.specs.Refusals.{Answer, ok, Verdict, ◌and_then◌}
use Rattle.numbers.specs.Sizes.{in_bytes}
use Rattle.std.specs.Prelude.{Err}
use Rattle.stream_reader.specs.Steps.{unit_from, next_from, judged_of}
use Rattle.stream_reader.proofs.Judged.{judged_long, judged_inside, inside_some}
use Rattle.stream_reader.proofs.units.judge_bad.Goals as goal

pub returns-then-has_length : goal.returns-then-has_length
returns-then-has_length c = let a = c.args in
    let u = unit_from a.s.now a.start in
    let some = inside_some a.start u c.requires.1 in
    let k = c.length_limit.ensures in
    let t = leb-true c.length_limit.result (length u) (sym c.has_length.ensures ∙ c.if-has_length.true) in
    ap (λ r. judged_of (Err r)) c.at.ensures ∙ sym (judged_long (in_bytes a.l) a.start u (ok (length u, next_from a.s.now a.start)) some (omega arith))

pub returns : goal.returns
returns c = let a = c.args in
    let u = unit_from a.s.now a.start in
    let all : Answer (ℕ × ℕ) = ok (length u, next_from a.s.now a.start) in
    let bad = c.requires.1 in
    let k = c.length_limit.ensures in
    let t = leb-false c.length_limit.result (length u) (sym c.has_length.ensures ∙ c.if-has_length.false) in
    ap (λ r. judged_of (Err r)) c.at-2.ensures
    ∙ sym (judged_inside (in_bytes a.l) a.start u all (inside_some a.start u bad) (omega arith) ∙ ap (λ (v : Verdict). v and_then all) bad)
