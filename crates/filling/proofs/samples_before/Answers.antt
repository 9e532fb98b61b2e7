-- The loop's invariant: at least n samples have a track below k. Assumes nothing.
use native.Mathlib.Omega.{arith}
use mathlib.Core.Path.{◌≡◌}
use Prim.Native.Nat.{◌+◌, ◌*◌, ◌<◌}
use Rattle.bundles.specs.Fields.{sample_entry_size}
use Rattle.bundles.specs.Samples.{track, entries_at, entry_count}
use Rattle.bundles.proofs.Sections.{Accepted, accepted}
use Rattle.filling.proofs.Rows.{before_on, before_off, before_most, entries_inside}
use Rattle.filling.proofs.samples_before.Goals as goal
use Rattle.filling.proofs.samples_before.Goals.{After-number, In-loop-n}

all : (c : In-loop-n) → Accepted c.args.b.now
all c = accepted c.args.b.now c.requires.0

read : (c : After-number) → c.number.result ≡ track c.args.b.now (entries_at c.args.b.now + c.loop-n.n * sample_entry_size)
read c = rw (← c.requires.1) c.number.ensures

fewer : (c : In-loop-n) → c.loop-n.n < entry_count c.args.b.now
fewer c = omega (arith, c.requires.2, c.loop-n-test.true)

pub overflow_mul-n : goal.overflow_mul-n
overflow_mul-n c = let h = fewer (goal.at.overflow_mul-n c).In-loop-n in let e = entries_inside _ (all (goal.at.overflow_mul-n c).In-loop-n) in omega arith

pub overflow_add-start : goal.overflow_add-start
overflow_add-start c = let h = fewer (goal.at.overflow_add-start c).In-loop-n in let e = entries_inside _ (all (goal.at.overflow_add-start c).In-loop-n) in omega (arith, c.requires.1)

pub returns-then-k-number : goal.returns-then-k-number
returns-then-k-number c = let a = c.args in
    let h = before_off a.b.now (all (goal.at.returns-then-k-number c).In-loop-n).samples a.k c.loop-n.n (fewer (goal.at.returns-then-k-number c).In-loop-n) (rw (← read (goal.at.returns-then-k-number c).After-number) c.if-k-number.true) in
    omega (arith, c.loop-n.invariant)

pub loop-n-preserved : goal.loop-n-preserved
loop-n-preserved c = let a = c.args in
    let h = before_on a.b.now (all (goal.at.loop-n-preserved c).In-loop-n).samples a.k c.loop-n.n (fewer (goal.at.loop-n-preserved c).In-loop-n) (rw (← read (goal.at.loop-n-preserved c).After-number) c.if-k-number.false) in
    omega arith

pub returns : goal.returns
returns c = let a = c.args in
    let h = before_most a.b.now (accepted a.b.now c.requires.0).samples a.k in
    omega (arith, c.loop-n.invariant, c.requires.2, c.loop-n-test.false)
