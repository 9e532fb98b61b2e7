-- One unit, or an aggregator and what it covers. Assumes nothing.
use mathlib.Core.Path.{◌≡◌, sym, ◌∙◌}
use mathlib.Core.Bool.{true, false}
use Prim.Native.Nat.{◌+◌}
use borrow.Author.Tests.{eq-eqb, ne_eqb}
use Rattle.units.specs.Units.{sample, next, is_aggregator}
use Rattle.units.specs.Aggregators.{cover_end}
use Rattle.marks.proofs.Steps.{next_read, cover_read}
use Rattle.marks.proofs.Copying.{unit_long, unit_good, cover_long, cover_good}
use Rattle.marks.proofs.copy_unit.Goals as goal
use Rattle.marks.proofs.copy_unit.Goals.{Then-type_at-ne-AGGREGATOR, After-length_at-2}

-- another unit, and where it ends; an aggregator, and where what it covers ends
other : (c : Then-type_at-ne-AGGREGATOR) → let a = c.args in let x = sample a.k a.z.now in
    (is_aggregator x a.a.place ≡ false) × (a.a.place + c.bytes-n.result + c.length_at.result ≡ next x a.a.place)
other c = (ne_eqb _ _ (λ e. c.if-type_at-ne-AGGREGATOR.true (c.type_at.ensures ∙ e)), next_read _ _ _ c.bytes-n.ensures.0 c.length_at.ensures.0)

aggregator : (c : After-length_at-2) → let a = c.args in let x = sample a.k a.z.now in
    (is_aggregator x a.a.place ≡ true) × (a.a.place + c.bytes-n.result + c.length_at.result + c.length_at-2.result ≡ cover_end x a.a.place)
aggregator c = (eq-eqb _ _ (sym c.type_at.ensures ∙ c.if-type_at-ne-AGGREGATOR.false), cover_read _ _ _ c.bytes-n.ensures.0 c.length_at.ensures.0 c.length_at-2.ensures.0)

pub returns-then-z-next : goal.returns-then-z-next
returns-then-z-next c = let u = other (goal.at.returns-then-z-next c).Then-type_at-ne-AGGREGATOR in unit_long _ _ _ _ c.requires.2 c.requires.0 u.0 (rw u.1 at c.if-z-next.true)

pub returns-then-type_at-ne-AGGREGATOR : goal.returns-then-type_at-ne-AGGREGATOR
returns-then-type_at-ne-AGGREGATOR c = let u = other (goal.at.returns-then-type_at-ne-AGGREGATOR c).Then-type_at-ne-AGGREGATOR in
    rw (c.between.ensures, c.reach.ensures.0, u.1) (unit_good _ _ _ _ c.requires.2 c.requires.0 u.0 (rw u.1 at c.if-z-next.false))

pub returns-then-z-to : goal.returns-then-z-to
returns-then-z-to c = let g = aggregator (goal.at.returns-then-z-to c).After-length_at-2 in cover_long _ _ _ _ c.requires.2 c.requires.0 g.0 (rw g.1 at c.if-z-to.true)

pub returns : goal.returns
returns c = let g = aggregator (goal.at.returns c).After-length_at-2 in
    rw (c.between-2.ensures, c.state_at.ensures.0, g.1) (cover_good _ _ _ _ c.requires.2 c.requires.0 g.0 (rw g.1 at c.if-z-to.false))
