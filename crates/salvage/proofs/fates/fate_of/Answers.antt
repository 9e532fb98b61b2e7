-- By its type, then by what stands in it and what it covers. Assumes nothing.
use Rattle.numbers.proofs.Faults.{err_some, err_none}
use mathlib.Core.Path.{◌≡◌, sym, ◌∙◌}
use mathlib.Core.Bool.{true, false}
use borrow.Author.Tests.{eq-eqb, ne_eqb}
use Rattle.units.specs.Units.{sample, is_aggregator}
use Rattle.salvage.proofs.UnitFates.{other_dropped, other_kept, inside_dropped, loses_zeroed, stays_kept}
use Rattle.salvage.proofs.fates.fate_of.Goals as goal
use Rattle.salvage.proofs.fates.fate_of.Goals.{Else-type_at-ne-AGGREGATOR, Then-type_at-ne-AGGREGATOR}

other : (c : Then-type_at-ne-AGGREGATOR) → is_aggregator (sample c.args.k c.args.y.now) c.args.at ≡ false
other c = ne_eqb _ _ (λ e. c.if-type_at-ne-AGGREGATOR.true (c.type_at.ensures ∙ e))

aggregator : (c : Else-type_at-ne-AGGREGATOR) → is_aggregator (sample c.args.k c.args.y.now) c.args.at ≡ true
aggregator c = eq-eqb _ _ (sym c.type_at.ensures ∙ c.if-type_at-ne-AGGREGATOR.false)

pub returns-then-is_err : goal.returns-then-is_err
returns-then-is_err c = sym (other_dropped _ _ (other (goal.at.returns-then-is_err c).Then-type_at-ne-AGGREGATOR) (λ e. err_some _ (sym c.is_err.ensures.value ∙ c.if-is_err.true) (c.extractor_fault.ensures ∙ e)))

pub returns-then-type_at-ne-AGGREGATOR : goal.returns-then-type_at-ne-AGGREGATOR
returns-then-type_at-ne-AGGREGATOR c = sym (other_kept _ _ (other (goal.at.returns-then-type_at-ne-AGGREGATOR c).Then-type_at-ne-AGGREGATOR) (sym c.extractor_fault.ensures ∙ err_none _ (sym c.is_err.ensures.value ∙ c.if-is_err.false)))

pub has_fault_inside-requires : goal.has_fault_inside-requires
has_fault_inside-requires c = (c.requires, aggregator (goal.at.has_fault_inside-requires c).Else-type_at-ne-AGGREGATOR)

pub returns-then-has_fault_inside : goal.returns-then-has_fault_inside
returns-then-has_fault_inside c = sym (inside_dropped _ _ (aggregator (goal.at.returns-then-has_fault_inside c).Else-type_at-ne-AGGREGATOR) (sym c.has_fault_inside.ensures ∙ c.if-has_fault_inside.true))

pub loses_cover-requires : goal.loses_cover-requires
loses_cover-requires c = (c.requires, aggregator (goal.at.loses_cover-requires c).Else-type_at-ne-AGGREGATOR)

pub returns-then-loses_cover : goal.returns-then-loses_cover
returns-then-loses_cover c = sym (loses_zeroed _ _ (aggregator (goal.at.returns-then-loses_cover c).Else-type_at-ne-AGGREGATOR) (sym c.has_fault_inside.ensures ∙ c.if-has_fault_inside.false) (sym c.loses_cover.ensures ∙ c.if-loses_cover.true))

pub returns : goal.returns
returns c = sym (stays_kept _ _ (aggregator (goal.at.returns c).Else-type_at-ne-AGGREGATOR) (sym c.has_fault_inside.ensures ∙ c.if-has_fault_inside.false) (sym c.loses_cover.ensures ∙ c.if-loses_cover.false))
