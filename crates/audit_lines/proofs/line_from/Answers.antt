-- By the refusal, then by what goes with it. Assumes nothing.
use mathlib.Core.Path.{◌≡◌, sym, ap, ◌∙◌}
use mathlib.Core.List.{List}
use Prim.Native.Nat.{ℕ}
use native.Mathlib.Omega.{arith}
use borrow.Author.Tests.{eq-eqb, ne_eqb, lt-ltb, le-ltb}
use Rattle.words.specs.RefusalNumbers.{sample_refusals}
use Rattle.words.specs.Lists.{has}
use Rattle.words.proofs.Tests.{tests}
use Rattle.audit_lines.specs.Lines.{good_line, refused_line, line_from}
use Rattle.audit_lines.proofs.line_from.Goals as goal
use Rattle.audit_lines.proofs.line_from.Goals.{After-is_one_of}

-- whether the refusal is one of a sample
listed : (c : After-is_one_of) → c.is_one_of.result ≡ has c.args.number sample_refusals
listed c = c.is_one_of.ensures ∙ ap (λ (s : List ℕ). has c.args.number s) c.of_sample-known.ensures

pub returns-then-place-ne0 : goal.returns-then-place-ne0
unfolding line_from good_line
returns-then-place-ne0 c = search tests

pub returns-then-size-ne0 : goal.returns-then-size-ne0
unfolding line_from good_line
returns-then-size-ne0 c = search tests

pub returns-then-units-ne0 : goal.returns-then-units-ne0
unfolding line_from good_line
returns-then-units-ne0 c = search tests

pub returns-then-number-eq0 : goal.returns-then-number-eq0
unfolding line_from good_line
returns-then-number-eq0 c = search tests

pub returns-then-not-is_one_of : goal.returns-then-not-is_one_of
unfolding line_from refused_line
returns-then-not-is_one_of c = rw (ne_eqb c.args.number 0 c.if-number-eq0.false, sym (listed (goal.at.returns-then-not-is_one_of c).After-is_one_of) ∙ c.if-not-is_one_of.true)

pub returns-then-size-place : goal.returns-then-size-place
unfolding line_from refused_line
returns-then-size-place c = rw (ne_eqb c.args.number 0 c.if-number-eq0.false, sym (listed (goal.at.returns-then-size-place c).After-is_one_of) ∙ c.if-not-is_one_of.false, le-ltb c.args.place c.args.size c.if-size-place.true)

pub returns-then-units-ne0-2 : goal.returns-then-units-ne0-2
unfolding line_from refused_line
returns-then-units-ne0-2 c = rw (ne_eqb c.args.number 0 c.if-number-eq0.false, sym (listed (goal.at.returns-then-units-ne0-2 c).After-is_one_of) ∙ c.if-not-is_one_of.false, lt-ltb c.args.place c.args.size (omega (arith, c.if-size-place.false)), ne_eqb c.args.units 0 c.if-units-ne0-2.true)

pub returns : goal.returns
unfolding line_from refused_line
returns c = rw (ne_eqb c.args.number 0 c.if-number-eq0.false, sym (listed (goal.at.returns c).After-is_one_of) ∙ c.if-not-is_one_of.false, lt-ltb c.args.place c.args.size (omega (arith, c.if-size-place.false)), eq-eqb c.args.units 0 c.if-units-ne0-2.false)
