-- Each return is one test of the definition, over the numbers that were read. Assumes nothing.
use native.Mathlib.Omega.{arith}
use mathlib.Core.Path.{sym}
use Rattle.words.proofs.Tests.{tests}
use Rattle.units.specs.Units.{size, type}
use Rattle.unit_steps.specs.Items.{item_at}
use Rattle.unit_steps.proofs.Items.{item_cut, item_end}
use Rattle.unit_steps.proofs.item_at.Goals as goal
use Rattle.unit_steps.proofs.item_at.Goals.{then-s-p-via-then-s-p, then-s-p-via-else-s-p+then-s-p-2}

pub returns-then-s-p : goal.returns-then-s-p
returns-then-s-p c =
    let n = c.bytes-n.ensures.0 in
    elim c.then-s-p.branch [
      | then-s-p-via-then-s-p w ↦ sym (item_end _ _ (omega arith))
      | then-s-p-via-else-s-p+then-s-p-2 w ↦ sym (item_cut _ _ (omega arith))
    ]

pub returns-then-nal_type-eq-AGGREGATOR : goal.returns-then-nal_type-eq-AGGREGATOR
unfolding item_at size type
returns-then-nal_type-eq-AGGREGATOR c = grind (arith, tests)

pub returns-then-s-start : goal.returns-then-s-start
unfolding item_at size type
returns-then-s-start c = grind (arith, tests)

pub returns-then-nal_type-eq-EXTRACTOR : goal.returns-then-nal_type-eq-EXTRACTOR
unfolding item_at size type
returns-then-nal_type-eq-EXTRACTOR c = grind (arith, tests)

pub returns : goal.returns
unfolding item_at size type
returns c = grind (arith, tests)
