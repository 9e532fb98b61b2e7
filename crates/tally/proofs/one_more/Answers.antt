-- The largest number stays. Assumes nothing.
use native.Mathlib.Omega.{arith}
use borrow.Author.Tests.{ltb-true, ltb-false}
use Rattle.words.specs.Bytes.{largest}
use Rattle.words.specs.Tests.{◌<?◌}
use Rattle.words.proofs.Tests.{by_bool}
use Rattle.tally.specs.Tallies.{one_more}
use Rattle.tally.proofs.one_more.Goals as goal

pub returns : goal.returns
unfolding one_more
returns c = let n = c.args.n in by_bool (n <? largest)
    (λ t. let k = ltb-true n largest t in rw t (omega arith))
    (λ t. let k = ltb-false n largest t in rw t (omega arith))
