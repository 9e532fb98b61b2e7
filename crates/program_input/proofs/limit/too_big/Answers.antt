-- `program_input::limit::too_big` follows its definition. Assumes nothing.
use Rattle.words.proofs.Tests.{tests}
use Rattle.program_input.specs.Input.{too_big}
use Rattle.program_input.proofs.limit.too_big.Goals as goal

pub returns-then-n-ge-MOST : goal.returns-then-n-ge-MOST
unfolding too_big
returns-then-n-ge-MOST c = search tests

pub returns-else-n-ge-MOST : goal.returns-else-n-ge-MOST
unfolding too_big
returns-else-n-ge-MOST c = search tests
