-- The running tally of an audit (01, 'Audit and naming list').
--
--   is_passed, is_empty, is_refused  what an outcome is
--   tallied os                       the tally of outcomes
--   one_more n                       n + 1, but the largest number of 8 bytes stays
--   raised_by o t                    a tally raised by one outcome
use Rattle.std.specs.Prelude.{ℕ, ◌+◌, List, Bool, true, false, length}
use Rattle.words.specs.Bytes.{largest}
use Rattle.words.specs.Tests.{◌<?◌, pick}
use Rattle.words.specs.Lists.{keep}
use Rattle.tally.specs.declared.Tally.{Tally}
use Rattle.tally.specs.declared.Outcome.{Outcome}
use Rattle.tally.specs.declared.Outcome.TheVariants.{Passed, Empty, Refused}

abbrev pub is_passed : Outcome → Bool
is_passed Passed = true
is_passed Empty = false
is_passed Refused = false

abbrev pub is_empty : Outcome → Bool
is_empty Passed = false
is_empty Empty = true
is_empty Refused = false

abbrev pub is_refused : Outcome → Bool
is_refused Passed = false
is_refused Empty = false
is_refused Refused = true

-- How many outcomes of each kind there are.
unfoldable pub tallied : List Outcome → Tally
tallied os = record { passed = length (keep is_passed os); empty = length (keep is_empty os); refused = length (keep is_refused os) }

unfoldable pub one_more : ℕ → ℕ
one_more n = pick (n <? largest) (n + 1) n

abbrev pub raised_by : Outcome → Tally → Tally
raised_by Passed t = record { passed = one_more t.passed; empty = t.empty; refused = t.refused }
raised_by Empty t = record { passed = t.passed; empty = one_more t.empty; refused = t.refused }
raised_by Refused t = record { passed = t.passed; empty = t.empty; refused = one_more t.refused }
