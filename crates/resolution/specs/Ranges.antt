-- Samples first to last by a bundle and any table beside it.
--
--   resolve_range_in b t first last    a bundle too long or a table too short, 30, or what resolving gives for each, joined
use Rattle.std.specs.Prelude.{ℕ, List}
use Rattle.words.specs.Refusals.{Answer, ok}
use Rattle.tables.specs.Tables.{recording_in}
use Rattle.resolution_rules.specs.Ranges.{between, joined}
use Rattle.judging.specs.Steps.{on_range_in}

unfoldable pub resolve_range_in : List ℕ → List ℕ → ℕ → ℕ → Answer (List ℕ)
resolve_range_in b t first last = on_range_in b t first last (ok (joined (recording_in b t) (between first last)))
