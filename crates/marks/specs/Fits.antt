-- That the numbers of a state are not too large, whatever the bytes and the rows: none is more than the limit of
-- a row's numbers ahead of the place, and the walk goes on by more than it counts.
--
--   Fits s     of the state s
use Rattle.std.specs.Prelude.{◌+◌, ◌≤◌}
use Rattle.mark_rules.specs.declared.WalkState.{WalkState}
use Rattle.marks.specs.Marks.{number_limit}

pub record Fits (s : WalkState) : Type 0 where
  pub count : s.count ≤ number_limit + s.place
  pub bytes : s.bytes ≤ number_limit + s.place
  pub extractors : s.extractors ≤ number_limit + s.place
