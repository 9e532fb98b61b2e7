-- The state of the walk over all units of a sample, included ones too (copies/specs/Flat), when it first comes to a place or past it.
--
--   front             the state at the start
--   entered, passed   the state past the head of an aggregator; past another unit
--   state_step        the state one unit on
--   reach_from d n s  the state after at most n steps from s, fewer if it stands at d or past it before
--   reach d s         the state that the walk from s is in when it first stands at d or past it
--   state_at d        the same from the front
use Rattle.std.specs.Prelude.{ℕ, zero, suc, ◌+◌, ◌-◌}
use Rattle.words.specs.Tests.{◌≤?◌, pick, ◌when◌else◌}
use Rattle.units.specs.Units.{Sample, size, next, is_aggregator, is_extractor}
use Rattle.units.specs.Aggregators.{included_start}
use Rattle.mark_rules.specs.declared.WalkState.{WalkState}

abbrev pub front : WalkState
front = record { place = 0; until = 0; count = 0; bytes = 0; extractors = 0 }

module _ (x : Sample) where
  abbrev pub entered : WalkState → WalkState
  entered s = record {
    place = included_start x s.place;
    until = next x s.place;
    count = s.count;
    bytes = s.bytes;
    extractors = s.extractors;
  }

  abbrev pub passed : WalkState → WalkState
  passed s = record {
    place = next x s.place;
    until = s.until;
    count = s.count + 1;
    bytes = s.bytes + size x s.place;
    extractors = s.extractors + 1 when is_extractor x s.place else s.extractors;
  }

  unfoldable pub state_step : WalkState → WalkState
  state_step s = pick (is_aggregator x s.place) (entered s) (passed s)

  -- at most d less the place of s steps, since each goes on
  unfoldable pub reach_from : ℕ → ℕ → WalkState → WalkState
  reach_from d zero s = s
  reach_from d (suc n) s = let rest = reach_from d n (state_step s) in pick (d ≤? s.place) s rest

  abbrev pub reach : ℕ → WalkState → WalkState
  reach d s = reach_from d (d - s.place) s

  unfoldable pub state_at : ℕ → WalkState
  state_at d = reach d front
