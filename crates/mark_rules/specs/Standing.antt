-- Where a walk over a well-formed sample stands, in plain facts.
--
--   Standing g q     q is a top-level border, at g or past it, or a unit that the aggregator which ends at g includes
--   Settled s        the state of a walk: where it stands, and that its numbers are small
use Rattle.std.specs.Prelude.{ℕ, ◌+◌, ◌≤◌, ◌≡◌, true}
use Rattle.words.specs.Lists.{◌∈◌}
use Rattle.units.specs.Units.{Sample, end, next, is_aggregator, top_units, border}
use Rattle.units.specs.Aggregators.{included}
use Rattle.mark_rules.specs.declared.WalkState.{WalkState}

module _ (x : Sample) where
  pub data Standing (g q : ℕ) : Type 0 where
    outside : g ≤ q → border x q ≡ true → Standing g q
    inside : (p : ℕ) → p ∈ top_units x → is_aggregator x p ≡ true → g ≡ next x p → q ∈ included x p → Standing g q

  pub record Settled (s : WalkState) : Type 0 where
    pub stands : Standing s.until s.place
    pub most : s.place ≤ end x
    pub until_most : s.until ≤ end x
    pub small : s.count + s.bytes ≤ s.place
    pub fewer : s.extractors ≤ s.count
