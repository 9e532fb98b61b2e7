-- A copy by its start, in plain facts (02, [4]). z is the sample named, o data_offset, n data_length.
--
--   TopCopy z o n qs          of a top-level unit o: none of 25, 27 and 28, and the copy is the units qs
--   IncludedCopy z p o n qs   the same of a unit o that the aggregator at p includes
--   IncludedEnds z o n e      where a copy from an included unit ends
use Rattle.std.specs.Prelude.{ℕ, ◌+◌, ◌<◌, ◌≡◌, not, ◌&&◌, List, ◌⊎◌}
use Rattle.words.specs.Tests.{◌≤?◌, ◌<?◌, ◌≡?◌}
use Rattle.words.specs.Lists.{◌∈◌, keep}
use Rattle.units.specs.Units.{Sample, type, next}
use Rattle.units.specs.Aggregators.{included, units}
use Rattle.promise_rules.specs.Samples.{BorderAt, BorderIn, Formed}
use Rattle.promise_rules.specs.Resolving.{CopyEnds}

pub record TopCopy (z : Sample) (o n : ℕ) (qs : List ℕ) : Type 0 where
  pub formed : Formed z
  pub end : ℕ
  pub ends : CopyEnds z o n end
  pub border : BorderAt z end
  -- all units of the sample from o up to the end, included ones too, but aggregators
  pub units : qs ≡ keep (λ q. (o ≤? q) && (q <? end)) (keep (λ q. not (type z q ≡? 30)) (units z))
  pub no_extractor : (q : ℕ) → q ∈ qs → type z q ≡ 31 → ⊥

-- one unit, or so many bytes: additional_bytes play no part
abbrev pub IncludedEnds : Sample → ℕ → ℕ → ℕ → Type 0
IncludedEnds z o n e = ((n ≡ 0) × (e ≡ next z o)) ⊎ ((0 < n) × (e ≡ o + n))

pub record IncludedCopy (z : Sample) (p o n : ℕ) (qs : List ℕ) : Type 0 where
  pub formed : Formed z
  pub end : ℕ
  pub ends : IncludedEnds z o n end
  pub border : BorderIn z p end
  -- units that the same aggregator includes, from o up to the end, and no others
  pub units : qs ≡ keep (λ q. (o ≤? q) && (q <? end)) (included z p)
  pub no_extractor : (q : ℕ) → q ∈ qs → type z q ≡ 31 → ⊥
