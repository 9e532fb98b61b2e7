-- All units of a well-formed sample as one walk, front to back (01, 'Units in a sample'): after an aggregator's header and additional_bytes
-- comes the first unit that it includes, after any other unit the next one; the last included unit ends where its aggregator ends.
--
--   flat_step x p         the place after p in that walk
--   flat_places x a e     the places of units from a up to e, included ones too
--   units_between x a e   the same without aggregators
--   UnitBorder x q        q is the start of a unit, top-level or included, or the end of the sample
--   BetweenBorders x a e  the sample is well formed, and a and e are such borders of it
use Rattle.std.specs.Prelude.{ℕ, zero, suc, ◌-◌, ◌≤◌, ◌≡◌, List, [], ◌∷◌, ◌⊎◌}
use Rattle.words.specs.Tests.{◌≤?◌, pick, ◌when◌else◌}
use Rattle.words.specs.Refusals.{ok}
use Rattle.words.specs.Lists.{◌∈◌}
use Rattle.units.specs.Units.{Sample, end, next, is_aggregator}
use Rattle.units.specs.Aggregators.{included_start, units}
use Rattle.samples.specs.Check.{check}
use Rattle.copies.specs.Copies.{without_aggregators}

module _ (x : Sample) where
  unfoldable pub flat_step : ℕ → ℕ
  flat_step p = included_start x p when is_aggregator x p else next x p

  -- at most e - p of them, since each step goes on
  unfoldable pub flat_from : ℕ → ℕ → ℕ → List ℕ
  flat_from e zero p = []
  flat_from e (suc n) p = let rest = p ∷ flat_from e n (flat_step p) in pick (e ≤? p) [] rest

  abbrev pub flat_places : ℕ → ℕ → List ℕ
  flat_places p e = flat_from e (e - p) p

  abbrev pub units_between : ℕ → ℕ → List ℕ
  units_between a e = without_aggregators x (flat_places a e)

  abbrev pub UnitBorder : ℕ → Type 0
  UnitBorder q = (q ≡ end x) ⊎ (q ∈ units x)

  pub record BetweenBorders (a e : ℕ) : Type 0 where
    pub formed : check x ≡ ok tt
    pub start : UnitBorder a
    pub stop : UnitBorder e
    pub order : a ≤ e
