-- The rules of units in plain facts, for laws: what a unit without a refusal has. Each is proved to say the same as the refusals of Units,
-- Extractors and Aggregators.
--
--   Whole e p      none of 14 to 18 holds of the unit at p, in what ends at e
--   TopUnitsWhole  of no top-level unit
--   Included e p   none of 14 to 20 and 22 holds of the unit at p, in an aggregator that ends at e
--   Clear a b      no aggregator among the top-level units from a up to b
--   Tiles a b ps   the units ps lie without gap or overlap from a to b
use Rattle.std.specs.Prelude.{ℕ, ◌+◌, ◌≤◌, ◌<◌, ◌≡◌, true, false}
use mathlib.Core.List.{List, [], ◌∷◌, Memᴰ}
use Rattle.numbers.specs.Kinds.{is_avc}
use Rattle.numbers.specs.Sizes.{extractor_size}
use Rattle.units.specs.Units.{Sample, L, end, size, first_byte, type, next, is_aggregator, is_extractor, least_size, top_units}
use Rattle.units.specs.Aggregators.{is_slice}

module _ (x : Sample) where
  pub record Whole (e p : ℕ) : Type 0 where
    -- 14 to 18
    pub room : p + L x ≤ e
    pub inside : next x p ≤ e
    pub some : 0 < size x p
    pub top : first_byte x p < 128
    pub least : least_size x (type x p) ≤ size x p

  abbrev pub TopUnitsWhole : Type 0
  TopUnitsWhole = (p : ℕ) → Memᴰ p (top_units x) → Whole (end x) p

  pub record Included (e p : ℕ) : Type 0 where
    -- 14 to 18, 19, 20, 22
    pub unit : Whole e p
    pub flat : is_aggregator x p ≡ false
    pub slice : is_avc x.kind ≡ true → is_slice (type x p) ≡ false
    pub extractor : is_extractor x p ≡ true → size x p ≡ extractor_size x.length_size

  abbrev pub Clear : ℕ → ℕ → Type 0
  Clear a b = (p : ℕ) → Memᴰ p (top_units x) → a ≤ p → p < b → is_aggregator x p ≡ false

  -- each starts where the one before ends, the first at a, and the last ends at b
  abbrev pub Tiles : ℕ → ℕ → List ℕ → Type 0
  Tiles a b [] = a ≡ b
  Tiles a b (p ∷ ps) = (p ≡ a) × (next x p ≤ b) × Tiles (next x p) b ps
