-- A well-formed sample in plain facts, with the numbers of document 01, 'Units in a sample'. p and q are places of units: where
-- their length fields start. `top_units`, `included` and `next` walk from unit to unit (crates/units/specs).
--
--   UnitAt x e p     the unit at p is whole, in what ends at e
--   BorderAt x q     q is the start of a top-level unit, or the end of the sample
--   BorderIn x p q   q is the start of a unit that the aggregator at p includes, or the aggregator's end
--   IncludedAt x e q the unit at q may be included in an aggregator that ends at e
--   CoverAt x p      what the aggregator at p covers follows the rules
--   ContentAt x p    so does what stands in the top-level unit at p
--   Formed x         the sample is well formed
--   Given k l s x    x is what a call outside a bundle is given: a kind, 0 for AVC or 1 for SVC; L, 1, 2 or 4; the bytes
use Rattle.std.specs.Prelude.{ℕ, ◌+◌, ◌*◌, ◌≤◌, ◌<◌, ◌≡◌, List, [], ◌∷◌, ◌⊎◌, length}
use Rattle.words.specs.Lists.{◌∈◌}
use Rattle.numbers.specs.Sizes.{in_bytes}
use Rattle.numbers.specs.declared.Kind.TheVariants.{Avc, Svc}
use Rattle.units.specs.Units.{Sample, L, size, first_byte, type, next, top_units}
use Rattle.units.specs.Aggregators.{included, additional_bytes}

module _ (x : Sample) where
  pub record UnitAt (e p : ℕ) : Type 0 where
    -- 14: its length field is there; 15: so is the unit; 16: it has bytes; 17: its top bit is 0
    pub field : p + L x ≤ e
    pub inside : p + L x + size x p ≤ e
    pub some : 0 < size x p
    pub top : first_byte x p < 128
    -- 18: a header of 4 bytes, and additional_bytes
    pub header : type x p ∈ (14 ∷ 20 ∷ 31 ∷ []) → 4 ≤ size x p
    pub aggregator : type x p ≡ 30 → 4 + L x ≤ size x p

  abbrev pub BorderAt : ℕ → Type 0
  BorderAt q = (q ≡ length x.content) ⊎ (q ∈ top_units x)

  abbrev pub BorderIn : ℕ → ℕ → Type 0
  BorderIn p q = (q ≡ next x p) ⊎ (q ∈ included x p)

  pub record IncludedAt (e q : ℕ) : Type 0 where
    pub unit : UnitAt e q
    -- 19, 20, 22
    pub flat : type x q ≡ 30 → ⊥
    pub slice : x.kind ≡ Avc → 1 ≤ type x q → type x q ≤ 5 → ⊥
    pub extractor : type x q ≡ 31 → size x q ≡ 6 + 2 * L x

  -- 21: additional_bytes end on a border, and cover no aggregator
  pub record CoverAt (p : ℕ) : Type 0 where
    pub ends : BorderAt (next x p + additional_bytes x p)
    pub clear : (q : ℕ) → q ∈ top_units x → next x p ≤ q → q < next x p + additional_bytes x p → type x q ≡ 30 → ⊥

  pub record ContentAt (p : ℕ) : Type 0 where
    pub inside : type x p ≡ 30 → (q : ℕ) → q ∈ included x p → IncludedAt (next x p) q
    pub covers : type x p ≡ 30 → CoverAt p
    -- 22
    pub extractor : type x p ≡ 31 → size x p ≡ 6 + 2 * L x

  pub record Formed : Type 0 where
    pub tops : (p : ℕ) → p ∈ top_units x → UnitAt (length x.content) p
    pub contents : (p : ℕ) → p ∈ top_units x → ContentAt p

pub record Given (k l : ℕ) (s : List ℕ) (x : Sample) : Type 0 where
  pub kind : ((k ≡ 0) × (x.kind ≡ Avc)) ⊎ ((k ≡ 1) × (x.kind ≡ Svc))
  pub size : in_bytes x.length_size ≡ l
  pub content : x.content ≡ s
