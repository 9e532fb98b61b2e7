-- The rules of all units of a sample in plain facts, and which refusals there are. The laws are in proofs/Laws.
--
--   Rules             every unit's rules hold
--   SampleRefusal     a refusal of the check: its number, and its place in the sample
--   outside_refusals  what is refused only outside a bundle: 4, 11
--   AloneRefusal      a refusal of the check outside a bundle
use Rattle.std.specs.Prelude.{ℕ, ◌<◌, ◌≡◌, true, ◌⊎◌, length}
use mathlib.Core.List.{List, [], ◌∷◌, Memᴰ}
use Rattle.words.specs.Lists.{◌∈◌}
use Rattle.words.specs.RefusalNumbers.{unknown_kind, bad_length_size, form_refusals}
use Rattle.numbers.specs.Sizes.{extractor_size}
use Rattle.units.specs.Units.{Sample, size, next, is_aggregator, is_extractor, top_units, border}
use Rattle.units.specs.Aggregators.{included, cover_end}
use Rattle.units.specs.Rules.{TopUnitsWhole, Included, Clear}

pub record Rules (x : Sample) : Type 0 where
  -- 14 to 18 of the top-level units
  pub tops : TopUnitsWhole x
  -- 14 to 20 and 22 of the included units
  pub inside : (p q : ℕ) → Memᴰ p (top_units x) → is_aggregator x p ≡ true → Memᴰ q (included x p) → Included x (next x p) q
  -- 21: what an aggregator covers ends on a border, and holds no aggregator
  pub borders : (p : ℕ) → Memᴰ p (top_units x) → is_aggregator x p ≡ true → border x (cover_end x p) ≡ true
  pub clear : (p : ℕ) → Memᴰ p (top_units x) → is_aggregator x p ≡ true → Clear x (next x p) (cover_end x p)
  -- 22 of the top-level extractors
  pub extractors : (p : ℕ) → Memᴰ p (top_units x) → is_extractor x p ≡ true → size x p ≡ extractor_size x.length_size

-- 14 to 22, at a place in the sample s
abbrev pub SampleRefusal : List ℕ → ℕ → ℕ → Type 0
SampleRefusal s n p = (n ∈ form_refusals) × (p < length s)

-- outside a bundle also 4 and 11, both at 0
abbrev pub outside_refusals : List ℕ
outside_refusals = unknown_kind ∷ bad_length_size ∷ []

abbrev pub AloneRefusal : List ℕ → ℕ → ℕ → Type 0
AloneRefusal s n p = ((n ∈ outside_refusals) × (p ≡ 0)) ⊎ SampleRefusal s n p
