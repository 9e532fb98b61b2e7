-- With which number, and where, a sample that is not well formed is refused (01, 'Units in a sample', 'Numbers for no'). Both
-- walks are left at the first fault: a case of a fault says that the rules before it hold.
--
--   UnitFault x e p m       the unit at p, in what ends at e, gives m: 14 to 18
--   IncludedFault x e q m   the unit at q of an aggregator that ends at e gives m: 14 to 18, then 19, 20, 22
--   SecondAt x p            the second walk comes to the top-level unit at p
--   FormRefused x m p       the sample is refused with m at p: 14 to 22, at the length field of a unit
use Rattle.std.specs.Prelude.{ℕ, ◌+◌, ◌*◌, ◌≤◌, ◌<◌, ◌≡◌, [], ◌∷◌, length}
use Rattle.words.specs.Lists.{◌∈◌}
use Rattle.numbers.specs.declared.Kind.TheVariants.{Avc}
use Rattle.units.specs.Units.{Sample, L, size, first_byte, type, next, top_units}
use Rattle.units.specs.Aggregators.{included}
use Rattle.promise_rules.specs.First.{FirstIn}
use Rattle.promise_rules.specs.Samples.{UnitAt, IncludedAt, CoverAt, ContentAt}

module _ (x : Sample) where
  pub data UnitFault (e p : ℕ) : ℕ → Type 0 where
    -- its length field is cut; it is longer than what is left; it has no bytes; its top bit is 1
    cut : e < p + L x → UnitFault e p 14
    long : p + L x ≤ e → e < p + L x + size x p → UnitFault e p 15
    empty : p + L x + size x p ≤ e → size x p ≡ 0 → UnitFault e p 16
    top : p + L x + size x p ≤ e → 0 < size x p → 128 ≤ first_byte x p → UnitFault e p 17
    -- it is too short for a header of 4 bytes; for that and additional_bytes
    header :
        p + L x + size x p ≤ e → 0 < size x p → first_byte x p < 128 → type x p ∈ (14 ∷ 20 ∷ 31 ∷ []) → size x p < 4 →
        UnitFault e p 18
    aggregator :
        p + L x + size x p ≤ e → 0 < size x p → first_byte x p < 128 → type x p ≡ 30 → size x p < 4 + L x → UnitFault e p 18

  pub data IncludedFault (e q : ℕ) : ℕ → Type 0 where
    unit : {m : ℕ} → UnitFault e q m → IncludedFault e q m
    nested : UnitAt x e q → type x q ≡ 30 → IncludedFault e q 19
    slice : UnitAt x e q → x.kind ≡ Avc → 1 ≤ type x q → type x q ≤ 5 → IncludedFault e q 20
    extractor : UnitAt x e q → type x q ≡ 31 → (size x q ≡ 6 + 2 * L x → ⊥) → IncludedFault e q 22

  -- all top-level units are whole, and those before p have nothing of 14 to 22 inside
  pub record SecondAt (p : ℕ) : Type 0 where
    pub tops : (q : ℕ) → q ∈ top_units x → UnitAt x (length x.content) q
    pub before : FirstIn (ContentAt x) (top_units x) p

  pub data FormRefused : ℕ → ℕ → Type 0 where
    -- first all top-level units
    top :
        {m p : ℕ} → FirstIn (UnitAt x (length x.content)) (top_units x) p → UnitFault (length x.content) p m →
        FormRefused m p
    -- then top-level units again: an aggregator's included units front to back, then its 21; an extractor
    inside :
        {m p q : ℕ} → SecondAt p → type x p ≡ 30 → FirstIn (IncludedAt x (next x p)) (included x p) q →
        IncludedFault (next x p) q m → FormRefused m q
    cover :
        {p : ℕ} → SecondAt p → type x p ≡ 30 → ((q : ℕ) → q ∈ included x p → IncludedAt x (next x p) q) → (CoverAt x p → ⊥) →
        FormRefused 21 p
    extractor : {p : ℕ} → SecondAt p → type x p ≡ 31 → (size x p ≡ 6 + 2 * L x → ⊥) → FormRefused 22 p
