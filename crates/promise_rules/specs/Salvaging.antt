-- A damaged sample salvaged (02, [11]), in plain facts. p and q are places of units in the old sample x.
--
--   StopsAt x f                           f is the place of the first top-level fault, 14 to 18; or the end, where there is none
--   InsideFault x p m q                   the top-level unit at p has the inside fault m at q: 14 to 20, or 22
--   SoundAt x p                           it has none
--   Covered x p q                         the top-level unit at q is covered by the aggregator at p
--   CoverBefore x f p                     what the aggregator at p covers follows the rules, in a sample that ends at f
--   Becomes x f p c                       what becomes of the top-level unit at p, where the first top-level fault is at f: c says it
--   SalvageRefused, SampleSalvageRefused  with which number, and where, the calls are refused
use Rattle.std.specs.Prelude.{ℕ, ◌+◌, ◌*◌, ◌≤◌, ◌<◌, ◌≡◌, List, [], ◌∷◌, ◌⊎◌, length}
use Rattle.words.specs.Refusals.{ok}
use Rattle.words.specs.Lists.{◌∈◌}
use Rattle.units.specs.Units.{Sample, L, size, type, next, top_units}
use Rattle.units.specs.Aggregators as aggregators
use Rattle.bundles.specs.Recordings.{Recording, sample_count}
use Rattle.bundles.specs.Readers.{first_layout}
use Rattle.resolution_rules.specs.Resolving.{sample_of}
use Rattle.naming_list_rules.specs.Naming.{naming_list}
use Rattle.salvage_rules.specs.declared.Fate.{Fate}
use Rattle.salvage_rules.specs.declared.Fate.TheVariants.{Kept, Dropped, Zeroed}
use Rattle.salvage_rules.specs.Salvage.{salvaged, changes}
use Rattle.promise_rules.specs.First.{FirstIn}
use Rattle.promise_rules.specs.Samples.{UnitAt, IncludedAt, Given}
use Rattle.promise_rules.specs.SampleFaults.{UnitFault, IncludedFault}
use Rattle.promise_rules.specs.BundleFaults.{BundleRefused}

module _ (x : Sample) where
  abbrev ends : ℕ
  ends = length x.content

  pub data StopsAt : ℕ → Type 0 where
    fault : {m f : ℕ} → FirstIn (UnitAt x ends) (top_units x) f → UnitFault x ends f m → StopsAt f
    none : ((p : ℕ) → p ∈ top_units x → UnitAt x ends p) → StopsAt ends

  pub data InsideFault (p : ℕ) : ℕ → ℕ → Type 0 where
    -- of the first included unit that has one
    included :
        {m q : ℕ} → type x p ≡ 30 → FirstIn (IncludedAt x (next x p)) (aggregators.included x p) q →
        IncludedFault x (next x p) q m → InsideFault p m q
    extractor : type x p ≡ 31 → (size x p ≡ 6 + 2 * L x → ⊥) → InsideFault p 22 p

  pub record SoundAt (p : ℕ) : Type 0 where
    pub inside : type x p ≡ 30 → (q : ℕ) → q ∈ aggregators.included x p → IncludedAt x (next x p) q
    pub extractor : type x p ≡ 31 → size x p ≡ 6 + 2 * L x

  abbrev covered_to : ℕ → ℕ
  covered_to p = next x p + aggregators.additional_bytes x p

  pub record Covered (p q : ℕ) : Type 0 where
    pub aggregator : type x p ≡ 30
    pub unit : q ∈ top_units x
    pub from : next x p ≤ q
    pub before : q < covered_to p

  -- 21, but f counts as the end: additional_bytes end there, or where a top-level unit before it starts, and cover no aggregator
  pub record CoverBefore (f p : ℕ) : Type 0 where
    pub border : (covered_to p ≡ f) ⊎ ((covered_to p ∈ top_units x) × (covered_to p < f))
    pub clear : (q : ℕ) → Covered p q → type x q ≡ 30 → ⊥

  pub data Becomes (f p : ℕ) : Fate → Type 0 where
    faulty : (m q : ℕ) → InsideFault p m q → Becomes f p Dropped
    -- additional_bytes become 0: for a 21, or since a unit is dropped that it covers
    uncovers : SoundAt p → type x p ≡ 30 → (CoverBefore f p → ⊥) → Becomes f p Zeroed
    loses : (q m r : ℕ) → SoundAt p → Covered p q → q < f → InsideFault q m r → Becomes f p Zeroed
    keeps : SoundAt p → (type x p ≡ 30 → CoverBefore f p) → ((q : ℕ) → Covered p q → SoundAt q) → Becomes f p Kept

-- the room lent for the new sample, for the changes, 5 bytes each, and for the naming list, 6 bytes an extractor
pub data SalvageRefused (b : List ℕ) (n room changes_room names_room : ℕ) : ℕ → ℕ → Type 0 where
  bundle : {m p : ℕ} → BundleRefused b m p → SalvageRefused b n room changes_room names_room m p
  number :
      (r : Recording) → first_layout.means b ≡ ok r → (n ≡ 0) ⊎ (sample_count r.layout < n) →
      SalvageRefused b n room changes_room names_room 30 0
  room :
      (r : Recording) → first_layout.means b ≡ ok r → 0 < n → n ≤ sample_count r.layout →
      (room < length (salvaged (sample_of r n)).content) ⊎ ((changes_room < 5 * length (changes (sample_of r n)))
      ⊎ (names_room < length (naming_list r n) * 6)) →
      SalvageRefused b n room changes_room names_room 29 0

-- outside a bundle; a sample of more than 2 ^ 32 bytes has places that the list can't say
pub data SampleSalvageRefused (kind l : ℕ) (s : List ℕ) (room changes_room : ℕ) : ℕ → ℕ → Type 0 where
  kind : (kind ≡ 0 → ⊥) → (kind ≡ 1 → ⊥) → SampleSalvageRefused kind l s room changes_room 4 0
  length_size : (kind ≡ 0) ⊎ (kind ≡ 1) → (l ∈ (1 ∷ 2 ∷ 4 ∷ []) → ⊥) → SampleSalvageRefused kind l s room changes_room 11 0
  room :
      (x : Sample) → Given kind l s x →
      (4294967296 < length s) ⊎ ((room < length (salvaged x).content) ⊎ (changes_room < 5 * length (changes x))) →
      SampleSalvageRefused kind l s room changes_room 29 0
