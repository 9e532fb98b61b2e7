-- With which number, and where, a call is refused. One case a kind of refusal.
--
--   CheckRefused kind l s m p     a sample checked outside a bundle: the kind, L, the sample
--   ExtractorFault r n p m        the extractor at p of sample n breaks a rule: 23 to 28
--   ExtractorRefused r n m p      sample n, well formed: 23 to 28, at its first extractor that is refused
--   SampleRefused r n m p         sample n: one or the other
--   ResolveRefused b n room m p   resolving: the bundle, the sample's number, the sample, the room
--   UnitRefused b n k m p         one delivered unit, and where it stands: the bundle, the sample's number, the sample, the
--                                 unit's number
--   NamesRefused b s room m p     the naming list: the bundle, the sample's number, the room
--   AuditRefused b room m p       the audit: the bundle, the room
use Rattle.std.specs.Prelude.{ℕ, ◌*◌, ◌≤◌, ◌<◌, ◌≡◌, List, [], ◌∷◌, ◌⊎◌, length}
use Rattle.words.specs.Refusals.{ok}
use Rattle.words.specs.Tests.{◌≡?◌}
use Rattle.words.specs.Lists.{◌∈◌, each, keep}
use Rattle.units.specs.Units.{Sample, type}
use Rattle.units.specs.Extractors.{track_ref_index, sample_offset, data_offset, data_length}
use Rattle.units.specs.Aggregators.{units}
use Rattle.bundles.specs.Recordings.{Recording, sample_count, track_of}
use Rattle.bundles.specs.Readers.{first_layout}
use Rattle.resolution_rules.specs.Resolving.{sample_of, Span}
use Rattle.naming_list_rules.specs.Naming.{naming_list}
use Rattle.promise_rules.specs.Samples.{Formed, Given}
use Rattle.promise_rules.specs.SampleFaults.{FormRefused}
use Rattle.promise_rules.specs.BundleFaults.{BundleRefused}
use Rattle.promise_rules.specs.Resolving.{NamedBy, CopyStarts, CopyEnds, CopyAmong, Extraction, Resolved, after_length}

pub data CheckRefused (kind l : ℕ) (s : List ℕ) : ℕ → ℕ → Type 0 where
  kind : (kind ≡ 0 → ⊥) → (kind ≡ 1 → ⊥) → CheckRefused kind l s 4 0
  size : (kind ≡ 0) ⊎ (kind ≡ 1) → (l ∈ (1 ∷ 2 ∷ 4 ∷ []) → ⊥) → CheckRefused kind l s 11 0
  form : {m p : ℕ} (x : Sample) → Given kind l s x → FormRefused x m p → CheckRefused kind l s m p

-- an extractor: its track_ref_index, how many references its track has, what it names, where its copy of sample k starts and
-- ends, and that these are borders of the same units
module _ (r : Recording) (n p : ℕ) where
  abbrev ref_index : ℕ
  ref_index = track_ref_index (sample_of r n) p

  abbrev ref_count : ℕ
  ref_count = length (keep (λ f. f.from ≡? track_of r.layout n) r.layout.references)

  abbrev Names : ℕ → Type 0
  Names = NamedBy r.layout n ref_index (sample_offset (sample_of r n) p)

  abbrev Starts : ℕ → Type 0
  Starts k = CopyStarts (sample_of r k) (data_offset (sample_of r n) p)

  abbrev Ends : ℕ → ℕ → Type 0
  Ends k e = CopyEnds (sample_of r k) (data_offset (sample_of r n) p) (data_length (sample_of r n) p) e

  abbrev Among : ℕ → ℕ → Type 0
  Among k e = CopyAmong (sample_of r k) (data_offset (sample_of r n) p) e

  -- the first rule that it breaks
  pub data ExtractorFault : ℕ → Type 0 where
    index : (ref_index ≡ 0) ⊎ (ref_count < ref_index) → ExtractorFault 23
    name : 0 < ref_index → ref_index ≤ ref_count → ((k : ℕ) → Names k → ⊥) → ExtractorFault 24
    form : (k : ℕ) → Names k → (Formed (sample_of r k) → ⊥) → ExtractorFault 25
    start : (k : ℕ) → Names k → Formed (sample_of r k) → (Starts k → ⊥) → ExtractorFault 26
    end : (k e : ℕ) → Names k → Formed (sample_of r k) → Starts k → Ends k e → (Among k e → ⊥) → ExtractorFault 27
    -- an extractor q among the units of the copy
    chain :
        (k e q : ℕ) → Names k → Formed (sample_of r k) → Ends k e → Among k e →
        q ∈ units (sample_of r k) → data_offset (sample_of r n) p ≤ q → q < e → type (sample_of r k) q ≡ 31 → ExtractorFault 28

-- every extractor before it names a sample and copies units of it, by the rules
pub record ExtractorRefused (r : Recording) (n m p : ℕ) : Type 0 where
  pub formed : Formed (sample_of r n)
  pub unit : p ∈ units (sample_of r n)
  pub extractor : type (sample_of r n) p ≡ 31
  pub earlier :
      (q : ℕ) → q ∈ units (sample_of r n) → type (sample_of r n) q ≡ 31 → q < p → (k : ℕ) × (qs : List ℕ) × Extraction r n q k qs
  pub fault : ExtractorFault r n p m

pub data SampleRefused (r : Recording) (n m p : ℕ) : Type 0 where
  form : 0 < n → n ≤ sample_count r.layout → FormRefused (sample_of r n) m p → SampleRefused r n m p
  extractor : 0 < n → n ≤ sample_count r.layout → ExtractorRefused r n m p → SampleRefused r n m p

pub data ResolveRefused (b : List ℕ) (n room : ℕ) : ℕ → ℕ → Type 0 where
  bundle : {m p : ℕ} → BundleRefused b m p → ResolveRefused b n room m p
  number : (r : Recording) → first_layout.means b ≡ ok r → (n ≡ 0) ⊎ (sample_count r.layout < n) → ResolveRefused b n room 30 0
  sample : {m p : ℕ} (r : Recording) → first_layout.means b ≡ ok r → SampleRefused r n m p → ResolveRefused b n room m p
  room :
      (r : Recording) (us : List Span) → first_layout.means b ≡ ok r → Resolved r n us → room < length (each (after_length r) us) →
      ResolveRefused b n room 29 0

pub data UnitRefused (b : List ℕ) (n k : ℕ) : ℕ → ℕ → Type 0 where
  bundle : {m p : ℕ} → BundleRefused b m p → UnitRefused b n k m p
  number : (r : Recording) → first_layout.means b ≡ ok r → (n ≡ 0) ⊎ (sample_count r.layout < n) → UnitRefused b n k 30 0
  sample : {m p : ℕ} (r : Recording) → first_layout.means b ≡ ok r → SampleRefused r n m p → UnitRefused b n k m p
  unit :
      (r : Recording) (us : List Span) → first_layout.means b ≡ ok r → Resolved r n us → (k ≡ 0) ⊎ (length us < k) →
      UnitRefused b n k 30 0

-- never 14 to 28: 6 bytes an extractor of the list
pub data NamesRefused (b : List ℕ) (s room : ℕ) : ℕ → ℕ → Type 0 where
  bundle : {m p : ℕ} → BundleRefused b m p → NamesRefused b s room m p
  number : (r : Recording) → first_layout.means b ≡ ok r → (s ≡ 0) ⊎ (sample_count r.layout < s) → NamesRefused b s room 30 0
  room :
      (r : Recording) → first_layout.means b ≡ ok r → 0 < s → s ≤ sample_count r.layout → room < length (naming_list r s) * 6 →
      NamesRefused b s room 29 0

-- never 14 to 28: 13 bytes a sample
pub data AuditRefused (b : List ℕ) (room : ℕ) : ℕ → ℕ → Type 0 where
  bundle : {m p : ℕ} → BundleRefused b m p → AuditRefused b room m p
  room : (r : Recording) → first_layout.means b ≡ ok r → room < 13 * sample_count r.layout → AuditRefused b room 29 0
