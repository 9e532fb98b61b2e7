-- What the calls tell of what a bundle b holds, and with which number, and where, they are refused.
--
--   NumberRefused b count n m p  a track, a reference or a sample by its number n, of so many: the bundle, the number
--   UnitsRefused b n room m p    all delivered units: as resolving, but 29 is for two numbers a unit
--   NamedRefused b n p m q       the sample that the extractor at p of sample n names: the bundle, the sample's number, its form, no
--                                extractor there, 23 or 24
--   stand_numbers b u            where a delivered unit stands: its start and its size
--   joined b ns                  units after their lengths in 4 bytes, by their starts and sizes
use Rattle.std.specs.Prelude.{ℕ, ◌+◌, ◌*◌, ◌≤◌, ◌<◌, ◌≡◌, List, [], ◌∷◌, ◌++◌, ◌⊎◌, length}
use Rattle.words.specs.Refusals.{ok}
use Rattle.words.specs.Lists.{◌∈◌}
use Rattle.words.specs.Bytes.{bytes, part}
use Rattle.units.specs.Units.{type}
use Rattle.units.specs.Aggregators.{units}
use Rattle.bundles.specs.Recordings.{Recording, sample_count}
use Rattle.bundles.specs.Readers.{first_layout}
use Rattle.resolution_rules.specs.Resolving.{sample_of, Span}
use Rattle.promise_rules.specs.Samples.{Formed}
use Rattle.promise_rules.specs.SampleFaults.{FormRefused}
use Rattle.promise_rules.specs.BundleFaults.{BundleRefused}
use Rattle.promise_rules.specs.Bundles.{BundleOf}
use Rattle.promise_rules.specs.Resolving.{Resolved}
use Rattle.promise_rules.specs.Refused.{ExtractorFault, SampleRefused}
use Rattle.promise_rules.specs.Units.{sample_start}

pub data NumberRefused (b : List ℕ) (count n : ℕ) : ℕ → ℕ → Type 0 where
  bundle : {m p : ℕ} → BundleRefused b m p → NumberRefused b count n m p
  number : BundleOf b → (n ≡ 0) ⊎ (count < n) → NumberRefused b count n 30 0

pub data UnitsRefused (b : List ℕ) (n room : ℕ) : ℕ → ℕ → Type 0 where
  bundle : {m p : ℕ} → BundleRefused b m p → UnitsRefused b n room m p
  number : (r : Recording) → first_layout.means b ≡ ok r → (n ≡ 0) ⊎ (sample_count r.layout < n) → UnitsRefused b n room 30 0
  sample : {m p : ℕ} (r : Recording) → first_layout.means b ≡ ok r → SampleRefused r n m p → UnitsRefused b n room m p
  room :
      (r : Recording) (us : List Span) → first_layout.means b ≡ ok r → Resolved r n us → room < 2 * length us →
      UnitsRefused b n room 29 0

pub data NamedRefused (b : List ℕ) (n p : ℕ) : ℕ → ℕ → Type 0 where
  bundle : {m q : ℕ} → BundleRefused b m q → NamedRefused b n p m q
  number : (r : Recording) → first_layout.means b ≡ ok r → (n ≡ 0) ⊎ (sample_count r.layout < n) → NamedRefused b n p 30 0
  form :
      {m q : ℕ} (r : Recording) → first_layout.means b ≡ ok r → 0 < n → n ≤ sample_count r.layout →
      FormRefused (sample_of r n) m q → NamedRefused b n p m q
  none :
      (r : Recording) → first_layout.means b ≡ ok r → 0 < n → n ≤ sample_count r.layout → Formed (sample_of r n) →
      (p ∈ units (sample_of r n) → type (sample_of r n) p ≡ 31 → ⊥) → NamedRefused b n p 30 0
  extractor :
      {m : ℕ} (r : Recording) → first_layout.means b ≡ ok r → 0 < n → n ≤ sample_count r.layout → Formed (sample_of r n) →
      p ∈ units (sample_of r n) → type (sample_of r n) p ≡ 31 → ExtractorFault r n p m → m < 25 → NamedRefused b n p m p

abbrev pub stand_numbers : List ℕ → Span → List ℕ
stand_numbers b u = (sample_start b u.sample + u.start) ∷ u.size ∷ []

unfoldable pub joined : List ℕ → List ℕ → List ℕ
joined b [] = []
joined b (start ∷ []) = []
joined b (start ∷ size ∷ ns) = bytes 4 size ++ part b start size ++ joined b ns
