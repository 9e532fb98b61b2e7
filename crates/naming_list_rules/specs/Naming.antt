-- The naming list of a sample (01, 'Audit and naming list').
--
--   names_sample r s n p        whether the extractor at p of sample n names sample s
--   namers_in r s n             the extractors of sample n that name s
--   Namer                       an extractor: its own sample, and its place there
--   naming_list r s             all that name s, by sample and then place
--   list_bytes es               the list as it is written
--   names r s                   the call on a recording: 30, or the list
--   names_call reader b s room  the call on a bundle, with room for the list: 1 to 13, 30, 29, or the list
use Rattle.std.specs.Prelude.{ℕ, ◌+◌, List, [], ◌++◌, map, Bool, ◌&&◌}
use Rattle.words.specs.Tests.{◌≡?◌, pick}
use Rattle.words.specs.Refusals.{Answer, ok}
use Rattle.words.specs.Lists.{keep, each, upto}
use Rattle.words.specs.Bytes.{bytes}
use Rattle.words.specs.Buffers.{within}
use Rattle.numbers.specs.Places.{place_size}
use Rattle.units.specs.Aggregators.{extractors}
use Rattle.samples.specs.Check.{well_formed}
use Rattle.bundles.specs.Recordings.{Recording, sample_count}
use Rattle.bundles.specs.Readers.{Reader}
use Rattle.resolution_rules.specs.Resolving.{sample_of, named, name_fault_at}
use Rattle.resolution_rules.specs.Calls.{on_sample, on_bundle}

-- An extractor of the list: the number of its own sample, and its place, an offset in that sample.
pub record Namer : Type 0 where
  pub sample : ℕ
  pub place : ℕ

abbrev pub namer : ℕ → ℕ → Namer
namer n p = record { sample = n; place = p }

-- An extractor, top-level or included, names sample s exactly when its own sample is well formed, neither 23 nor 24 holds for it, judged
-- by itself, and s is its sample named; 25 to 28 don't count.
module _ (r : Recording) (s : ℕ) where
  abbrev pub names_sample : ℕ → ℕ → Bool
  names_sample n p = (name_fault_at r n p ≡? 0) && (named r n p ≡? s)

  unfoldable pub namers_in : ℕ → List ℕ
  namers_in n = pick (well_formed (sample_of r n)) (keep (names_sample n) (extractors (sample_of r n))) []

  unfoldable pub naming_list : List Namer
  naming_list = each (λ n. map (namer n) (namers_in n)) (upto (sample_count r.layout))

-- 6 bytes an extractor: sample number, place
abbrev pub sample_size : ℕ
sample_size = 2

abbrev pub list_entry_size : ℕ
list_entry_size = sample_size + place_size

abbrev pub entry_bytes : Namer → List ℕ
entry_bytes e = bytes sample_size e.sample ++ bytes place_size e.place

unfoldable pub list_bytes : List Namer → List ℕ
list_bytes es = each entry_bytes es

unfoldable pub names : Recording → ℕ → Answer (List ℕ)
names r s = on_sample r s (ok (list_bytes (naming_list r s)))

unfoldable pub names_call : Reader → List ℕ → ℕ → ℕ → Answer (List ℕ)
names_call reader b s room = within room (on_bundle reader b (λ r. names r s))
