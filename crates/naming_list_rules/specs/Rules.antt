-- The rules of the naming list in plain facts, in which the promises of proofs/Promises are stated.
--
--   Names r s n p               the extractor at p of sample n names sample s
--   Before                      the order of the list: by sample, then place
--   times_listed r s n p        how often the extractor at p of sample n stands in the list of s
--   Unlisted r s n              no extractor of sample n is in the list of s
--   Kept r after n              sample n is in one recording as in another
--   NamesAnswers, NamesRefuses  when the naming call answers, and when it is refused
--   SameAnswer                  two calls that returned the same number, place and count, and wrote the same bytes up to that count
use Rattle.std.specs.Prelude.{ℕ, ◌*◌, ◌≤◌, ◌<◌, ◌≡◌, List, Bool, ◌&&◌, ◌⊎◌, length, take}
use Rattle.words.specs.Tests.{◌≡?◌}
use Rattle.words.specs.RefusalNumbers.{output_too_long, no_such_number}
use Rattle.words.specs.Refusals.{Answer, refused, ok, number_of, place_of, count_of}
use Rattle.words.specs.Lists.{keep, ◌∈◌}
use Rattle.units.specs.Aggregators.{extractors}
use Rattle.samples.specs.Check.{check}
use Rattle.bundles.specs.Recordings.{Recording, sample_count}
use Rattle.bundles.specs.Readers.{Reader}
use Rattle.resolution_rules.specs.Resolving.{sample_of, named, name_fault_at, delivered, judged}
use Rattle.resolution_rules.specs.Calls.{output}
use Rattle.naming_list_rules.specs.Naming.{Namer, namer, naming_list, list_entry_size, list_bytes}

-- Whatever 25 to 28 say, and whatever the other extractors of its sample are.
pub record Names (r : Recording) (s n p : ℕ) : Type 0 where
  pub some : 0 < n
  pub there : n ≤ sample_count r.layout
  pub formed : check (sample_of r n) ≡ ok tt
  pub extractor : p ∈ extractors (sample_of r n)
  -- neither 23 nor 24
  pub names_some : name_fault_at r n p ≡ 0
  pub names : named r n p ≡ s

abbrev pub Before : Namer → Namer → Type 0
Before a b = (a.sample < b.sample) ⊎ ((a.sample ≡ b.sample) × (a.place < b.place))

-- how often the extractor at p of sample n stands in the list of s
abbrev pub is_namer : ℕ → ℕ → Namer → Bool
is_namer n p e = (e.sample ≡? n) && (e.place ≡? p)

abbrev pub times_listed : Recording → ℕ → ℕ → ℕ → ℕ
times_listed r s n p = length (keep (is_namer n p) (naming_list r s))

abbrev pub Unlisted : Recording → ℕ → ℕ → Type 0
Unlisted r s n = (p : ℕ) → namer n p ∈ naming_list r s → ⊥

-- Sample n itself, and so whether it is well formed; its refusals 14 to 28; and of a good sample the units and the bytes that it delivers.
pub record Kept (r after : Recording) (n : ℕ) : Type 0 where
  pub sample : sample_of after n ≡ sample_of r n
  pub formed : check (sample_of after n) ≡ check (sample_of r n)
  pub verdict : judged after n ≡ judged r n
  pub units : judged r n ≡ ok tt → delivered after n ≡ delivered r n
  pub bytes : judged r n ≡ ok tt → output after (delivered after n) ≡ output r (delivered r n)

-- the naming call on sample s of the bundle b, with room for the list
module _ (reader : Reader) (b : List ℕ) (s room : ℕ) where
  pub record NamesAnswers (out : List ℕ) : Type 0 where
    pub recording : Recording
    pub means : reader.means b ≡ ok recording
    pub some : 0 < s
    pub there : s ≤ sample_count recording.layout
    pub lists : out ≡ list_bytes (naming_list recording s)
    pub fits : length out ≤ room

  -- the bundle's own refusal, 30, 29: never 14 to 28
  pub data NamesRefuses : ℕ → ℕ → Type 0 where
    bundle : {m p : ℕ} → reader.means b ≡ refused m p → NamesRefuses m p
    number : (r : Recording) → reader.means b ≡ ok r → (s ≡ 0) ⊎ (sample_count r.layout < s) → NamesRefuses no_such_number 0
    too_long :
        (r : Recording) → reader.means b ≡ ok r → 0 < s → s ≤ sample_count r.layout →
        room < length (naming_list r s) * list_entry_size → NamesRefuses output_too_long 0

-- what two calls returned, and what they left in the buffers lent to them
pub record SameAnswer (a a' : Answer ℕ) (out out' : List ℕ) : Type 0 where
  pub number : number_of a ≡ number_of a'
  pub place : place_of a ≡ place_of a'
  pub count : count_of a ≡ count_of a'
  pub bytes : take (count_of a) out ≡ take (count_of a) out'
