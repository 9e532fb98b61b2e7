-- Request [5] of document 02, 'Finding the base sample by halving', nearly in its words, as theorems in plain facts. The proofs
-- stand in crates/links/proofs (Halving, Links, Order) and in crates/promise_rules/proofs/SearchLaws. Assumes nothing.
--
--   halving passes low high  the search when the numbers after low, up to high, are left: what it finds, and its rounds; a
--                            number passes if the sample that has it is at or before
--   binary_digits n          how many binary digits n has (both crates/links/specs/Halving)
--   base_search y n k        the search for the base of sample n in track k (the same, Links); the public function that
--                            searches, `find_base` of crates/links, answers with it, for any table
--   Sampled y m k            m is a sample of track k (promise_rules/specs/Resolving)
--   BaseOf y n k c           c is the last sample of track k at or before sample n (the same)
--   TimesRiseIn y k          within track k times strictly rise (the same)
--
-- No other answer on a bundle changes. A refused bundle has no base. In an accepted one the sample named, 23 and 24 are what a
-- scan of the linked track gives, as they were (`named_by_scan`, `fault_by_scan`), and no other definition of an answer uses the
-- base. Demands, Contents and Request01 to Request04 stay by text; where they speak of the base they do by `BaseOf`: what
-- resolving, units, audit lines, naming lists, byte streams and the sample named are (`resolved_exactly`, `resolve_refused`,
-- `unit_gives`, `line_each`, `listed_exactly` of Demands, `stream_exactly` of Request02, `named_exactly` of Contents). Of a table
-- whose times do not rise, which no accepted bundle gives, another sample may be named than before.
use Rattle.std.specs.Prelude.{ℕ, ◌+◌, ◌-◌, ◌^◌, ◌≤◌, ◌<◌, ◌≡◌, refl, Bool, true, false, List, [], ◌∷◌, ◌⊎◌, ◌↔◌, length}
use Rattle.words.specs.Tests.{◌≤?◌, ◌≡?◌, ◌when◌else◌}
use Rattle.words.specs.RefusalNumbers.{no_sample_named}
use Rattle.words.specs.Refusals.{ok, ◌if◌, ◌or_else◌}
use Rattle.words.specs.Lists.{nth, last_that}
use Rattle.bundles.specs.Recordings.{Layout, Recording, sample_count, time_of, samples_in}
use Rattle.bundles.specs.Readers.{first_layout}
use Rattle.links.specs.declared.SearchResult.{SearchResult}
use Rattle.links.specs.Halving.{middle, halving_in, halving, binary_digits}
use Rattle.links.specs.Links.{signed, stepped, link_fault, linked_track, base_search, sample_named, name_fault}
use Rattle.links.proofs.Halving as search
use Rattle.links.proofs.Links as links
use Rattle.links.proofs.Order as order
use Rattle.resolution_rules.proofs.Readers.{first_layout_sound}
use Rattle.promise_rules.specs.Resolving.{Sampled, BaseOf, TimesRiseIn}
use Rattle.promise_rules.proofs.SearchLaws as laws

-- Each round compares the middle of those left, the earlier of two: as many stand before it as after it, or one fewer
module _ (low high : ℕ) (some : low < high) where
  pub middle_among : (low < middle low high) × (middle low high ≤ high)
  middle_among = search.middle_among low high some

  pub middle_earlier :
      (middle low high - (low + 1) ≡ high - middle low high) ⊎ (middle low high - (low + 1) + 1 ≡ high - middle low high)
  middle_earlier = search.middle_earlier low high some

module _ (passes : ℕ → Bool) where
  -- till none is left. These three say what every search finds, and its rounds: whether a time is equal plays no part
  pub none_left : (low high : ℕ) → high ≤ low → halving passes low high ≡ record { found = low; rounds = 0 }
  none_left = search.none_left passes

  module _ (low high : ℕ) (some : low < high) where
    pub those_after :
        passes (middle low high) ≡ true → let left = halving passes (middle low high) high in
        halving passes low high ≡ record { found = left.found; rounds = left.rounds + 1 }
    those_after = search.those_after passes low high some

    pub those_before :
        passes (middle low high) ≡ false → let left = halving passes low (middle low high - 1) in
        halving passes low high ≡ record { found = left.found; rounds = left.rounds + 1 }
    those_before = search.those_before passes low high some

  -- the rounds of a search among 1 to n: at most the binary digits of n, and just so many where every number passes; at least the
  -- binary digits of n + 1, less one
  module _ (n : ℕ) where
    pub rounds_at_most : (halving passes 0 n).rounds ≤ binary_digits n
    rounds_at_most = search.rounds_at_most passes n

    pub rounds_reached : ((i : ℕ) → 0 < i → i ≤ n → passes i ≡ true) → (halving passes 0 n).rounds ≡ binary_digits n
    rounds_reached = search.rounds_reached passes n

    pub rounds_at_least : binary_digits (n + 1) ≤ (halving passes 0 n).rounds + 1
    rounds_at_least = search.rounds_at_least passes n

-- binary_digits n is the least d with n below 2 to the power d
pub digits_exactly : (n d : ℕ) → (binary_digits n ≡ d) ↔ ((n < 2 ^ d) × ((e : ℕ) → e < d → 2 ^ e ≤ n))
digits_exactly = search.digits_exactly

pub digits_given : (binary_digits 0 ≡ 0) × (binary_digits 4095 ≡ 12) × (binary_digits 4096 ≡ 13)
unfolding binary_digits
digits_given = (refl, refl, refl)

-- Of any table: the search compares the times of the track's samples with the own one, by their numbers within the track; 0 is no
-- track. Its rounds are at most the binary digits of how many samples the track has. The sample named is sample_offset steps from
-- what it finds in the linked track
module _ (y : Layout) (n : ℕ) where
  pub searched :
      {k : ℕ} → (k ≡ 0 → ⊥) →
      base_search y n k ≡ halving (λ i. time_of y (nth (samples_in y k) i 0) ≤? time_of y n) 0 (length (samples_in y k))
  searched = links.searched y n

  pub search_without_track : base_search y n 0 ≡ record { found = 0; rounds = 0 }
  search_without_track = links.search_without_track y n refl

  pub search_rounds : (k : ℕ) → (base_search y n k).rounds ≤ binary_digits (length (samples_in y k))
  search_rounds = links.search_rounds y n

  pub named_by_search :
      (index offset : ℕ) → let k = linked_track y n index in let b = (base_search y n k).found in
      sample_named y n index offset ≡ (0 when b ≡? 0 else nth (samples_in y k) (stepped b (signed offset)) 0)
  named_by_search = links.named_by_search y n

-- Where the times of a track rise, what is found is its last sample at or before, by its number within the track; 0 is none
module _ (y : Layout) (n k : ℕ) (some : k ≡ 0 → ⊥) (rises : TimesRiseIn y k) where
  abbrev found : ℕ
  found = (base_search y n k).found

  pub base_exactly : (c : ℕ) → ((0 < found) × (nth (samples_in y k) found 0 ≡ c)) ↔ BaseOf y n k c
  base_exactly = laws.base_exactly y n k some rises

  pub base_missing : (found ≡ 0) ↔ ((m : ℕ) → Sampled y m k → time_of y n < time_of y m)
  base_missing = laws.base_missing y n k some rises

-- which they do in every accepted bundle
module _ (b : List ℕ) (r : Recording) (accepted : first_layout.means b ≡ ok r) where
  pub track_rises : (k : ℕ) → TimesRiseIn r.layout k
  track_rises = laws.track_rises b r accepted

  -- there a search in the linked track takes at most 12 rounds: it has at most 4,095 samples, since the own sample is in another
  pub twelve_rounds :
      (n index : ℕ) → 0 < n → n ≤ sample_count r.layout →
      (base_search r.layout n (linked_track r.layout n index)).rounds ≤ 12
  twelve_rounds = laws.twelve_rounds b r accepted

  -- and there an extractor names what it named: sample_offset steps from the last sample at or before, found by a scan
  module _ (n index offset : ℕ) where
    abbrev linked : List ℕ
    linked = samples_in r.layout (linked_track r.layout n index)

    abbrev last : ℕ
    last = last_that (λ m. time_of r.layout m ≤? time_of r.layout n) linked

    abbrev scanned : ℕ
    scanned = 0 when last ≡? 0 else nth linked (stepped last (signed offset)) 0

    pub named_by_scan : sample_named r.layout n index offset ≡ scanned
    named_by_scan = order.named_by_scan r.layout (first_layout_sound.rise b r accepted) n index offset

    pub fault_by_scan :
        name_fault r.layout n index offset ≡ (link_fault r.layout n index or_else no_sample_named if scanned ≡? 0)
    fault_by_scan = order.fault_by_scan r.layout (first_layout_sound.rise b r accepted) n index offset

-- In numbers, of the answers given with the request (vectors/request-5.txt, where indexes count from 0): among samples of these
-- times, for an own time, the number found, from 1, 0 for none, and the rounds
abbrev among : List ℕ → ℕ → SearchResult
among times own = halving (λ i. nth times i 0 ≤? own) 0 (length times)

abbrev gives : ℕ → ℕ → SearchResult
gives found rounds = record { found = found; rounds = rounds }

pub in_numbers :
    (among [] 0 ≡ gives 0 0) × (among (5 ∷ []) 0 ≡ gives 0 1) × (among (0 ∷ []) 2 ≡ gives 1 1)
    × (among (5 ∷ 7 ∷ []) 0 ≡ gives 0 1) × (among (0 ∷ 1 ∷ []) 0 ≡ gives 1 2) × (among (0 ∷ 1 ∷ []) 9 ≡ gives 2 2)
    × (among (5 ∷ 7 ∷ 9 ∷ []) 9 ≡ gives 3 2) × (among (5 ∷ 12 ∷ 13 ∷ []) 13 ≡ gives 3 2)
    × (among (0 ∷ 7 ∷ 8 ∷ 15 ∷ []) 8 ≡ gives 3 3) × (among (5 ∷ 6 ∷ 13 ∷ 14 ∷ []) 0 ≡ gives 0 2)
    × (among (5 ∷ 6 ∷ 8 ∷ 15 ∷ []) 8 ≡ gives 3 3) × (among (5 ∷ 7 ∷ 8 ∷ 15 ∷ 16 ∷ []) 6 ≡ gives 1 3)
    × (among (5 ∷ 12 ∷ 19 ∷ 20 ∷ 22 ∷ 23 ∷ 24 ∷ []) 19 ≡ gives 3 3)
    × (among (0 ∷ 1 ∷ 3 ∷ 4 ∷ 5 ∷ 7 ∷ 14 ∷ 15 ∷ []) 0 ≡ gives 1 3)
    × (among (5 ∷ 6 ∷ 7 ∷ 14 ∷ 21 ∷ 22 ∷ 29 ∷ 30 ∷ []) 31 ≡ gives 8 4)
    × (among (5 ∷ 7 ∷ 14 ∷ 15 ∷ 22 ∷ 23 ∷ 24 ∷ 25 ∷ 32 ∷ []) 22 ≡ gives 5 3)
    × (among (0 ∷ 1 ∷ 2 ∷ 3 ∷ 4 ∷ 5 ∷ 12 ∷ 19 ∷ 26 ∷ 33 ∷ 34 ∷ 35 ∷ 36 ∷ 38 ∷ 39 ∷ []) 1 ≡ gives 2 4)
    × (among (5 ∷ 7 ∷ 8 ∷ 10 ∷ 12 ∷ 14 ∷ 15 ∷ 22 ∷ 23 ∷ 24 ∷ 31 ∷ 32 ∷ 34 ∷ 41 ∷ 42 ∷ 43 ∷ []) 15 ≡ gives 7 4)
    × (among (0 ∷ 1 ∷ 8 ∷ 9 ∷ 10 ∷ 17 ∷ 19 ∷ 20 ∷ 27 ∷ 29 ∷ 36 ∷ 43 ∷ 44 ∷ 51 ∷ 52 ∷ 54 ∷ []) 0 ≡ gives 1 4)
unfolding halving_in nth
in_numbers = (refl, refl, refl, refl, refl, refl, refl, refl, refl, refl, refl, refl, refl, refl, refl, refl, refl, refl, refl)
