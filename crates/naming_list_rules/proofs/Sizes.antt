-- How long a naming list is, at most. The idea: extractors are no aggregators, so they do not overlap, and each takes more bytes of its sample
-- than its entry takes of the list. Assumes nothing.
--
--   sum_least, sum_within    a sum of numbers that are at least k; two sums, number by number
--   extractors_apart         in a well-formed sample each extractor ends before the next one starts
--   extractor_bytes          each takes, with its length field, at least the bytes of an entry
--   extractors_fit           so the entries of all of them are no longer than the sample
--   namers_fit               the entries of one sample in the list are no longer than its bytes
--   list_fits                the list is no longer than the bytes of all samples
--   list_in_bundle           nor than a bundle that means the recording
use Prim.Native.Nat.{ℕ, ◌+◌, ◌*◌, ◌≤◌}
use mathlib.Core.Path.{◌≡◌, refl, ap, sym, ◌∙◌}
use mathlib.Core.List.{List, [], ◌∷◌, map, Memᴰ}
use mathlib.Core.Bool.{Bool, true, not}
use native.Mathlib.Omega.{arith}
use native.Mathlib.Nat.{suc-mul, zero-mul}
use native.Mathlib.Numerals.{add-one}
use lib.ListN.{length, length-map}
use Rattle.words.specs.Refusals.{ok}
use Rattle.words.specs.Lists.{keep, nth, upto, sum}
use Rattle.words.proofs.Tests.{by_bool}
use Rattle.words.proofs.Lists.{keep_from, Rising, rising_keep}
use Rattle.words.proofs.Entries.{map_at}
use Rattle.words.proofs.Joined.{each_length}
use Rattle.words.proofs.Kept.{keep_all, keep_keep, keep_few}
use Rattle.words.proofs.Rows.{map_upto}
use Rattle.numbers.specs.Sizes.{extractor_size}
use Rattle.numbers.proofs.Laws.{L_some}
use Rattle.units.specs.Units.{Sample, L, end, size, is_aggregator, is_extractor}
use Rattle.units.specs.Aggregators.{units, extractors}
use Rattle.units.proofs.Walks.{Before, units_from}
use Rattle.samples.specs.Check.{check, well_formed}
use Rattle.samples.proofs.Laws.{rules, formed_ok, unit_inside}
use Rattle.bundles.specs.Recordings.{Recording, sample_count, content_of}
use Rattle.bundles.specs.Bundles.{meaning}
use Rattle.bundles.proofs.Promises.{samples_tile, samples_all, sum_exact}
use Rattle.copies.specs.Copies.{without_aggregators}
use Rattle.copies.proofs.Sizes.{units_apart, sizes_fit}
use Rattle.resolution_rules.specs.Resolving.{sample_of}
use Rattle.resolution_rules.proofs.Delivered.{extractor_only}
use Rattle.resolution_rules.proofs.Good.{own_length}
use Rattle.naming_list_rules.specs.Naming.{namer, names_sample, namers_in, naming_list, list_entry_size}

-- sums
module _ {A : Type 0} where
  pub sum_least : (f : A → ℕ) (k : ℕ) (xs : List A) → ((x : A) → Memᴰ x xs → k ≤ f x) → length xs * k ≤ sum (map f xs)
  unfolding sum
  sum_least f k [] h = rw (zero-mul k) (omega arith)
  sum_least f k (x ∷ xs) h =
      let a = h x (Memᴰ.head refl) in
      let below = sum_least f k xs (λ y m. h y (Memᴰ.tail m)) in
      rw (suc-mul (length xs) k) (omega arith)

  pub sum_within : (f g : A → ℕ) → ((x : A) → f x * list_entry_size ≤ g x) → (xs : List A) → sum (map f xs) * list_entry_size ≤ sum (map g xs)
  unfolding sum
  sum_within f g h [] = omega arith
  sum_within f g h (x ∷ xs) = let a = h x in let below = sum_within f g h xs in omega arith

-- a well-formed sample
module _ (x : Sample) (e : check x ≡ ok tt) where
  pub extractors_apart : Rising (Before x) (extractors x)
  unfolding extractors
  extractors_apart =
      let plain : ℕ → Bool = λ p. not (is_aggregator x p) in
      let same : keep (is_extractor x) (without_aggregators x (units x)) ≡ keep (is_extractor x) (units x) =
      keep_keep (is_extractor x) plain (units x)
      ∙ keep_all plain (keep (is_extractor x) (units x)) (λ p m. rw (extractor_only x p (keep_from (is_extractor x) (units x) m).1)) in
      rw (← same) (rising_keep (Before x) (is_extractor x) (without_aggregators x (units x)) (units_apart x e))

  -- 22
  extractor_size_lem : (p : ℕ) → Memᴰ p (units x) → is_extractor x p ≡ true → size x p ≡ extractor_size x.length_size
  extractor_size_lem p m = units_from x p m (λ k. (rules x e).extractors p k) (λ o k t h. ((rules x e).inside o p k t h).extractor)

  pub extractor_bytes : (p : ℕ) → Memᴰ p (extractors x) → list_entry_size ≤ L x + size x p
  unfolding extractors
  extractor_bytes p m =
      let k = keep_from (is_extractor x) (units x) m in
      let s = extractor_size_lem p k.0 k.1 in
      let l = L_some x.length_size in
      omega arith

  pub extractors_fit : length (extractors x) * list_entry_size ≤ end x
  extractors_fit =
      let a = sum_least (λ p. L x + size x p) list_entry_size (extractors x) extractor_bytes in
      let b = sizes_fit x 0 (end x) (extractors x) (omega arith) extractors_apart
      (λ p m. (omega arith, (unit_inside x e p (unfold extractors in (keep_from (is_extractor x) (units x) m).0)).1)) in
      omega arith

module _ (r : Recording) (s : ℕ) where
  pub namers_fit : (n : ℕ) → length (namers_in r s n) * list_entry_size ≤ length (content_of r n)
  unfolding namers_in
  namers_fit n = by_bool (well_formed (sample_of r n))
      (λ q.
      let a = keep_few (names_sample r s n) (extractors (sample_of r n)) in
      let b = extractors_fit (sample_of r n) (formed_ok (sample_of r n) q) in
      let l = own_length r n in
      rw q (omega arith))
      (λ q. rw q (omega arith))

  -- each sample of the layout has its bytes, and there are no others
  module _ (all : length r.contents ≡ sample_count r.layout) where
    content_lengths_lem : map (λ n. length (content_of r n)) (upto (sample_count r.layout)) ≡ map (λ c. length c) r.contents
    unfolding nth
    content_lengths_lem = map_upto (λ n. length (content_of r n)) (map (λ c. length c) r.contents) 0 (sample_count r.layout)
        (sym all ∙ sym (length-map r.contents (λ c. length c)))
        (λ i h. ap (λ (k : ℕ). length (content_of r k)) (add-one i) ∙ sym (map_at (λ c. length c) r.contents i [] 0 (omega arith)))

    pub list_fits : length (naming_list r s) * list_entry_size ≤ sum (map (λ c. length c) r.contents)
    unfolding naming_list
    list_fits =
        rw (each_length (λ n. map (namer n) (namers_in r s n)) (upto (sample_count r.layout)), ← content_lengths_lem)
        (sum_within (λ n. length (map (namer n) (namers_in r s n))) (λ n. length (content_of r n))
        (λ n. rw (length-map (namers_in r s n) (namer n)) (namers_fit n))
        (upto (sample_count r.layout)))

pub list_in_bundle : (b : List ℕ) (r : Recording) → meaning b ≡ ok r → (s : ℕ) → length (naming_list r s) * list_entry_size ≤ length b
list_in_bundle b r e s =
    let a = list_fits r s (samples_all b r e) in
    let c = ap sum (samples_tile b r e).content_lengths in
    let z = (sum_exact b r e).1 in
    omega arith
