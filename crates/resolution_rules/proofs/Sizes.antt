-- How much a good sample delivers, at most: so that counts and totals fit a word. Assumes nothing.
--
--   sum_most                         a sum of numbers that are at most k
--   size_each                        the output of joined lists
--   copied_most, copied_count        what an extractor delivers: in the output four times the bytes of the sample named at most, and no more units than bytes
--   at_most, at_count                the same for any unit, in a recording whose samples have at most c bytes
--   delivered_most, delivered_count  for the whole sample
use Prim.Native.Nat.{ℕ, ◌+◌, ◌*◌, ◌≤◌}
use mathlib.Core.Path.{◌≡◌, refl, ap, ◌∙◌}
use mathlib.Core.List.{List, [], ◌∷◌, map, Memᴰ}
use native.Mathlib.Omega.{arith}
use native.Mathlib.Nat.{suc-mul, zero-mul, mul-le-mul_right}
use lib.ListN.{length, length-map}
use Rattle.words.specs.Refusals.{ok}
use Rattle.words.specs.Lists.{each, sum}
use Rattle.words.proofs.Tests.{by_bool}
use Rattle.numbers.proofs.Laws.{L_some}
use Rattle.units.specs.Units.{Sample, L, end, size, is_aggregator, is_extractor}
use Rattle.units.specs.Extractors.{data_offset, data_length}
use Rattle.units.specs.Aggregators.{units}
use Rattle.units.proofs.Walks.{units_rise}
use Rattle.samples.specs.Check.{check}
use Rattle.samples.proofs.Laws.{unit_inside}
use Rattle.bundles.specs.Recordings.{Recording, content_of}
use Rattle.copies.specs.Copies.{copied}
use Rattle.copies.proofs.Copied as copy
use Rattle.copies.proofs.Sizes.{copied_size_lem}
use Rattle.words.proofs.Kept.{rising_count}
use Rattle.resolution_rules.specs.Resolving.{Span, span_of, spans_of, own, named, linked, copied_at, delivered_at, delivered}
use Rattle.resolution_rules.specs.Rules.{Extracts, Good}
use Rattle.words.proofs.Joined.{each_length}
use Rattle.resolution_rules.proofs.Delivered.{delivered_unit_lem, delivered_aggregator, delivered_extractor, output_size, size_none, size_one, size_append}
use Rattle.resolution_rules.proofs.Good.{own_length}
use Rattle.resolution_rules.proofs.Exactly.{extractor_mem}

pub sum_most : {A : Type 0} (f : A → ℕ) (k : ℕ) (xs : List A) → ((x : A) → Memᴰ x xs → f x ≤ k) → sum (map f xs) ≤ length xs * k
unfolding sum
sum_most f k [] h = rw (zero-mul k) (omega arith)
sum_most f k (x ∷ xs) h =
    let a = h x (Memᴰ.head refl) in
    let b = sum_most f k xs (λ y m. h y (Memᴰ.tail m)) in
    rw (suc-mul (length xs) k) (omega arith)

pub size_each : {A : Type 0} (f : A → List Span) (xs : List A) → output_size (each f xs) ≡ sum (map (λ x. output_size (f x)) xs)
unfolding each sum
size_each f [] = size_none
size_each f (x ∷ xs) = size_append (f x) (each f xs) ∙ ap (λ (n : ℕ). output_size (f x) + n) (size_each f xs)

-- in the output a unit takes at most four times what it takes in the sample
spans_size : (m : ℕ) (z : Sample) (ps : List ℕ) → output_size (spans_of m z ps) ≤ sum (map (λ q. L z + size z q) ps) * 4
unfolding output_size sum
spans_size m z [] = omega arith
spans_size m z (p ∷ ps) = let below = spans_size m z ps in let l = L_some z.length_size in omega arith

module _ (r : Recording) (n : ℕ) where
  pub copied_most : (p : ℕ) → Extracts r n p → output_size (copied_at r n p) ≤ length (content_of r (named r n p)) * 4
  unfolding copied_at
  copied_most p x =
      let z = linked r n p in
      let a = spans_size (named r n p) z (copied z (data_offset (own r n) p) (data_length (own r n) p)) in
      let b = copied_size_lem z (data_offset (own r n) p) (data_length (own r n) p) x.copy in
      let l = own_length r (named r n p) in
      omega arith

  pub copied_count : (p : ℕ) → Extracts r n p → length (copied_at r n p) ≤ length (content_of r (named r n p))
  unfolding copied_at
  copied_count p x =
      let z = linked r n p in
      let c = copied z (data_offset (own r n) p) (data_length (own r n) p) in
      let a = copy.copied_count z (data_offset (own r n) p) (data_length (own r n) p) x.copy.formed in
      let l = own_length r (named r n p) in
      rw (length-map c (span_of (named r n p) z)) (omega arith)

  -- samples of at most c bytes
  module _ (g : Good r n) (c : ℕ) (most : (m : ℕ) → length (content_of r m) ≤ c) (p : ℕ) (m : Memᴰ p (units (own r n))) where
    pub at_most : output_size (delivered_at r n p) ≤ c * 4
    at_most =
        by_bool (is_aggregator (own r n) p)
        (λ a. rw (delivered_aggregator r n p a, size_none) (omega arith))
        (λ a. by_bool (is_extractor (own r n) p)
        (λ e. let k = copied_most p (g.extracts p (extractor_mem r n p m e)) in let b = most (named r n p) in rw (delivered_extractor r n p e) (omega arith))
        (λ e.
        let i = unit_inside (own r n) g.formed p m in
        let l = own_length r n in
        let b = most n in
        let s = L_some (own r n).length_size in
        rw (delivered_unit_lem r n p a e, size_one (span_of n (own r n) p)) (omega arith)))

    pub at_count : length (delivered_at r n p) ≤ c
    at_count =
        by_bool (is_aggregator (own r n) p)
        (λ a. rw (delivered_aggregator r n p a) (omega arith))
        (λ a. by_bool (is_extractor (own r n) p)
        (λ e. let k = copied_count p (g.extracts p (extractor_mem r n p m e)) in let b = most (named r n p) in rw (delivered_extractor r n p e) (omega arith))
        (λ e.
        let i = unit_inside (own r n) g.formed p m in
        let l = own_length r n in
        let b = most n in
        rw (delivered_unit_lem r n p a e) (omega arith)))

  pub units_count : check (own r n) ≡ ok tt → length (units (own r n)) ≤ length (content_of r n)
  units_count e =
      let h = rising_count 0 (end (own r n)) (units (own r n)) (units_rise (own r n)) (λ q m. (omega arith, (unit_inside (own r n) e q m).0)) in
      let l = own_length r n in
      omega arith

  module _ (g : Good r n) (c : ℕ) (most : (m : ℕ) → length (content_of r m) ≤ c) where
    pub delivered_most : output_size (delivered r n) ≤ c * (c * 4)
    unfolding delivered
    delivered_most =
        let a = sum_most (λ p. output_size (delivered_at r n p)) (c * 4) (units (own r n)) (at_most g c most) in
        let b = units_count g.formed in
        let d = most n in
        let few : length (units (own r n)) ≤ c = omega arith in
        let k = mul-le-mul_right (c * 4) few in
        rw (size_each (delivered_at r n) (units (own r n))) (omega arith)

    pub delivered_count : length (delivered r n) ≤ c * c
    unfolding delivered
    delivered_count =
        let a = sum_most (λ p. length (delivered_at r n p)) c (units (own r n)) (at_count g c most) in
        let b = units_count g.formed in
        let d = most n in
        let few : length (units (own r n)) ≤ c = omega arith in
        let k = mul-le-mul_right c few in
        rw (each_length (delivered_at r n) (units (own r n))) (omega arith)
