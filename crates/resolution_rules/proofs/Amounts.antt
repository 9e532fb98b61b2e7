-- The bytes that a sample delivers, own and copied, as sums over all its units. Assumes nothing.
--
--   sum_keep, sum_add, sum_same                                              sums over some elements, of two sums, of equal numbers
--   size_total                                                               the length of the output by the bytes of its units
--   total_each                                                               the bytes of joined lists
--   own_at, copied_size_at                                                   the own bytes and the copied bytes that the unit at p delivers
--   own_unit, own_aggregator, own_extractor, copied_other, copied_extractor  by what it is
--   own_sum, copied_sum                                                      own and copied bytes as sums over all units
--   delivered_bytes                                                          own and copied bytes are all that is delivered
--   delivered_size, output_bytes                                             so the length of the output, of a good sample: 4 more for each unit
use Prim.Native.Nat.{ℕ, ◌+◌, ◌*◌}
use mathlib.Core.Path.{◌≡◌, refl, ◌∙◌}
use mathlib.Core.List.{List, [], ◌∷◌, map}
use mathlib.Core.Bool.{Bool, true, false}
use native.Mathlib.Omega.{arith}
use lib.ListN.{length}
use Rattle.words.specs.Tests.{pick}
use Rattle.words.specs.Refusals.{ok}
use Rattle.words.specs.Lists.{keep, each, sum}
use Rattle.words.proofs.Tests.{by_bool}
use Rattle.words.proofs.Entries.{sum_append, map_append}
use Rattle.units.specs.Units.{size, is_aggregator, is_extractor}
use Rattle.units.specs.Aggregators.{units, extractors}
use Rattle.bundles.specs.Recordings.{Recording}
use Rattle.copies.specs.Written.{length_before}
use Rattle.resolution_rules.specs.Resolving.{Span, own, copied_at, delivered_at, delivered, judged}
use Rattle.resolution_rules.specs.Calls.{output}
use Rattle.resolution_rules.specs.Amounts.{total_size, delivers_itself, own_bytes, copied_bytes, resolved_size}
use Rattle.resolution_rules.proofs.Delivered.{extractor_only, aggregator_only, delivered_unit_lem, delivered_aggregator, delivered_extractor, output_size, output_length}
use Rattle.resolution_rules.proofs.Good.{good_rules}
use Rattle.resolution_rules.proofs.Exactly.{delivered_plain}

-- sums
module _ {A : Type 0} where
  pub sum_keep : (t : A → Bool) (f : A → ℕ) (xs : List A) → sum (map f (keep t xs)) ≡ sum (map (λ x. pick (t x) (f x) 0) xs)
  unfolding keep sum
  sum_keep t f [] = refl
  sum_keep t f (x ∷ xs) = let below = sum_keep t f xs in by_bool (t x) (λ q. rw (q, below)) (λ q. rw (q, below) (omega arith))

  pub sum_add : (f g : A → ℕ) (xs : List A) → sum (map (λ x. f x + g x) xs) ≡ sum (map f xs) + sum (map g xs)
  unfolding sum
  sum_add f g [] = refl
  sum_add f g (x ∷ xs) = let below = sum_add f g xs in omega arith

  pub sum_same : (f g : A → ℕ) → ((x : A) → f x ≡ g x) → (xs : List A) → sum (map f xs) ≡ sum (map g xs)
  unfolding sum
  sum_same f g h [] = refl
  sum_same f g h (x ∷ xs) = let below = sum_same f g h xs in let e = h x in omega arith

  pub total_each : (f : A → List Span) (xs : List A) → total_size (each f xs) ≡ sum (map (λ x. total_size (f x)) xs)
  unfolding each sum total_size
  total_each f [] = refl
  total_each f (x ∷ xs) =
      rw (map_append (λ (u : Span). u.size) (f x) (each f xs), sum_append (map (λ (u : Span). u.size) (f x)) (map (λ (u : Span). u.size) (each f xs)))
      (let below = total_each f xs in omega arith)

pub size_total : (us : List Span) → output_size us ≡ total_size us + length_before * length us
unfolding output_size total_size sum
size_total [] = refl
size_total (u ∷ us) = let below = size_total us in omega arith

module _ (r : Recording) (n : ℕ) where
  -- what the unit at p delivers
  unfoldable pub own_at : ℕ → ℕ
  own_at p = pick (delivers_itself r n p) (size (own r n) p) 0

  unfoldable pub copied_size_at : ℕ → ℕ
  copied_size_at p = pick (is_extractor (own r n) p) (total_size (copied_at r n p)) 0

  pub own_unit : (p : ℕ) → is_aggregator (own r n) p ≡ false → is_extractor (own r n) p ≡ false → own_at p ≡ size (own r n) p
  unfolding own_at
  own_unit p a e = rw (a, e)

  pub own_aggregator : (p : ℕ) → is_aggregator (own r n) p ≡ true → own_at p ≡ 0
  unfolding own_at
  own_aggregator p a = rw a

  pub own_extractor : (p : ℕ) → is_extractor (own r n) p ≡ true → own_at p ≡ 0
  unfolding own_at
  own_extractor p e = rw (extractor_only (own r n) p e, e)

  pub copied_other : (p : ℕ) → is_extractor (own r n) p ≡ false → copied_size_at p ≡ 0
  unfolding copied_size_at
  copied_other p e = rw e

  pub copied_extractor : (p : ℕ) → is_extractor (own r n) p ≡ true → copied_size_at p ≡ total_size (copied_at r n p)
  unfolding copied_size_at
  copied_extractor p e = rw e

  pub own_sum : own_bytes r n ≡ sum (map own_at (units (own r n)))
  unfolding own_bytes own_at
  own_sum = sum_keep (delivers_itself r n) (size (own r n)) (units (own r n))

  pub copied_sum : copied_bytes r n ≡ sum (map copied_size_at (units (own r n)))
  unfolding copied_bytes copied_size_at extractors
  copied_sum = sum_keep (is_extractor (own r n)) (λ p. total_size (copied_at r n p)) (units (own r n))

  at_bytes : (p : ℕ) → total_size (delivered_at r n p) ≡ own_at p + copied_size_at p
  at_bytes p =
      by_bool (is_aggregator (own r n) p)
      (λ a. rw (delivered_aggregator r n p a, own_aggregator p a, copied_other p (aggregator_only (own r n) p a)) (unfold total_size sum in refl))
      (λ a. by_bool (is_extractor (own r n) p)
      (λ e. rw (delivered_extractor r n p e, own_extractor p e, copied_extractor p e) (omega arith))
      (λ e. rw (delivered_unit_lem r n p a e, own_unit p a e, copied_other p e) (unfold total_size sum in omega arith)))

  pub delivered_bytes : total_size (delivered r n) ≡ own_bytes r n + copied_bytes r n
  unfolding delivered
  delivered_bytes =
      total_each (delivered_at r n) (units (own r n))
      ∙ sum_same (λ p. total_size (delivered_at r n p)) (λ p. own_at p + copied_size_at p) at_bytes (units (own r n))
      ∙ sum_add own_at copied_size_at (units (own r n))
      ∙ rw (own_sum, copied_sum)

  pub delivered_size : output_size (delivered r n) ≡ resolved_size r n
  delivered_size = rw (size_total (delivered r n), delivered_bytes)

  pub output_bytes : judged r n ≡ ok tt → length (output r (delivered r n)) ≡ resolved_size r n
  output_bytes g = output_length r (delivered r n) (λ u m. (delivered_plain r n (good_rules r n g) u m).inside) ∙ delivered_size
