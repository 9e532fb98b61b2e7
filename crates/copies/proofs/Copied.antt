-- What a copy has, and what is copied. Assumes nothing.
--
--   copy_rules, rules_copy  a copy without 25 to 28 follows the rules, both ways
--   copy_refusal            a refusal is 25 to 28
--   copied_exact            what is copied: all units of the sample that lie in the copy, but aggregators
--   copied_unit_lem         a copied unit is a unit of the sample, no aggregator
--   copied_count            no more units than bytes
use Prim.Native.Nat.{ℕ, ◌≤◌, ◌<◌}
use mathlib.Core.Path.{◌≡◌, refl}
use mathlib.Core.List.{Memᴰ}
use mathlib.Core.Bool.{false, not, ◌&&◌}
use native.Mathlib.Omega.{arith}
use borrow.Author.Tests.{not-true, not-false}
use lib.ListN.{length}
use Rattle.words.specs.Tests.{◌≤?◌, ◌<?◌}
use Rattle.words.specs.Refusals.{ok}
use Rattle.words.specs.RefusalNumbers.{named_ill_formed, bad_data_offset, bad_data_length, extractor_copied, copy_refusals}
use Rattle.words.specs.Lists.{keep, some}
use Rattle.words.proofs.Refusals.{if_none, or_else_none, NoneOr, none_or_if, none_or_or_else}
use Rattle.words.proofs.Lists.{keep_from, some_none, has_from, Rising, rising_keep}
use Rattle.words.proofs.Kept.{some_false, rising_count}
use Rattle.units.specs.Units.{Sample, end, is_aggregator, is_extractor}
use Rattle.units.specs.Aggregators.{units}
use Rattle.units.proofs.Walks.{units_rise}
use Rattle.samples.specs.Check.{check, well_formed}
use Rattle.samples.proofs.Laws.{formed, formed_ok, unit_inside}
use Rattle.copies.specs.Copies.{without_aggregators, copy_starts, copy_end, copy_ends, copied, form_fault, border_fault, copy_fault}
use Rattle.copies.specs.Rules.{CopyRules}
use Rattle.copies.proofs.Copies.{border_none}

module _ (z : Sample) (o n : ℕ) where
  -- no refusal
  pub copy_rules : copy_fault z o n ≡ 0 → CopyRules z o n
  unfolding copy_fault
  copy_rules e =
      let a = or_else_none (form_fault z) _ e in
      let b = or_else_none (border_fault z o n) _ a.1 in
      let c = border_none z o n b.0 in
      record {
        formed = formed_ok z (not-false _ (if_none 24 _ a.0));
        starts = c.0;
        ends = c.1;
        no_extractor = some_false (is_extractor z) (copied z o n) (if_none 27 _ b.1);
      }

  pub rules_copy : CopyRules z o n → copy_fault z o n ≡ 0
  unfolding copy_fault border_fault
  rules_copy c = rw (formed z c.formed, c.starts, c.ends, some_none (is_extractor z) (copied z o n) c.no_extractor)

  pub copy_refusal : NoneOr copy_refusals (copy_fault z o n)
  unfolding copy_fault border_fault some
  copy_refusal =
      none_or_or_else copy_refusals _ _ (none_or_if copy_refusals named_ill_formed (not (well_formed z)) (has_from _ _ refl))
      (none_or_or_else copy_refusals _ _
      (none_or_or_else copy_refusals _ _ (none_or_if copy_refusals bad_data_offset (not (copy_starts z o)) (has_from _ _ refl))
      (none_or_if copy_refusals bad_data_length (not (copy_ends z o n)) (has_from _ _ refl)))
      (none_or_if copy_refusals extractor_copied (some (is_extractor z) (copied z o n)) (has_from _ _ refl)))

  -- what is copied
  pub copied_exact : copied z o n ≡ keep (λ q. (o ≤? q) && (q <? copy_end z o n)) (without_aggregators z (units z))
  unfolding copied
  copied_exact = refl

  pub copied_unit_lem : (q : ℕ) → Memᴰ q (copied z o n) → Memᴰ q (units z) × (is_aggregator z q ≡ false)
  copied_unit_lem q m =
      let a = keep_from (λ p. not (is_aggregator z p)) (units z) (keep_from _ (without_aggregators z (units z)) (rw copied_exact at m)).0 in
      (a.0, not-true _ a.1)

  copied_rise : Rising ◌<◌ (copied z o n)
  copied_rise = rw copied_exact (rising_keep ◌<◌ _ (without_aggregators z (units z)) (rising_keep ◌<◌ _ (units z) (units_rise z)))

  pub copied_count : check z ≡ ok tt → length (copied z o n) ≤ end z
  copied_count k = let h = rising_count 0 (end z) (copied z o n) copied_rise (λ q m. let i = unit_inside z k q (copied_unit_lem q m).0 in (omega arith, i.0)) in omega arith
