-- The numbers and places of refusals, unit by unit. Assumes nothing.
--
--   unit_refusal, unit_form                             a refusal of a unit by itself is 14 to 18, so one of the sample's form
--   extractor_refusal, included_refusal, cover_refusal  each other refusal of a unit is one of the sample's form
--   sample_refusal                                      a refusal of a unit in the sample is one of the sample
--   content_refusal                                     so is one of what stands in a top-level unit
use Prim.Native.Nat.{ℕ, ◌+◌, ◌<◌}
use mathlib.Core.Path.{◌≡◌, refl, sym, ◌∙◌, subst}
use mathlib.Core.List.Memᴰ
use mathlib.Core.List.{Memᴰ}
use mathlib.Core.Bool.{not, ◌&&◌}
use native.Mathlib.Omega.{arith}
use Rattle.words.specs.Tests.{◌≡?◌, ◌<?◌, ◌≤?◌}
use Rattle.words.specs.Refusals.{refused, ◌at_place◌, first}
use Rattle.words.specs.RefusalNumbers.{length_field_cut, unit_too_long, empty_unit, top_bit_set, unit_too_short, nested_aggregator, slice_in_avc_aggregator, bad_additional_bytes, bad_extractor_size, unit_refusals, form_refusals}
use Rattle.words.specs.Lists.{◌∈◌, some}
use Rattle.words.proofs.Tests.{by_bool}
use Rattle.words.proofs.Refusals.{by_verdict, first_from, at_from, NoneOr, none_or_if, none_or_or_else, none_or_some, none_or_wider}
use Rattle.words.proofs.Lists.{has_from}
use Rattle.numbers.specs.Kinds.{is_avc}
use Rattle.numbers.specs.Sizes.{extractor_size}
use Rattle.units.specs.Units.{Sample, L, end, size, type, first_byte, next, is_aggregator, is_extractor, least_size, unit_fault, top_units, border, top_between}
use Rattle.units.specs.Extractors.{extractor_fault}
use Rattle.units.specs.Aggregators.{included_start, included, is_slice, included_fault, cover_end, cover_fault}
use Rattle.units.specs.Rules.{TopUnitsWhole}
use Rattle.units.proofs.Units.{whole_end}
use Rattle.units.proofs.Walks.{in_places, in_top}
use Rattle.samples.specs.Check.{content_verdict}
use Rattle.samples.specs.Rules.{SampleRefusal}
use Rattle.samples.proofs.Walks.{included_judge, content_included, content_cover, content_other}

module _ (x : Sample) where
  pub unit_refusal : (e p : ℕ) → NoneOr unit_refusals (unit_fault x e p)
  unfolding unit_fault some
  unit_refusal e p =
      none_or_or_else unit_refusals _ _ (none_or_if unit_refusals length_field_cut (e <? p + L x) (has_from _ _ refl))
      (none_or_or_else unit_refusals _ _ (none_or_if unit_refusals unit_too_long (e <? next x p) (has_from _ _ refl))
      (none_or_or_else unit_refusals _ _ (none_or_if unit_refusals empty_unit (size x p ≡? 0) (has_from _ _ refl))
      (none_or_or_else unit_refusals _ _ (none_or_if unit_refusals top_bit_set (128 ≤? first_byte x p) (has_from _ _ refl))
      (none_or_if unit_refusals unit_too_short (size x p <? least_size x (type x p)) (has_from _ _ refl)))))

  -- as one of the sample's form
  pub unit_form : (e p : ℕ) → NoneOr form_refusals (unit_fault x e p)
  unit_form e p = none_or_wider (λ m h. Memᴰ.append_left _ h) (unit_refusal e p)

  pub extractor_refusal : (p : ℕ) → NoneOr form_refusals (extractor_fault x p)
  unfolding some
  extractor_refusal p = none_or_if form_refusals bad_extractor_size (is_extractor x p && not (size x p ≡? extractor_size x.length_size)) (has_from _ _ refl)

  pub included_refusal : (e p : ℕ) → NoneOr form_refusals (included_fault x e p)
  unfolding included_fault some
  included_refusal e p =
      none_or_or_else form_refusals _ _ (unit_form e p)
      (none_or_or_else form_refusals _ _ (none_or_if form_refusals nested_aggregator (is_aggregator x p) (has_from _ _ refl))
      (none_or_or_else form_refusals _ _ (none_or_if form_refusals slice_in_avc_aggregator (is_avc x.kind && is_slice (type x p)) (has_from _ _ refl))
      (extractor_refusal p)))

  pub cover_refusal : (p : ℕ) → NoneOr form_refusals (cover_fault x p)
  unfolding cover_fault some
  cover_refusal p = none_or_or_else form_refusals _ _
      (none_or_if form_refusals bad_additional_bytes (not (border x (cover_end x p))) (has_from _ _ refl))
      (none_or_if form_refusals bad_additional_bytes (some (is_aggregator x) (top_between x (next x p) (cover_end x p))) (has_from _ _ refl))

  pub sample_refusal : (f r : ℕ) {n p : ℕ} → NoneOr form_refusals f → r < end x → f at_place r ≡ refused n p → SampleRefusal x.content n p
  sample_refusal f r w h e =
      let a = at_from f r e in
      (subst (λ (m : ℕ). m ∈ form_refusals) a.0 (none_or_some form_refusals w a.2), omega arith)

  pub content_refusal : TopUnitsWhole x → (r n p : ℕ) → Memᴰ r (top_units x) → content_verdict x r ≡ refused n p → SampleRefusal x.content n p
  content_refusal ws r n p m v = by_bool (is_aggregator x r)
      (λ t. by_verdict (first (included_judge x (next x r)) (included x r))
      (λ a b c. let same = sym (content_included x r t c) ∙ v in
      let w = first_from (included_judge x (next x r)) (included x r) (c ∙ same) in
      let i = in_places x (included_start x r) (next x r) w.0 w.1 in
      let g = whole_end x (end x) r (ws r m) in
      sample_refusal (included_fault x (next x r) w.0) w.0 (included_refusal (next x r) w.0) (omega arith) w.2)
      (λ c. sample_refusal (cover_fault x r) r (cover_refusal r) (in_top x r m) (sym (content_cover x r t c) ∙ v)))
      (λ t. sample_refusal (extractor_fault x r) r (extractor_refusal r) (in_top x r m) (sym (content_other x r t) ∙ v))
