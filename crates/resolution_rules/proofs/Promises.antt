-- What resolving promises. `judged r n ≡ ok tt` says that sample n of the recording r is good, `reader.means b ≡ ok r` that the bundle b is
-- accepted by the reader and means r. Of a recording nothing is needed but what a line says. For any L. Assumes nothing.
--
--   good_exactly                                                            a sample is good exactly if it is well formed and each of its extractors follows the rules
--   delivers_exactly                                                        a good sample delivers its own units that are neither aggregators nor extractors, top-level and included, in order, with
--                                                                           each extractor's copy in its place; and nothing else
--   in_place_once                                                           what is delivered for a unit stands once, after that of the units before it, before that of the units after it
--   covered_once                                                            a unit covered by additional_bytes is delivered once
--   included_once                                                           so is one included in an aggregator
--   plain_units_lem                                                         every delivered unit lies in its sample, starts right after the length field of a unit there, has that unit's size, and is
--                                                                           neither an aggregator nor an extractor
--   no_aggregator_or_extractor                                              the same by the type in its first byte
--   counted_bytes                                                           the output of a good sample is as long as its own bytes delivered, those copied, and 4 for each delivered unit
--   sample_refusals_lem                                                     a sample is refused with a number of its set, at a place in the sample
--   first_refused                                                           by its own check, else by its first extractor that is refused
--   resolved_exactly                                                        resolving answers exactly if the number is there, the sample good and the output fits: with that output
--   refused_exactly                                                         else it is refused: the number is not there, the sample not good, or the output too long
--   refused_with                                                            with a number of its set at a place in the sample, or 29 or 30 at 0
--   unit_refused_exactly                                                    one unit is refused exactly if a number is not there or the sample is not good
--   call_resolved_exactly, call_refused_exactly, unit_call_refused_exactly  the same by a bundle and a reader, with 1 to 13 first
--   refused_empty                                                           a refused unit has no bytes
--   unit_gives                                                              the call for a unit gives its part of the bundle, for every number from 1 to the last
--   resolving_joins                                                         resolving a sample joins what the call for a unit gives, each after its length
--   extracted_gives                                                         the function on two samples gives the units that a good extractor stands for
--   never_itself                                                            in an accepted bundle no extractor names its own sample
--   named_from_base                                                         the sample named, in an accepted bundle: signed steps from the base, in sample numbers, within the linked track
--   none_without_base                                                       no base: every sample of the linked track is later, and no sample is named
--   base_is_last                                                            the base: the last sample of the linked track at or before the own sample's time
use Prim.Native.Nat.{ℕ, ◌+◌, ◌*◌, ◌%◌, ◌≤◌, ◌<◌}
use mathlib.Core.Path.{◌≡◌, ap, sym, ◌∙◌}
use mathlib.Core.List.{List, [], ◌++◌, Memᴰ}
use mathlib.Core.Bool.{true, false}
use mathlib.Core.Logic.{◌⊎◌, ⊎_elim}
use lib.ListN.{length}
use Rattle.words.specs.Tests.{◌<?◌}
use Rattle.words.specs.Refusals.{refused, ok}
use Rattle.words.specs.RefusalNumbers.{output_too_long, no_such_number}
use Rattle.words.specs.Lists.{keep, each, nth, upto}
use Rattle.words.specs.Bytes.{byte_at, bytes}
use Rattle.words.specs.Buffers.{within}
use Rattle.words.proofs.Refusals.{ok_same}
use Rattle.units.specs.Units.{aggregator_type, extractor_type, next, is_aggregator, is_extractor, top_units, top_between}
use Rattle.units.specs.Aggregators.{included, cover_end, units, extractors}
use Rattle.samples.specs.Check.{check}
use Rattle.bundles.specs.Recordings.{Recording, sample_count, time_of, samples_in}
use Rattle.bundles.specs.Readers.{Reader}
use Rattle.links.specs.Links.{linked_track, base, sample_named}
use Rattle.links.specs.Order.{TimesRise, base_sample, Steps}
use Rattle.links.proofs.Links.{named_baseless}
use Rattle.links.proofs.Order.{base_times, later_without, base_is, named_steps}
use Rattle.copies.specs.Extracted.{extracted}
use Rattle.copies.specs.Written.{length_before}
use Rattle.resolution_rules.specs.Resolving.{Span, own, linked, copied_at, delivered_at, delivered, judged}
use Rattle.resolution_rules.specs.Amounts.{own_bytes, copied_bytes}
use Rattle.resolution_rules.specs.Calls.{span_bytes, output, no_span, resolve, resolve_unit, resolve_call, unit_call, unit_part}
use Rattle.resolution_rules.specs.Readers.{Sound}
use Rattle.resolution_rules.specs.Rules.{Good, Delivers, Plain, Apart, times_delivered, JudgedRefusal, FirstRefused, Resolves, ResolveRefuses, UnitRefuses, CallResolves, CallRefuses, UnitCallRefuses}
use Rattle.resolution_rules.proofs.Delivered.{judged_form}
use Rattle.resolution_rules.proofs.Amounts.{output_bytes}
use Rattle.resolution_rules.proofs.Good.{good_rules, rules_good, judged_refused, judged_first, first_judged}
use Rattle.resolution_rules.proofs.Exactly.{delivers, delivers_only, delivered_plain}
use Rattle.resolution_rules.proofs.Once as once
use Rattle.resolution_rules.proofs.Calls as calls
use Rattle.resolution_rules.proofs.Extracted.{extracted_unit}

-- a sample of a recording
module _ (r : Recording) (n : ℕ) where
  pub good_exactly : (judged r n ≡ ok tt → Good r n) × (Good r n → judged r n ≡ ok tt)
  good_exactly = (good_rules r n, rules_good r n)

  pub sample_refusals_lem : (m p : ℕ) → judged r n ≡ refused m p → JudgedRefusal r n m p
  sample_refusals_lem = judged_refused r n

  pub first_refused : (m p : ℕ) → (judged r n ≡ refused m p → (check (own r n) ≡ refused m p) ⊎ FirstRefused r n m p) × ((check (own r n) ≡ refused m p) ⊎ FirstRefused r n m p → judged r n ≡ refused m p)
  first_refused m p = (judged_first r n m p, λ w. ⊎_elim (λ e. judged_form r n e) (λ f. first_judged r n m p f) w)

  pub in_place_once : (q : ℕ) → Memᴰ q (units (own r n)) →
      delivered r n ≡ each (delivered_at r n) (keep (λ p. p <? q) (units (own r n))) ++ (delivered_at r n q ++ each (delivered_at r n) (keep (λ p. q <? p) (units (own r n))))
  in_place_once = once.in_its_place r n

  module _ (good : judged r n ≡ ok tt) where
    pub delivers_exactly : Delivers r n (units (own r n)) (delivered r n) × ((us : List Span) → Delivers r n (units (own r n)) us → us ≡ delivered r n)
    delivers_exactly = let d = delivers r n in (d, λ us e. delivers_only r n e d)

    pub plain_units_lem : (u : Span) → Memᴰ u (delivered r n) → Plain r u
    plain_units_lem = delivered_plain r n (good_rules r n good)

    pub no_aggregator_or_extractor : (u : Span) → Memᴰ u (delivered r n) → (byte_at (span_bytes r u) 0 % 32 ≡ aggregator_type → ⊥) × (byte_at (span_bytes r u) 0 % 32 ≡ extractor_type → ⊥)
    no_aggregator_or_extractor u m = (plain_units_lem u m).type

    pub counted_bytes : length (output r (delivered r n)) ≡ own_bytes r n + copied_bytes r n + length_before * length (delivered r n)
    counted_bytes = output_bytes r n good

    -- where no extractor of the sample names the sample itself: so in every accepted bundle
    module _ (apart : Apart r n) (p : ℕ) (top : Memᴰ p (top_units (own r n))) (aggregator : is_aggregator (own r n) p ≡ true) where
      pub covered_once : (q : ℕ) → Memᴰ q (top_between (own r n) (next (own r n) p) (cover_end (own r n) p)) → is_extractor (own r n) q ≡ false → times_delivered r n q ≡ 1
      covered_once = once.covered_once r n (good_rules r n good) apart p top aggregator

      pub included_once : (q : ℕ) → Memᴰ q (included (own r n) p) → is_extractor (own r n) q ≡ false → times_delivered r n q ≡ 1
      included_once = once.included_once r n (good_rules r n good) apart p top aggregator

    pub extracted_gives : (p k : ℕ) → Memᴰ p (extractors (own r n)) → 0 < k → k ≤ length (copied_at r n p) →
        extracted (own r n) p (linked r n p) k ≡ span_bytes r (nth (copied_at r n p) k no_span)
    extracted_gives = extracted_unit r n (good_rules r n good)

  -- with room for the output
  pub resolved_exactly : (room : ℕ) (out : List ℕ) → (within room (resolve r n) ≡ ok out → Resolves r n room out) × (Resolves r n room out → within room (resolve r n) ≡ ok out)
  resolved_exactly room out = (calls.resolved_because r n room out, calls.resolves r n room)

  pub refused_exactly : (room m p : ℕ) → (within room (resolve r n) ≡ refused m p → ResolveRefuses r n room m p) × (ResolveRefuses r n room m p → within room (resolve r n) ≡ refused m p)
  refused_exactly room m p = (calls.refused_because r n room m p, calls.refuses r n room)

  pub refused_with : (room m p : ℕ) → within room (resolve r n) ≡ refused m p → JudgedRefusal r n m p ⊎ (((m ≡ output_too_long) ⊎ (m ≡ no_such_number)) × (p ≡ 0))
  refused_with room m p e = calls.refused_with r n room m p (calls.refused_because r n room m p e)

  pub unit_refused_exactly : (k m p : ℕ) → (resolve_unit r n k ≡ refused m p → UnitRefuses r n k m p) × (UnitRefuses r n k m p → resolve_unit r n k ≡ refused m p)
  unit_refused_exactly k m p = (calls.unit_because r n k m p, calls.unit_refuses r n k)

-- the calls on a bundle, by any reader
module _ (reader : Reader) (b : List ℕ) (n : ℕ) where
  pub call_resolved_exactly : (room : ℕ) (out : List ℕ) → (resolve_call reader b n room ≡ ok out → CallResolves reader b n room out) × (CallResolves reader b n room out → resolve_call reader b n room ≡ ok out)
  call_resolved_exactly room out = (calls.call_resolved_because reader b n room out, calls.call_resolves reader b n room)

  pub call_refused_exactly : (room m p : ℕ) → (resolve_call reader b n room ≡ refused m p → CallRefuses reader b n room m p) × (CallRefuses reader b n room m p → resolve_call reader b n room ≡ refused m p)
  call_refused_exactly room m p = (calls.call_refused_because reader b n room m p, calls.call_refuses reader b n room)

  pub unit_call_refused_exactly : (k m p : ℕ) → (unit_call reader b n k ≡ refused m p → UnitCallRefuses reader b n k m p) × (UnitCallRefuses reader b n k m p → unit_call reader b n k ≡ refused m p)
  unit_call_refused_exactly k m p = (calls.unit_call_because reader b n k m p, calls.unit_call_refuses reader b n k)

  pub refused_empty : (k m p : ℕ) → unit_call reader b n k ≡ refused m p → unit_part reader b (unit_call reader b n k) ≡ []
  refused_empty k m p e = rw e

-- a bundle that is accepted by a sound reader
module _ (reader : Reader) (sound : Sound reader) (b : List ℕ) (r : Recording) (accepted : reader.means b ≡ ok r) where
  pub never_itself : (n : ℕ) → judged r n ≡ ok tt → Apart r n
  never_itself n good = once.different_apart r (sound.apart b r accepted) n (good_rules r n good)

  -- a good sample of it
  module _ (n : ℕ) (some : 0 < n) (there : n ≤ sample_count r.layout) (good : judged r n ≡ ok tt) where
    pub unit_gives : (k : ℕ) → 0 < k → k ≤ length (delivered r n) → (unit_call reader b n k ≡ ok (nth (delivered r n) k no_span)) × (unit_part reader b (unit_call reader b n k) ≡ span_bytes r (nth (delivered r n) k no_span))
    unit_gives k h l = (calls.unit_answers reader sound b r accepted n some there good k h l, calls.unit_part_lem reader sound b r accepted n some there good k h l)

    pub resolving_joins : (room : ℕ) (out : List ℕ) → resolve_call reader b n room ≡ ok out →
        out ≡ each (λ k. let s = unit_part reader b (unit_call reader b n k) in bytes length_before (length s) ++ s) (upto (length (delivered r n)))
    resolving_joins room out e =
        let w = calls.call_resolved_because reader b n room out e in
        let same : w.recording ≡ r = ok_same (sym w.means ∙ accepted) in
        w.resolves.delivers ∙ ap (λ (s : Recording). output s (delivered s n)) same ∙ calls.joined reader sound b r accepted n some there good

  -- times rise: what is said of the base holds only there
  rises : TimesRise r.layout
  rises = sound.rise b r accepted

  -- the sample named from sample n, by signed steps
  pub named_from_base : (n index offset : ℕ) → 0 < base r.layout n (linked_track r.layout n index) → Steps r.layout n index offset
  named_from_base n index offset h = named_steps r.layout rises n index offset h

  pub base_is_last : (n k : ℕ) → 0 < base r.layout n k →
      (time_of r.layout (base_sample r.layout n k) ≤ time_of r.layout n) × ((m : ℕ) → Memᴰ m (samples_in r.layout k) → base_sample r.layout n k < m → time_of r.layout n < time_of r.layout m)
  base_is_last n k = base_times r.layout n k (base_is r.layout rises n k)

  pub none_without_base : (n index offset : ℕ) → base r.layout n (linked_track r.layout n index) ≡ 0 →
      (sample_named r.layout n index offset ≡ 0) × ((m : ℕ) → Memᴰ m (samples_in r.layout (linked_track r.layout n index)) → time_of r.layout n < time_of r.layout m)
  none_without_base n index offset e = (named_baseless r.layout n index offset e, later_without r.layout n (linked_track r.layout n index) (base_is r.layout rises n (linked_track r.layout n index)) e)
