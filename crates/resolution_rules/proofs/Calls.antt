-- What the calls answer, case by case. Assumes nothing.
--
--   number_good, number_bad, by_count, number_there                                                                 30
--   resolve_number, -sample, -good                                                                                  resolving a sample of a recording
--   unit_number, -sample, -past, -good                                                                              one delivered unit
--   parts_number, -sample, -good                                                                                    where all delivered units stand
--   named_number, -form, -none, -extractor                                                                          the sample that an extractor names
--   call_bundle, call_means                                                                                         resolving by a bundle and a reader: 1 to 13, else by its recording, with 29
--   unit_bundle, unit_means                                                                                         one delivered unit by a bundle; so parts- and named_bundle, -means
--   resolves, resolved_because, refuses, refused_because                                                            resolving answers, or is refused, exactly if ..
--   refused_with                                                                                                    which numbers, and where
--   unit_refuses, unit_because                                                                                      one unit is refused exactly if ..
--   call_resolves, call_resolved_because, call_refuses, call_refused_because, unit_call_refuses, unit_call_because  the same by a bundle
--   span_in_lem                                                                                                     a delivered unit is a part of the bundle
--   unit_part_lem                                                                                                   the unit call gives that part
--   joined                                                                                                          resolving joins what the unit call gives
use Prim.Native.Nat.{ℕ, ◌≤◌, ◌<◌}
use mathlib.Core.Path.{◌≡◌, refl, sym, ◌∙◌, subst}
use mathlib.Core.Bool.{true, false}
use mathlib.Core.List.{List, ◌++◌, Memᴰ}
use mathlib.Core.Logic.{◌⊎◌, inl, inr}
use native.Mathlib.Omega.{arith}
use borrow.Author.Tests.{le-ltb, lt-ltb, ltb-true, ltb-false, ne_eqb, eqb-true, eqb-false}
use lib.Dec.{ltb, eqb}
use lib.ListN.{length}
use Rattle.words.specs.Refusals.{refused, ok, ◌and_then◌, ◌at_place◌}
use Rattle.words.specs.RefusalNumbers.{output_too_long, no_such_number}
use Rattle.words.specs.Lists.{has, each, nth, upto}
use Rattle.words.specs.Bytes.{bytes}
use Rattle.words.specs.Buffers.{within}
use Rattle.words.proofs.Tests.{by_bool}
use Rattle.words.proofs.Refusals.{at_refused, by_verdict, by_answer, ok_refused, ok_same, refused_along}
use Rattle.words.proofs.Lists.{each_cong, nth_mem, upto_from}
use Rattle.words.proofs.Buffers.{within_room, within_not}
use Rattle.bundles.specs.Recordings.{Recording, sample_count, content_of}
use Rattle.bundles.specs.Readers.{Reader}
use Rattle.copies.specs.Written.{length_before}
use Rattle.units.specs.Aggregators.{extractors}
use Rattle.samples.specs.Check.{check}
use Rattle.resolution_rules.specs.Resolving.{Span, own, named, name_fault_at, delivered, judged}
use Rattle.resolution_rules.specs.Calls.{span_bytes, written, output, number_fault, no_span, resolve, resolve_unit, named_in, parts_by, parts_of, resolve_call, unit_call, parts_call, named_call, span_in, unit_part}
use Rattle.resolution_rules.specs.Readers.{Sound}
use Rattle.resolution_rules.specs.Rules.{JudgedRefusal, Resolves, ResolveRefuses, UnitRefuses, CallResolves, CallRefuses, UnitCallRefuses}
use Rattle.words.proofs.Joined.{each_by_number, part_part}
use Rattle.resolution_rules.proofs.Delivered.{Inside, span_length}
use Rattle.resolution_rules.proofs.Good.{good_rules, judged_refused}
use Rattle.resolution_rules.proofs.Exactly.{delivered_plain, delivered_there}

-- 30
module _ (count n : ℕ) where
  pub number_good : 0 < n → n ≤ count → number_fault count n ≡ 0
  unfolding number_fault
  number_good h l = rw (ne_eqb n 0 (λ z. absurd (omega arith)), le-ltb count n l)

  pub number_bad : (n ≡ 0) ⊎ (count < n) → number_fault count n ≡ no_such_number
  unfolding number_fault
  number_bad (inl e) = rw e
  number_bad (inr h) = rw (ne_eqb n 0 (λ z. absurd (omega arith)), lt-ltb count n h)

  pub by_count : {G : Type 0} → ((n ≡ 0) ⊎ (count < n) → G) → (0 < n → n ≤ count → G) → G
  by_count f g = by_bool (eqb n 0)
      (λ q. f (inl (eqb-true n 0 q)))
      (λ q. let z = eqb-false n 0 q in by_bool (ltb count n)
      (λ t. f (inr (ltb-true count n t)))
      (λ t. g (omega arith) (ltb-false count n t)))

  pub number_there : number_fault count n ≡ 0 → (0 < n) × (n ≤ count)
  number_there e = by_count (λ h. let z = sym (number_bad h) ∙ e in absurd (omega arith)) (λ h l. (h, l))

module _ (r : Recording) (n : ℕ) where
  abbrev count : ℕ
  count = sample_count r.layout

  pub resolve_number : (n ≡ 0) ⊎ (count < n) → resolve r n ≡ refused no_such_number 0
  unfolding resolve
  resolve_number h = rw (number_bad count n h)

  pub unit_number : (k : ℕ) → (n ≡ 0) ⊎ (count < n) → resolve_unit r n k ≡ refused no_such_number 0
  unfolding resolve_unit
  unit_number k h = rw (number_bad count n h)

  pub parts_number : (starts : ℕ → ℕ) → (n ≡ 0) ⊎ (count < n) → parts_of r n starts ≡ refused no_such_number 0
  unfolding parts_of
  parts_number starts h = rw (number_bad count n h)

  module _ (h : 0 < n) (l : n ≤ count) where
    pub resolve_sample : {m p : ℕ} → judged r n ≡ refused m p → resolve r n ≡ refused m p
    unfolding resolve
    resolve_sample e = rw (number_good count n h l, e)

    pub resolve_good : judged r n ≡ ok tt → resolve r n ≡ ok (output r (delivered r n))
    unfolding resolve
    resolve_good e = rw (number_good count n h l, e)

    pub parts_sample : (starts : ℕ → ℕ) {m p : ℕ} → judged r n ≡ refused m p → parts_of r n starts ≡ refused m p
    unfolding parts_of
    parts_sample starts e = rw (number_good count n h l, e)

    pub parts_good : (starts : ℕ → ℕ) → judged r n ≡ ok tt → parts_of r n starts ≡ ok (parts_by starts (delivered r n))
    unfolding parts_of
    parts_good starts e = rw (number_good count n h l, e)

    pub unit_sample : (k : ℕ) {m p : ℕ} → judged r n ≡ refused m p → resolve_unit r n k ≡ refused m p
    unfolding resolve_unit
    unit_sample k e = rw (number_good count n h l, e)

    pub unit_past : (k : ℕ) → judged r n ≡ ok tt → (k ≡ 0) ⊎ (length (delivered r n) < k) → resolve_unit r n k ≡ refused no_such_number 0
    unfolding resolve_unit
    unit_past k e b = rw (number_good count n h l, e, number_bad (length (delivered r n)) k b)

    pub unit_good : (k : ℕ) → judged r n ≡ ok tt → 0 < k → k ≤ length (delivered r n) → resolve_unit r n k ≡ ok (nth (delivered r n) k no_span)
    unfolding resolve_unit
    unit_good k e i j = rw (number_good count n h l, e, number_good (length (delivered r n)) k i j)

-- the sample that an extractor names
module _ (r : Recording) (n p : ℕ) where
  pub named_number : {f : ℕ} → f ≡ number_fault (sample_count r.layout) n → (f ≡ 0 → ⊥) → named_in r n p ≡ refused f 0
  unfolding named_in
  named_number e h = rw (at_refused 0 e h)

  module _ (g : number_fault (sample_count r.layout) n ≡ 0) where
    pub named_form : {m q : ℕ} → check (own r n) ≡ refused m q → named_in r n p ≡ refused m q
    unfolding named_in
    named_form e = rw (g, e)

    module _ (c : check (own r n) ≡ ok tt) where
      pub named_none : has p (extractors (own r n)) ≡ false → named_in r n p ≡ refused no_such_number 0
      unfolding named_in
      named_none e = rw (g, c, e)

      pub named_extractor : has p (extractors (own r n)) ≡ true → named_in r n p ≡ (name_fault_at r n p at_place p and_then ok (named r n p))
      unfolding named_in
      named_extractor e = rw (g, c, e)

-- resolving and one delivered unit, of a recording
module _ (r : Recording) (n : ℕ) where
  pub refuses : (room : ℕ) {m p : ℕ} → ResolveRefuses r n room m p → within room (resolve r n) ≡ refused m p
  refuses room (ResolveRefuses.number h) = rw (resolve_number r n h)
  refuses room (ResolveRefuses.sample h l j) = rw (resolve_sample r n h l j)
  refuses room (ResolveRefuses.too_long h l j w) = rw (resolve_good r n h l j) (within_not room (output r (delivered r n)) w)

  pub resolves : (room : ℕ) {out : List ℕ} → Resolves r n room out → within room (resolve r n) ≡ ok out
  resolves room {out} w = rw (resolve_good r n w.number.0 w.number.1 w.good, ← w.delivers) (within_room room out w.fits)

  -- one of the two
  answered : {G : Type 0} (room : ℕ) → ((m p : ℕ) → ResolveRefuses r n room m p → G) → ((out : List ℕ) → Resolves r n room out → G) → G
  answered room f g = by_count (sample_count r.layout) n
      (λ h. f no_such_number 0 (ResolveRefuses.number h))
      (λ h l. by_verdict (judged r n)
      (λ m p j. f m p (ResolveRefuses.sample h l j))
      (λ j. by_bool (ltb room (length (output r (delivered r n))))
      (λ t. f output_too_long 0 (ResolveRefuses.too_long h l j (ltb-true _ _ t)))
      (λ t. g (output r (delivered r n)) (record { number = (h, l); good = j; delivers = refl; fits = ltb-false _ _ t }))))

  pub refused_because : (room m p : ℕ) → within room (resolve r n) ≡ refused m p → ResolveRefuses r n room m p
  refused_because room m p e = answered room
      (λ a c w. let s = sym (refuses room w) ∙ e in refused_along (ResolveRefuses r n room) s w)
      (λ out w. ok_refused (sym e ∙ resolves room w))

  pub resolved_because : (room : ℕ) (out : List ℕ) → within room (resolve r n) ≡ ok out → Resolves r n room out
  resolved_because room out e = answered room
      (λ a c w. ok_refused (sym (refuses room w) ∙ e))
      (λ o w. subst (Resolves r n room) (ok_same (sym (resolves room w) ∙ e)) w)

  -- 14 to 28 at a place in the sample, 29 or 30 at 0
  pub refused_with : (room m p : ℕ) → ResolveRefuses r n room m p → JudgedRefusal r n m p ⊎ (((m ≡ output_too_long) ⊎ (m ≡ no_such_number)) × (p ≡ 0))
  refused_with room m p (ResolveRefuses.number h) = inr (inr refl, refl)
  refused_with room m p (ResolveRefuses.sample h l j) = inl (judged_refused r n m p j)
  refused_with room m p (ResolveRefuses.too_long h l j w) = inr (inl refl, refl)

  pub unit_refuses : (k : ℕ) {m p : ℕ} → UnitRefuses r n k m p → resolve_unit r n k ≡ refused m p
  unit_refuses k (UnitRefuses.number h) = unit_number r n k h
  unit_refuses k (UnitRefuses.sample h l j) = unit_sample r n h l k j
  unit_refuses k (UnitRefuses.unit h l j w) = unit_past r n h l k j w

  unit_answered : {G : Type 0} (k : ℕ) → ((m p : ℕ) → UnitRefuses r n k m p → G) → ((u : Span) → resolve_unit r n k ≡ ok u → G) → G
  unit_answered k f g = by_count (sample_count r.layout) n
      (λ h. f no_such_number 0 (UnitRefuses.number h))
      (λ h l. by_verdict (judged r n)
      (λ m p j. f m p (UnitRefuses.sample h l j))
      (λ j. by_count (length (delivered r n)) k
      (λ t. f no_such_number 0 (UnitRefuses.unit h l j t))
      (λ i t. g (nth (delivered r n) k no_span) (unit_good r n h l k j i t))))

  pub unit_because : (k m p : ℕ) → resolve_unit r n k ≡ refused m p → UnitRefuses r n k m p
  unit_because k m p e = unit_answered k
      (λ a c w. let s = sym (unit_refuses k w) ∙ e in refused_along (UnitRefuses r n k) s w)
      (λ u w. ok_refused (sym e ∙ w))

-- the calls on a bundle, by a reader
module _ (reader : Reader) (b : List ℕ) (n : ℕ) where
  pub call_bundle : {m p : ℕ} (room : ℕ) → reader.means b ≡ refused m p → resolve_call reader b n room ≡ refused m p
  unfolding resolve_call
  call_bundle room e = rw e

  pub call_means : {r : Recording} (room : ℕ) → reader.means b ≡ ok r → resolve_call reader b n room ≡ within room (resolve r n)
  unfolding resolve_call
  call_means room e = rw e

  pub unit_bundle : {m p : ℕ} (k : ℕ) → reader.means b ≡ refused m p → unit_call reader b n k ≡ refused m p
  unfolding unit_call
  unit_bundle k e = rw e

  pub unit_means : {r : Recording} (k : ℕ) → reader.means b ≡ ok r → unit_call reader b n k ≡ resolve_unit r n k
  unfolding unit_call
  unit_means k e = rw e

  pub parts_bundle : {m p : ℕ} (room : ℕ) → reader.means b ≡ refused m p → parts_call reader b n room ≡ refused m p
  unfolding parts_call
  parts_bundle room e = rw e

  pub parts_means : {r : Recording} (room : ℕ) → reader.means b ≡ ok r → parts_call reader b n room ≡ within room (parts_of r n (reader.content_at b))
  unfolding parts_call
  parts_means room e = rw e

  pub named_bundle : {m q : ℕ} (p : ℕ) → reader.means b ≡ refused m q → named_call reader b n p ≡ refused m q
  unfolding named_call
  named_bundle p e = rw e

  pub named_means : {r : Recording} (p : ℕ) → reader.means b ≡ ok r → named_call reader b n p ≡ named_in r n p
  unfolding named_call
  named_means p e = rw e

  pub call_refuses : (room : ℕ) {m p : ℕ} → CallRefuses reader b n room m p → resolve_call reader b n room ≡ refused m p
  call_refuses room (CallRefuses.bundle e) = call_bundle room e
  call_refuses room (CallRefuses.recording r e w) = call_means room e ∙ refuses r n room w

  pub call_resolves : (room : ℕ) {out : List ℕ} → CallResolves reader b n room out → resolve_call reader b n room ≡ ok out
  call_resolves room w = call_means room w.means ∙ resolves w.recording n room w.resolves

  pub call_refused_because : (room m p : ℕ) → resolve_call reader b n room ≡ refused m p → CallRefuses reader b n room m p
  call_refused_because room m p e = by_answer (reader.means b)
      (λ k q w. refused_along (CallRefuses reader b n room) (sym (call_bundle room w) ∙ e) (CallRefuses.bundle w))
      (λ r w. CallRefuses.recording r w (refused_because r n room m p (sym (call_means room w) ∙ e)))

  pub call_resolved_because : (room : ℕ) (out : List ℕ) → resolve_call reader b n room ≡ ok out → CallResolves reader b n room out
  call_resolved_because room out e = by_answer (reader.means b)
      (λ k q w. ok_refused (sym (call_bundle room w) ∙ e))
      (λ r w. record { recording = r; means = w; resolves = resolved_because r n room out (sym (call_means room w) ∙ e) })

  pub unit_call_refuses : (k : ℕ) {m p : ℕ} → UnitCallRefuses reader b n k m p → unit_call reader b n k ≡ refused m p
  unit_call_refuses k (UnitCallRefuses.bundle e) = unit_bundle k e
  unit_call_refuses k (UnitCallRefuses.recording r e w) = unit_means k e ∙ unit_refuses r n k w

  pub unit_call_because : (k m p : ℕ) → unit_call reader b n k ≡ refused m p → UnitCallRefuses reader b n k m p
  unit_call_because k m p e = by_answer (reader.means b)
      (λ i q w. refused_along (UnitCallRefuses reader b n k) (sym (unit_bundle k w) ∙ e) (UnitCallRefuses.bundle w))
      (λ r w. UnitCallRefuses.recording r w (unit_because r n k m p (sym (unit_means k w) ∙ e)))

-- an accepted bundle
module _ (reader : Reader) (sound : Sound reader) (b : List ℕ) (r : Recording) (e : reader.means b ≡ ok r) where
  pub span_in_lem : (u : Span) → 0 < u.sample → u.sample ≤ sample_count r.layout → Inside r u → span_in reader b u ≡ span_bytes r u
  unfolding span_in
  span_in_lem u h l i =
      let c = sound.placed b r u.sample e h l in
      rw c (sym (part_part b (reader.content_at b u.sample) (length (content_of r u.sample)) u.start u.size i))

  module _ (n : ℕ) (h : 0 < n) (l : n ≤ sample_count r.layout) (j : judged r n ≡ ok tt) where
    unit_mem : (k : ℕ) → 0 < k → k ≤ length (delivered r n) → Memᴰ (nth (delivered r n) k no_span) (delivered r n)
    unit_mem k i t = nth_mem (delivered r n) k no_span i t

    pub unit_answers : (k : ℕ) → 0 < k → k ≤ length (delivered r n) → unit_call reader b n k ≡ ok (nth (delivered r n) k no_span)
    unit_answers k i t = unit_means reader b n k e ∙ unit_good r n h l k j i t

    pub unit_part_lem :
        (k : ℕ) → 0 < k → k ≤ length (delivered r n) →
        unit_part reader b (unit_call reader b n k) ≡ span_bytes r (nth (delivered r n) k no_span)
    unit_part_lem k i t =
        let g = good_rules r n j in
        let m = unit_mem k i t in
        let w = delivered_there r n g h l (nth (delivered r n) k no_span) m in
        rw (unit_answers k i t) (span_in_lem (nth (delivered r n) k no_span) w.0 w.1 (delivered_plain r n g (nth (delivered r n) k no_span) m).inside)

    pub joined :
        output r (delivered r n)
        ≡ each (λ k. let s = unit_part reader b (unit_call reader b n k) in bytes length_before (length s) ++ s) (upto (length (delivered r n)))
    unfolding output written
    joined =
        sym (each_by_number (written r) (delivered r n) no_span)
        ∙ each_cong _ _ (upto (length (delivered r n))) (λ k m.
        let t = upto_from (length (delivered r n)) k m in
        let u = nth (delivered r n) k no_span in
        let i = (delivered_plain r n (good_rules r n j) u (unit_mem k t.0 t.1)).inside in
        rw (unit_part_lem k t.0 t.1, span_length r u i))
