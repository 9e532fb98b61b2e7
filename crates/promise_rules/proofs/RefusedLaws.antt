-- The proofs of what Demands says of refusals. Assumes nothing.
use Prim.Native.Nat.{ℕ, ◌≤◌, ◌<◌}
use mathlib.Core.Path.{◌≡◌, ap, sym, subst}
use mathlib.Core.List.{List}
use mathlib.Core.Logic.{◌⊎◌, inl, inr, ⊎_elim, ◌↔◌}
use borrow.Author.Tests.{eqb-true, eq-eqb}
use lib.ListN.{length}
use Rattle.words.specs.Refusals.{Answer, refused, ok}
use Rattle.words.specs.Bytes.{Bytes}
use Rattle.words.proofs.Refusals.{ok_refused, refused_same}
use Rattle.words.proofs.Lists.{keep_from}
use Rattle.units.specs.Units.{is_extractor}
use Rattle.units.specs.Aggregators.{units, extractors}
use Rattle.bundles.specs.Recordings.{Recording, sample_count}
use Rattle.bundles.specs.Bundles.{bundle_verdict}
use Rattle.bundles.specs.Readers.{first_layout}
use Rattle.resolution_rules.specs.Resolving.{sample_of, Span, own, extract_fault, judged, delivered}
use Rattle.resolution_rules.specs.Calls.{placed_by, resolve_call, unit_call, place_call}
use Rattle.resolution_rules.specs.Rules.{FirstRefused, UnitRefuses, ResolveRefuses, CallRefuses, UnitCallRefuses}
use Rattle.resolution_rules.proofs.Calls.{call_refused_because, call_refuses, unit_call_because, unit_call_refuses}
use Rattle.resolution_rules.proofs.Good.{extract_rules, rules_extract, judged_first}
use Rattle.resolution_rules.proofs.Exactly.{extractor_mem}
use Rattle.resolution_rules.proofs.Promises.{first_refused}
use Rattle.resolution_rules.proofs.Readers.{verdict_refuses, refused_verdict}
use Rattle.naming_list_rules.specs.Naming.{names_call}
use Rattle.naming_list_rules.specs.Rules.{NamesRefuses}
use Rattle.naming_list_rules.proofs.Promises.{names_refused_exactly}
use Rattle.audit_rules.specs.Auditing.{audit_call, tally_call}
use Rattle.audit_rules.specs.Rules.{AuditRefuses}
use Rattle.audit_rules.proofs.Promises.{audit_refused_exactly, tally_refused_exactly}
use Rattle.promise_rules.proofs.SampleLaws.{formed_rules, rules_formed}
use Rattle.promise_rules.proofs.SampleFaultLaws.{form_refused, by_form}
use Rattle.promise_rules.proofs.BundleFaultLaws.{bundle_by, by_bundle}
use Rattle.promise_rules.specs.Resolving.{Extraction, Resolved, GoodSample}
use Rattle.promise_rules.proofs.ResolveLaws.{extraction, extraction_is}
use Rattle.promise_rules.proofs.FaultLaws.{fault_of, is_fault}
use Rattle.promise_rules.proofs.CallLaws.{rise, offset_byte, output_is, good_exactly, delivers, delivers_only}
use Rattle.promise_rules.specs.BundleFaults.{BundleRefused}
use Rattle.promise_rules.specs.Refused.{ExtractorRefused, SampleRefused, ResolveRefused, UnitRefused, NamesRefused, AuditRefused}

module _ (b : List ℕ) (g : Bytes b) where
  pub check_refused : (m p : ℕ) → (bundle_verdict b ≡ refused m p) ↔ BundleRefused b m p
  check_refused m p = (bundle_by b g, by_bundle b g)

  pub bundle_refused : {m p : ℕ} → first_layout.means b ≡ refused m p → BundleRefused b m p
  bundle_refused e = bundle_by b g (refused_verdict b _ _ e)

  pub refused_bundle : {m p : ℕ} → BundleRefused b m p → first_layout.means b ≡ refused m p
  refused_bundle w = verdict_refuses b _ _ (by_bundle b g w)

  module _ (r : Recording) (accepted : first_layout.means b ≡ ok r) (n : ℕ) (some : 0 < n) (there : n ≤ sample_count r.layout) where
    -- an extractor without 23 to 28, both ways
    extracts : (q : ℕ) → extract_fault r n q ≡ 0 → (k : ℕ) × (qs : List ℕ) × Extraction r n q k qs
    extracts q e = extraction r (rise b g r accepted) n (offset_byte b g r accepted n some there) q (extract_rules r n q e)

    first_extractor : {m p : ℕ} → FirstRefused r n m p → ExtractorRefused r n m p
    unfolding extractors
    first_extractor {m} {p} w =
        let k = keep_from (is_extractor (own r n)) (units (own r n)) w.extractor in
        record {
          formed = formed_rules (sample_of r n) w.formed;
          unit = k.0;
          extractor = eqb-true _ _ k.1;
          earlier = λ q m t l. extracts q (w.earlier q (extractor_mem r n q m (eq-eqb _ _ t)) l);
          fault = fault_of r (rise b g r accepted) n (offset_byte b g r accepted n some there) p w.refuses w.some;
        }

    extractor_first : {m p : ℕ} → ExtractorRefused r n m p → FirstRefused r n m p
    unfolding extractors
    extractor_first {m} {p} w =
        let f = is_fault r (rise b g r accepted) n (offset_byte b g r accepted n some there) p w.fault in
        record {
          formed = rules_formed (sample_of r n) w.formed;
          extractor = extractor_mem r n p w.unit (eq-eqb _ _ w.extractor);
          refuses = f.0;
          some = f.1;
          earlier = λ q m l.
              let k = keep_from (is_extractor (own r n)) (units (own r n)) m in
              let x = w.earlier q k.0 (eqb-true _ _ k.1) l in
              rules_extract r n q (extraction_is r (rise b g r accepted) n (offset_byte b g r accepted n some there) q x.0 x.1 x.2).2;
        }

    pub sample_refused : {m p : ℕ} → judged r n ≡ refused m p → SampleRefused r n m p
    sample_refused {m} {p} j = ⊎_elim
        (λ e. SampleRefused.form some there (form_refused (sample_of r n) e))
        (λ w. SampleRefused.extractor some there (first_extractor w))
        (judged_first r n m p j)

    pub resolved : judged r n ≡ ok tt → Resolved r n (delivered r n)
    resolved j =
        let good = (good_exactly b g r accepted n some there).0 j in
        record { some = some; there = there; good = good; delivery = delivers b g r accepted n some there good }

  -- back
  pub refused_sample :
      (r : Recording) → first_layout.means b ≡ ok r → (n : ℕ) {m p : ℕ} → SampleRefused r n m p →
      (0 < n) × (n ≤ sample_count r.layout) × (judged r n ≡ refused m p)
  refused_sample r e n {m} {p} (SampleRefused.form h l w) = (h, l, (first_refused r n m p).1 (inl (by_form (sample_of r n) w)))
  refused_sample r e n {m} {p} (SampleRefused.extractor h l w) = (h, l, (first_refused r n m p).1 (inr (extractor_first r e n h l w)))

  pub judged_exactly :
      (r : Recording) → first_layout.means b ≡ ok r → (n : ℕ) → 0 < n → n ≤ sample_count r.layout →
      ((judged r n ≡ ok tt) ↔ GoodSample r n) × ((m p : ℕ) → (judged r n ≡ refused m p) ↔ SampleRefused r n m p)
  judged_exactly r e n h l =
      (good_exactly b g r e n h l, λ m p. (λ j. sample_refused r e n h l j, λ w. (refused_sample r e n w).2))

  pub unresolved : (r : Recording) (n : ℕ) (us : List Span) → first_layout.means b ≡ ok r → Resolved r n us → (judged r n ≡ ok tt) × (us ≡ delivered r n)
  unresolved r n us e w =
      ((good_exactly b g r e n w.some w.there).1 w.good, delivers_only b g r e n w.some w.there us w.delivery)

  resolving : (n room : ℕ) {m p : ℕ} → CallRefuses first_layout b n room m p → ResolveRefused b n room m p
  resolving n room (CallRefuses.bundle e) = ResolveRefused.bundle (bundle_refused e)
  resolving n room (CallRefuses.recording r e (ResolveRefuses.number h)) = ResolveRefused.number r e h
  resolving n room (CallRefuses.recording r e (ResolveRefuses.sample h l j)) = ResolveRefused.sample r e (sample_refused r e n h l j)
  resolving n room (CallRefuses.recording r e (ResolveRefuses.too_long h l j w)) =
      ResolveRefused.room r (delivered r n) e (resolved r e n h l j) (rw (← output_is r (delivered r n)) w)

  by_resolving : (n room : ℕ) {m p : ℕ} → ResolveRefused b n room m p → CallRefuses first_layout b n room m p
  by_resolving n room (ResolveRefused.bundle w) = CallRefuses.bundle (refused_bundle w)
  by_resolving n room (ResolveRefused.number r e h) = CallRefuses.recording r e (ResolveRefuses.number h)
  by_resolving n room (ResolveRefused.sample r e w) =
      let k = refused_sample r e n w in CallRefuses.recording r e (ResolveRefuses.sample k.0 k.1 k.2)
  by_resolving n room (ResolveRefused.room r us e w h) =
      let k = unresolved r n us e w in
      CallRefuses.recording r e (ResolveRefuses.too_long w.some w.there k.0 (rw (output_is r (delivered r n), ← k.1) h))

  pub resolve_refused : (n room m p : ℕ) → (resolve_call first_layout b n room ≡ refused m p) ↔ ResolveRefused b n room m p
  resolve_refused n room m p =
      (λ e. resolving n room (call_refused_because first_layout b n room m p e), λ w. call_refuses first_layout b n room (by_resolving n room w))

  unit : (n k : ℕ) {m p : ℕ} → UnitCallRefuses first_layout b n k m p → UnitRefused b n k m p
  unit n k (UnitCallRefuses.bundle e) = UnitRefused.bundle (bundle_refused e)
  unit n k (UnitCallRefuses.recording r e (UnitRefuses.number h)) = UnitRefused.number r e h
  unit n k (UnitCallRefuses.recording r e (UnitRefuses.sample h l j)) = UnitRefused.sample r e (sample_refused r e n h l j)
  unit n k (UnitCallRefuses.recording r e (UnitRefuses.unit h l j w)) = UnitRefused.unit r (delivered r n) e (resolved r e n h l j) w

  by_unit : (n k : ℕ) {m p : ℕ} → UnitRefused b n k m p → UnitCallRefuses first_layout b n k m p
  by_unit n k (UnitRefused.bundle w) = UnitCallRefuses.bundle (refused_bundle w)
  by_unit n k (UnitRefused.number r e h) = UnitCallRefuses.recording r e (UnitRefuses.number h)
  by_unit n k (UnitRefused.sample r e w) =
      let j = refused_sample r e n w in UnitCallRefuses.recording r e (UnitRefuses.sample j.0 j.1 j.2)
  by_unit n k (UnitRefused.unit r us e w h) =
      let j = unresolved r n us e w in
      UnitCallRefuses.recording r e (UnitRefuses.unit w.some w.there j.0 (subst (λ vs. (k ≡ 0) ⊎ (length vs < k)) j.1 h))

  pub unit_refused : (n k m p : ℕ) → (unit_call first_layout b n k ≡ refused m p) ↔ UnitRefused b n k m p
  unit_refused n k m p =
      (λ e. unit n k (unit_call_because first_layout b n k m p e), λ w. unit_call_refuses first_layout b n k (by_unit n k w))

  placed : (a : Answer Span) {m p : ℕ} → placed_by (first_layout.content_at b) a ≡ refused m p → a ≡ refused m p
  placed (refused n q) e = let s = refused_same e in rw (s.0, s.1)
  placed (ok u) e = ok_refused (sym e)

  pub place_refused : (n k m p : ℕ) → (place_call first_layout b n k ≡ refused m p) ↔ UnitRefused b n k m p
  unfolding place_call
  place_refused n k m p = (
    λ e. (unit_refused n k m p).0 (placed (unit_call first_layout b n k) e),
    λ w. ap (placed_by (first_layout.content_at b)) ((unit_refused n k m p).1 w),
  )

  pub units_refused :
      (n k m p : ℕ) → ((unit_call first_layout b n k ≡ refused m p) ↔ UnitRefused b n k m p) × ((place_call first_layout b n k ≡ refused m p) ↔ UnitRefused b n k m p)
  units_refused n k m p = (unit_refused n k m p, place_refused n k m p)

  naming : (s room : ℕ) {m p : ℕ} → NamesRefuses first_layout b s room m p → NamesRefused b s room m p
  naming s room (NamesRefuses.bundle e) = NamesRefused.bundle (bundle_refused e)
  naming s room (NamesRefuses.number r e h) = NamesRefused.number r e h
  naming s room (NamesRefuses.too_long r e h l w) = NamesRefused.room r e h l w

  by_naming : (s room : ℕ) {m p : ℕ} → NamesRefused b s room m p → NamesRefuses first_layout b s room m p
  by_naming s room (NamesRefused.bundle w) = NamesRefuses.bundle (refused_bundle w)
  by_naming s room (NamesRefused.number r e h) = NamesRefuses.number r e h
  by_naming s room (NamesRefused.room r e h l w) = NamesRefuses.too_long r e h l w

  pub names_refused : (s room m p : ℕ) → (names_call first_layout b s room ≡ refused m p) ↔ NamesRefused b s room m p
  names_refused s room m p =
      let w = names_refused_exactly first_layout b s room m p in (λ e. naming s room (w.0 e), λ v. w.1 (by_naming s room v))

  auditing : (room : ℕ) {m p : ℕ} → AuditRefuses first_layout b room m p → AuditRefused b room m p
  auditing room (AuditRefuses.bundle e) = AuditRefused.bundle (bundle_refused e)
  auditing room (AuditRefuses.too_long r e h) = AuditRefused.room r e h

  by_auditing : (room : ℕ) {m p : ℕ} → AuditRefused b room m p → AuditRefuses first_layout b room m p
  by_auditing room (AuditRefused.bundle w) = AuditRefuses.bundle (refused_bundle w)
  by_auditing room (AuditRefused.room r e h) = AuditRefuses.too_long r e h

  pub audit_refused : (room m p : ℕ) → (audit_call first_layout b room ≡ refused m p) ↔ AuditRefused b room m p
  audit_refused room m p =
      let w = audit_refused_exactly first_layout b room m p in (λ e. auditing room (w.0 e), λ v. w.1 (by_auditing room v))

  pub tally_refused : (room m p : ℕ) → (tally_call first_layout b room ≡ refused m p) ↔ AuditRefused b room m p
  tally_refused room m p =
      let w = tally_refused_exactly first_layout b room m p in (λ e. auditing room (w.0 e), λ v. w.1 (by_auditing room v))

  pub audits_refused :
      (room m p : ℕ) → ((audit_call first_layout b room ≡ refused m p) ↔ AuditRefused b room m p) × ((tally_call first_layout b room ≡ refused m p) ↔ AuditRefused b room m p)
  audits_refused room m p = (audit_refused room m p, tally_refused room m p)
