-- The proofs of what Demands says of the audit. Assumes nothing.
use Prim.Native.Nat.{ℕ, zero, suc, ◌+◌, ◌-◌, ◌*◌, ◌≤◌, ◌<◌}
use mathlib.Core.Path.{◌≡◌, refl, ap, ap₂, sym, ◌∙◌, subst}
use mathlib.Core.Bool.{Bool, true, false, ◌&&◌, not}
use mathlib.Core.List.{List}
use mathlib.Core.Logic.{◌↔◌}
use native.Mathlib.Omega.{arith}
use native.Mathlib.Nat.{add-zero, add_assoc}
use lib.ListN.{length}
use Rattle.words.specs.Tests.{◌≡?◌, pick}
use Rattle.words.specs.Refusals.{Answer, ok}
use Rattle.words.specs.Lists.{◌∈◌, upto}
use Rattle.words.specs.Bytes.{Bytes, byte_at, big, part, splice}
use Rattle.words.specs.Buffers.{Wrote}
use Rattle.words.proofs.Refusals.{ok_same, ok_refused, by_verdict}
use Rattle.words.proofs.Kept.{keep_same}
use Rattle.words.proofs.Lists.{upto_from}
use Rattle.words.proofs.Joined.{part_byte}
use Rattle.bundles.specs.Recordings.{Recording, sample_count, content_of, replaced}
use Rattle.bundles.specs.Readers.{first_layout}
use Rattle.resolution_rules.specs.Resolving.{judged, delivered}
use Rattle.resolution_rules.specs.Calls.{resolve_unit, unit_call}
use Rattle.resolution_rules.proofs.Calls.{number_good, number_bad, by_count, unit_means}
use Rattle.resolution_rules.proofs.Good.{judged_refused}
use Rattle.resolution_rules.proofs.Readers.{first_layout_sound}
use Rattle.naming_list_rules.specs.Rules.{Unlisted}
use Rattle.naming_list_rules.proofs.Calls.{wrote_list}
use Rattle.naming_list_rules.proofs.Others.{sample_kept}
use Rattle.tally.specs.Tallies.{is_passed, is_empty, is_refused}
use Rattle.tally.specs.declared.Outcome.{Outcome}
use Rattle.tally.specs.declared.Outcome.TheVariants.{Passed, Empty, Refused}
use Rattle.tally.specs.declared.Tally.{Tally}
use Rattle.audit_rules.specs.Auditing.{outcome_of, line_of, line_bytes, lines, tally, audit_call, tally_call}
use Rattle.audit_rules.specs.Rules.{Reads, line_at, SampleLine, LinePerSample}
use Rattle.audit_rules.proofs.Lines.{lines_length}
use Rattle.audit_rules.proofs.Refusals.{number_some}
use Rattle.audit_rules.proofs.Promises as auditing
use Rattle.promise_rules.specs.Resolving.{GoodSample}
use Rattle.promise_rules.proofs.CallLaws.{good_exactly, delivers}
use Rattle.promise_rules.proofs.RefusedLaws.{sample_refused, refused_sample}
use Rattle.promise_rules.specs.Audits.{LineIn, SampleSays, TallyOf}

big_part : (s : List ℕ) (a n i k : ℕ) → i + k ≤ n → big (part s a n) i k ≡ big s (a + i) k
unfolding big
big_part s a n i zero h = refl
big_part s a n i (suc k) h =
    ap₂ (λ (x y : ℕ). x * 256 + y) (big_part s a n i k (omega arith))
    (part_byte s a n (i + k) (omega arith) ∙ ap (byte_at s) (sym (add_assoc a i k)))

by_line_passed : (b c : Bool) → is_passed (pick b (pick c Empty Passed) Refused) ≡ (b && not c)
by_line_passed true true = refl
by_line_passed true false = refl
by_line_passed false c = refl

by_line_empty : (b c : Bool) → is_empty (pick b (pick c Empty Passed) Refused) ≡ (b && c)
by_line_empty true true = refl
by_line_empty true false = refl
by_line_empty false c = refl

by_line_refused : (b c : Bool) → is_refused (pick b (pick c Empty Passed) Refused) ≡ not b
by_line_refused true true = refl
by_line_refused true false = refl
by_line_refused false c = refl

module _ (b : List ℕ) (r : Recording) (accepted : first_layout.means b ≡ ok r) where
  abbrev count : ℕ
  count = sample_count r.layout

  module _ {out out₁ : List ℕ} {a : Answer ℕ} (w : Wrote out out₁ a (audit_call first_layout b (length out))) (fits : 13 * count ≤ length out) where
    all_lines : (audit_call first_layout b (length out) ≡ ok (lines r)) × LinePerSample r (lines r)
    all_lines = auditing.every_sample_one_line first_layout first_layout_sound b r accepted (length out) fits

    wrote : Wrote out out₁ a (ok (lines r))
    wrote = subst (Wrote out out₁ a) all_lines.0 w

    pub audit_count : a ≡ ok (13 * count)
    audit_count = wrote.answer ∙ ap ok (lines_length r)

    reads_lines : (q n : ℕ) → q + n ≤ 13 * count → big out₁ q n ≡ big (lines r) q n
    reads_lines q n h =
        let k = wrote_list (subst (λ (x : Answer ℕ). Wrote out out₁ x (ok (lines r))) audit_count wrote) in
        let e : k.0 ≡ lines r = sym (ok_same k.1) in
        k.3 q n h ∙ ap (λ (s : List ℕ). big s q n) e

    pub reads_line : (n : ℕ) → 0 < n → n ≤ count → (i k : ℕ) → i + k ≤ 13 → big (line_at (lines r) n) i k ≡ big out₁ (13 * (n - 1) + i) k
    reads_line n h l i k e = big_part (lines r) (13 * (n - 1)) 13 i k e ∙ sym (reads_lines (13 * (n - 1) + i) k (omega arith))

    line_in : (n m p units : ℕ) → 0 < n → n ≤ count → Reads (line_at (lines r) n) m p units → LineIn out₁ n m p units
    line_in n m p units h l v =
        record {
          refusal = ap (λ (q : ℕ). big out₁ q 1) (sym (add-zero (13 * (n - 1)))) ∙ sym (reads_line n h l 0 1 (omega arith)) ∙ v.refusal;
          place = sym (reads_line n h l 1 4 (omega arith)) ∙ v.place;
          units = sym (reads_line n h l 5 8 (omega arith)) ∙ v.units;
        }

    says : Bytes b → (n : ℕ) → 0 < n → n ≤ count → {o : Outcome} → SampleLine r n (line_at (lines r) n) o → SampleSays r n out₁
    says g n h l (SampleLine.good z j v) =
        let good = (good_exactly b g r accepted n h l).0 j in
        SampleSays.passed z (delivered r n) (record { some = h; there = l; good = good; delivery = delivers b g r accepted n h l good }) (line_in n 0 0 (length (delivered r n)) h l v)
    says g n h l (SampleLine.empty z v) = SampleSays.empty z (line_in n 0 0 0 h l v)
    says g n h l (SampleLine.bad {m} {p} j k v) =
        SampleSays.bad m p (λ good. ok_refused (sym j ∙ (good_exactly b g r accepted n h l).1 good)) (sample_refused b g r accepted n h l j) (line_in n m p 0 h l v)

    pub line_each : Bytes b → (n : ℕ) → 0 < n → n ≤ count → SampleSays r n out₁
    line_each g n h l = says g n h l (all_lines.1.line n h l)

    zero_good : Bytes b → (n : ℕ) → 0 < n → n ≤ count → SampleSays r n out₁ → big out₁ (13 * (n - 1)) 1 ≡ 0 → GoodSample r n
    zero_good g n h l (SampleSays.passed z us w v) e = w.good
    zero_good g n h l (SampleSays.empty z v) e = (good_exactly b g r accepted n h l).0 (auditing.empty_is_good r n z).0
    zero_good g n h l (SampleSays.bad m p broken w v) e = let s = number_some r n (judged_refused r n m p (refused_sample b g r accepted n w).2) in let f = v.refusal in absurd (omega arith)

    good_zero : (n : ℕ) → SampleSays r n out₁ → GoodSample r n → big out₁ (13 * (n - 1)) 1 ≡ 0
    good_zero n (SampleSays.passed z us w v) good = v.refusal
    good_zero n (SampleSays.empty z v) good = v.refusal
    good_zero n (SampleSays.bad m p broken w v) good = absurd (broken good)

    pub zero_exactly : Bytes b → (n : ℕ) → 0 < n → n ≤ count → (big out₁ (13 * (n - 1)) 1 ≡ 0) ↔ GoodSample r n
    zero_exactly g n h l = (zero_good g n h l (line_each g n h l), good_zero n (line_each g n h l))

    outcome_is : (n : ℕ) → n ∈ upto count → outcome_of r n ≡ pick (big out₁ (13 * (n - 1)) 1 ≡? 0) (pick (length (content_of r n) ≡? 0) Empty Passed) Refused
    outcome_is n m =
        let u = upto_from count n m in
        sym (all_lines.1.outcome n u.0 u.1)
        ∙ ap (λ (q : ℕ). pick (q ≡? 0) (pick (length (content_of r n) ≡? 0) Empty Passed) Refused)
        (reads_line n u.0 u.1 0 1 (omega arith) ∙ ap (λ (q : ℕ). big out₁ q 1) (add-zero (13 * (n - 1))))

    pub tally_of_lem : (t : Tally) → tally_call first_layout b (length out) ≡ ok t → TallyOf r out₁ t
    tally_of_lem t e =
        let v = (auditing.tallied_exactly first_layout b (length out) t).0 e in
        let same : v.recording ≡ r = ok_same (sym v.means ∙ accepted) in
        let q : t ≡ tally r = v.counts ∙ ap tally same in
        let c = auditing.tally_counts r in
        rw q (record {
          passed = c.passed ∙ ap length (keep_same _ _ (upto count) (λ n m. ap is_passed (outcome_is n m) ∙ by_line_passed (big out₁ (13 * (n - 1)) 1 ≡? 0) (length (content_of r n) ≡? 0)));
          empty = c.empty ∙ ap length (keep_same _ _ (upto count) (λ n m. ap is_empty (outcome_is n m) ∙ by_line_empty (big out₁ (13 * (n - 1)) 1 ≡? 0) (length (content_of r n) ≡? 0)));
          refused = c.refused ∙ ap length (keep_same _ _ (upto count) (λ n m. ap is_refused (outcome_is n m) ∙ by_line_refused (big out₁ (13 * (n - 1)) 1 ≡? 0) (length (content_of r n) ≡? 0)));
          all = c.all;
        })

-- the tally
module _ (b : List ℕ) (r : Recording) (accepted : first_layout.means b ≡ ok r) where
  pub tally_done :
      {out out₁ : List ℕ} {a : Answer ℕ} → Wrote out out₁ a (audit_call first_layout b (length out)) → 13 * sample_count r.layout ≤ length out →
      (t : Tally) × (tally_call first_layout b (length out) ≡ ok t) × TallyOf r out₁ t
  tally_done {out} {out₁} {a} w fits =
      let e = (auditing.tallied_exactly first_layout b (length out) (tally r)).1 (record { recording = r; means = accepted; fits = fits; counts = refl }) in
      (tally r, e, tally_of_lem b r accepted w fits (tally r) e)

-- other bytes in place of those of sample s
module _ (b : List ℕ) (r : Recording) (accepted : first_layout.means b ≡ ok r) (s : ℕ) (some : 0 < s) (there : s ≤ sample_count r.layout) (new : List ℕ) (equal_length : length new ≡ length (content_of r s)) where
  abbrev after : List ℕ
  after = splice b (first_layout.content_at b s) new

  after_means : first_layout.means after ≡ ok (replaced r s new)
  after_means = first_layout_sound.replacing b r s new accepted some there equal_length

  module _ (n : ℕ) (other : n ≡ s → ⊥) (unlisted : Unlisted r s n) where
    line_kept : 0 < n → n ≤ sample_count r.layout → line_of (replaced r s new) n ≡ line_of r n
    unfolding line_of line_bytes
    line_kept h l =
        let k = sample_kept r s new n other h l unlisted in
        by_verdict (judged r n)
        (λ m p e. rw (k.verdict, e))
        (λ e. rw (k.verdict, e, k.units e))

    pub others_line :
        {out out₁ out' out₁' : List ℕ} {a a' : Answer ℕ} →
        Wrote out out₁ a (audit_call first_layout b (length out)) → Wrote out' out₁' a' (audit_call first_layout after (length out')) →
        13 * sample_count r.layout ≤ length out → 13 * sample_count r.layout ≤ length out' → 0 < n → n ≤ sample_count r.layout →
        (i k : ℕ) → i + k ≤ 13 → big out₁ (13 * (n - 1) + i) k ≡ big out₁' (13 * (n - 1) + i) k
    unfolding replaced
    others_line w v f f' h l i k e =
        sym (reads_line b r accepted w f n h l i k e)
        ∙ ap (λ (t : List ℕ). big t i k) (auditing.line_stands r n h l ∙ sym (line_kept h l) ∙ sym (auditing.line_stands (replaced r s new) n h l))
        ∙ reads_line after (replaced r s new) after_means v f' n h l i k e

    unit_kept : (k : ℕ) → resolve_unit (replaced r s new) n k ≡ resolve_unit r n k
    unfolding resolve_unit replaced
    unit_kept k = by_count (sample_count r.layout) n
        (λ z. rw (number_bad (sample_count r.layout) n z))
        (λ h l.
        let w = sample_kept r s new n other h l unlisted in
        rw (number_good (sample_count r.layout) n h l)
        (by_verdict (judged r n)
        (λ m p e. rw (w.verdict, e))
        (λ e. rw (w.verdict, e, w.units e))))

    pub others_unit : (k : ℕ) → unit_call first_layout after n k ≡ unit_call first_layout b n k
    others_unit k = unit_means first_layout after n k after_means ∙ unit_kept k ∙ sym (unit_means first_layout b n k accepted)
