-- Judgements kept in a table. Assumes nothing.
--
--   judgement_small                          a judgement fits in one number, its refusal below 256
--   word_verdict                             it is read back
--   between_none                             no sample
--   between_layout, -recording, -length      with judgements kept, the table says the same
--   more_between                             one judgement more
--   upto_between                             the first n samples are samples 1 to n
--   upto_layout, -recording, -length, more   the same of the first n samples
--   all_long, all_short, all_between         of a bundle too long, and of another
--   all_layout, all_recording                the table says the same
--   between_kept, upto_kept, kept_judgement  what is kept beside a sample is its judgement
--   units_refused, units_good                what a judgement says of a sample
--   refused_kept, units_kept                 what is kept, read back
use Prim.Native.Nat.{ℕ, zero, suc, ◌+◌, ◌≤◌, ◌<◌}
use mathlib.Core.Path.{◌≡◌, refl, ap, sym, ◌∙◌}
use mathlib.Core.List.{List}
use native.Mathlib.Omega.{arith}
use native.Mathlib.Numerals.{add-one}
use borrow.Author.Tests.{lt-ltb, le-ltb, ltb-true, ltb-false, ne_eqb, eqb-true, eqb-false}
use lib.Dec.{eqb}
use lib.ListN.{length, length-set}
use Rattle.words.specs.Tests.{◌<?◌}
use Rattle.words.specs.Lists.{some}
use Rattle.words.specs.Refusals.{Verdict, Answer, refused, ok, ◌and_then◌}
use Rattle.words.specs.RefusalNumbers.{sample_refusals}
use Rattle.words.proofs.Tests.{by_bool}
use Rattle.words.proofs.Refusals.{by_verdict, refused_same, ok_same, ok_refused}
use Rattle.words.proofs.Kept.{some_false}
use Rattle.bundles.specs.Limits.{bundle_most}
use Rattle.bundles.specs.Recordings.{Recording, sample_count}
use Rattle.tables.specs.Tables.{layout_in, recording_in, table_most, sample_total, kept_count_in, with_kept_count}
use Rattle.tables.proofs.Layouts.{samples_count, samples_most}
use Rattle.tables.proofs.KeptCounts.{kept_count_layout, kept_count_recording, kept_count_case, kept_count_set, kept_count_other}
use Rattle.resolution_rules.specs.Resolving.{delivered, judged}
use Rattle.resolution_rules.proofs.Amounts.{delivered_size}
use Rattle.resolution_rules.proofs.Good.{good_rules, judged_refused}
use Rattle.resolution_rules.proofs.Sizes.{delivered_most}
use Rattle.delivery.proofs.Folds.{content_most}
use Rattle.judging.specs.Steps.{amount_for, judgement}
use Rattle.judging.specs.declared.Amount.{Amount}
use Rattle.verdicts.specs.Kept.{judgement_word, units_of, verdict_in, judgements_upto, judgements_between, with_judgements}
use Rattle.verdicts.proofs.Known.{low, high}

module _ (b t : List ℕ) where
  abbrev R : Recording
  R = recording_in b t

  -- 14 to 28 at a place in the sample, or how many units
  word_small : (n : ℕ) → length b ≤ bundle_most → (v : Verdict) → v ≡ judged (recording_in b t) n → judgement_word (v and_then ok (amount_for (recording_in b t) n)) ≤ 72057594037927936
  unfolding some
  word_small n few (refused m q) e =
      let j = judged_refused R n m q (sym e) in
      let s = ltb-false 255 m (some_false (λ k. 255 <? k) sample_refusals refl m j.0) in
      let l = content_most b t n in
      omega (arith, j.1)
  word_small n few (ok u) e =
      let m = delivered_most R n (good_rules R n (sym e)) bundle_most (λ k. let l = content_most b t k in omega arith) in
      let s = delivered_size R n in
      omega arith

  pub judgement_small : (n : ℕ) → length b ≤ bundle_most → judgement_word (judgement (recording_in b t) n) ≤ 72057594037927936
  unfolding judgement
  judgement_small n few = word_small n few (judged R n) refl

  -- read back
  read_back : (n : ℕ) (v : Verdict) → v ≡ judged (recording_in b t) n → let j = v and_then ok (amount_for (recording_in b t) n) in verdict_in (judgement_word j) ≡ units_of j
  unfolding verdict_in some
  read_back n (refused m q) e =
      let j = judged_refused R n m q (sym e) in
      let s = ltb-false 255 m (some_false (λ k. 255 <? k) sample_refusals refl m j.0) in
      let z = ltb-false m 1 (some_false (λ k. k <? 1) sample_refusals refl m j.0) in
      rw (low m q (omega arith), high m q (omega arith), ne_eqb m 0 (λ i. omega arith))
  read_back n (ok u) e = let c = (amount_for R n).count in rw (low 0 c (omega arith), high 0 c (omega arith))

  pub word_verdict : (n : ℕ) → verdict_in (judgement_word (judgement (recording_in b t) n)) ≡ units_of (judgement (recording_in b t) n)
  unfolding judgement
  word_verdict n = read_back n (judged R n) refl

  -- the judgements of samples first to n
  module _ (first : ℕ) where
    pub between_none : (n : ℕ) → n < first → judgements_between b t first n ≡ t
    unfolding judgements_between
    between_none zero h = refl
    between_none (suc n) h = rw (lt-ltb (suc n) first h)

    next : (n : ℕ) → first ≤ suc n → judgements_between b t first (suc n) ≡ with_kept_count (judgements_between b t first n) (suc n) (judgement_word (judgement (recording_in b t) (suc n)))
    unfolding judgements_between
    next n h = rw (le-ltb (suc n) first h)

    start : judgements_between b t first zero ≡ t
    unfolding judgements_between
    start = refl

    -- what one judgement more leaves as it was
    keeps : (P : List ℕ → Type 0) → P t → ((x : List ℕ) (n : ℕ) → P x → P (with_kept_count x (suc n) (judgement_word (judgement (recording_in b t) (suc n))))) → (n : ℕ) → P (judgements_between b t first n)
    keeps P z s zero = rw start z
    keeps P z s (suc n) = by_bool (suc n <? first)
        (λ l. rw (between_none (suc n) (ltb-true (suc n) first l)) z)
        (λ l. rw (next n (ltb-false (suc n) first l)) (s (judgements_between b t first n) n (keeps P z s n)))

    pub between_layout : (n : ℕ) → layout_in (judgements_between b t first n) ≡ layout_in t
    between_layout = keeps (λ x. layout_in x ≡ layout_in t) refl (λ x n e. kept_count_layout x (suc n) (judgement_word (judgement R (suc n))) ∙ e)

    pub between_recording : (n : ℕ) → recording_in b (judgements_between b t first n) ≡ recording_in b t
    between_recording = keeps (λ x. recording_in b x ≡ recording_in b t) refl (λ x n e. kept_count_recording b x (suc n) (judgement_word (judgement R (suc n))) ∙ e)

    pub between_length : (n : ℕ) → length (judgements_between b t first n) ≡ length t
    between_length = keeps (λ x. length x ≡ length t) refl (λ x n e. kept_count_case x (suc n) (judgement_word (judgement R (suc n))) (λ y. length y ≡ length t) e (length-set x _ _ ∙ e))

    -- a loop that has kept the judgements up to n
    pub more_between : (n : ℕ) → first ≤ n + 1 → (now : List ℕ) → now ≡ judgements_between b t first n → {a : Answer Amount} → a ≡ judgement (recording_in b now) (n + 1) → {w : ℕ} → w ≡ judgement_word a → with_kept_count now (n + 1) w ≡ judgements_between b t first (n + 1)
    more_between n h now e f g =
        let s : recording_in b now ≡ R = ap (recording_in b) e ∙ between_recording n in
        rw (g, f, s, e, add-one n) (sym (next n (omega arith)))

  pub upto_between : (n : ℕ) → judgements_upto b t n ≡ judgements_between b t 1 n
  unfolding judgements_upto
  upto_between zero = sym (start 1)
  upto_between (suc n) =
      ap (λ (x : List ℕ). with_kept_count x (suc n) (judgement_word (judgement R (suc n)))) (upto_between n) ∙ sym (next 1 n (omega arith))

  pub upto_layout : (n : ℕ) → layout_in (judgements_upto b t n) ≡ layout_in t
  upto_layout n = ap layout_in (upto_between n) ∙ between_layout 1 n

  pub upto_recording : (n : ℕ) → recording_in b (judgements_upto b t n) ≡ recording_in b t
  upto_recording n = ap (recording_in b) (upto_between n) ∙ between_recording 1 n

  pub upto_length : (n : ℕ) → length (judgements_upto b t n) ≡ length t
  upto_length n = ap length (upto_between n) ∙ between_length 1 n

  -- a loop that has kept n judgements
  pub more :
      (n : ℕ) (now : List ℕ) → now ≡ judgements_upto b t n → {a : Answer Amount} → a ≡ judgement (recording_in b now) (n + 1) →
      {w : ℕ} → w ≡ judgement_word a → with_kept_count now (n + 1) w ≡ judgements_upto b t (n + 1)
  more n now e f g = more_between 1 n (omega arith) now (e ∙ upto_between n) f g ∙ sym (upto_between (n + 1))

  pub all_long : bundle_most < length b → with_judgements b t ≡ t
  unfolding with_judgements
  all_long h = rw (lt-ltb bundle_most (length b) h)

  pub all_short : length b ≤ bundle_most → with_judgements b t ≡ judgements_upto b t (sample_count (layout_in t))
  unfolding with_judgements
  all_short h = rw (le-ltb bundle_most (length b) h)

  pub all_between : length b ≤ bundle_most → with_judgements b t ≡ judgements_between b t 1 (sample_count (layout_in t))
  all_between h = all_short h ∙ upto_between (sample_count (layout_in t))

  pub all_recording : recording_in b (with_judgements b t) ≡ recording_in b t
  all_recording = by_bool (bundle_most <? length b)
      (λ l. ap (recording_in b) (all_long (ltb-true bundle_most (length b) l)))
      (λ l. ap (recording_in b) (all_between (ltb-false bundle_most (length b) l)) ∙ between_recording 1 (sample_count (layout_in t)))

  pub all_layout : layout_in (with_judgements b t) ≡ layout_in t
  all_layout = by_bool (bundle_most <? length b)
      (λ l. ap layout_in (all_long (ltb-true bundle_most (length b) l)))
      (λ l. ap layout_in (all_between (ltb-false bundle_most (length b) l)) ∙ between_layout 1 (sample_count (layout_in t)))

  -- what is kept beside sample n
  pub between_kept : (first k : ℕ) → k ≤ sample_count (layout_in t) → table_most ≤ length t → (n : ℕ) → 0 < n → first ≤ n → n ≤ k → kept_count_in (judgements_between b t first k) n ≡ judgement_word (judgement (recording_in b t) n)
  between_kept first zero l r n h f i = absurd (omega arith)
  between_kept first (suc k) l r n h f i =
      let few = samples_most t in
      let c = samples_count t in
      let d : sample_total (judgements_between b t first k) ≡ sample_total t = sym (samples_count (judgements_between b t first k)) ∙ ap sample_count (between_layout first k) ∙ c in
      let s = between_length first k in
      let below = between_kept first k in
      rw (next first k (omega arith)) (by_bool (eqb n (suc k))
      (λ e. rw (eqb-true n (suc k) e) (kept_count_set (judgements_between b t first k) (suc k) _ (omega arith) (omega arith) (omega arith)))
      (λ e. let q = eqb-false n (suc k) e in kept_count_other (judgements_between b t first k) (suc k) n _ q ∙ below (omega arith) r n h f (omega arith)))

  upto_kept :
      (k : ℕ) → k ≤ sample_total t → table_most ≤ length t → (n : ℕ) → 0 < n → n ≤ k →
      kept_count_in (judgements_upto b t k) n ≡ judgement_word (judgement (recording_in b t) n)
  upto_kept k l r n h i =
      let c = samples_count t in ap (λ (x : List ℕ). kept_count_in x n) (upto_between k) ∙ between_kept 1 k (omega arith) r n h h i

  pub kept_judgement : length b ≤ bundle_most → table_most ≤ length t → (n : ℕ) → 0 < n → n ≤ sample_count (layout_in t) → kept_count_in (with_judgements b t) n ≡ judgement_word (judgement (recording_in b t) n)
  kept_judgement few r n h i = ap (λ (x : List ℕ). kept_count_in x n) (all_between few) ∙ between_kept 1 (sample_count (layout_in t)) (omega arith) r n h h i

-- what a judgement says of a sample
module _ (r : Recording) (n : ℕ) where
  pub units_refused : {m q : ℕ} → units_of (judgement r n) ≡ refused m q → judged r n ≡ refused m q
  unfolding judgement
  units_refused {m} {q} e = by_verdict (judged r n)
      (λ a b v. let s = refused_same (rw v at e) in v ∙ rw (s.0, s.1))
      (λ v. ok_refused (sym (rw v at e)))

  pub units_good : {k : ℕ} → units_of (judgement r n) ≡ ok k → (judged r n ≡ ok tt) × (k ≡ length (delivered r n))
  unfolding judgement
  units_good {k} e = by_verdict (judged r n)
      (λ a b v. ok_refused (rw v at e))
      (λ v. (v, sym (ok_same (rw v at e))))

-- what is kept, read back
module _ (b t : List ℕ) (few : length b ≤ bundle_most) (room : table_most ≤ length t) (n : ℕ) (h : 0 < n) (i : n ≤ sample_count (layout_in t)) where
  kept_units_lem : verdict_in (kept_count_in (with_judgements b t) n) ≡ units_of (judgement (recording_in b t) n)
  kept_units_lem = ap verdict_in (kept_judgement b t few room n h i) ∙ word_verdict b t n

  pub refused_kept : (m p : ℕ) → judged (recording_in b t) n ≡ refused m p → verdict_in (kept_count_in (with_judgements b t) n) ≡ refused m p
  unfolding judgement
  refused_kept m p e = kept_units_lem ∙ rw e

  pub units_kept : judged (recording_in b t) n ≡ ok tt → verdict_in (kept_count_in (with_judgements b t) n) ≡ ok (length (delivered (recording_in b t) n))
  unfolding judgement
  units_kept e = kept_units_lem ∙ rw e
