-- What a judgement of a sample says. Assumes nothing.
--
--   form_long, form_none, form_in_lem  the form: of a bundle that is too long; 30 for the number; a number without it
--   form_refused, refused_judged       a form that is refused: so is any call on a good sample, and the judgement
--   form_good, good_judged             a form that is not: the bundle is not too long, the number is good, and the sample is judged
--   judged_refused                     30 or 14 to 28: so is any call on a good sample
--   judged_number, judged_good         a sample that is good, and how much it delivers
--   judged_size_lem, judged_most       the length of its output, and that it fits a word
use Prim.Native.Nat.{ℕ, ◌+◌, ◌*◌, ◌≤◌, ◌<◌}
use mathlib.Core.Path.{◌≡◌, refl, ap, sym, ◌∙◌}
use mathlib.Core.List.{List}
use native.Mathlib.Omega.{arith}
use borrow.Author.Tests.{le-ltb, lt-ltb, ltb-true, ltb-false}
use lib.Dec.{ltb}
use lib.ListN.{length}
use Rattle.words.specs.RefusalNumbers.{bundle_too_long}
use Rattle.words.specs.Refusals.{Verdict, Answer, refused, ok, ◌and_then◌, ◌at_place◌}
use Rattle.words.proofs.Tests.{by_bool}
use Rattle.words.proofs.Refusals.{at_ok, at_refused, and_ok, ok_same, ok_refused, refused_same}
use Rattle.samples.specs.Check.{check}
use Rattle.bundles.specs.Limits.{bundle_most}
use Rattle.bundles.specs.Recordings.{Recording, sample_count}
use Rattle.tables.specs.Tables.{recording_in}
use Rattle.resolution_rules.specs.Resolving.{sample_of, delivered, judged}
use Rattle.copies.specs.Written.{length_before}
use Rattle.resolution_rules.specs.Calls.{number_fault, on_sample, on_good, output}
use Rattle.resolution_rules.specs.Amounts.{own_bytes, copied_bytes}
use Rattle.resolution_rules.proofs.Delivered.{judged_form}
use Rattle.resolution_rules.proofs.Amounts.{delivered_size, output_bytes}
use Rattle.resolution_rules.proofs.Good.{good_rules}
use Rattle.resolution_rules.proofs.Sizes.{delivered_most}
use Rattle.delivery.proofs.Folds.{content_most}
use Rattle.judging.specs.Steps.{amount_for, on_sample_in, judgement, judgement_in, form_in}
use Rattle.judging.specs.declared.Amount.{Amount}

module _ (r : Recording) (n : ℕ) where
  judgement_good : (a : Amount) → judgement r n ≡ ok a → (judged r n ≡ ok tt) × (a.count ≡ length (delivered r n)) × (a.own_bytes ≡ own_bytes r n) × (a.copied_bytes ≡ copied_bytes r n)
  unfolding judgement
  judgement_good a e =
      let w = and_ok (judged r n) _ e in
      let s = ok_same w.1 in
      (w.0, sym (ap (λ (b : Amount). b.count) s), sym (ap (λ (b : Amount). b.own_bytes) s), sym (ap (λ (b : Amount). b.copied_bytes) s))

-- the refusal of a judgement is that of any call on a good sample
on_refused : {A B : Type 0} {m q : ℕ} (v w : Verdict) (x : B) (a : Answer A) → (v and_then (w and_then ok x)) ≡ refused m q → (v and_then (w and_then a)) ≡ refused m q
on_refused {A} {B} {m} {q} (refused c d) w x a e = let i : c ≡ m = cc in let j : d ≡ q = cc in rw (i, j)
on_refused {A} {B} {m} {q} (ok u) (refused c d) x a e = let i : c ≡ m = cc in let j : d ≡ q = cc in rw (i, j)
on_refused (ok u) (ok w) x a e = ok_refused (sym e)

module _ (b t : List ℕ) (n : ℕ) where
  abbrev R : Recording
  R = recording_in b t

  abbrev Fault : ℕ
  Fault = number_fault (sample_count (recording_in b t).layout) n

  -- a bundle that is too long, and one that is not, whatever is said of the sample
  on_long : {A : Type 0} (a : Answer A) → bundle_most < length b → on_sample_in b t n a ≡ refused bundle_too_long 0
  on_long a h = rw (lt-ltb bundle_most (length b) h)

  on_short : {A : Type 0} (a : Answer A) → length b ≤ bundle_most → on_sample_in b t n a ≡ on_sample R n a
  on_short a h = rw (le-ltb bundle_most (length b) h)

  pub form_long : bundle_most < length b → form_in b t n ≡ refused bundle_too_long 0
  unfolding form_in
  form_long h = on_long (check (sample_of R n)) h

  module _ (h : length b ≤ bundle_most) where
    short : judgement_in b t n ≡ on_sample R n (judgement R n)
    unfolding judgement_in
    short = on_short (judgement R n) h

    form_short : form_in b t n ≡ on_sample R n (check (sample_of R n))
    unfolding form_in
    form_short = on_short (check (sample_of R n)) h

    pub form_none : {f : ℕ} → f ≡ number_fault (sample_count (recording_in b t).layout) n → (f ≡ 0 → ⊥) → form_in b t n ≡ refused f 0
    form_none e z = form_short ∙ rw (at_refused 0 e z)

    pub form_in_lem : number_fault (sample_count (recording_in b t).layout) n ≡ 0 → form_in b t n ≡ check (sample_of (recording_in b t) n)
    form_in_lem g = form_short ∙ rw g

    judgement_in_lem : number_fault (sample_count (recording_in b t).layout) n ≡ 0 → judgement_in b t n ≡ judgement (recording_in b t) n
    judgement_in_lem g = short ∙ rw g

    -- 30, or 14 to 28: so is any call on a good sample; 14 to 28 where the number is good
    pub judged_refused : {m q : ℕ} → judgement_in b t n ≡ refused m q → {A : Type 0} (a : Answer A) → on_good (recording_in b t) n a ≡ refused m q
    unfolding judgement
    judged_refused e a = on_refused (Fault at_place 0) (judged R n) (amount_for R n) a (sym short ∙ e)

  module _ (h : length b ≤ bundle_most) (a : Amount) (e : judgement_in b t n ≡ ok a) where
    both : (Fault at_place 0 ≡ ok tt) × (judgement R n ≡ ok a)
    both = and_ok (Fault at_place 0) (judgement R n) (sym (short h) ∙ e)

    pub judged_number : number_fault (sample_count (recording_in b t).layout) n ≡ 0
    judged_number = at_ok Fault 0 both.0

    pub judged_good : (judged R n ≡ ok tt) × (a.count ≡ length (delivered R n)) × (a.own_bytes ≡ own_bytes R n) × (a.copied_bytes ≡ copied_bytes R n)
    judged_good = judgement_good R n a both.1

    -- the length of the output follows, and fits a word
    pub judged_size_lem : a.own_bytes + a.copied_bytes + length_before * a.count ≡ length (output R (delivered R n))
    judged_size_lem = let w = judged_good in rw (w.1, w.2, w.3) (sym (output_bytes R n w.0))

    pub judged_most : a.own_bytes + a.copied_bytes + length_before * a.count ≤ 1125899906842624
    judged_most =
        let w = judged_good in
        let m = delivered_most R n (good_rules R n w.0) bundle_most (λ k. let l = content_most b t k in omega arith) in
        rw (w.1, w.2, w.3) (rw (delivered_size R n) at m)

  -- the form that is refused
  module _ {m q : ℕ} (e : form_in b t n ≡ refused m q) where
    form_case : {A : Type 0} (a : Answer A) (v : Verdict) → v ≡ Fault at_place 0 → (v and_then check (sample_of R n)) ≡ refused m q → (v and_then (judged R n and_then a)) ≡ refused m q
    form_case a (refused c d) f g = let s = refused_same g in rw (s.0, s.1)
    form_case a (ok u) f g = rw (judged_form R n g)

    pub form_refused : length b ≤ bundle_most → {A : Type 0} (a : Answer A) → on_good (recording_in b t) n a ≡ refused m q
    form_refused h a = form_case a (Fault at_place 0) refl (sym (form_short h) ∙ e)

    pub refused_judged : judgement_in b t n ≡ refused m q
    unfolding judgement_in judgement
    refused_judged = by_bool (ltb bundle_most (length b))
        (λ l.
        let k = ltb-true bundle_most (length b) l in
        let s = refused_same (sym (form_long k) ∙ e) in
        on_long (judgement R n) k ∙ rw (s.0, s.1))
        (λ l. let k = ltb-false bundle_most (length b) l in short k ∙ form_refused k (ok (amount_for R n)))

  -- and that is not
  module _ (e : form_in b t n ≡ ok tt) where
    pub form_good : (length b ≤ bundle_most) × (number_fault (sample_count (recording_in b t).layout) n ≡ 0) × (check (sample_of (recording_in b t) n) ≡ ok tt)
    form_good = by_bool (ltb bundle_most (length b))
        (λ l. ok_refused (sym (form_long (ltb-true bundle_most (length b) l)) ∙ e))
        (λ l.
        let k = ltb-false bundle_most (length b) l in
        let w = and_ok (Fault at_place 0) (check (sample_of R n)) (sym (form_short k) ∙ e) in
        (k, at_ok Fault 0 w.0, w.1))

    pub good_judged : judgement_in b t n ≡ judgement (recording_in b t) n
    good_judged = let w = form_good in judgement_in_lem w.0 w.1
