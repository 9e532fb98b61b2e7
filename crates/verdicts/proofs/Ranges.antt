-- Samples first to last judged, and how long their joined output is. Assumes nothing.
--
--   size_most, size_given                         what a judged sample adds: at most so much; as long as what resolving gives
--   Keeping, keeping_start, -more, -length, -end  a loop over the samples
--   range_unfit, -none, -judged                   a range by a bundle too long or a table too short, by numbers that are not good, and by others: the answer and
--                                                 the table
--   range_refused, -stays                         a refusal: it is that of any call on the range, and the table stays
--   range_count                                   a length
--   range_recording, range_kept                   the table then says the same, and keeps the judgement of each sample
use Prim.Native.Nat.{ℕ, ◌+◌, ◌-◌, ◌*◌, ◌≤◌, ◌<◌}
use mathlib.Core.Path.{◌≡◌, refl, ap, sym, ◌∙◌}
use mathlib.Core.List.{List}
use mathlib.Core.Logic.{◌⊎◌, inl, inr}
use native.Mathlib.Omega.{arith}
use borrow.Author.Tests.{lt-ltb, le-ltb, ltb-true, ltb-false}
use lib.ListN.{length, length-append}
use Rattle.words.specs.Tests.{◌<?◌}
use Rattle.words.specs.Refusals.{◌if◌, Answer, Verdict, refused, ok, ◌and_then◌, ◌at_place◌, passed}
use Rattle.words.specs.RefusalNumbers.{bundle_too_long}
use Rattle.words.proofs.Tests.{by_bool, by_number}
use Rattle.words.proofs.Refusals.{at_refused, ok_same, ok_refused, refused_same}
use Rattle.bundles.specs.Limits.{bundle_most}
use Rattle.bundles.specs.Recordings.{Recording, sample_count}
use Rattle.tables.specs.Tables.{layout_in, recording_in, table_most, kept_count_in, with_kept_count}
use Rattle.tables.proofs.Layouts.{samples_most}
use Rattle.resolution_rules.specs.Resolving.{judged}
use Rattle.resolution_rules.specs.Calls.{resolve}
use Rattle.resolution_rules.specs.Ranges.{between, range_fault, given, joined}
use Rattle.resolution_rules.proofs.Amounts.{delivered_size, output_bytes}
use Rattle.resolution_rules.proofs.Good.{good_rules}
use Rattle.resolution_rules.proofs.Sizes.{delivered_most}
use Rattle.resolution_rules.proofs.Ranges as ranges
use Rattle.delivery.proofs.Folds.{content_most}
use Rattle.judging.specs.Steps.{amount_for, judgement, unfit, on_range_in}
use Rattle.judging.specs.declared.Amount.{Amount}
use Rattle.verdicts.specs.Kept.{judgement_word, judged_size, sample_output_most, judgements_between, range_size_in, with_range}
use Rattle.verdicts.proofs.Keeping.{between_none, between_recording, between_length, between_kept, more_between}

module _ (b t : List ℕ) where
  abbrev R : Recording
  R = recording_in b t

  most : (n : ℕ) → length b ≤ bundle_most → (v : Verdict) → v ≡ judged (recording_in b t) n → judged_size (v and_then ok (amount_for (recording_in b t) n)) ≤ sample_output_most
  most n few (refused m q) e = omega arith
  most n few (ok u) e =
      let m = delivered_most R n (good_rules R n (sym e)) bundle_most (λ k. let l = content_most b t k in omega arith) in
      rw (delivered_size R n) at m

  pub size_most : (n : ℕ) → length b ≤ bundle_most → judged_size (judgement (recording_in b t) n) ≤ sample_output_most
  unfolding judgement
  size_most n few = most n few (judged R n) refl

pub size_given : (r : Recording) (n : ℕ) → 0 < n → n ≤ sample_count r.layout → judged_size (judgement r n) ≡ length (given (resolve r n))
unfolding judgement
size_given r n h l = go (judged r n) refl
  where
    go : (v : Verdict) → v ≡ judged r n → judged_size (v and_then ok (amount_for r n)) ≡ length (given (resolve r n))
    go (refused m q) e = ap length (sym (ranges.given_refused r n h l (sym e)))
    go (ok u) e = sym (output_bytes r n (sym e)) ∙ ap length (sym (ranges.given_good r n h l (sym e)))

-- a loop that has come to sample n: the judgements from first on are kept, and size is what they add
pub record Keeping (b t : List ℕ) (first last : ℕ) (now : List ℕ) (size n : ℕ) : Type 0 where
  pub kept : now ≡ judgements_between b t first n
  pub adds : size ≡ length (joined (recording_in b t) (between first n))
  pub most : size ≤ n * sample_output_most
  pub from : first ≤ n + 1
  pub to : n ≤ last

module _ (b t : List ℕ) (first last : ℕ) where
  pub keeping_start : 0 < first → first ≤ last + 1 → (n : ℕ) → n ≡ first - 1 → Keeping b t first last t 0 n
  keeping_start h l n e =
      record {
        kept = sym (between_none b t first n (omega arith));
        adds = sym (ap length (ap (joined (recording_in b t)) (ranges.between_none first n (omega arith)) ∙ ranges.joined_none (recording_in b t)));
        most = omega arith;
        from = omega arith;
        to = omega arith;
      }

  module _ (now : List ℕ) (size n : ℕ) (w : Keeping b t first last now size n) where
    pub keeping_length : length now ≡ length t
    keeping_length = ap length w.kept ∙ between_length b t first n

    pub keeping_recording : recording_in b now ≡ recording_in b t
    keeping_recording = ap (recording_in b) w.kept ∙ between_recording b t first n

    module _ (few : length b ≤ bundle_most) (there : last ≤ sample_count (layout_in t)) (again : n < last) where
      pub keeping_most : {a : Answer Amount} → a ≡ judgement (recording_in b now) (n + 1) → judged_size a ≤ sample_output_most
      keeping_most e = rw (e) (size_most b now (n + 1) few)

      pub keeping_fits : {a : Answer Amount} → a ≡ judgement (recording_in b now) (n + 1) → size + judged_size a < 18446744073709551616
      keeping_fits e =
          let s = samples_most t in
          let m = w.most in
          let k = keeping_most e in
          omega arith

      pub keeping_more :
          {a : Answer Amount} → a ≡ judgement (recording_in b now) (n + 1) → {x : ℕ} → x ≡ judgement_word a →
          Keeping b t first last (with_kept_count now (n + 1) x) (size + judged_size a) (n + 1)
      unfolding recording_in
      keeping_more {a} e g =
          let f = w.from in
          let m = w.most in
          let k = keeping_most e in
          let j : a ≡ judgement (recording_in b t) (n + 1) = e ∙ ap (λ (r : Recording). judgement r (n + 1)) keeping_recording in
          let d : judged_size a ≡ length (given (resolve (recording_in b t) (n + 1))) = ap judged_size j ∙ size_given (recording_in b t) (n + 1) (omega arith) (omega arith) in
          record {
            kept = more_between b t first n f now w.kept e g;
            adds = rw (ranges.between_more first n f, ranges.joined_more (recording_in b t) (between first n) (n + 1), length-append (joined (recording_in b t) (between first n)) (given (resolve (recording_in b t) (n + 1)))) (let z = w.adds in omega arith);
            most = omega arith;
            from = omega arith;
            to = omega arith;
          }

    pub keeping_end : last ≤ n → (size ≡ length (joined (recording_in b t) (between first last))) × (now ≡ judgements_between b t first last)
    keeping_end h = let t = w.to in let e : n ≡ last = omega arith in (rw (e) at w.adds, rw (e) at w.kept)

-- a range by a bundle and any table
module _ (b t : List ℕ) (first last : ℕ) where
  pub range_unfit : (bundle_most < length b) ⊎ (length t < table_most) → (range_size_in b t first last ≡ refused bundle_too_long 0) × (with_range b t first last ≡ t)
  unfolding range_size_in with_range
  range_unfit (inl h) = (rw (lt-ltb bundle_most (length b) h), rw (lt-ltb bundle_most (length b) h))
  range_unfit (inr h) = by_bool (bundle_most <? length b)
      (λ u. (rw u, rw u))
      (λ u. (rw (u, lt-ltb (length t) table_most h), rw (u, lt-ltb (length t) table_most h)))

  module _ (h : length b ≤ bundle_most) (l : table_most ≤ length t) where
    pub range_none :
        {f : ℕ} → f ≡ range_fault (sample_count (layout_in t)) first last → (f ≡ 0 → ⊥) →
        (range_size_in b t first last ≡ refused f 0) × (with_range b t first last ≡ t)
    unfolding range_size_in with_range recording_in
    range_none e z =
        (rw (le-ltb bundle_most (length b) h, le-ltb (length t) table_most l, at_refused 0 e z), rw (le-ltb bundle_most (length b) h, le-ltb (length t) table_most l, at_refused 0 e z))

    pub range_judged :
        range_fault (sample_count (layout_in t)) first last ≡ 0 →
        (range_size_in b t first last ≡ ok (length (joined (recording_in b t) (between first last)))) × (with_range b t first last ≡ judgements_between b t first last)
    unfolding range_size_in with_range recording_in
    range_judged e =
        (rw (le-ltb bundle_most (length b) h, le-ltb (length t) table_most l, e), rw (le-ltb bundle_most (length b) h, le-ltb (length t) table_most l, e))

  -- a refusal
  on_refused : {A B : Type 0} {m q : ℕ} (v w : Verdict) (x : B) (a : Answer A) → (v and_then (w and_then ok x)) ≡ refused m q → (v and_then (w and_then a)) ≡ refused m q
  on_refused (refused c d) w x a e = let s = refused_same e in rw (s.0, s.1)
  on_refused (ok u) (refused c d) x a e = let s = refused_same e in rw (s.0, s.1)
  on_refused (ok u) (ok w) x a e = ok_refused (sym e)

  module _ {m q : ℕ} (e : range_size_in b t first last ≡ refused m q) where
    pub range_refused : {A : Type 0} (a : Answer A) → on_range_in b t first last a ≡ refused m q
    range_refused a =
        on_refused ((bundle_too_long if unfit b t) at_place 0) (range_fault (sample_count (recording_in b t).layout) first last at_place 0) (length (joined (recording_in b t) (between first last))) a
        (unfold range_size_in in e)

    pub range_stays : with_range b t first last ≡ t
    unfolding with_range
    range_stays = rw e

  -- a length
  pub range_count :
      {k : ℕ} → range_size_in b t first last ≡ ok k → (length b ≤ bundle_most) × (table_most ≤ length t) × (range_fault (sample_count (layout_in t)) first last ≡ 0)
      × (k ≡ length (joined (recording_in b t) (between first last))) × (with_range b t first last ≡ judgements_between b t first last)
  range_count {k} e = by_bool (bundle_most <? length b)
      (λ u. ok_refused (sym (range_unfit (inl (ltb-true bundle_most (length b) u))).0 ∙ e))
      (λ u. by_bool (length t <? table_most)
      (λ v. ok_refused (sym (range_unfit (inr (ltb-true (length t) table_most v))).0 ∙ e))
      (λ v.
      let h = ltb-false bundle_most (length b) u in
      let l = ltb-false (length t) table_most v in
      by_number (range_fault (sample_count (layout_in t)) first last)
      (λ z. let w = range_judged h l z in (h, l, z, sym (ok_same (sym w.0 ∙ e)), w.1))
      (λ i z. ok_refused (sym (range_none h l refl (λ y. absurd (omega arith))).0 ∙ e))))

  pub range_recording : recording_in b (with_range b t first last) ≡ recording_in b t
  unfolding with_range
  range_recording = by_bool (passed (range_size_in b t first last))
      (λ u. rw u (between_recording b t first last))
      (λ u. rw u)

  pub range_kept : {k : ℕ} → range_size_in b t first last ≡ ok k → (n : ℕ) → first ≤ n → n ≤ last → kept_count_in (with_range b t first last) n ≡ judgement_word (judgement (recording_in b t) n)
  range_kept e n f i =
      let w = range_count e in
      let z = ranges.range_there (sample_count (layout_in t)) first last w.2 in
      ap (λ (x : List ℕ). kept_count_in x n) w.4 ∙ between_kept b t first last z.1 w.1 n (omega arith) f i
