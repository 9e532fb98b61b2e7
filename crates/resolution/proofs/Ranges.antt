-- Samples one after the other, as the code writes them. Assumes nothing.
--
--   kept_refused, kept_good                              what sample n gives, by the judgement kept beside it
--   Joining, joining_start, -length, -room, -more, -end  a loop over the samples
--   range_refused, range_short, range_joined             the answer by how the samples are judged
--   range_answer                                         that of a range whose numbers are good
--   range_size, range_same, range_ready                  its length; the table then says the same, and keeps what is needed to write
use Prim.Native.Nat.{ℕ, ◌+◌, ◌-◌, ◌≤◌, ◌<◌}
use mathlib.Core.Path.{◌≡◌, refl, ap, sym, ◌∙◌}
use mathlib.Core.List.{List, [], ◌++◌}
use native.Mathlib.Omega.{arith}
use borrow.Author.Tests.{le-ltb}
use lib.ListN.{length, length-append}
use Rattle.words.specs.Refusals.{Answer, refused, ok}
use Rattle.words.specs.RefusalNumbers.{output_too_long}
use Rattle.words.specs.Buffers.{write_at, overwrite, within}
use Rattle.words.proofs.Buffers.{write_none, write_first, write_length, write_write, within_room, within_not}
use Rattle.bundles.specs.Limits.{bundle_most}
use Rattle.bundles.specs.Recordings.{Recording, sample_count}
use Rattle.tables.specs.Tables.{layout_in, recording_in, table_most, kept_count_in}
use Rattle.resolution_rules.specs.Resolving.{delivered, judged}
use Rattle.resolution_rules.specs.Calls.{resolve}
use Rattle.resolution_rules.specs.Ranges.{between, range_fault, given, joined}
use Rattle.resolution_rules.proofs.Ranges as ranges
use Rattle.judging.specs.Steps.{judgement}
use Rattle.verdicts.specs.Kept.{judgement_word, units_of, verdict_in, range_size_in, with_range, JudgedBetween}
use Rattle.verdicts.proofs.Keeping.{word_verdict, units_refused, units_good}
use Rattle.verdicts.proofs.Ranges as judged_ranges
use Rattle.resolution.specs.Framing.{framed}
use Rattle.resolution.specs.declared.writing.Framing.TheVariants.{Lengths}
use Rattle.resolution.specs.Ranges.{resolve_range_in}
use Rattle.resolution.proofs.Framing.{framed_lengths}

-- sample n, whose judgement is kept
module _
    (b t : List ℕ) (n : ℕ) (kept : kept_count_in t n ≡ judgement_word (judgement (recording_in b t) n)) (h : 0 < n)
    (l : n ≤ sample_count (recording_in b t).layout)
  where
    says : {a : Answer ℕ} → a ≡ verdict_in (kept_count_in t n) → units_of (judgement (recording_in b t) n) ≡ a
    says e = sym (e ∙ ap verdict_in kept ∙ word_verdict b t n)

    pub kept_refused : {m q : ℕ} → refused m q ≡ verdict_in (kept_count_in t n) → given (resolve (recording_in b t) n) ≡ []
    kept_refused e = ranges.given_refused (recording_in b t) n h l (units_refused (recording_in b t) n (says e))

    pub kept_good :
        {k : ℕ} → ok k ≡ verdict_in (kept_count_in t n) → (judged (recording_in b t) n ≡ ok tt)
        × (given (resolve (recording_in b t) n) ≡ framed Lengths (recording_in b t) (delivered (recording_in b t) n))
    kept_good e =
        let g = (units_good (recording_in b t) n (says e)).0 in
        (g, ranges.given_good (recording_in b t) n h l g ∙ sym (framed_lengths (recording_in b t) (delivered (recording_in b t) n)))

-- a loop that turned o into out and has come to sample n, at the place at
pub record Joining (r : Recording) (first last : ℕ) (o out : List ℕ) (at n : ℕ) : Type 0 where
  pub wrote : out ≡ write_at o 0 (joined r (between first n))
  pub place : at ≡ length (joined r (between first n))
  pub from : first ≤ n + 1
  pub to : n ≤ last
  pub fits : length (joined r (between first last)) ≤ length o

module _ (r : Recording) (first last : ℕ) (o : List ℕ) where
  pub joining_start : 0 < first → first ≤ last → length (joined r (between first last)) ≤ length o → (n : ℕ) → n ≡ first - 1 → Joining r first last o o 0 n
  joining_start h l fits n e =
      let none : joined r (between first n) ≡ [] = ap (joined r) (ranges.between_none first n (omega arith)) ∙ ranges.joined_none r in
      record {
        wrote = write_none o 0 ∙ ap (write_at o 0) (sym none);
        place = ap length (sym none);
        from = omega arith;
        to = omega arith;
        fits = fits;
      }

  module _ (out : List ℕ) (at n : ℕ) (w : Joining r first last o out at n) where
    abbrev Done : List ℕ
    Done = joined r (between first n)

    abbrev Next : List ℕ
    Next = given (resolve r (n + 1))

    module _ (again : n < last) where
      more : joined r (between first (n + 1)) ≡ joined r (between first n) ++ given (resolve r (n + 1))
      more = ap (joined r) (ranges.between_more first n w.from) ∙ ranges.joined_more r (between first n) (n + 1)

      in_room : length (joined r (between first n)) + length (given (resolve r (n + 1))) ≤ length o
      in_room =
          let f = w.from in
          let s : joined r (between first last) ≡ joined r (between first (n + 1)) ++ joined r (between (n + 1 + 1) last) =
          ap (joined r) (ranges.between_split first (n + 1) last (omega arith) (omega arith)) ∙ ranges.joined_append r (between first (n + 1)) (between (n + 1 + 1) last) in
          let a = ap length s ∙ length-append (joined r (between first (n + 1))) (joined r (between (n + 1 + 1) last)) in
          let c = ap length more ∙ length-append Done Next in
          let h = w.fits in
          omega arith

      pub joining_room : at + length (given (resolve r (n + 1))) ≤ length o
      joining_room = let i = in_room in let p = w.place in omega arith

      pub joining_more : (out' : List ℕ) → out' ≡ write_at out at (given (resolve r (n + 1))) → (at' : ℕ) → at' ≡ at + length (given (resolve r (n + 1))) → Joining r first last o out' at' (n + 1)
      joining_more out' e at' g =
          let i = in_room in
          let p = w.place in
          let z : at ≡ 0 + length Done = omega arith in
          let c = ap length more ∙ length-append Done Next in
          record {
            wrote = e ∙ ap (λ (x : List ℕ). write_at x at Next) w.wrote ∙ ap (λ (x : ℕ). write_at (write_at o 0 Done) x Next) z ∙ write_write o 0 Done Next (omega arith) ∙ ap (write_at o 0) (sym more);
            place = omega arith;
            from = omega arith;
            to = omega arith;
            fits = w.fits;
          }

    pub joining_length : length out ≡ length o
    joining_length =
        let f = w.from in
        let i = w.to in
        let s : joined r (between first last) ≡ joined r (between first n) ++ joined r (between (n + 1) last) =
        ap (joined r) (ranges.between_split first n last f i) ∙ ranges.joined_append r (between first n) (between (n + 1) last) in
        let a = ap length s ∙ length-append Done (joined r (between (n + 1) last)) in
        let h = w.fits in
        ap length w.wrote ∙ write_length o 0 Done (omega arith)

    pub joining_end : last ≤ n → out ≡ overwrite o (joined r (between first last))
    joining_end h = let i = w.to in let e : n ≡ last = omega arith in rw e at w.wrote ∙ write_first o (joined r (between first last))

-- the answer
module _ (b t : List ℕ) (first last room : ℕ) where
  count_here : sample_count (recording_in b t).layout ≡ sample_count (layout_in t)
  unfolding recording_in
  count_here = refl

  pub range_refused : {m q : ℕ} → range_size_in b t first last ≡ refused m q → within room (resolve_range_in b t first last) ≡ refused m q
  unfolding resolve_range_in
  range_refused e = ap (within room) (judged_ranges.range_refused b t first last e (ok (joined (recording_in b t) (between first last))))

  pub range_answer :
      length b ≤ bundle_most → table_most ≤ length t → range_fault (sample_count (layout_in t)) first last ≡ 0 →
      resolve_range_in b t first last ≡ ok (joined (recording_in b t) (between first last))
  unfolding resolve_range_in recording_in
  range_answer h l e = rw (le-ltb bundle_most (length b) h, le-ltb (length t) table_most l, e)

  module _ {k : ℕ} (e : range_size_in b t first last ≡ ok k) where
    answer : resolve_range_in b t first last ≡ ok (joined (recording_in b t) (between first last))
    answer = let w = judged_ranges.range_count b t first last e in range_answer w.0 w.1 w.2

    pub range_short : room < k → within room (resolve_range_in b t first last) ≡ refused output_too_long 0
    range_short h = ap (within room) answer ∙ within_not room (joined (recording_in b t) (between first last)) (rw (judged_ranges.range_count b t first last e).3 at h)

    pub range_joined : k ≤ room → within room (resolve_range_in b t first last) ≡ ok (joined (recording_in b t) (between first last))
    range_joined h = ap (within room) answer ∙ within_room room (joined (recording_in b t) (between first last)) (rw (judged_ranges.range_count b t first last e).3 at h)

    pub range_size : k ≡ length (joined (recording_in b t) (between first last))
    range_size = (judged_ranges.range_count b t first last e).3

    -- with the table that is left then, now
    module _ (now : List ℕ) (left : now ≡ with_range b t first last) where
      pub range_same : recording_in b now ≡ recording_in b t
      range_same = ap (recording_in b) left ∙ judged_ranges.range_recording b t first last

      pub range_ready :
          k ≤ room → JudgedBetween b now first last × (0 < first) × (first ≤ last) × (last ≤ sample_count (recording_in b now).layout)
          × (length (joined (recording_in b now) (between first last)) ≤ room)
      range_ready h =
          let w = judged_ranges.range_count b t first last e in
          let z = ranges.range_there (sample_count (layout_in t)) first last w.2 in (
            λ n f i. ap (λ (x : List ℕ). kept_count_in x n) left ∙ judged_ranges.range_kept b t first last e n f i ∙ ap (λ (r : Recording). judgement_word (judgement r n)) (sym range_same),
            z.0,
            z.2,
            rw (range_same, count_here) z.1,
            rw range_same (omega (arith, w.3)),
          )
