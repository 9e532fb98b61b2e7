-- Request [6] of document 02, 'A range of samples in one call', nearly in its words, as theorems in plain facts. The proofs stand
-- in crates/range_rules/proofs and in crates/promise_rules/proofs/RangeLaws. Assumes nothing.
--
--   range_call                     the call on samples first to last of a bundle, with room for the output and for the lines
--                                  (range_rules/specs/Ranges)
--   resolve_call, audit_call       the calls that resolve one sample, and audit all, as in Demands
--   Joins P last n out             out is joined from what each of n, n + 1, .. last adds; P says what one adds
--                                  (range_rules/specs/Rules)
--   Gives first_layout b room n x  resolve_call on sample n, with that room, gives x; or it is refused, not with 29, and x is
--                                  nothing (the same)
--   Adds r n own line              what sample n adds to the output, and its line, by the rules (promise_rules/specs/Ranging)
--   RangeOf r last n out ls        what samples n, n + 1, .. last add, joined, and their lines, joined (the same)
--   SampleIn                       where what one sample adds stands in the output, and its line in the lines (the same)
--   RangeRefused                   with which number, and where, the call is refused (the same)
--   Unlisted r s n                 no extractor of sample n is in the naming list of sample s, as in Demands
--   SameAnswers                    two calls returned the same and wrote the same bytes up to the counts (range_rules/specs/Rules)
--   WroteAll, OutputsGiven         what a call did to several lent buffers (words/specs/Buffers, promise_rules/specs/Returns)
--   bench_with, slice, extractor   B0 with other samples, and its own (promise_rules/specs/Ranging)
use Rattle.std.specs.Prelude.{ℕ, ◌+◌, ◌-◌, ◌*◌, ◌≤◌, ◌<◌, ◌≡◌, refl, false, List, [], ◌∷◌, ◌++◌, ◌↔◌, length, drop}
use Rattle.words.specs.Bytes.{Bytes, bytes, part, splice}
use Rattle.words.specs.Refusals.{Answer, refused, ok, passed}
use Rattle.words.specs.Buffers.{WroteAll}
use Rattle.words.proofs.Buffers.{refused_leaves_all}
use Rattle.bundles.specs.Recordings.{Recording, sample_count, content_of}
use Rattle.bundles.specs.Readers.{first_layout}
use Rattle.resolution_rules.specs.Calls.{resolve_call}
use Rattle.naming_list_rules.specs.Rules.{Unlisted}
use Rattle.audit_rules.specs.Auditing.{audit_call}
use Rattle.range_rules.specs.Ranges.{range_call}
use Rattle.range_rules.specs.Rules.{Joins, Gives, SameAnswers}
use Rattle.range_rules.proofs.Promises as ranges
use Rattle.puddockle.specs.Returns.{ReturnedOutputs}
use Rattle.promise_rules.specs.Ranging.{RangeOf, SampleIn, RangeRefused, bench_with, slice, extractor}
use Rattle.promise_rules.specs.Returns.{OutputsAnswer, OutputsGiven}
use Rattle.promise_rules.proofs.Cited.{sound}
use Rattle.promise_rules.proofs.RangeLaws as laws
use Rattle.promise_rules.proofs.SalvageLaws as buffers

module _ (b : List ℕ) (held : Bytes b) (first last room lines_room : ℕ) where
  -- Refused: 1 to 13 of the bundle; 30 at 0 if first is 0, last is past the last sample, or first exceeds last; then 29 at 0 if
  -- the joined output or the lines do not fit. A refused sample does not refuse the call
  pub range_refused :
      (m p : ℕ) → (range_call first_layout b first last room lines_room ≡ refused m p) ↔ RangeRefused b first last room lines_room m p
  range_refused = laws.range_refused b held first last room lines_room

  -- Of a bundle b that is accepted and means r, and samples first to last of it
  module _
      (r : Recording) (accepted : first_layout.means b ≡ ok r) (some : 0 < first) (there : last ≤ sample_count r.layout)
      (order : first ≤ last)
    where
      -- answered exactly with what resolving them one by one gives, joined, and the lines of the audit from first to last, if
      -- both fit. A sample that is refused adds nothing; `enough` is any room for each sample, and for the audit
      pub one_by_one :
          (enough : ℕ) → room ≤ enough → 13 * sample_count r.layout ≤ enough → (outs : List (List ℕ)) →
          (range_call first_layout b first last room lines_room ≡ ok outs)
          ↔ ((out : List ℕ) × (all : List ℕ) × Joins (Gives first_layout b enough) last first out
          × (audit_call first_layout b enough ≡ ok all)
          × (outs ≡ out ∷ part all (13 * (first - 1)) (13 * (last + 1 - first)) ∷ [])
          × (length out ≤ room) × (13 * (last + 1 - first) ≤ lines_room))
      one_by_one = laws.one_by_one b held first last room lines_room r accepted some there order

      -- the same by the rules of resolving and of the audit
      pub range_exactly :
          (outs : List (List ℕ)) → (range_call first_layout b first last room lines_room ≡ ok outs)
          ↔ ((out : List ℕ) × (ls : List ℕ) × RangeOf r last first out ls × (outs ≡ out ∷ ls ∷ [])
          × (length out ≤ room) × (length ls ≤ lines_room))
      range_exactly = laws.range_exactly b held first last room lines_room r accepted some there order

      -- 13 bytes a sample
      pub thirteen_each : (out ls : List ℕ) → RangeOf r last first out ls → length ls ≡ 13 * (last + 1 - first)
      thirteen_each = laws.thirteen_each b held first last room lines_room r accepted some there order

      -- of an answer, sample n: its bytes stand after those of the samples before it, and are what resolving gives; its line
      -- stands at 13 (n - first), and is that of the audit
      module _
          (out ls : List ℕ) (answered : range_call first_layout b first last room lines_room ≡ ok (out ∷ ls ∷ []))
          (n : ℕ) (from : first ≤ n) (to : n ≤ last)
        where
          pub sample_in : SampleIn b r first last room n out ls
          sample_in = laws.sample_in b held first last room lines_room r accepted some there order out ls answered n from to

          -- a refused sample adds its line and no bytes
          pub refused_adds :
              (w : SampleIn b r first last room n out ls) (m p : ℕ) → resolve_call first_layout b n room ≡ refused m p →
              (w.own ≡ []) × (part ls (13 * (n - first)) 13 ≡ bytes 1 m ++ bytes 4 p ++ bytes 8 0)
          refused_adds = laws.refused_adds b held first last room lines_room r accepted some there order out ls answered n from to

          -- an empty one its line, of zeros, and no bytes
          pub empty_adds :
              (w : SampleIn b r first last room n out ls) → length (content_of r n) ≡ 0 →
              (w.own ≡ []) × (part ls (13 * (n - first)) 13 ≡ bytes 13 0)
          empty_adds = laws.empty_adds b held first last room lines_room r accepted some there order out ls answered n from to

module _ (b : List ℕ) (r : Recording) (accepted : first_layout.means b ≡ ok r) where
  -- Samples n to n, with room for the line: what resolving gives, or nothing, and line n of the audit; 29 where resolving is 29
  pub one_sample :
      (n room lines_room : ℕ) → 0 < n → n ≤ sample_count r.layout → 13 ≤ lines_room →
      (enough : ℕ) (all : List ℕ) → audit_call first_layout b enough ≡ ok all →
      ((x : List ℕ) → resolve_call first_layout b n room ≡ ok x →
      range_call first_layout b n n room lines_room ≡ ok (x ∷ part all (13 * (n - 1)) 13 ∷ []))
      × ((m p : ℕ) → resolve_call first_layout b n room ≡ refused m p → (m ≡ 29 → ⊥) →
      range_call first_layout b n n room lines_room ≡ ok ([] ∷ part all (13 * (n - 1)) 13 ∷ []))
      × ((p : ℕ) → resolve_call first_layout b n room ≡ refused 29 p → range_call first_layout b n n room lines_room ≡ refused 29 0)
  one_sample = laws.one_sample b r accepted

  -- Samples 1 to the last: the lines are the audit's
  pub whole :
      (room lines_room : ℕ) (out ls : List ℕ) →
      range_call first_layout b 1 (sample_count r.layout) room lines_room ≡ ok (out ∷ ls ∷ []) →
      audit_call first_layout b lines_room ≡ ok ls
  whole = ranges.whole first_layout b r accepted

-- A range in two, after sample mid: if both are answered, each with room of its own, so is the whole, with room, by both joined
module _ (b : List ℕ) (first mid last : ℕ) (from : first ≤ mid) (to : mid < last) where
  pub split_whole :
      (room₁ lines_room₁ room₂ lines_room₂ room lines_room : ℕ) (out₁ ls₁ out₂ ls₂ : List ℕ) →
      range_call first_layout b first mid room₁ lines_room₁ ≡ ok (out₁ ∷ ls₁ ∷ []) →
      range_call first_layout b (mid + 1) last room₂ lines_room₂ ≡ ok (out₂ ∷ ls₂ ∷ []) →
      length (out₁ ++ out₂) ≤ room → length (ls₁ ++ ls₂) ≤ lines_room →
      range_call first_layout b first last room lines_room ≡ ok ((out₁ ++ out₂) ∷ (ls₁ ++ ls₂) ∷ [])
  split_whole = ranges.split_whole first_layout b first mid last from to

  -- and if the whole is answered, so are both, with the same room, and joined they are its answer
  pub split_parts :
      (room lines_room : ℕ) (out ls : List ℕ) → range_call first_layout b first last room lines_room ≡ ok (out ∷ ls ∷ []) →
      (out₁ : List ℕ) × (ls₁ : List ℕ) × (out₂ : List ℕ) × (ls₂ : List ℕ)
      × (range_call first_layout b first mid room lines_room ≡ ok (out₁ ∷ ls₁ ∷ []))
      × (range_call first_layout b (mid + 1) last room lines_room ≡ ok (out₂ ∷ ls₂ ∷ []))
      × (out ≡ out₁ ++ out₂) × (ls ≡ ls₁ ++ ls₂)
  split_parts = ranges.split_parts first_layout b first mid last from to

-- Demand 3: any bytes of the same length in place of those of sample s; a range that has neither s nor a sample with an extractor
-- in the list of s
module _
    (b : List ℕ) (r : Recording) (accepted : first_layout.means b ≡ ok r) (s : ℕ) (some : 0 < s)
    (there : s ≤ sample_count r.layout) (new : List ℕ) (as_long : length new ≡ length (content_of r s)) (first last : ℕ)
    (away : (n : ℕ) → first ≤ n → n ≤ last → (n ≡ s → ⊥) × Unlisted r s n)
  where
    abbrev after : List ℕ
    after = splice b (first_layout.content_at b s) new

    -- is answered as before
    pub others_range :
        (room lines_room : ℕ) →
        range_call first_layout after first last room lines_room ≡ range_call first_layout b first last room lines_room
    others_range = ranges.others_range first_layout sound b r accepted s some there new as_long first last away

    -- two calls with buffers of the same lengths, one by b and one by the bundle after
    pub others_answer :
        {out out₁ out' out₁' ls ls₁ ls' ls₁' : List ℕ} {a a' : Answer (List ℕ)} →
        length out ≡ length out' → length ls ≡ length ls' →
        WroteAll (out ∷ ls ∷ []) (out₁ ∷ ls₁ ∷ []) a (range_call first_layout b first last (length out) (length ls)) →
        WroteAll (out' ∷ ls' ∷ []) (out₁' ∷ ls₁' ∷ []) a' (range_call first_layout after first last (length out') (length ls')) →
        SameAnswers a a' out₁ out₁' ls₁ ls₁'
    others_answer = ranges.others_answer first_layout sound b r accepted s some there new as_long first last away

-- After a refusal both lent buffers are as they were; after an answer each has its output over its start
pub refusal_leaves :
    {os os' : List (List ℕ)} {a : Answer (List ℕ)} {is : Answer (List (List ℕ))} → WroteAll os os' a is →
    passed a ≡ false → os' ≡ os
refusal_leaves = refused_leaves_all

pub answer_leaves :
    {o l o' l' x y : List ℕ} {a : Answer (List ℕ)} → WroteAll (o ∷ l ∷ []) (o' ∷ l' ∷ []) a (ok (x ∷ y ∷ [])) →
    (a ≡ ok (length x ∷ length y ∷ [])) × ((o' ∷ l' ∷ []) ≡ ((x ++ drop (length x) o) ∷ (y ++ drop (length y) l) ∷ []))
answer_leaves = buffers.both_leave

-- The C function: 0 at 0 and both counts, or a number of the table with its place, both counts 0 and both buffers as they were
pub c_range :
    (b : List ℕ) → Bytes b → (first last : ℕ) (o l : List ℕ) {n p : ℕ} {cs : List ℕ} {os' : List (List ℕ)} →
    ReturnedOutputs n p cs (o ∷ l ∷ []) os' (range_call first_layout b first last (length o) (length l)) →
    OutputsGiven (range_call first_layout b first last (length o) (length l)) (o ∷ l ∷ []) n p cs os'
c_range b held first last o l = buffers.outputs_returned (OutputsAnswer.range b held first last o l)

-- B0 of document 01, in bytes
pub bench_bundle :
    bench_with slice extractor ≡ 0x02
    ∷ 0x00 ∷ 0x00 ∷ 0x07 ∷ 0x01 ∷ 0x42 ∷ 0x00 ∷ 0x1E ∷ 0xFC ∷ 0xE0 ∷ 0x00
    ∷ 0x01 ∷ 0x00 ∷ 0x07 ∷ 0x01 ∷ 0x53 ∷ 0x00 ∷ 0x1E ∷ 0xFC ∷ 0x00 ∷ 0x00
    ∷ 0x01 ∷ 0x02 ∷ 0x01
    ∷ 0x00 ∷ 0x02
    ∷ 0x01 ∷ 0x00 ∷ 0x00 ∷ 0x00 ∷ 0x00 ∷ 0x00 ∷ 0x00 ∷ 0x00 ∷ 0x00 ∷ 0x00 ∷ 0x00 ∷ 0x00 ∷ 0x03
    ∷ 0x02 ∷ 0x00 ∷ 0x00 ∷ 0x00 ∷ 0x00 ∷ 0x00 ∷ 0x00 ∷ 0x00 ∷ 0x00 ∷ 0x00 ∷ 0x00 ∷ 0x00 ∷ 0x09
    ∷ 0x00 ∷ 0x00 ∷ 0x00 ∷ 0x0C
    ∷ 0x02 ∷ 0x65 ∷ 0x88 ∷ 0x08 ∷ 0x7F ∷ 0x80 ∷ 0x00 ∷ 0x03 ∷ 0x01 ∷ 0x00 ∷ 0x00 ∷ 0x00 ∷ []
unfolding bytes
bench_bundle = refl

-- In bytes: B0, both samples, and its second; 30 for 0, without room too, for past the last, and for the wrong order; 29 for
-- either buffer; 2 of a bundle before 30; a sample that is refused, and so is the one that copies it; one that is refused after a
-- good unit, of which nothing is written; an empty one
pub in_bytes :
    (range_call first_layout (bench_with slice extractor) 1 2 12 26
    ≡ ok ((0 ∷ 0 ∷ 0 ∷ 2 ∷ 0x65 ∷ 0x88 ∷ 0 ∷ 0 ∷ 0 ∷ 2 ∷ 0x65 ∷ 0x88 ∷ [])
    ∷ (0 ∷ 0 ∷ 0 ∷ 0 ∷ 0 ∷ 0 ∷ 0 ∷ 0 ∷ 0 ∷ 0 ∷ 0 ∷ 0 ∷ 1 ∷ 0 ∷ 0 ∷ 0 ∷ 0 ∷ 0 ∷ 0 ∷ 0 ∷ 0 ∷ 0 ∷ 0 ∷ 0 ∷ 0 ∷ 1 ∷ []) ∷ []))
    × (range_call first_layout (bench_with slice extractor) 2 2 6 13
    ≡ ok ((0 ∷ 0 ∷ 0 ∷ 2 ∷ 0x65 ∷ 0x88 ∷ []) ∷ (0 ∷ 0 ∷ 0 ∷ 0 ∷ 0 ∷ 0 ∷ 0 ∷ 0 ∷ 0 ∷ 0 ∷ 0 ∷ 0 ∷ 1 ∷ []) ∷ []))
    × (range_call first_layout (bench_with slice extractor) 0 1 0 0 ≡ refused 30 0)
    × (range_call first_layout (bench_with slice extractor) 1 3 99 99 ≡ refused 30 0)
    × (range_call first_layout (bench_with slice extractor) 2 1 99 99 ≡ refused 30 0)
    × (range_call first_layout (bench_with slice extractor) 1 2 11 26 ≡ refused 29 0)
    × (range_call first_layout (bench_with slice extractor) 1 2 12 25 ≡ refused 29 0)
    × (range_call first_layout [] 0 0 0 0 ≡ refused 2 0)
    × (range_call first_layout (bench_with (3 ∷ 0x65 ∷ 0x88 ∷ []) extractor) 1 2 0 26
    ≡ ok ([]
    ∷ (15 ∷ 0 ∷ 0 ∷ 0 ∷ 0 ∷ 0 ∷ 0 ∷ 0 ∷ 0 ∷ 0 ∷ 0 ∷ 0 ∷ 0 ∷ 25 ∷ 0 ∷ 0 ∷ 0 ∷ 0 ∷ 0 ∷ 0 ∷ 0 ∷ 0 ∷ 0 ∷ 0 ∷ 0 ∷ 0 ∷ []) ∷ []))
    × (range_call first_layout (bench_with (2 ∷ 0x65 ∷ 0x88 ∷ 1 ∷ []) slice) 1 2 6 26
    ≡ ok ((0 ∷ 0 ∷ 0 ∷ 2 ∷ 0x65 ∷ 0x88 ∷ [])
    ∷ (15 ∷ 0 ∷ 0 ∷ 0 ∷ 3 ∷ 0 ∷ 0 ∷ 0 ∷ 0 ∷ 0 ∷ 0 ∷ 0 ∷ 0 ∷ 0 ∷ 0 ∷ 0 ∷ 0 ∷ 0 ∷ 0 ∷ 0 ∷ 0 ∷ 0 ∷ 0 ∷ 0 ∷ 0 ∷ 1 ∷ []) ∷ []))
    × (range_call first_layout (bench_with slice []) 1 2 6 26
    ≡ ok ((0 ∷ 0 ∷ 0 ∷ 2 ∷ 0x65 ∷ 0x88 ∷ [])
    ∷ (0 ∷ 0 ∷ 0 ∷ 0 ∷ 0 ∷ 0 ∷ 0 ∷ 0 ∷ 0 ∷ 0 ∷ 0 ∷ 0 ∷ 1 ∷ 0 ∷ 0 ∷ 0 ∷ 0 ∷ 0 ∷ 0 ∷ 0 ∷ 0 ∷ 0 ∷ 0 ∷ 0 ∷ 0 ∷ 0 ∷ []) ∷ []))
in_bytes = laws.in_bytes
