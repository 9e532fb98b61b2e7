-- What the call for a range of samples promises (02, [6]). `reader.means b ≡ ok r` says that the bundle b is accepted by the reader and means the
-- recording r. `Sound reader` is proved of the first layout in crates/resolution_rules/proofs/Readers. Assumes nothing but what each theorem states.
--
-- the call, by any reader
--   answered_exactly, refused_exactly  it answers, or is refused, exactly if ..
--   refused_with                       with a number of a sound reader's at a place in the bundle or at its end, or 29 or 30 at 0
--
-- samples first to last of an accepted bundle
--   one_by_one                answered exactly with what resolving gives for each, joined, and the lines of the audit from first to last, if both fit
--   audit_line                line n of an audit
--   line_stands               the line of each sample is that of the audit, in its place
--   sample_stands             what a sample adds stands after what those before it add, and before what those after it add
--   one_sample                samples n to n
--   whole                     samples 1 to the last have the lines of the audit
--   split_whole, split_parts  a range in two: both answer, and joined they are the range's answer
--
-- any bytes of the same length in place of those of a sample s
--   others_range            a range that has neither s nor a sample in its list is answered as before
--   others_answer           two such calls with buffers of the same lengths: the same answer, and the same bytes up to the counts
use Prim.Native.Nat.{ℕ, ◌+◌, ◌-◌, ◌*◌, ◌≤◌, ◌<◌}
use mathlib.Core.Path.{◌≡◌, refl, ap, ap₂, sym, ◌∙◌, subst}
use mathlib.Core.List.{List, [], ◌∷◌, ◌++◌}
use mathlib.Core.Logic.{◌⊎◌, inl, inr, ⊎_elim, ◌↔◌}
use native.Mathlib.Omega.{arith}
use lib.ListN.{length}
use Rattle.words.specs.RefusalNumbers.{output_too_long, no_such_number}
use Rattle.words.specs.Refusals.{Answer, refused, ok}
use Rattle.words.specs.Lists.{◌∈◌}
use Rattle.words.specs.Bytes.{part, splice}
use Rattle.words.specs.Buffers.{within_all, WroteAll}
use Rattle.words.proofs.Refusals.{ok_same}
use Rattle.bundles.specs.Recordings.{Recording, sample_count, content_of}
use Rattle.bundles.specs.Readers.{Reader}
use Rattle.resolution_rules.specs.Calls.{resolve, resolve_call}
use Rattle.resolution_rules.specs.Readers.{Sound}
use Rattle.resolution_rules.specs.Ranges.{between, given, joined}
use Rattle.naming_list_rules.specs.Rules.{Unlisted}
use Rattle.audit_rules.specs.Auditing.{line_size, line_of, lines, audit_call}
use Rattle.audit_rules.specs.Rules.{line_at}
use Rattle.audit_rules.proofs.Lines.{line_at_lem}
use Rattle.audit_rules.proofs.Promises.{audited_exactly}
use Rattle.range_rules.specs.Ranges.{range_call}
use Rattle.range_rules.specs.Rules.{Joins, Gives, InRange, RangeGives, RangeAnswers, RangeRefuses, SameAnswers}
use Rattle.range_rules.proofs.Lines as lines_laws
use Rattle.range_rules.proofs.Splits as splits
use Rattle.range_rules.proofs.Singles as singles
use Rattle.range_rules.proofs.Calls as calls
use Rattle.range_rules.proofs.Others as others

-- the call
module _ (reader : Reader) (b : List ℕ) (first last room lines_room : ℕ) where
  pub answered_exactly : (outs : List (List ℕ)) → (range_call reader b first last room lines_room ≡ ok outs) ↔ RangeAnswers reader b first last room lines_room outs
  answered_exactly outs = (calls.given_because reader b first last room lines_room outs, calls.range_gives reader b first last room lines_room)

  pub refused_exactly : (m p : ℕ) → (range_call reader b first last room lines_room ≡ refused m p) ↔ RangeRefuses reader b first last room lines_room m p
  refused_exactly m p = (calls.refused_because reader b first last room lines_room m p, calls.range_refuses reader b first last room lines_room)

  pub refused_with :
      Sound reader → (m p : ℕ) → range_call reader b first last room lines_room ≡ refused m p →
      ((m ∈ reader.refusals) × (p ≤ length b)) ⊎ (((m ≡ output_too_long) ⊎ (m ≡ no_such_number)) × (p ≡ 0))
  refused_with sound m p e = ⊎_elim
      (λ h. inl (sound.refusal b m p h))
      (λ h. inr h)
      (calls.refused_with reader b first last room lines_room (calls.refused_because reader b first last room lines_room m p e))

-- an accepted bundle
module _ (reader : Reader) (b : List ℕ) (r : Recording) (accepted : reader.means b ≡ ok r) where
  -- all lines of the audit
  audits : (room : ℕ) → line_size * sample_count r.layout ≤ room → audit_call reader b room ≡ ok (lines r)
  audits room h = (audited_exactly reader b room (lines r)).1 (record { recording = r; means = accepted; fits = h; writes = refl })

  audited : (room : ℕ) (all : List ℕ) → audit_call reader b room ≡ ok all → all ≡ lines r
  audited room all e = let w = (audited_exactly reader b room all).0 e in w.writes ∙ ap lines (ok_same (sym w.means ∙ accepted))

  pub audit_line : (n : ℕ) → 0 < n → n ≤ sample_count r.layout → (room : ℕ) (all : List ℕ) → audit_call reader b room ≡ ok all → line_at all n ≡ line_of r n
  audit_line n h l room all e = ap (λ (x : List ℕ). line_at x n) (audited room all e) ∙ line_at_lem r n h l

  module _ (first last : ℕ) (within : InRange (sample_count r.layout) first last) where
    pub one_by_one :
        (room lines_room enough : ℕ) → room ≤ enough → line_size * sample_count r.layout ≤ enough → (outs : List (List ℕ)) →
        (range_call reader b first last room lines_room ≡ ok outs)
        ↔ ((out : List ℕ) × (all : List ℕ) × Joins (Gives reader b enough) last first out × (audit_call reader b enough ≡ ok all)
        × (outs ≡ out ∷ part all (line_size * (first - 1)) (line_size * (last + 1 - first)) ∷ []) × (length out ≤ room)
        × (line_size * (last + 1 - first) ≤ lines_room))
    one_by_one room lines_room enough i j outs = (
      λ q.
          let g = calls.given_here reader b first last room lines_room outs accepted q in
          let f = g.fits in (
            joined r (between first last),
            lines r,
            singles.joins_range reader b r accepted first last within enough (omega arith),
            audits enough j,
            g.writes ∙ ap (λ (x : List ℕ). joined r (between first last) ∷ x ∷ []) (lines_laws.lines_part r first last within),
            f,
            g.lines_fit,
          ),
      λ w.
          let o = singles.range_only reader b r accepted first last within enough w.0 w.2 in
          let a = audited enough w.1 w.3 in
          let l = w.5 in
          let n = ap length o in
          calls.range_fits reader b first last room lines_room r accepted within (omega arith) w.6
          ∙ ap ok (ap₂ (λ (x y : List ℕ). x ∷ y ∷ []) (sym o)
          (lines_laws.lines_part r first last within ∙ ap (λ (x : List ℕ). part x (line_size * (first - 1)) (line_size * (last + 1 - first))) (sym a))
          ∙ sym w.4),
    )

    -- a sample of an answered range
    module _ (room lines_room : ℕ) (out ls : List ℕ) (answered : range_call reader b first last room lines_room ≡ ok (out ∷ ls ∷ [])) where
      gives : RangeGives r first last room lines_room (out ∷ ls ∷ [])
      gives = calls.given_here reader b first last room lines_room (out ∷ ls ∷ []) accepted answered

      module _ (n : ℕ) (from : first ≤ n) (to : n ≤ last) where
        pub line_stands : (enough : ℕ) (all : List ℕ) → audit_call reader b enough ≡ ok all → part ls (line_size * (n - first)) line_size ≡ line_at all n
        line_stands enough all e =
            let s = within.some in
            let t = within.there in
            ap (λ (x : List ℕ). part x (line_size * (n - first)) line_size) (calls.outputs gives).1
            ∙ lines_laws.line_within r first last within n from to
            ∙ sym (audit_line n (omega arith) (omega arith) enough all e)

        pub sample_stands : out ≡ joined r (between first (n - 1)) ++ (given (resolve r n) ++ joined r (between (n + 1) last))
        sample_stands = let s = within.some in (calls.outputs gives).0 ∙ splits.joined_sample r first n last (omega arith) from to

  module _ (n room lines_room : ℕ) (some : 0 < n) (there : n ≤ sample_count r.layout) (line : line_size ≤ lines_room) where
    one : InRange (sample_count r.layout) n n
    one = record { some = some; there = there; order = omega arith }

    pub one_sample :
        ((x : List ℕ) → Gives reader b room n x → range_call reader b n n room lines_room ≡ ok (x ∷ line_of r n ∷ []))
        × ((p : ℕ) → resolve_call reader b n room ≡ refused output_too_long p → range_call reader b n n room lines_room ≡ refused output_too_long 0)
    one_sample = (
      λ x g.
          let e = singles.gives_only reader b r accepted room n x g in
          let f = singles.gives_fits reader b r accepted room n x g in
          let j = splits.joined_one r n some in
          let l = ap length (j ∙ sym e) in
          calls.range_fits reader b n n room lines_room r accepted one (omega arith) (omega arith)
          ∙ ap ok (ap₂ (λ (x y : List ℕ). x ∷ y ∷ []) (j ∙ sym e) (splits.lines_one r n some)),
      λ p q.
          let k = singles.lacks reader b r accepted room n some there q in
          let l = ap length (splits.joined_one r n some) in
          calls.range_short reader b n n room lines_room r accepted one (inl (omega arith)),
    )

  pub whole : (room lines_room : ℕ) (out ls : List ℕ) → range_call reader b 1 (sample_count r.layout) room lines_room ≡ ok (out ∷ ls ∷ []) → audit_call reader b lines_room ≡ ok ls
  whole room lines_room out ls q =
      let g = calls.given_here reader b 1 (sample_count r.layout) room lines_room (out ∷ ls ∷ []) accepted q in
      let f = g.lines_fit in
      audits lines_room (omega arith) ∙ ap ok (sym (lines_laws.lines_all r) ∙ sym (calls.outputs g).1)

-- a range in two
module _ (reader : Reader) (b : List ℕ) (first mid last : ℕ) (from : first ≤ mid) (to : mid < last) where
  pub split_whole :
      (room₁ lines_room₁ room₂ lines_room₂ room lines_room : ℕ) (out₁ ls₁ out₂ ls₂ : List ℕ) →
      range_call reader b first mid room₁ lines_room₁ ≡ ok (out₁ ∷ ls₁ ∷ []) → range_call reader b (mid + 1) last room₂ lines_room₂ ≡ ok (out₂ ∷ ls₂ ∷ []) →
      length (out₁ ++ out₂) ≤ room → length (ls₁ ++ ls₂) ≤ lines_room →
      range_call reader b first last room lines_room ≡ ok ((out₁ ++ out₂) ∷ (ls₁ ++ ls₂) ∷ [])
  split_whole = splits.whole_of reader b first mid last from to

  pub split_parts :
      (room lines_room : ℕ) (out ls : List ℕ) → range_call reader b first last room lines_room ≡ ok (out ∷ ls ∷ []) →
      (out₁ : List ℕ) × (ls₁ : List ℕ) × (out₂ : List ℕ) × (ls₂ : List ℕ) × (range_call reader b first mid room lines_room ≡ ok (out₁ ∷ ls₁ ∷ []))
      × (range_call reader b (mid + 1) last room lines_room ≡ ok (out₂ ∷ ls₂ ∷ [])) × (out ≡ out₁ ++ out₂) × (ls ≡ ls₁ ++ ls₂)
  split_parts = splits.parts_of_lem reader b first mid last from to

-- demand 3
module _
    (reader : Reader) (sound : Sound reader) (b : List ℕ) (r : Recording) (accepted : reader.means b ≡ ok r) (s : ℕ) (some : 0 < s)
    (there : s ≤ sample_count r.layout) (new : List ℕ) (equal_length : length new ≡ length (content_of r s)) (first last : ℕ)
    (away : (n : ℕ) → first ≤ n → n ≤ last → (n ≡ s → ⊥) × Unlisted r s n)
  where
    abbrev after : List ℕ
    after = splice b (reader.content_at b s) new

    pub others_range : (room lines_room : ℕ) → range_call reader after first last room lines_room ≡ range_call reader b first last room lines_room
    others_range room lines_room =
        calls.range_means reader after first last room lines_room (sound.replacing b r s new accepted some there equal_length)
        ∙ ap (within_all (room ∷ lines_room ∷ [])) (others.range_kept r s new first last away)
        ∙ sym (calls.range_means reader b first last room lines_room accepted)

    pub others_answer :
        {out out₁ out' out₁' ls ls₁ ls' ls₁' : List ℕ} {a a' : Answer (List ℕ)} → length out ≡ length out' → length ls ≡ length ls' →
        WroteAll (out ∷ ls ∷ []) (out₁ ∷ ls₁ ∷ []) a (range_call reader b first last (length out) (length ls)) →
        WroteAll (out' ∷ ls' ∷ []) (out₁' ∷ ls₁' ∷ []) a' (range_call reader after first last (length out') (length ls')) →
        SameAnswers a a' out₁ out₁' ls₁ ls₁'
    others_answer {out} {out₁} {out'} {out₁'} {ls} {ls₁} {ls'} {ls₁'} {a} {a'} e f w v =
        let x = ap₂ (λ (y z : ℕ). range_call reader after first last y z) (sym e) (sym f) ∙ others_range (length out) (length ls) in
        others.same_answers (range_call reader b first last (length out) (length ls)) w (subst (WroteAll (out' ∷ ls' ∷ []) (out₁' ∷ ls₁' ∷ []) a') x v)
