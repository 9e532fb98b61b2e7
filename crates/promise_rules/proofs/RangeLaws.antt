-- The proofs of what Request06 says of the call for a range of samples. Assumes nothing.
--
--   adds, adds_only              what a sample adds, and its line: there is such a pair, and only one
--   range_of, range_of_only      the same of samples n to last
--   range_refused, range_exactly the call is refused, or answers, exactly if ..
--   thirteen_each                        13 bytes a sample
--   one_by_one                           by the calls that resolve and audit
--   sample_in, refused_adds, empty_adds  where what a sample adds stands
--   one_sample                           samples n to n
--   range_number                         a refusal's number is one of the table
--   in_bytes                             ranges in bytes, by computation
use Prim.Native.Nat.{ℕ, zero, suc, ◌+◌, ◌-◌, ◌*◌, ◌≤◌, ◌<◌}
use mathlib.Core.Path.{◌≡◌, refl, ap, ap₂, sym, ◌∙◌}
use mathlib.Core.List.{List, [], ◌∷◌, ◌++◌}
use mathlib.Core.Logic.{◌↔◌}
use native.Mathlib.Omega.{arith}
use borrow.Author.Tests.{leb-true, leb-false, eqb-true, eqb-false}
use lib.Dec.{leb, eqb}
use lib.ListN.{length, take, drop}
use Rattle.words.specs.Refusals.{refused, ok, first_of, first}
use Rattle.words.specs.RefusalNumbers.{refusal_numbers}
use Rattle.words.specs.Lists.{◌∈◌, each, some, keep, nth, last_that, upto, sum}
use Rattle.words.specs.Bytes.{Bytes, bytes, part, big, cuts}
use Rattle.words.specs.Buffers.{within}
use Rattle.words.specs.Walks.{entries, skip}
use Rattle.words.proofs.Tests.{by_bool}
use Rattle.words.proofs.Refusals.{by_verdict, ok_refused, refused_same}
use Rattle.words.proofs.Buffers.{within_room}
use Rattle.sets.specs.Sets.{set_fault}
use Rattle.record_rules.specs.Layout.{byte_fault}
use Rattle.record_rules.specs.Trailers.{values_fault}
use Rattle.record_rules.specs.Read.{head_fault, sequences_end, pictures_end, record_fault, read_as, read_record}
use Rattle.units.specs.Units.{size, type, unit_fault, places_from, top_units, border, top_between}
use Rattle.units.specs.Aggregators.{cover_fault, included_fault, with_included, units, extractors}
use Rattle.samples.specs.Check.{inside_verdict, cover_verdict, content_verdict, check}
use Rattle.bundles.specs.Recordings.{Recording, sample_count, content_of, references_from, samples_in}
use Rattle.bundles.specs.Readers.{first_layout}
use Rattle.bundles.specs.Limits.{count_fault}
use Rattle.bundles.specs.Tracks.{size_at, track_fault, tracks_verdict, tracks, references_at}
use Rattle.bundles.specs.References.{no_such_track, reference_fault, references_verdict, references, samples_at}
use Rattle.bundles.specs.Samples.{order_fault, entry_fault, samples_verdict, sample_entries, lengths, byte_count_at}
use Rattle.bundles.specs.Bundles.{byte_count_fault, bytes_verdict, bundle_verdict, layout_of, recording_of, meaning}
use Rattle.links.specs.Halving.{halving_in}
use Rattle.links.specs.Links.{link_fault, linked_track, base_search, base, sample_named, name_fault}
use Rattle.copies.specs.Copies.{copy_end, copy_ends, copied, border_fault, copy_fault}
use Rattle.resolution_rules.specs.Resolving.{judged, delivered, sample_of, named, name_fault_at, copy_fault_at, extract_fault, copied_at, delivered_at}
use Rattle.resolution_rules.specs.Calls.{output, resolve, resolve_call, written, number_fault}
use Rattle.resolution_rules.specs.Ranges.{between, given, joined, range_fault}
use Rattle.resolution_rules.proofs.Calls.{call_means, resolve_sample, resolve_good}
use Rattle.resolution_rules.proofs.Ranges.{given_refused, given_good, between_none}
use Rattle.audit_rules.specs.Auditing.{line_of, audit_call, line_bytes}
use Rattle.audit_rules.proofs.Lines.{line_refused, line_good}
use Rattle.audit_rules.proofs.Promises.{empty_is_good}
use Rattle.range_rules.specs.Ranges.{lines_of, range_call, range}
use Rattle.range_rules.specs.Rules.{Joins, Gives, InRange, RangeGives, RangeRefuses}
use Rattle.range_rules.proofs.Lines.{range_length, lines_before, lines_after, line_within}
use Rattle.range_rules.proofs.Splits.{joined_first, lines_first}
use Rattle.range_rules.proofs.Singles.{part_most, gives as sample_gives}
use Rattle.range_rules.proofs.Calls.{outputs, range_fits, given_here}
use Rattle.range_rules.proofs.Promises as ranges
use Rattle.promise_rules.specs.Resolving.{after_length}
use Rattle.promise_rules.specs.Ranging.{Adds, RangeOf, SampleIn, RangeRefused, bench_with, slice, extractor}
use Rattle.promise_rules.proofs.CallLaws.{output_is}
use Rattle.promise_rules.proofs.RefusedLaws.{bundle_refused, refused_bundle, sample_refused, refused_sample, resolved, unresolved}
use Rattle.promise_rules.proofs.ReturnLaws.{in_table, bundle_number}

-- a sample of an accepted bundle
module _ (b : List ℕ) (g : Bytes b) (r : Recording) (accepted : first_layout.means b ≡ ok r) where
  module _ (n : ℕ) (some : 0 < n) (there : n ≤ sample_count r.layout) where
    adds_bad : {m p : ℕ} → judged r n ≡ refused m p → Adds r n (given (resolve r n)) (line_of r n)
    adds_bad {m} {p} j = rw (given_refused r n some there j, line_refused r n j) (Adds.bad m p (sample_refused b g r accepted n some there j))

    adds_empty : length (content_of r n) ≡ 0 → Adds r n (given (resolve r n)) (line_of r n)
    unfolding bytes output each
    adds_empty z =
        let e = empty_is_good r n z in
        rw (given_good r n some there e.0, line_good r n e.0, e.1) (Adds.empty z)

    adds_passed : 0 < length (content_of r n) → judged r n ≡ ok tt → Adds r n (given (resolve r n)) (line_of r n)
    adds_passed h j =
        rw (given_good r n some there j, line_good r n j, output_is r (delivered r n)) (Adds.passed h (delivered r n) (resolved b g r accepted n some there j))

    pub adds : Adds r n (given (resolve r n)) (line_of r n)
    adds = by_verdict (judged r n)
        (λ m p j. adds_bad j)
        (λ j. by_bool (eqb (length (content_of r n)) 0)
        (λ t. adds_empty (eqb-true _ _ t))
        (λ t. let z = eqb-false (length (content_of r n)) 0 t in adds_passed (omega arith) j))

    pub adds_only : {own line : List ℕ} → Adds r n own line → (own ≡ given (resolve r n)) × (line ≡ line_of r n)
    unfolding bytes output each
    adds_only (Adds.passed h us w) =
        let u = unresolved b g r n us accepted w in
        (ap (each (after_length r)) u.1 ∙ sym (output_is r (delivered r n)) ∙ sym (given_good r n some there u.0), rw u.1 (sym (line_good r n u.0)))
    adds_only (Adds.empty z) =
        let e = empty_is_good r n z in
        (sym (given_good r n some there e.0 ∙ ap (output r) e.1), sym (line_good r n e.0 ∙ rw e.1))
    adds_only (Adds.bad m p w) =
        let j = (refused_sample b g r accepted n w).2 in
        (sym (given_refused r n some there j), sym (line_refused r n j))

  -- samples n to last
  module _ (last : ℕ) (there : last ≤ sample_count r.layout) where
    range_from : (k n : ℕ) → last < n + k → 0 < n → RangeOf r last n (joined r (between n last)) (lines_of r (between n last))
    unfolding joined lines_of each
    range_from zero n l h = let i : last < n = omega arith in rw (between_none n last i) (RangeOf.none i)
    range_from (suc k) n l h = by_bool (leb n last)
        (λ t.
        let i = leb-true n last t in
        rw (joined_first r n last h i, lines_first r n last h i) (RangeOf.next i (adds n h (omega arith)) (range_from k (n + 1) (omega arith) (omega arith))))
        (λ t. let i = leb-false n last t in rw (between_none n last i) (RangeOf.none i))

    pub range_of : (n : ℕ) → 0 < n → RangeOf r last n (joined r (between n last)) (lines_of r (between n last))
    range_of n h = range_from (last + 1) n (omega arith) h

    pub range_of_only : {n : ℕ} {out ls : List ℕ} → 0 < n → RangeOf r last n out ls → (out ≡ joined r (between n last)) × (ls ≡ lines_of r (between n last))
    unfolding joined lines_of each
    range_of_only {n} h (RangeOf.none l) = (rw (between_none n last l), rw (between_none n last l))
    range_of_only h (RangeOf.next {n} {own} {line} {out} {ls} i w v) =
        let a = adds_only n h (omega arith) w in
        let c = range_of_only (omega arith) v in (
          ap₂ (λ (x y : List ℕ). x ++ y) a.0 c.0 ∙ sym (joined_first r n last h i),
          ap₂ (λ (x y : List ℕ). x ++ y) a.1 c.1 ∙ sym (lines_first r n last h i),
        )

-- the call, refused
module _ (b : List ℕ) (g : Bytes b) (first last room lines_room : ℕ) where
  refusing : {m p : ℕ} → RangeRefuses first_layout b first last room lines_room m p → RangeRefused b first last room lines_room m p
  refusing (RangeRefuses.bundle e) = RangeRefused.bundle (bundle_refused b g e)
  refusing (RangeRefuses.number r e h) = RangeRefused.number r e h
  refusing (RangeRefuses.output r e w k) = RangeRefused.output r (joined r (between first last)) (lines_of r (between first last)) e w.some w.there w.order (range_of b g r e last w.there first w.some) k
  refusing (RangeRefuses.lines r e w k) = RangeRefused.lines r e w.some w.there w.order k

  by_refusing : {m p : ℕ} → RangeRefused b first last room lines_room m p → RangeRefuses first_layout b first last room lines_room m p
  by_refusing (RangeRefused.bundle w) = RangeRefuses.bundle (refused_bundle b g w)
  by_refusing (RangeRefused.number r e h) = RangeRefuses.number r e h
  by_refusing (RangeRefused.output r out ls e s t o w k) =
      let c = ap length (range_of_only b g r e last t s w).0 in RangeRefuses.output r e (record { some = s; there = t; order = o }) (omega arith)
  by_refusing (RangeRefused.lines r e s t o k) = RangeRefuses.lines r e (record { some = s; there = t; order = o }) k

  pub range_refused : (m p : ℕ) → (range_call first_layout b first last room lines_room ≡ refused m p) ↔ RangeRefused b first last room lines_room m p
  range_refused m p =
      let w = ranges.refused_exactly first_layout b first last room lines_room m p in (λ e. refusing (w.0 e), λ v. w.1 (by_refusing v))

  pub range_number : {m p : ℕ} → RangeRefused b first last room lines_room m p → m ∈ refusal_numbers
  unfolding some
  range_number (RangeRefused.bundle w) = bundle_number b g w
  range_number (RangeRefused.number r e h) = in_table 30 refl
  range_number (RangeRefused.output r out ls e s t o w k) = in_table 29 refl
  range_number (RangeRefused.lines r e s t o k) = in_table 29 refl

  -- answered
  module _ (r : Recording) (accepted : first_layout.means b ≡ ok r) (some : 0 < first) (there : last ≤ sample_count r.layout) (order : first ≤ last) where
    in_range : InRange (sample_count r.layout) first last
    in_range = record { some = some; there = there; order = order }

    pub thirteen_each : (out ls : List ℕ) → RangeOf r last first out ls → length ls ≡ 13 * (last + 1 - first)
    thirteen_each out ls w = ap length (range_of_only b g r accepted last there some w).1 ∙ range_length r first last some (omega arith)

    pub range_exactly :
        (outs : List (List ℕ)) → (range_call first_layout b first last room lines_room ≡ ok outs)
        ↔ ((out : List ℕ) × (ls : List ℕ) × RangeOf r last first out ls × (outs ≡ out ∷ ls ∷ []) × (length out ≤ room) × (length ls ≤ lines_room))
    range_exactly outs = (
      λ q.
          let w = given_here first_layout b first last room lines_room outs accepted q in
          let f = w.lines_fit in
          let l = range_length r first last some (omega arith) in
          (joined r (between first last), lines_of r (between first last), range_of b g r accepted last there first some, w.writes, w.fits, omega arith),
      λ v.
          let o = range_of_only b g r accepted last there some v.2 in
          let l = thirteen_each v.0 v.1 v.2 in
          let c = ap length o.0 in
          let i = v.4 in
          let j = v.5 in
          range_fits first_layout b first last room lines_room r accepted in_range (omega arith) (omega arith)
          ∙ ap ok (ap₂ (λ (x y : List ℕ). x ∷ y ∷ []) (sym o.0) (sym o.1) ∙ sym v.3),
    )

    pub one_by_one :
        (enough : ℕ) → room ≤ enough → 13 * sample_count r.layout ≤ enough → (outs : List (List ℕ)) → (range_call first_layout b first last room lines_room ≡ ok outs)
        ↔ ((out : List ℕ) × (all : List ℕ) × Joins (Gives first_layout b enough) last first out × (audit_call first_layout b enough ≡ ok all)
        × (outs ≡ out ∷ part all (13 * (first - 1)) (13 * (last + 1 - first)) ∷ []) × (length out ≤ room) × (13 * (last + 1 - first) ≤ lines_room))
    one_by_one = ranges.one_by_one first_layout b r accepted first last in_range room lines_room

    -- a sample of an answered range
    module _ (out ls : List ℕ) (answered : range_call first_layout b first last room lines_room ≡ ok (out ∷ ls ∷ [])) (n : ℕ) (from : first ≤ n) (to : n ≤ last) where
      gives : RangeGives r first last room lines_room (out ∷ ls ∷ [])
      gives = given_here first_layout b first last room lines_room (out ∷ ls ∷ []) accepted answered

      its_lines : ls ≡ lines_of r (between first last)
      its_lines = (outputs gives).1

      line_here : part ls (13 * (n - first)) 13 ≡ line_of r n
      line_here = ap (λ (x : List ℕ). part x (13 * (n - first)) 13) its_lines ∙ line_within r first last in_range n from to

      earlier : take (13 * (n - first)) ls ≡ lines_of r (between first (n - 1))
      earlier =
          let e : n - first ≡ n - 1 + 1 - first = omega arith in
          ap₂ (λ (k : ℕ) (x : List ℕ). take (13 * k) x) e its_lines ∙ lines_before r first (n - 1) last some (omega arith) (omega arith)

      later : drop (13 * (n + 1 - first)) ls ≡ lines_of r (between (n + 1) last)
      later = ap (drop (13 * (n + 1 - first))) its_lines ∙ lines_after r first n last some (omega arith) to

      fits : length (given (resolve r n)) ≤ room
      fits = let f = gives.fits in let m = part_most first_layout b r accepted first last in_range n from to in omega arith

      pub sample_in : SampleIn b r first last room n out ls
      sample_in =
          record {
            own = given (resolve r n);
            line = line_of r n;
            adds = adds b g r accepted n (omega arith) (omega arith);
            before = joined r (between first (n - 1));
            after = joined r (between (n + 1) last);
            stands = ranges.sample_stands first_layout b r accepted first last in_range room lines_room out ls answered n from to;
            its_line = line_here;
            earlier = rw earlier (range_of b g r accepted (n - 1) (omega arith) first some);
            later = rw later (range_of b g r accepted last there (n + 1) (omega arith));
            gives = sample_gives first_layout b r accepted room n (omega arith) (omega arith) fits;
            audited = λ enough all e. sym (ranges.line_stands first_layout b r accepted first last in_range room lines_room out ls answered n from to enough all e) ∙ line_here;
          }

      module _ (w : SampleIn b r first last room n out ls) where
        only : (w.own ≡ given (resolve r n)) × (w.line ≡ line_of r n)
        only = adds_only b g r accepted n (omega arith) (omega arith) w.adds

        pub refused_adds :
            (m p : ℕ) → resolve_call first_layout b n room ≡ refused m p → (w.own ≡ []) × (part ls (13 * (n - first)) 13 ≡ bytes 1 m ++ bytes 4 p ++ bytes 8 0)
        refused_adds m p q = by_verdict (judged r n)
            (λ k c j.
            let v = refused_same (sym (call_means first_layout b n room accepted ∙ ap (within room) (resolve_sample r n (omega arith) (omega arith) j)) ∙ q) in
            (only.0 ∙ given_refused r n (omega arith) (omega arith) j, rw (← v.0, ← v.1) (line_here ∙ line_refused r n j)))
            (λ j.
            let e = resolve_good r n (omega arith) (omega arith) j in
            let f = rw e at fits in
            ok_refused (sym q ∙ call_means first_layout b n room accepted ∙ ap (within room) e ∙ within_room room (output r (delivered r n)) f))

        pub empty_adds : length (content_of r n) ≡ 0 → (w.own ≡ []) × (part ls (13 * (n - first)) 13 ≡ bytes 13 0)
        unfolding bytes output each
        empty_adds z =
            let e = empty_is_good r n z in
            (only.0 ∙ given_good r n (omega arith) (omega arith) e.0 ∙ ap (output r) e.1, line_here ∙ line_good r n e.0 ∙ rw e.1)

-- samples n to n
module _ (b : List ℕ) (r : Recording) (accepted : first_layout.means b ≡ ok r) where
  pub one_sample :
      (n room lines_room : ℕ) → 0 < n → n ≤ sample_count r.layout → 13 ≤ lines_room → (enough : ℕ) (all : List ℕ) → audit_call first_layout b enough ≡ ok all →
      ((x : List ℕ) → resolve_call first_layout b n room ≡ ok x → range_call first_layout b n n room lines_room ≡ ok (x ∷ part all (13 * (n - 1)) 13 ∷ []))
      × ((m p : ℕ) → resolve_call first_layout b n room ≡ refused m p → (m ≡ 29 → ⊥) → range_call first_layout b n n room lines_room ≡ ok ([] ∷ part all (13 * (n - 1)) 13 ∷ []))
      × ((p : ℕ) → resolve_call first_layout b n room ≡ refused 29 p → range_call first_layout b n n room lines_room ≡ refused 29 0)
  one_sample n room lines_room h l i enough all e =
      let w = ranges.one_sample first_layout b r accepted n room lines_room h l i in
      let a = ranges.audit_line first_layout b r accepted n h l enough all e in (
        λ x q. w.0 x (Gives.output q) ∙ ap (λ (y : List ℕ). ok (x ∷ y ∷ [])) (sym a),
        λ m p q k. w.0 [] (Gives.nothing m p q k) ∙ ap (λ (y : List ℕ). ok ([] ∷ y ∷ [])) (sym a),
        w.1,
      )

-- in bytes
pub in_bytes :
    (range_call first_layout (bench_with slice extractor) 1 2 12 26
    ≡ ok ((0 ∷ 0 ∷ 0 ∷ 2 ∷ 0x65 ∷ 0x88 ∷ 0 ∷ 0 ∷ 0 ∷ 2 ∷ 0x65 ∷ 0x88 ∷ [])
    ∷ (0 ∷ 0 ∷ 0 ∷ 0 ∷ 0 ∷ 0 ∷ 0 ∷ 0 ∷ 0 ∷ 0 ∷ 0 ∷ 0 ∷ 1 ∷ 0 ∷ 0 ∷ 0 ∷ 0 ∷ 0 ∷ 0 ∷ 0 ∷ 0 ∷ 0 ∷ 0 ∷ 0 ∷ 0 ∷ 1 ∷ []) ∷ []))
    × (range_call first_layout (bench_with slice extractor) 2 2 6 13
    ≡ ok ((0 ∷ 0 ∷ 0 ∷ 2 ∷ 0x65 ∷ 0x88 ∷ []) ∷ (0 ∷ 0 ∷ 0 ∷ 0 ∷ 0 ∷ 0 ∷ 0 ∷ 0 ∷ 0 ∷ 0 ∷ 0 ∷ 0 ∷ 1 ∷ []) ∷ []))
    × (range_call first_layout (bench_with slice extractor) 0 1 0 0 ≡ refused 30 0)
    × (range_call first_layout (bench_with slice extractor) 1 3 99 99 ≡ refused 30 0)
    × (range_call first_layout (bench_with slice extractor) 2 1 99 99 ≡ refused 30 0)
    × (range_call first_layout (bench_with slice extractor) 1 2 11 26 ≡ refused 29 0)
    × (range_call first_layout (bench_with slice extractor) 1 2 12 25 ≡ refused 29 0)
    × (range_call first_layout [] 0 0 0 0 ≡ refused 2 0)
    × (range_call first_layout (bench_with (3 ∷ 0x65 ∷ 0x88 ∷ []) extractor) 1 2 0 26
    ≡ ok ([]
    ∷ (15 ∷ 0 ∷ 0 ∷ 0 ∷ 0 ∷ 0 ∷ 0 ∷ 0 ∷ 0 ∷ 0 ∷ 0 ∷ 0 ∷ 0 ∷ 25 ∷ 0 ∷ 0 ∷ 0 ∷ 0 ∷ 0 ∷ 0 ∷ 0 ∷ 0 ∷ 0 ∷ 0 ∷ 0 ∷ 0 ∷ []) ∷ []))
    × (range_call first_layout (bench_with (2 ∷ 0x65 ∷ 0x88 ∷ 1 ∷ []) slice) 1 2 6 26
    ≡ ok ((0 ∷ 0 ∷ 0 ∷ 2 ∷ 0x65 ∷ 0x88 ∷ [])
    ∷ (15 ∷ 0 ∷ 0 ∷ 0 ∷ 3 ∷ 0 ∷ 0 ∷ 0 ∷ 0 ∷ 0 ∷ 0 ∷ 0 ∷ 0 ∷ 0 ∷ 0 ∷ 0 ∷ 0 ∷ 0 ∷ 0 ∷ 0 ∷ 0 ∷ 0 ∷ 0 ∷ 0 ∷ 0 ∷ 1 ∷ []) ∷ []))
    × (range_call first_layout (bench_with slice []) 1 2 6 26
    ≡ ok ((0 ∷ 0 ∷ 0 ∷ 2 ∷ 0x65 ∷ 0x88 ∷ [])
    ∷ (0 ∷ 0 ∷ 0 ∷ 0 ∷ 0 ∷ 0 ∷ 0 ∷ 0 ∷ 0 ∷ 0 ∷ 0 ∷ 0 ∷ 1 ∷ 0 ∷ 0 ∷ 0 ∷ 0 ∷ 0 ∷ 0 ∷ 0 ∷ 0 ∷ 0 ∷ 0 ∷ 0 ∷ 0 ∷ 0 ∷ []) ∷ []))
unfolding first_of first keep some nth last_that each upto sum entries skip big bytes cuts
    set_fault
    byte_fault values_fault head_fault sequences_end pictures_end record_fault read_as read_record
    size type unit_fault places_from top_units border top_between cover_fault included_fault with_included units extractors
    inside_verdict cover_verdict content_verdict check
    count_fault references_from samples_in size_at track_fault tracks_verdict tracks references_at no_such_track reference_fault references_verdict
    references samples_at order_fault entry_fault samples_verdict sample_entries lengths byte_count_at byte_count_fault bytes_verdict bundle_verdict
    layout_of recording_of meaning
    halving_in link_fault linked_track base_search base sample_named name_fault
    copy_end copy_ends copied border_fault copy_fault
    sample_of named name_fault_at copy_fault_at extract_fault copied_at delivered_at delivered judged written output number_fault resolve
    between range_fault joined line_bytes line_of lines_of range range_call
in_bytes = (refl, refl, refl, refl, refl, refl, refl, refl, refl, refl, refl)
