-- The proofs of what Request02 says of samples as byte streams. The idea: of a good sample the call answers as `to_stream` does of the units
-- delivered, and crates/byte_streams says when that is 32, and where. Assumes nothing.
use Prim.Native.Nat.{ℕ, ◌+◌, ◌≤◌, ◌<◌}
use mathlib.Core.Path.{◌≡◌, refl, ap, ap₂, sym, ◌∙◌, subst}
use mathlib.Core.List.{List, [], ◌∷◌, ◌++◌, map, append_assoc, head-eq_of_cons-eq, tail-eq_of_cons-eq}
use mathlib.Core.List.Memᴰ
use mathlib.Core.Logic.{◌⊎◌, ◌↔◌}
use native.Mathlib.Omega.{arith}
use borrow.Author.Tests.{ltb-true, ltb-false}
use lib.ListN.{length, drop, length-append}
use lib.Seq.{drop_at}
use Rattle.words.specs.Tests.{◌<?◌}
use Rattle.words.specs.Refusals.{refused, ok}
use Rattle.words.specs.Lists.{◌∈◌, each}
use Rattle.words.specs.Bytes.{Bytes, big, bytes, part}
use Rattle.words.specs.Buffers.{within}
use Rattle.words.proofs.Tests.{by_bool}
use Rattle.words.proofs.Refusals.{ok_refused, ok_same, refused_same, refused_along, by_answer, by_verdict}
use Rattle.words.proofs.Lists.{each_append, each_map}
use Rattle.words.proofs.Entries.{map_append}
use Rattle.words.proofs.Positions.{at_append, part_here}
use Rattle.words.proofs.Bytes.{bytes_length}
use Rattle.words.proofs.Buffers.{within_room, within_not}
use Rattle.byte_streams.specs.Grammar.{Streamable, ByteStream}
use Rattle.byte_streams.specs.Writing.{start_code, stream_of, stream_verdict, to_stream}
use Rattle.byte_streams.proofs.Streams.{AllStreamable, stream_written, verdict_ok, held_streamable, streamable_held}
use Rattle.byte_streams.proofs.Streams.{FirstBad, verdict_first, first_verdict}
use Rattle.bundles.specs.Recordings.{Recording, sample_count}
use Rattle.bundles.specs.Readers.{first_layout}
use Rattle.resolution_rules.specs.Resolving.{Span, delivered, judged}
use Rattle.resolution_rules.specs.Calls.{span_bytes, bytes_of, resolve_call, stream_call}
use Rattle.resolution_rules.proofs.Calls.{by_count}
use Rattle.resolution_rules.proofs.Streams.{stream_number, stream_sample, stream_good, stream_bundle, stream_means, stream_as_long}
use Rattle.resolution_rules.proofs.Readers.{first_layout_sound}
use Rattle.resolution_rules.proofs.Good.{good_rules}
use Rattle.resolution_rules.proofs.Delivered.{span_length}
use Rattle.resolution_rules.proofs.Exactly.{delivered_plain}
use Rattle.audit_rules.proofs.Reading.{read_at}
use Rattle.promise_rules.specs.Resolving.{Resolved, unit_bytes, after_length}
use Rattle.promise_rules.specs.Streams.{InStream, StreamRefused}
use Rattle.promise_rules.proofs.CallLaws.{output_is, resolved_exactly, delivered_one}
use Rattle.promise_rules.proofs.StreamRoom.{room_case}
use Rattle.promise_rules.proofs.RefusedLaws.{bundle_refused, refused_bundle, sample_refused, refused_sample, resolved, unresolved}
pub use Rattle.byte_streams.proofs.Streams.{stream_unique as one_reading, stream_joined as joined}
pub use Rattle.promise_rules.proofs.OtherLaws.{others_stream}

pub in_stream_exactly : (u : List ℕ) → InStream u ↔ Streamable u
in_stream_exactly u = (
  λ w. held_streamable w.stream w.stands,
  λ h. record { units = u ∷ []; bytes = stream_of (u ∷ []); stream = streamable_held u h; stands = Memᴰ.head refl },
)

-- a list of values, split at one of them
record Split {A B : Type 0} (f : A → B) (xs : List A) (bs : List B) (b : B) : Type 0 where
  before : List A
  at : A
  after : List A
  whole : xs ≡ before ++ (at ∷ after)
  front : map f before ≡ bs
  value : f at ≡ b

split_map : {A B : Type 0} (f : A → B) (xs : List A) (bs : List B) (b : B) (cs : List B) → map f xs ≡ bs ++ (b ∷ cs) → Split f xs bs b
split_map f [] bs b cs e = let l = ap length e ∙ length-append bs (b ∷ cs) in absurd (omega arith)
split_map f (x ∷ xs) [] b cs e = record { before = []; at = x; after = xs; whole = refl; front = refl; value = head-eq_of_cons-eq e }
split_map f (x ∷ xs) (c ∷ bs) b cs e =
    let w = split_map f xs bs b cs (tail-eq_of_cons-eq e) in
    record {
      before = x ∷ w.before;
      at = w.at;
      after = w.after;
      whole = ap (λ l. x ∷ l) w.whole;
      front = ap₂ ◌∷◌ (head-eq_of_cons-eq e) w.front;
      value = w.value;
    }

-- delivered units
module _ (r : Recording) where
  abbrev AllStand : List Span → Type 0
  AllStand us = (u : Span) → u ∈ us → InStream (unit_bytes r u)

  all_streamable : (us : List Span) → AllStand us → AllStreamable (bytes_of r us)
  all_streamable us h w m =
      let k = Memᴰ.of_map (span_bytes r) us m in
      subst Streamable k.2 ((in_stream_exactly (unit_bytes r k.0)).0 (h k.0 k.1))

  all_stand : (us : List Span) → AllStreamable (bytes_of r us) → AllStand us
  all_stand us h u m = (in_stream_exactly (unit_bytes r u)).1 (h (unit_bytes r u) (Memᴰ.map (span_bytes r) m))

  stream_is : (us : List Span) → stream_of (bytes_of r us) ≡ each (λ u. 0 ∷ 0 ∷ 0 ∷ 1 ∷ unit_bytes r u) us
  unfolding stream_of
  stream_is us = each_map (λ u. start_code ++ u) (span_bytes r) us

  size_is : (us : List Span) → length (stream_of (bytes_of r us)) ≡ length (each (after_length r) us)
  size_is us = stream_as_long r us ∙ ap length (output_is r us)

  -- the first that stands in no byte stream
  record FirstOut (us : List Span) (p : ℕ) : Type 0 where
    before : List Span
    unit : Span
    after : List Span
    split : us ≡ before ++ (unit ∷ after)
    place : p ≡ length (each (after_length r) before)
    good : AllStand before
    bad : InStream (unit_bytes r unit) → ⊥

  first_out : (us : List Span) (p : ℕ) → FirstBad (bytes_of r us) 0 p → FirstOut us p
  first_out us p w =
      let s = split_map (span_bytes r) us w.before w.unit w.after w.split in
      let l : length (stream_of (bytes_of r s.before)) ≡ length (stream_of w.before) = ap (λ bs. length (stream_of bs)) s.front in
      let z = size_is s.before in
      let e = w.place in
      record {
        before = s.before;
        unit = s.at;
        after = s.after;
        split = s.whole;
        place = omega arith;
        good = all_stand s.before (subst AllStreamable (sym s.front) w.good);
        bad = λ h. w.bad (subst Streamable s.value ((in_stream_exactly (unit_bytes r s.at)).0 h));
      }

  out_first : (us : List Span) (p : ℕ) → FirstOut us p → FirstBad (bytes_of r us) 0 p
  out_first us p w =
      let z = size_is w.before in
      let e = w.place in
      record {
        before = bytes_of r w.before;
        unit = span_bytes r w.unit;
        after = bytes_of r w.after;
        split = ap (bytes_of r) w.split ∙ map_append (span_bytes r) w.before (w.unit ∷ w.after);
        place = omega arith;
        good = all_streamable w.before w.good;
        bad = λ h. w.bad ((in_stream_exactly (unit_bytes r w.unit)).1 h);
      }

  out_mem : (us : List Span) (p : ℕ) (w : FirstOut us p) → w.unit ∈ us
  out_mem us p w = subst (λ vs. w.unit ∈ vs) (sym w.split) (Memᴰ.append_right w.before (Memᴰ.head refl))

  within_out : (us : List Span) (p : ℕ) → FirstOut us p → AllStand us → ⊥
  within_out us p w all = w.bad (all w.unit (out_mem us p w))

to_refused : (us : List (List ℕ)) {m p : ℕ} → stream_verdict 0 us ≡ refused m p → to_stream us ≡ refused m p
unfolding to_stream
to_refused us e = rw e

to_ok : (us : List (List ℕ)) → stream_verdict 0 us ≡ ok tt → to_stream us ≡ ok (stream_of us)
unfolding to_stream
to_ok us e = rw e

module _ (b : List ℕ) (g : Bytes b) where
  module _ (r : Recording) (accepted : first_layout.means b ≡ ok r) (n room : ℕ) where
    abbrev count : ℕ
    count = sample_count r.layout

    none : (n ≡ 0) ⊎ (count < n) → stream_call first_layout b n room ≡ refused 30 0
    none h = stream_means first_layout b n room accepted ∙ ap (within room) (stream_number r n h)

    module _ (some : 0 < n) (there : n ≤ count) where
      bad : {m p : ℕ} → judged r n ≡ refused m p → stream_call first_layout b n room ≡ refused m p
      bad j = stream_means first_layout b n room accepted ∙ ap (within room) (stream_sample r n some there j)

      module _ (good : judged r n ≡ ok tt) where
        abbrev spans : List Span
        spans = delivered r n

        abbrev coded : List ℕ
        coded = each (λ u. 0 ∷ 0 ∷ 0 ∷ 1 ∷ unit_bytes r u) spans

        call_is : stream_call first_layout b n room ≡ within room (to_stream (bytes_of r spans))
        call_is = stream_means first_layout b n room accepted ∙ ap (within room) (stream_good r n some there good)

        coded_size : length coded ≡ length (each (after_length r) spans)
        coded_size = ap length (sym (stream_is r spans)) ∙ size_is r spans

        refused_unit : {m p : ℕ} → stream_verdict 0 (bytes_of r spans) ≡ refused m p → stream_call first_layout b n room ≡ refused m p
        refused_unit e = call_is ∙ ap (within room) (to_refused (bytes_of r spans) e)

        fitted : stream_verdict 0 (bytes_of r spans) ≡ ok tt → stream_call first_layout b n room ≡ within room (ok coded)
        fitted e = call_is ∙ ap (within room) (to_ok (bytes_of r spans) e ∙ ap ok (stream_is r spans))

        -- the three answers
        answered :
            {G : Type 0} → ((p : ℕ) → FirstOut r spans p → stream_call first_layout b n room ≡ refused 32 p → G) →
            (AllStand r spans → room < length (each (after_length r) spans) → stream_call first_layout b n room ≡ refused 29 0 → G) →
            (AllStand r spans → length coded ≤ room → stream_call first_layout b n room ≡ ok coded → G) → G
        answered out short told =
            let z = coded_size in
            by_verdict (stream_verdict 0 (bytes_of r spans))
            (λ m p e.
            let w = verdict_first 0 (bytes_of r spans) e in
            out p (first_out r spans p w.1) (refused_unit e ∙ ap (λ (k : ℕ). refused k p) w.0))
            (λ e.
            let all = all_stand r spans (verdict_ok 0 (bytes_of r spans) e) in
            by_bool (room <? length coded)
            (λ t. let l = ltb-true room (length coded) t in short all (omega arith) (fitted e ∙ within_not room coded l))
            (λ t. let l = ltb-false room (length coded) t in told all l (fitted e ∙ within_room room coded l)))

        refused_out : (p : ℕ) → FirstOut r spans p → stream_call first_layout b n room ≡ refused 32 p
        refused_out p w = refused_unit (first_verdict 0 (bytes_of r spans) (out_first r spans p w))

        given : AllStand r spans → length (each (after_length r) spans) ≤ room → stream_call first_layout b n room ≡ ok coded
        given all l = let z = coded_size in answered
            (λ p w e. absurd (within_out r spans p w all))
            (λ w k e. absurd (omega arith))
            (λ w k e. e)

        short : AllStand r spans → room < length (each (after_length r) spans) → stream_call first_layout b n room ≡ refused 29 0
        short all l = let z = coded_size in answered
            (λ p w e. absurd (within_out r spans p w all))
            (λ w k e. e)
            (λ w k e. absurd (omega arith))

  -- refused
  module _ (n room : ℕ) where
    because :
        (r : Recording) → first_layout.means b ≡ ok r → {m p : ℕ} → stream_call first_layout b n room ≡ refused m p →
        StreamRefused b n room m p
    because r f e = by_count (sample_count r.layout) n
        (λ h. refused_along (StreamRefused b n room) (sym (none r f n room h) ∙ e) (StreamRefused.number r f h))
        (λ h l. by_verdict (judged r n)
        (λ m q j.
        refused_along (StreamRefused b n room) (sym (bad r f n room h l j) ∙ e)
        (StreamRefused.sample r f (sample_refused b g r f n h l j)))
        (λ j.
        let d = resolved b g r f n h l j in
        answered r f n room h l j
        (λ q w a.
        refused_along (StreamRefused b n room) (sym a ∙ e)
        (rw w.place (StreamRefused.unit r w.before w.unit w.after f (subst (Resolved r n) w.split d) w.good w.bad)))
        (λ w k a. refused_along (StreamRefused b n room) (sym a ∙ e) (room_case b n room r (delivered r n) f d w k))
        (λ w k a. ok_refused (sym e ∙ a))))

    refuses : {m p : ℕ} → StreamRefused b n room m p → stream_call first_layout b n room ≡ refused m p
    refuses (StreamRefused.bundle w) = stream_bundle first_layout b n room (refused_bundle b g w)
    refuses (StreamRefused.number r f h) = none r f n room h
    refuses (StreamRefused.sample r f w) = let k = refused_sample b g r f n w in bad r f n room k.0 k.1 k.2
    refuses (StreamRefused.unit r us u vs f w h z) =
        let k = unresolved b g r n (us ++ (u ∷ vs)) f w in
        refused_out r f n room w.some w.there k.0 (length (each (after_length r) us))
        (record { before = us; unit = u; after = vs; split = sym k.1; place = refl; good = h; bad = z })
    refuses (StreamRefused.room r us f w h l) =
        let k = unresolved b g r n us f w in
        short r f n room w.some w.there k.0 (subst (AllStand r) k.1 h) (rw (← k.1) l)

    pub stream_refused : (m p : ℕ) → (stream_call first_layout b n room ≡ refused m p) ↔ StreamRefused b n room m p
    stream_refused m p = (
      λ e. by_answer (first_layout.means b)
          (λ k q f.
          refused_along (StreamRefused b n room) (sym (stream_bundle first_layout b n room f) ∙ e)
          (StreamRefused.bundle (bundle_refused b g f)))
          (λ r f. because r f e),
      λ w. refuses w,
    )

  module _ (r : Recording) (accepted : first_layout.means b ≡ ok r) (n : ℕ) where
    pub stream_exactly :
        0 < n → n ≤ sample_count r.layout → (room : ℕ) (s : List ℕ) → (stream_call first_layout b n room ≡ ok s)
        ↔ ((us : List Span) × Resolved r n us × ((u : Span) → u ∈ us → InStream (unit_bytes r u))
        × (s ≡ each (λ u. 0 ∷ 0 ∷ 0 ∷ 1 ∷ unit_bytes r u) us) × (length s ≤ room))
    stream_exactly h l room s = (
      λ e. by_verdict (judged r n)
          (λ m p j. ok_refused (sym (bad r accepted n room h l j) ∙ e))
          (λ j. answered r accepted n room h l j
          (λ p w a. ok_refused (sym a ∙ e))
          (λ w k a. ok_refused (sym a ∙ e))
          (λ w k a.
          let z = ok_same (sym e ∙ a) in
          (delivered r n, resolved b g r accepted n h l j, w, z, rw z k))),
      λ w.
          let k = unresolved b g r n w.0 accepted w.1 in
          let z = coded_size r accepted n room h l k.0 in
          let c : s ≡ each (λ u. 0 ∷ 0 ∷ 0 ∷ 1 ∷ unit_bytes r u) (delivered r n) = rw (← k.1) w.3 in
          let d = ap length c in
          let f = w.4 in
          given r accepted n room h l k.0 (subst (AllStand r) k.1 w.2) (omega arith) ∙ ap ok (sym c),
    )

    -- a sample that is given as a byte stream, or is refused with 32, is there
    pub there_by :
        {G : Type 0} (room : ℕ) → (stream_call first_layout b n room ≡ refused 30 0 → ⊥) → (0 < n → n ≤ sample_count r.layout → G) → G
    there_by room h go = by_count (sample_count r.layout) n (λ z. absurd (h (none r accepted n room z))) go

    pub gives_back :
        (us : List Span) → Resolved r n us → (room : ℕ) (s : List ℕ) → stream_call first_layout b n room ≡ ok s →
        ByteStream (map (unit_bytes r) us) s × ((vs : List (List ℕ)) → ByteStream vs s → vs ≡ map (unit_bytes r) us)
    gives_back us w room s e =
        let d = (stream_exactly w.some w.there room s).0 e in
        let same : d.0 ≡ us = delivered_one b g r accepted n w.some w.there d.0 us d.1 w in
        let i : stream_of (bytes_of r us) ≡ s = stream_is r us ∙ ap (each (λ u. 0 ∷ 0 ∷ 0 ∷ 1 ∷ unit_bytes r u)) (sym same) ∙ sym d.3 in
        let t : ByteStream (bytes_of r us) s =
        subst (ByteStream (bytes_of r us)) i (stream_written (bytes_of r us) (all_streamable r us (subst (AllStand r) same d.2))) in
        (t, λ vs v. one_reading v t)

    pub refused_32 :
        (us : List Span) → Resolved r n us → (room : ℕ) →
        ((p : ℕ) × (stream_call first_layout b n room ≡ refused 32 p)) ↔ ((u : Span) × (u ∈ us) × (InStream (unit_bytes r u) → ⊥))
    refused_32 us w room =
        let k = unresolved b g r n us accepted w in (
          λ e. answered r accepted n room w.some w.there k.0
              (λ p v a. (v.unit, subst (λ vs. v.unit ∈ vs) (sym k.1) (out_mem r (delivered r n) p v), v.bad))
              (λ v l a. let z = (refused_same (sym a ∙ e.1)).0 in absurd (omega arith))
              (λ v l a. ok_refused (sym e.1 ∙ a)),
          λ v.
              let m = subst (λ vs. v.0 ∈ vs) k.1 v.1 in
              answered r accepted n room w.some w.there k.0
              (λ p f a. (p, a))
              (λ f l a. absurd (v.2 (f v.0 m)))
              (λ f l a. absurd (v.2 (f v.0 m))),
        )

    -- where it stands in the output of resolving: its length, then its bytes
    out_at :
        judged r n ≡ ok tt → (q p : ℕ) → q ≡ p → FirstOut r (delivered r n) q →
        (out : List ℕ) → out ≡ each (after_length r) (delivered r n) →
        (p + 4 + big out p 4 ≤ length out) × (InStream (part out (p + 4) (big out p 4)) → ⊥)
    unfolding each
    out_at good q p same w out o =
        let u = w.unit in
        let front = each (after_length r) w.before in
        let code = bytes 4 u.size in
        let rest = each (after_length r) w.after in
        let place : length front ≡ p = sym w.place ∙ same in
        let i = (delivered_plain r n (good_rules r n good) u (out_mem r (delivered r n) q w)).inside in
        let most = first_layout_sound.contents b r accepted u.sample in
        let whole : out ≡ front ++ ((code ++ unit_bytes r u) ++ rest) =
        o ∙ ap (each (after_length r)) w.split ∙ each_append (after_length r) w.before (u ∷ w.after) in
        let from : drop p out ≡ code ++ (unit_bytes r u ++ rest) =
        ap (drop p) whole ∙ drop_at front ((code ++ unit_bytes r u) ++ rest) p place ∙ append_assoc code (unit_bytes r u) rest in
        let size : big out p 4 ≡ u.size = read_at out p 4 u.size (unit_bytes r u ++ rest) from (omega arith) in
        let inside : p ≤ length out = let l = ap length whole ∙ length-append front ((code ++ unit_bytes r u) ++ rest) in omega arith in
        let c = bytes_length 4 u.size in
        let a = at_append out p code (unit_bytes r u ++ rest) inside from in
        let n4 : p + length code ≡ p + 4 = omega arith in
        let next : drop (p + 4) out ≡ unit_bytes r u ++ rest = ap (λ (k : ℕ). drop k out) (sym n4) ∙ a.next in
        let t = at_append out (p + 4) (unit_bytes r u) rest (let y = a.within in omega arith) next in
        let l = span_length r u i in
        let it : part out (p + 4) (big out p 4) ≡ unit_bytes r u =
        ap (part out (p + 4)) (size ∙ sym l) ∙ part_here out (p + 4) (unit_bytes r u) rest next in
        (let y = t.within in omega arith, λ h. w.bad (subst InStream it h))

    pub place_32 :
        (room p : ℕ) → stream_call first_layout b n room ≡ refused 32 p →
        (enough : ℕ) (out : List ℕ) → resolve_call first_layout b n enough ≡ ok out →
        (p + 4 + big out p 4 ≤ length out) × (InStream (part out (p + 4) (big out p 4)) → ⊥)
    place_32 room p e enough out o = there_by room (λ z. let y = (refused_same (sym z ∙ e)).0 in absurd (omega arith)) (λ h l.
        let w = (resolved_exactly b g r accepted n h l enough out).0 o in
        let k = unresolved b g r n w.0 accepted w.1 in
        answered r accepted n room h l k.0
        (λ q v a. out_at k.0 q p (refused_same (sym a ∙ e)).1 v out (w.2 ∙ ap (each (after_length r)) k.1))
        (λ v j a. let z = (refused_same (sym a ∙ e)).0 in absurd (omega arith))
        (λ v j a. ok_refused (sym e ∙ a)))

    pub as_long :
        (room : ℕ) (s : List ℕ) → stream_call first_layout b n room ≡ ok s →
        (out : List ℕ) × (resolve_call first_layout b n room ≡ ok out) × (length out ≡ length s)
    as_long room s e = there_by room (λ z. ok_refused (sym z ∙ e)) (λ h l.
        let w = (stream_exactly h l room s).0 e in
        let us = w.0 in
        let z : length (each (after_length r) us) ≡ length s = sym (size_is r us) ∙ ap length (stream_is r us) ∙ ap length (sym w.3) in
        let f = w.4 in
        (each (after_length r) us, (resolved_exactly b g r accepted n h l room (each (after_length r) us)).1 (us, w.1, refl, omega arith), z))
