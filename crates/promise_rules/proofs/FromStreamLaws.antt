-- The proofs of what Request03 says of byte streams as samples. The idea: the call answers as `units_in` does of the stream, and
-- crates/byte_streams says when that is a list of units, and which fault it is else. Assumes nothing.
use Prim.Native.Nat.{ℕ, ◌+◌, ◌*◌, ◌/◌, ◌^◌, ◌≤◌, ◌<◌}
use mathlib.Core.Path.{◌≡◌, refl, ap, sym, ◌∙◌, subst}
use mathlib.Core.List.Memᴰ
use mathlib.Core.List.{List, [], ◌∷◌, ◌++◌, map}
use mathlib.Core.Logic.{◌⊎◌, inl, inr, ◌↔◌}
use native.Mathlib.Omega.{arith}
use native.Mathlib.Nat.{div-add-mod', mod-lt}
use borrow.Author.Tests.{ltb-true, ltb-false}
use lib.ListN.{length, length-append, replicate}
use Rattle.words.specs.Tests.{◌<?◌}
use Rattle.words.specs.Refusals.{refused, ok, ◌and_then◌}
use Rattle.words.specs.Lists.{◌∈◌, each}
use Rattle.words.specs.Bytes.{Bytes, bytes}
use Rattle.words.specs.Buffers.{within}
use Rattle.words.proofs.Tests.{by_bool}
use Rattle.words.proofs.Refusals.{ok_refused, ok_same, refused_along, by_answer}
use Rattle.words.proofs.Lists.{each_cong, each_map}
use Rattle.words.proofs.Bytes.{bytes_length}
use Rattle.words.proofs.Buffers.{within_room, within_not}
use Rattle.numbers.specs.Sizes.{in_bytes}
use Rattle.numbers.specs.declared.LengthSize.{LengthSize}
use Rattle.numbers.specs.declared.LengthSize.TheVariants.{One, Two, Four}
use Rattle.byte_streams.specs.Grammar.{zeros, StartCoded, ByteStream}
use Rattle.byte_streams.specs.Writing.{stream_of, to_stream}
use Rattle.byte_streams.specs.Reading.{begins_code, split_cons, split, strip, lead_verdict, inside_verdict, unit_verdict, parts_verdict, units_of}
use Rattle.byte_streams.specs.Reading.{units_in, sample_with, sample_made, from_stream}
use Rattle.byte_streams.specs.Faults.{StreamFault, FirstFault}
use Rattle.byte_streams.proofs.Units.{no_length}
use Rattle.byte_streams.proofs.Streams.{stream_written, stream_all, stream_unique, verdict_all}
use Rattle.byte_streams.proofs.Reading.{read_from, read_to}
use Rattle.byte_streams.proofs.Faults.{fault_by, fault_inside, fault_not, first_by, by_first}
use Rattle.byte_streams.proofs.Samples.{sample_unique, read_zeros, call_unknown, call_known}
use Rattle.bundles.specs.Recordings.{Recording}
use Rattle.bundles.specs.Readers.{first_layout}
use Rattle.resolution_rules.specs.Resolving.{Span}
use Rattle.resolution_rules.specs.Calls.{resolve_call, stream_call}
use Rattle.resolution_rules.proofs.Readers.{first_layout_sound}
use Rattle.resolution_rules.proofs.Good.{good_rules}
use Rattle.resolution_rules.proofs.Delivered.{span_length}
use Rattle.resolution_rules.proofs.Exactly.{delivered_plain}
use Rattle.promise_rules.specs.Resolving.{Resolved, unit_bytes, after_length}
use Rattle.promise_rules.specs.Refused.{ResolveRefused}
use Rattle.promise_rules.specs.Streams.{ReadAs, with_lengths, FromStreamRefused}
use Rattle.promise_rules.proofs.CheckLaws.{size_known, by_size}
use Rattle.promise_rules.proofs.CallLaws.{resolved_exactly}
use Rattle.promise_rules.proofs.RefusedLaws.{resolve_refused, unresolved}
use Rattle.promise_rules.proofs.StreamLaws.{stream_exactly, there_by, gives_back}

size_in : (z : LengthSize) → in_bytes z ∈ (1 ∷ 2 ∷ 4 ∷ [])
size_in One = Memᴰ.head refl
size_in Two = Memᴰ.tail (Memᴰ.head refl)
size_in Four = Memᴰ.tail (Memᴰ.tail (Memᴰ.head refl))

some_bytes : (z : LengthSize) → 0 < in_bytes z
some_bytes One = omega arith
some_bytes Two = omega arith
some_bytes Four = omega arith

with_lengths_lem : (n : ℕ) (us : List (List ℕ)) → sample_with n us ≡ with_lengths n us
unfolding sample_with
with_lengths_lem n us = refl

-- by a length size
module _ (z : LengthSize) (s : List ℕ) where
  abbrev L : ℕ
  L = in_bytes z

  read_as : {us : List (List ℕ)} → units_in L s ≡ ok us → ReadAs L s us
  read_as {us} e = let w = read_from L us s e in record { size = size_in z; stream = w.0; fit = w.1 }

  module _ (room : ℕ) where
    given : (us : List (List ℕ)) → units_in L s ≡ ok us → from_stream L s room ≡ within room (ok (with_lengths L us))
    given us e = call_known L s room z (size_known z) ∙ ap (λ a. within room (sample_made L a)) e ∙ ap (λ a. within room (ok a)) (with_lengths_lem L us)

    at_fault : {m p : ℕ} → units_in L s ≡ refused m p → from_stream L s room ≡ refused m p
    at_fault e = call_known L s room z (size_known z) ∙ ap (λ a. within room (sample_made L a)) e

    -- the three answers
    answered :
        {G : Type 0} → ((m p : ℕ) → FirstFault L s m p → from_stream L s room ≡ refused m p → G) →
        ((us : List (List ℕ)) → ReadAs L s us → room < length (with_lengths L us) → from_stream L s room ≡ refused 29 0 → G) →
        ((us : List (List ℕ)) → ReadAs L s us → length (with_lengths L us) ≤ room → from_stream L s room ≡ ok (with_lengths L us) → G) → G
    answered fault short told = by_answer (units_in L s)
        (λ m p e. fault m p (first_by L s e) (at_fault e))
        (λ us e. by_bool (room <? length (with_lengths L us))
        (λ t. let l = ltb-true room (length (with_lengths L us)) t in short us (read_as e) l (given us e ∙ within_not room (with_lengths L us) l))
        (λ t. let l = ltb-false room (length (with_lengths L us)) t in told us (read_as e) l (given us e ∙ within_room room (with_lengths L us) l)))

    exactly_known :
        (out : List ℕ) → (from_stream L s room ≡ ok out) ↔ ((us : List (List ℕ)) × ReadAs L s us × (out ≡ with_lengths L us) × (length out ≤ room))
    exactly_known out = (
      λ e. answered
          (λ m p f a. ok_refused (sym a ∙ e))
          (λ us w l a. ok_refused (sym a ∙ e))
          (λ us w l a. let q = ok_same (sym e ∙ a) in (us, w, q, rw q l)),
      λ w.
          let e = read_to L w.0 s w.1.stream w.1.fit in
          let q = w.2 in
          given w.0 e ∙ within_room room (with_lengths L w.0) (let k = w.3 in let j = ap length q in omega arith) ∙ ap ok (sym q),
    )

    refuses : {m p : ℕ} → FromStreamRefused L s room m p → from_stream L s room ≡ refused m p
    refuses (FromStreamRefused.size h) = absurd (h (size_in z))
    refuses (FromStreamRefused.fault i f) = at_fault (by_first L s f)
    refuses (FromStreamRefused.room us w l) = given us (read_to L us s w.stream w.fit) ∙ within_not room (with_lengths L us) l

    refused_known : (m p : ℕ) → (from_stream L s room ≡ refused m p) ↔ FromStreamRefused L s room m p
    refused_known m p = (
      λ e. answered
          (λ k q f a. refused_along (FromStreamRefused L s room) (sym a ∙ e) (FromStreamRefused.fault (size_in z) f))
          (λ us w l a. refused_along (FromStreamRefused L s room) (sym a ∙ e) (FromStreamRefused.room us w l))
          (λ us w l a. ok_refused (sym e ∙ a)),
      λ w. refuses w,
    )

  fault_known : ((m : ℕ) × (p : ℕ) × StreamFault L s m p) ↔ (((us : List (List ℕ)) × ReadAs L s us) → ⊥)
  fault_known = (
    λ f w. fault_not L f.2 (read_to L w.0 s w.1.stream w.1.fit),
    λ h. by_answer (units_in L s)
        (λ m p e. (m, p, fault_by L s e))
        (λ us e. absurd (h (us, read_as e))),
  )

-- another length size
none_known : (n : ℕ) (s : List ℕ) (room : ℕ) → (n ∈ (1 ∷ 2 ∷ 4 ∷ []) → ⊥) → from_stream n s room ≡ refused 11 0 → (m p : ℕ) → (from_stream n s room ≡ refused m p) ↔ FromStreamRefused n s room m p
none_known n s room h u m p = (
  λ e. refused_along (FromStreamRefused n s room) (sym u ∙ e) (FromStreamRefused.size h),
  λ w. refuses_none w,
)
  where
    refuses_none : {m p : ℕ} → FromStreamRefused n s room m p → from_stream n s room ≡ refused m p
    refuses_none (FromStreamRefused.size k) = u
    refuses_none (FromStreamRefused.fault i f) = absurd (h i)
    refuses_none (FromStreamRefused.room us w l) = absurd (h w.size)

pub from_stream_exactly :
    (n : ℕ) (s : List ℕ) (room : ℕ) (out : List ℕ) →
    (from_stream n s room ≡ ok out) ↔ ((us : List (List ℕ)) × ReadAs n s us × (out ≡ with_lengths n us) × (length out ≤ room))
from_stream_exactly n s room out = by_size n
    (λ z e. subst (λ (k : ℕ). (from_stream k s room ≡ ok out) ↔ ((us : List (List ℕ)) × ReadAs k s us × (out ≡ with_lengths k us) × (length out ≤ room))) e (exactly_known z s room out))
    (λ h u. (λ e. ok_refused (sym (call_unknown n s room u) ∙ e), λ w. absurd (h w.1.size)))

pub from_stream_refused : (n : ℕ) (s : List ℕ) (room m p : ℕ) → (from_stream n s room ≡ refused m p) ↔ FromStreamRefused n s room m p
from_stream_refused n s room m p = by_size n
    (λ z e. subst (λ (k : ℕ). (from_stream k s room ≡ refused m p) ↔ FromStreamRefused k s room m p) e (refused_known z s room m p))
    (λ h u. none_known n s room h (call_unknown n s room u) m p)

pub units_determined : (n k : ℕ) (s : List ℕ) (us vs : List (List ℕ)) → ReadAs n s us → ReadAs k s vs → us ≡ vs
units_determined n k s us vs a b = stream_unique a.stream b.stream

-- a length size is one of the three
by_known : {G : Type 0} (n : ℕ) → n ∈ (1 ∷ 2 ∷ 4 ∷ []) → ((z : LengthSize) → in_bytes z ≡ n → G) → G
by_known n i f = by_size n f (λ h u. absurd (h i))

pub one_sample :
    (n : ℕ) (s t : List ℕ) (us vs : List (List ℕ)) → ReadAs n s us → ReadAs n t vs → with_lengths n us ≡ with_lengths n vs → us ≡ vs
one_sample n s t us vs a b e = by_known n a.size
    (λ z q. sample_unique n us vs (let l = some_bytes z in omega arith) a.fit b.fit (with_lengths_lem n us ∙ e ∙ sym (with_lengths_lem n vs)))

pub zeros_only : (n : ℕ) → n ∈ (1 ∷ 2 ∷ 4 ∷ []) → (k room : ℕ) → from_stream n (zeros k) room ≡ ok []
unfolding each
zeros_only n i k room = by_known n i
    (λ z q. rw (← q) (given z (zeros k) room [] (read_zeros (in_bytes z) k) ∙ within_room room [] (omega arith)))

pub fault_exactly :
    (n : ℕ) → n ∈ (1 ∷ 2 ∷ 4 ∷ []) → (s : List ℕ) →
    ((m : ℕ) × (p : ℕ) × StreamFault n s m p) ↔ (((us : List (List ℕ)) × ReadAs n s us) → ⊥)
fault_exactly n i s = by_known n i
    (λ z q. subst (λ (k : ℕ). ((m : ℕ) × (p : ℕ) × StreamFault k s m p) ↔ (((us : List (List ℕ)) × ReadAs k s us) → ⊥)) q (fault_known z s))

pub fault_place : (n : ℕ) (s : List ℕ) (m p : ℕ) → StreamFault n s m p → ((m ≡ 33) ⊎ (m ≡ 34)) × (p < length s)
fault_place n s m p f = (number f, fault_inside n f)
  where
    number : {s : List ℕ} {m p : ℕ} → StreamFault n s m p → (m ≡ 33) ⊎ (m ≡ 34)
    number (StreamFault.lead a x b h g) = inl refl
    number (StreamFault.empty a k c h) = inl refl
    number (StreamFault.long a u k c h g e l) = inr refl
    number (StreamFault.after_two a v b g) = inl refl
    number (StreamFault.after_three a v x b g h) = inl refl

-- what [2] wrote
module _ (b : List ℕ) (g : Bytes b) (r : Recording) (accepted : first_layout.means b ≡ ok r) (k : ℕ) where
  written_as :
      (us : List Span) → Resolved r k us → (room : ℕ) (s : List ℕ) → stream_call first_layout b k room ≡ ok s →
      (n : ℕ) → n ∈ (1 ∷ 2 ∷ 4 ∷ []) → ((u : Span) → u ∈ us → length (unit_bytes r u) < 256 ^ n) → ReadAs n s (map (unit_bytes r) us)
  written_as us w room s e n i h = record {
    size = i;
    stream = (gives_back b g r accepted k us w room s e).0;
    fit = λ u m. let d = Memᴰ.of_map (unit_bytes r) us m in subst (λ v. length v < 256 ^ n) d.2 (h d.0 d.1);
  }

  pub comes_back :
      (us : List Span) → Resolved r k us → (room : ℕ) (s : List ℕ) → stream_call first_layout b k room ≡ ok s →
      (n : ℕ) → n ∈ (1 ∷ 2 ∷ 4 ∷ []) → ((u : Span) → u ∈ us → length (unit_bytes r u) < 256 ^ n) →
      (enough : ℕ) → length (with_lengths n (map (unit_bytes r) us)) ≤ enough →
      from_stream n s enough ≡ ok (with_lengths n (map (unit_bytes r) us))
  comes_back us w room s e n i h enough l =
      (from_stream_exactly n s enough (with_lengths n (map (unit_bytes r) us))).1 (map (unit_bytes r) us, written_as us w room s e n i h, refl, l)

  -- the bytes of a delivered unit are as many as its size, which 4 bytes hold
  module _ (us : List Span) (w : Resolved r k us) where
    size_is : (u : Span) → u ∈ us → (length (unit_bytes r u) ≡ u.size) × (u.size < 256 ^ 4)
    size_is u m =
        let d = unresolved b g r k us accepted w in
        let i = (delivered_plain r k (good_rules r k d.0) u (subst (λ vs. u ∈ vs) d.1 m)).inside in
        let most = first_layout_sound.contents b r accepted u.sample in
        (span_length r u i, omega arith)

    same_output : with_lengths 4 (map (unit_bytes r) us) ≡ each (after_length r) us
    same_output =
        each_map (λ u. bytes 4 (length u) ++ u) (unit_bytes r) us
        ∙ each_cong (λ u. bytes 4 (length (unit_bytes r u)) ++ unit_bytes r u) (after_length r) us (λ u m. ap (λ (j : ℕ). bytes 4 j ++ unit_bytes r u) (size_is u m).0)

    resolved_again : (enough : ℕ) → resolve_call first_layout b k enough ≡ within enough (ok (each (after_length r) us))
    resolved_again enough = by_bool (enough <? length (each (after_length r) us))
        (λ t.
        let l = ltb-true enough (length (each (after_length r) us)) t in
        (resolve_refused b g k enough 29 0).1 (ResolveRefused.room r us accepted w l) ∙ sym (within_not enough (each (after_length r) us) l))
        (λ t.
        let l = ltb-false enough (length (each (after_length r) us)) t in
        (resolved_exactly b g r accepted k w.some w.there enough (each (after_length r) us)).1 (us, w, refl, l) ∙ sym (within_room enough (each (after_length r) us) l))

  pub comes_back_resolved :
      (room : ℕ) (s : List ℕ) → stream_call first_layout b k room ≡ ok s →
      (enough : ℕ) → from_stream 4 s enough ≡ resolve_call first_layout b k enough
  comes_back_resolved room s e enough = there_by b g r accepted k room (λ z. ok_refused (sym z ∙ e)) (λ h l.
      let d = (stream_exactly b g r accepted k h l room s).0 e in
      let us = d.0 in
      let w = d.1 in
      let a = written_as us w room s e 4 (size_in Four) (λ u m. let i = size_is us w u m in omega arith) in
      given Four s enough (map (unit_bytes r) us) (read_to 4 (map (unit_bytes r) us) s a.stream a.fit)
      ∙ ap (λ x. within enough (ok x)) (same_output us w) ∙ sym (resolved_again us w enough))

-- units written again
pub written_again_lem :
    (n : ℕ) (s : List ℕ) (us : List (List ℕ)) → ReadAs n s us →
    (t : List ℕ) × (to_stream us ≡ ok t) × (t ≡ each (λ u. 0 ∷ 0 ∷ 0 ∷ 1 ∷ u) us) × ReadAs n t us
    × ((room : ℕ) → from_stream n t room ≡ from_stream n s room)
unfolding to_stream stream_of
written_again_lem n s us w =
    let all = stream_all w.stream in
    let t : ReadAs n (stream_of us) us = record { size = w.size; stream = stream_written us all; fit = w.fit } in (
      stream_of us,
      ap (λ v. v and_then ok (stream_of us)) (verdict_all 0 us all),
      refl,
      t,
      λ room. by_known n w.size (λ z q. again n s (stream_of us) us w t room z q),
    )
  where
    again : (n : ℕ) (s t : List ℕ) (us : List (List ℕ)) → ReadAs n s us → ReadAs n t us → (room : ℕ) (z : LengthSize) → in_bytes z ≡ n → from_stream n t room ≡ from_stream n s room
    again n s t us a c room z q =
        rw (← q) (given z t room us (read_to (in_bytes z) us t c.stream (rw q c.fit)) ∙ sym (given z s room us (read_to (in_bytes z) us s a.stream (rw q a.fit))))

-- how much longer than its stream a sample can be
coded_most : (n : ℕ) {us : List (List ℕ)} {s : List ℕ} → n ≤ 4 → StartCoded us s → (4 * length (with_lengths n us) ≤ 5 * length s) × (n < 4 → length (with_lengths n us) ≤ length s)
unfolding each
coded_most n h StartCoded.none = (omega arith, λ l. omega arith)
coded_most n h (StartCoded.unit {us} {s} u g k c) =
    let below = coded_most n h c in
    let low = below.0 in
    let same = below.1 in
    let a = length-append (bytes n (length u) ++ u) (with_lengths n us) in
    let b = length-append (bytes n (length u)) u in
    let d = bytes_length n (length u) in
    let e = length-append u (zeros k ++ s) in
    let f = length-append (zeros k) s in
    let some : length u ≡ 0 → ⊥ = λ z. g.not_empty (no_length u z) in
    (omega arith, λ l. let m = same l in omega arith)

pub room_enough :
    (n : ℕ) (s : List ℕ) (us : List (List ℕ)) → ReadAs n s us →
    (length (with_lengths n us) ≤ length s + length s / 4) × (n < 4 → length (with_lengths n us) ≤ length s)
room_enough n s us w = by_known n w.size (λ z q. go n us (let l = most z in omega arith) w.stream)
  where
    most : (z : LengthSize) → in_bytes z ≤ 4
    most One = omega arith
    most Two = omega arith
    most Four = omega arith

    go : (n : ℕ) (us : List (List ℕ)) {s : List ℕ} → n ≤ 4 → ByteStream us s → (length (with_lengths n us) ≤ length s + length s / 4) × (n < 4 → length (with_lengths n us) ≤ length s)
    go n us h (ByteStream.stream {s = t} k c) =
        let b = coded_most n h c in
        let low = b.0 in
        let same = b.1 in
        let l = length-append (zeros k) t in
        let d = div-add-mod' (length (zeros k ++ t)) 4 in
        let m = mod-lt (length (zeros k ++ t)) {m = 4} (omega arith) in
        (omega arith, λ i. let j = same i in omega arith)

-- by computation
pub in_bytes_lem :
    (from_stream 1 (0 ∷ 0 ∷ 0 ∷ 1 ∷ 0x67 ∷ 0 ∷ 0 ∷ 1 ∷ 0x65 ∷ 0x88 ∷ 0 ∷ 0 ∷ []) 5 ≡ ok (1 ∷ 0x67 ∷ 2 ∷ 0x65 ∷ 0x88 ∷ []))
    × (from_stream 1 (0 ∷ 0 ∷ 1 ∷ 0 ∷ 0 ∷ 5 ∷ 0 ∷ 0 ∷ 3 ∷ 0 ∷ 1 ∷ []) 9 ≡ ok (8 ∷ 0 ∷ 0 ∷ 5 ∷ 0 ∷ 0 ∷ 3 ∷ 0 ∷ 1 ∷ []))
    × (from_stream 2 (0 ∷ 0 ∷ 1 ∷ 0x65 ∷ []) 9 ≡ ok (0 ∷ 1 ∷ 0x65 ∷ []))
    × (from_stream 1 (0 ∷ 1 ∷ 0x65 ∷ []) 9 ≡ refused 33 1)
    × (from_stream 1 (0 ∷ 0 ∷ 1 ∷ 0x65 ∷ 0 ∷ 0 ∷ 2 ∷ []) 9 ≡ refused 33 6)
    × (from_stream 1 (0 ∷ 0 ∷ 1 ∷ 0 ∷ 0 ∷ 0 ∷ 5 ∷ []) 9 ≡ refused 33 6)
    × (from_stream 1 (0 ∷ 0 ∷ 0 ∷ 1 ∷ 0 ∷ 0 ∷ 1 ∷ 0x65 ∷ []) 9 ≡ refused 33 3)
    × (from_stream 1 (0 ∷ 0 ∷ 1 ∷ 0 ∷ 0 ∷ 2 ∷ replicate 253 0x88) 299 ≡ refused 34 3)
    × (from_stream 1 (0 ∷ 0 ∷ 1 ∷ 0 ∷ 0 ∷ 2 ∷ replicate 252 0x88) 299 ≡ refused 33 5)
    × (from_stream 3 (0x65 ∷ []) 0 ≡ refused 11 0)
    × (from_stream 1 (0x65 ∷ []) 0 ≡ refused 33 0)
    × (from_stream 1 (0 ∷ 0 ∷ 1 ∷ 0x65 ∷ []) 1 ≡ refused 29 0)
unfolding from_stream sample_with units_in units_of parts_verdict unit_verdict inside_verdict lead_verdict strip split split_cons begins_code each bytes
in_bytes_lem = (refl, refl, refl, refl, refl, refl, refl, refl, refl, refl, refl, refl)
