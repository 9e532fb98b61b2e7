-- The proof of what Demands says of reading a record: with which number it is refused. Assumes nothing.
--
--   judge_then, judge_as                                                         one after the other; in other words
--   lt_test, le_test, eq_test, ne_test, in_test                                  a test
--   byte_judged, set_judged, sets_judged, head_judged, end_judged, bytes_judged  the parts of a record
--   good_to, to_good                                                             good up to the end of the picture sets
--   read_refused                                                                 the call
use Rattle.std.specs.Prelude.{Some}
use Prim.Native.Nat.{ℕ, zero, suc, ◌+◌, ◌%◌, ◌≤◌, ◌<◌}
use mathlib.Core.Path.{◌≡◌, refl, sym, ◌∙◌, subst}
use mathlib.Core.Bool.{Bool, true, false, not}
use mathlib.Core.List.{List, [], ◌∷◌}
use mathlib.Core.Logic.{◌⊎◌, inl, inr, ⊎_elim, ◌↔◌}
use native.Mathlib.Omega.{arith}
use native.Mathlib.Nat.{pos_of_ne-zero, add-zero}
use borrow.Author.Tests.{ltb-true, ltb-false, lt-ltb, le-ltb, leb-true, leb-false, le-leb, lt-leb, eqb-true, eqb-false, eq-eqb, ne_eqb, not-true, not-false}
use lib.ListN.{length}
use Rattle.words.specs.Tests.{◌<?◌, ◌≤?◌, ◌≡?◌}
use Rattle.words.specs.Refusals.{◌if◌, ◌or_else◌, first_of, refused}
use Rattle.words.specs.Lists.{◌∈◌}
use Rattle.words.specs.Walks.{entries, skip}
use Rattle.words.specs.Bytes.{Bytes, byte_at, big}
use Rattle.words.proofs.Tests.{by_bool, true_false}
use Rattle.words.proofs.Refusals.{refused_along}
use Rattle.numbers.specs.Kinds.{kind_of}
use Rattle.numbers.specs.declared.Kind.{Kind}
use Rattle.numbers.specs.declared.Kind.TheVariants.{Avc, Svc}
use Rattle.sets.specs.Sets.{one_of, set_fault, sets_fault, sets_end}
use Rattle.sets.specs.declared.SetTypes.{SetTypes}
use Rattle.record_rules.specs.Layout.{record_layout, fixed_in, picture_types, byte_fault}
use Rattle.record_rules.specs.Trailers.{trailer_belongs, chroma_shape, depth_shape, extension_types, values_fault, ending, ending_of}
use Rattle.record_rules.specs.Read.{length_size, head_fault, sequence_count, sequences_fault, sequences_end, picture_count, pictures_fault, pictures_end, record_end, record_fault, read_record}
use Rattle.record_rules.specs.declared.Shape.{Shape}
use Rattle.record_rules.proofs.Parsed.{pictures_in_lem}
use Rattle.record_rules.proofs.Endings.{by_ending, ending_none, ending_absent, ending_present}
use Rattle.promise_rules.specs.Records.{SetAt, SetsTo}
use Rattle.promise_rules.specs.Reading.{ByteAt, ByteRefused, SetRefused, SetsRefused, SizeBits, CountBits, sequences_in, sequence_types, TrailerBelongs, FormatBits, DepthBits}
use Rattle.promise_rules.specs.Reading.{Head, HeadRefused, SequencesEnd, PicturesEnd, EndsAt, EndRefused, BytesRefused, ReadRefused}
use Rattle.promise_rules.proofs.FirstLaws.{Judges}
use Rattle.promise_rules.proofs.RecordLaws.{sets_to, one_in, in_one, two_in, in_two, high_in, in_high, by_kind, read_none, refused_known, known_refused}

-- one after the other: the second counts where the first is good
judge_then : {f g : ℕ} {R Q : ℕ → Type 0} {G H : Type 0} → Judges f R G → (G → Judges g Q H) → Judges (f or_else g) (λ n. R n ⊎ (G × Q n)) (G × H)
judge_then {f = zero} {R} {Q} {G} a b =
    let h = a.good refl in
    let j = b h in
    record {
      good = λ e. (h, j.good e);
      none = λ w. j.none w.1;
      because = λ l. inr (h, j.because l);
      refuses = λ n w. ⊎_elim (λ x. let z = a.refuses n x in absurd (omega arith)) (λ x. j.refuses n x.1) w;
    }
judge_then {f = suc m} {R} {Q} {G} a b =
    record {
      good = λ e. absurd (omega arith);
      none = λ w. let z = a.none w.0 in absurd (omega arith);
      because = λ l. inl (a.because l);
      refuses = λ n w. ⊎_elim (λ x. a.refuses n x) (λ x. let z = a.none x.0 in absurd (omega arith)) w;
    }

judge_as : {f : ℕ} {R Q : ℕ → Type 0} {G H : Type 0} → Judges f R G → ((n : ℕ) → R n → Q n) → ((n : ℕ) → Q n → R n) → (G → H) → (H → G) → Judges f Q H
judge_as a to from up down =
    record {
      good = λ e. up (a.good e);
      none = λ h. a.none (down h);
      because = λ l. to _ (a.because l);
      refuses = λ n w. a.refuses n (from n w);
    }

-- tests
test : (c : ℕ) (t : Bool) {B G : Type 0} → (t ≡ true → B) → (B → t ≡ true) → (t ≡ false → G) → (G → t ≡ false) → Judges (suc c if t) (λ n. (n ≡ suc c) × B) G
test c true a b g h =
    record {
      good = λ e. absurd (omega arith);
      none = λ x. true_false true refl (h x);
      because = λ l. (refl, a refl);
      refuses = λ n w. (sym w.0, omega (arith, w.0));
    }
test c false a b g h =
    record {
      good = λ e. g refl;
      none = λ x. refl;
      because = λ l. absurd (omega arith);
      refuses = λ n w. true_false false (b w.1) refl;
    }

lt_test : (c a b : ℕ) → Judges (suc c if a <? b) (λ n. (n ≡ suc c) × (a < b)) (b ≤ a)
lt_test c a b = test c (a <? b) (ltb-true a b) (lt-ltb a b) (ltb-false a b) (le-ltb a b)

le_test : (c a b : ℕ) → Judges (suc c if a ≤? b) (λ n. (n ≡ suc c) × (a ≤ b)) (b < a)
le_test c a b = test c (a ≤? b) (leb-true a b) (le-leb a b) (leb-false a b) (lt-leb a b)

eq_test : (c a b : ℕ) → Judges (suc c if a ≡? b) (λ n. (n ≡ suc c) × (a ≡ b)) (a ≡ b → ⊥)
eq_test c a b = test c (a ≡? b) (eqb-true a b) (eq-eqb a b) (eqb-false a b) (ne_eqb a b)

ne_test : (c a b : ℕ) → Judges (suc c if not (a ≡? b)) (λ n. (n ≡ suc c) × (a ≡ b → ⊥)) (a ≡ b)
ne_test c a b = test c (not (a ≡? b))
    (λ e. eqb-false a b (not-true _ e))
    (λ h. rw (ne_eqb a b h))
    (λ e. eqb-true a b (not-false _ e))
    (λ h. rw (eq-eqb a b h))

-- a byte with fixed bits
module _ (s : List ℕ) (h : Shape) (p : ℕ) (P : ℕ → Type 0) (bits : (fixed_in h (byte_at s p) ≡ h.fixed) ↔ P (byte_at s p)) where
  byte_from : (n : ℕ) → ByteRefused P s p n → ((n ≡ 8) × (length s ≤ p)) ⊎ ((p < length s) × ((n ≡ 10) × (fixed_in h (byte_at s p) ≡ h.fixed → ⊥)))
  byte_from n (ByteRefused.missing l) = inl (refl, l)
  byte_from n (ByteRefused.bits l f) = inr (l, (refl, λ e. f (bits.0 e)))

  byte_judged : Judges (byte_fault s h p) (ByteRefused P s p) (ByteAt P s p)
  unfolding byte_fault
  byte_judged = judge_as
      (judge_then (le_test 7 (length s) p) (λ l. ne_test 9 (fixed_in h (byte_at s p)) h.fixed))
      (λ n w. ⊎_elim
      (λ x. rw x.0 (ByteRefused.missing x.1))
      (λ x. rw x.1.0 (ByteRefused.bits x.0 (λ e. x.1.1 (bits.1 e))))
      w)
      byte_from
      (λ w. record { there = w.0; bits = bits.0 w.1 })
      (λ w. (w.there, bits.1 w.bits))

-- sets
module _ (types : SetTypes) (ts : List ℕ) (to : (t : ℕ) → one_of types t ≡ true → t ∈ ts) (from : (t : ℕ) → t ∈ ts → one_of types t ≡ true) (s : List ℕ) where
  in_test : (c t : ℕ) → Judges (suc c if not (one_of types t)) (λ n. (n ≡ suc c) × (t ∈ ts → ⊥)) (t ∈ ts)
  in_test c t = test c (not (one_of types t))
      (λ e m. true_false (one_of types t) (from t m) (not-true _ e))
      (λ h. by_bool (one_of types t) (λ e. absurd (h (to t e))) (λ e. rw e))
      (λ e. to t (not-false _ e))
      (λ m. rw (from t m))

  abbrev SetTests : ℕ → ℕ → Type 0
  SetTests p n =
      ((n ≡ 8) × (length s < p + 2)) ⊎ ((p + 2 ≤ length s)
      × (((n ≡ 12) × (big s p 2 ≡ 0)) ⊎ ((big s p 2 ≡ 0 → ⊥)
      × (((n ≡ 8) × (length s < p + 2 + big s p 2)) ⊎ ((p + 2 + big s p 2 ≤ length s)
      × (((n ≡ 12) × (128 ≤ byte_at s (p + 2))) ⊎ ((byte_at s (p + 2) < 128)
      × ((n ≡ 12) × ((byte_at s (p + 2) % 32) ∈ ts → ⊥)))))))))

  set_to : (p n : ℕ) → SetTests p n → SetRefused ts s p n
  set_to p n w = ⊎_elim (λ x. rw x.0 (SetRefused.cut x.1))
      (λ a. ⊎_elim (λ x. rw x.0 (SetRefused.empty a.0 x.1))
      (λ b. let some = pos_of_ne-zero b.0 in
      ⊎_elim (λ x. rw x.0 (SetRefused.short a.0 some x.1))
      (λ c. ⊎_elim (λ x. rw x.0 (SetRefused.top some c.0 x.1))
      (λ d. rw d.1.0 (SetRefused.type some c.0 d.0 d.1.1))
      c.1) b.1) a.1) w

  set_from : (p n : ℕ) → SetRefused ts s p n → SetTests p n
  set_from p n (SetRefused.cut l) = inl (refl, l)
  set_from p n (SetRefused.empty a e) = inr (a, inl (refl, e))
  set_from p n (SetRefused.short a b l) = inr (a, inr (λ e. absurd (omega arith), inl (refl, l)))
  set_from p n (SetRefused.top b c l) = inr (omega arith, inr (λ e. absurd (omega arith), inr (c, inl (refl, l))))
  set_from p n (SetRefused.type b c d f) = inr (omega arith, inr (λ e. absurd (omega arith), inr (c, inr (d, (refl, f)))))

  set_judged : (p : ℕ) → Judges (set_fault types s p) (SetRefused ts s p) (SetAt ts s p)
  unfolding set_fault
  set_judged p = judge_as
      (judge_then (lt_test 7 (length s) (p + 2)) (λ a.
      judge_then (eq_test 11 (big s p 2) 0) (λ b.
      judge_then (lt_test 7 (length s) (p + 2 + big s p 2)) (λ c.
      judge_then (le_test 11 128 (byte_at s (p + 2))) (λ d.
      in_test 11 (byte_at s (p + 2) % 32))))))
      (set_to p)
      (set_from p)
      (λ w. record { some = pos_of_ne-zero w.1.0; inside = w.1.1.0; top = w.1.1.1.0; type = w.1.1.1.1 })
      (λ w. let i = w.inside in let l = w.some in (omega arith, (λ e. absurd (omega arith), (i, (w.top, w.type)))))

  sets_first : (n p m place b : ℕ) → b < suc n → SetsTo ts s b p place → SetRefused ts s place m → SetRefused ts s p m ⊎ (SetAt ts s p × SetsRefused ts s n (p + 2 + big s p 2) m)
  sets_first n p m place zero l g r = inl (rw g r)
  sets_first n p m place (suc b) l g r = inr (g.0, record { before = b; fewer = omega arith; place = place; good = g.1; bad = r })

  sets_judged : (n p : ℕ) → Judges (sets_fault types s n p) (SetsRefused ts s n p) (SetsTo ts s n p (sets_end s n p))
  unfolding entries skip first_of
  sets_judged zero p =
      record {
        good = λ e. refl;
        none = λ e. refl;
        because = λ l. absurd (omega arith);
        refuses = λ n w. let l = w.fewer in absurd (omega arith);
      }
  sets_judged (suc n) p = judge_as
      (judge_then (set_judged p) (λ a. sets_judged n (p + 2 + big s p 2)))
      (λ m w. ⊎_elim
      (λ x. record { before = 0; fewer = omega arith; place = p; good = refl; bad = x })
      (λ x. let y = x.1 in let l = y.fewer in record { before = suc y.before; fewer = omega arith; place = y.place; good = (x.0, y.good); bad = y.bad })
      w)
      (λ m w. sets_first n p m w.place w.before w.fewer w.good w.bad)
      (λ w. w)
      (λ w. w)

-- what the kinds differ in
size_bits : (k : Kind) (b : ℕ) → b < 256 → (fixed_in (record_layout k).length_size b ≡ (record_layout k).length_size.fixed) ↔ SizeBits k b
size_bits Avc b l = (λ e. omega arith, λ h. omega arith)
size_bits Svc b l = (λ e. omega arith, λ h. omega arith)

count_bits : (k : Kind) (b : ℕ) → b < 256 → (fixed_in (record_layout k).count b ≡ (record_layout k).count.fixed) ↔ CountBits k b
count_bits Avc b l = (λ e. omega arith, λ h. omega arith)
count_bits Svc b l = (λ e. omega arith, λ h. omega arith)

format_bits : (b : ℕ) → b < 256 → (fixed_in chroma_shape b ≡ chroma_shape.fixed) ↔ FormatBits b
format_bits b l = (λ e. omega arith, λ h. omega arith)

depth_bits : (b : ℕ) → b < 256 → (fixed_in depth_shape b ≡ depth_shape.fixed) ↔ DepthBits b
depth_bits b l = (λ e. omega arith, λ h. omega arith)

size_three : (k : Kind) (s : List ℕ) → (length_size k s ≡ 3) ↔ (byte_at s 4 % 4 ≡ 2)
size_three Avc s = (λ e. omega arith, λ h. omega arith)
size_three Svc s = (λ e. omega arith, λ h. omega arith)

count_is : (k : Kind) (s : List ℕ) → sequence_count k s ≡ sequences_in k (byte_at s 5)
count_is Avc s = omega arith
count_is Svc s = omega arith

type_in : (k : Kind) (t : ℕ) → one_of (record_layout k).sequence t ≡ true → t ∈ sequence_types k
type_in Avc t e = one_in 7 t e
type_in Svc t e = two_in 7 15 t e

in_type : (k : Kind) (t : ℕ) → t ∈ sequence_types k → one_of (record_layout k).sequence t ≡ true
in_type Avc t m = in_one 7 t m
in_type Svc t m = in_two 7 15 t m

trailer_belongs_lem : (k : Kind) (s : List ℕ) → trailer_belongs k (byte_at s 1) ≡ true → TrailerBelongs k s
trailer_belongs_lem Avc s e = high_in (byte_at s 1) e
trailer_belongs_lem Svc s e = true_false false e refl

trailer_belongs_true : (k : Kind) (s : List ℕ) → TrailerBelongs k s → trailer_belongs k (byte_at s 1) ≡ true
trailer_belongs_true Avc s m = in_high (byte_at s 1) m
trailer_belongs_true Svc s m = absurd m

module _ (k : Kind) (s : List ℕ) (bytes : Bytes s) where
  -- the six bytes
  abbrev HeadTests : ℕ → Type 0
  HeadTests n =
      ((n ≡ 8) × (length s ≤ 0)) ⊎ ((0 < length s)
      × (((n ≡ 9) × (byte_at s 0 ≡ 1 → ⊥)) ⊎ ((byte_at s 0 ≡ 1)
      × (ByteRefused (SizeBits k) s 4 n ⊎ (ByteAt (SizeBits k) s 4
      × (((n ≡ 11) × (length_size k s ≡ 3)) ⊎ ((length_size k s ≡ 3 → ⊥)
      × ByteRefused (CountBits k) s 5 n)))))))

  head_to : (n : ℕ) → HeadTests n → HeadRefused k s n
  head_to n w = ⊎_elim (λ x. rw x.0 (HeadRefused.missing (omega (arith, x.1))))
      (λ a. ⊎_elim (λ x. rw x.0 (HeadRefused.version a.0 x.1))
      (λ b. let v : ByteAt (λ c. c ≡ 1) s 0 = record { there = a.0; bits = b.0 } in
      ⊎_elim (λ x. HeadRefused.fifth v x)
      (λ c. ⊎_elim (λ x. rw x.0 (HeadRefused.size v c.0 ((size_three k s).0 x.1)))
      (λ d. HeadRefused.sixth v c.0 (λ e. d.0 ((size_three k s).1 e)) d.1)
      c.1) b.1) a.1) w

  head_from : (n : ℕ) → HeadRefused k s n → HeadTests n
  head_from n (HeadRefused.missing e) = inl (refl, omega arith)
  head_from n (HeadRefused.version l f) = inr (l, inl (refl, f))
  head_from n (HeadRefused.fifth v w) = inr (v.there, inr (v.bits, inl w))
  head_from n (HeadRefused.size v b e) = inr (v.there, inr (v.bits, inr (b, inl (refl, (size_three k s).1 e))))
  head_from n (HeadRefused.sixth v b f w) = inr (v.there, inr (v.bits, inr (b, inr (λ e. f ((size_three k s).0 e), w))))

  head_judged : Judges (head_fault k s) (HeadRefused k s) (Head k s)
  unfolding head_fault
  head_judged = judge_as
      (judge_then (le_test 7 (length s) 0) (λ a.
      judge_then (ne_test 8 (byte_at s 0) 1) (λ b.
      judge_then (byte_judged s (record_layout k).length_size 4 (SizeBits k) (size_bits k (byte_at s 4) (bytes 4))) (λ c.
      judge_then (eq_test 10 (length_size k s) 3) (λ d.
      byte_judged s (record_layout k).count 5 (CountBits k) (count_bits k (byte_at s 5) (bytes 5)))))))
      head_to
      head_from
      (λ w. record { version = record { there = w.0; bits = w.1.0 }; size = w.1.1.0; known = λ e. w.1.1.1.0 ((size_three k s).1 e); count = w.1.1.1.1 })
      (λ w. (w.version.there, (w.version.bits, (w.size, (λ e. w.known ((size_three k s).0 e), w.count)))))

  -- what ends the record
  module _ (q : ℕ) where
    abbrev end_fault : ℕ
    end_fault = (ending (ending_of k s q)).fault s q or_else sets_fault extension_types s (ending (ending_of k s q)).sets (q + length (ending (ending_of k s q)).head)

    abbrev end_place : ℕ
    end_place = sets_end s (ending (ending_of k s q)).sets (q + length (ending (ending_of k s q)).head)

    nothing : EndsAt k s q q → ((n : ℕ) → EndRefused k s q n → ⊥) → Judges (sets_fault extension_types s 0 (q + 0)) (EndRefused k s q) (EndsAt k s q (sets_end s 0 (q + 0)))
    unfolding entries skip first_of
    nothing h never = rw (add-zero q) (record {
      good = λ e. h;
      none = λ e. refl;
      because = λ l. absurd (omega arith);
      refuses = λ n w. absurd (never n w);
    })

    -- a refusal is of a trailer that has a byte
    refused_has : (n : ℕ) → EndRefused k s q n → TrailerBelongs k s × (q < length s)
    refused_has n (EndRefused.format t l w) = (t, l)
    refused_has n (EndRefused.luma t f w) = (t, f.there)
    refused_has n (EndRefused.chroma t f l w) = (t, f.there)
    refused_has n (EndRefused.count t f l c w) = (t, f.there)
    refused_has n (EndRefused.sets t f l c d w) = (t, f.there)

    format_at : (n : ℕ) → q < length s → TrailerBelongs k s → ByteRefused FormatBits s q n → EndRefused k s q n
    format_at n l t (ByteRefused.missing h) = absurd (omega arith)
    format_at n l t (ByteRefused.bits h f) = EndRefused.format t h f

    abbrev TrailerTests : ℕ → Type 0
    TrailerTests n =
        (ByteRefused FormatBits s q n ⊎ (ByteAt FormatBits s q
        × (ByteRefused DepthBits s (q + 1) n ⊎ (ByteAt DepthBits s (q + 1)
        × (ByteRefused DepthBits s (q + 2) n ⊎ (ByteAt DepthBits s (q + 2)
        × ((n ≡ 8) × (length s ≤ q + 3))))))))
        ⊎ ((ByteAt FormatBits s q × (ByteAt DepthBits s (q + 1) × (ByteAt DepthBits s (q + 2) × (q + 3 < length s))))
        × SetsRefused (13 ∷ []) s (byte_at s (q + 3)) (q + 4) n)

    module _ (has : TrailerBelongs k s) (some : q < length s) where
      trailer_to : (n : ℕ) → TrailerTests n → EndRefused k s q n
      trailer_to n w = ⊎_elim
          (⊎_elim (λ x. format_at n some has x)
          (λ a. ⊎_elim (λ x. EndRefused.luma has a.0 x)
          (λ b. ⊎_elim (λ x. EndRefused.chroma has a.0 b.0 x)
          (λ c. rw c.1.0 (EndRefused.count has a.0 b.0 c.0 c.1.1))
          b.1) a.1))
          (λ x. EndRefused.sets has x.0.0 x.0.1.0 x.0.1.1.0 x.0.1.1.1 x.1)
          w

      trailer_from_lem : (n : ℕ) → EndRefused k s q n → TrailerTests n
      trailer_from_lem n (EndRefused.format t l w) = inl (inl (ByteRefused.bits l w))
      trailer_from_lem n (EndRefused.luma t f w) = inl (inr (f, inl w))
      trailer_from_lem n (EndRefused.chroma t f l w) = inl (inr (f, inr (l, inl w)))
      trailer_from_lem n (EndRefused.count t f l c w) = inl (inr (f, inr (l, inr (c, (refl, w)))))
      trailer_from_lem n (EndRefused.sets t f l c d w) = inr ((f, (l, (c, d))), w)

      trailer_good :
          {e : ℕ} → EndsAt k s q e →
          (ByteAt FormatBits s q × (ByteAt DepthBits s (q + 1) × (ByteAt DepthBits s (q + 2) × (q + 3 < length s))))
          × SetsTo (13 ∷ []) s (byte_at s (q + 3)) (q + 4) e
      trailer_good (EndsAt.nothing h) = absurd (h has)
      trailer_good (EndsAt.absent t l) = absurd (omega arith)
      trailer_good (EndsAt.trailer t f l c d w) = ((f, (l, (c, d))), w)

      trailer_judged :
          Judges (values_fault s q or_else sets_fault extension_types s (byte_at s (q + 3)) (q + 4)) (EndRefused k s q) (EndsAt k s q (sets_end s (byte_at s (q + 3)) (q + 4)))
      unfolding values_fault
      trailer_judged = judge_as
          (judge_then
          (judge_then (byte_judged s chroma_shape q FormatBits (format_bits (byte_at s q) (bytes q))) (λ a.
          judge_then (byte_judged s depth_shape (q + 1) DepthBits (depth_bits (byte_at s (q + 1)) (bytes (q + 1)))) (λ b.
          judge_then (byte_judged s depth_shape (q + 2) DepthBits (depth_bits (byte_at s (q + 2)) (bytes (q + 2)))) (λ c.
          le_test 7 (length s) (q + 3)))))
          (λ w. sets_judged extension_types (13 ∷ []) (one_in 13) (in_one 13) s (byte_at s (q + 3)) (q + 4)))
          trailer_to
          trailer_from_lem
          (λ w. EndsAt.trailer has w.0.0 w.0.1.0 w.0.1.1.0 w.0.1.1.1 w.1)
          trailer_good

    -- it ends at one place
    trailer_end : TrailerBelongs k s → q < length s → {e : ℕ} → EndsAt k s q e → sets_end s (byte_at s (q + 3)) (q + 4) ≡ e
    trailer_end has some {e} w = (sets_to extension_types (13 ∷ []) (one_in 13) (in_one 13) s (byte_at s (q + 3)) (q + 4) e (trailer_good has some w).1).1

    nothing_end : (TrailerBelongs k s → q < length s → ⊥) → {e : ℕ} → EndsAt k s q e → sets_end s 0 (q + 0) ≡ e
    unfolding skip
    nothing_end h (EndsAt.nothing f) = add-zero q
    nothing_end h (EndsAt.absent t l) = add-zero q
    nothing_end h (EndsAt.trailer t f l c d w) = absurd (h t f.there)

    no_trailer : trailer_belongs k (byte_at s 1) ≡ false → TrailerBelongs k s → ⊥
    no_trailer t h = true_false _ (trailer_belongs_true k s h) t

    end_one : (e : ℕ) → EndsAt k s q e → end_place ≡ e
    end_one e w = by_ending k s q
        (λ t. rw (ending_none k s q t) (nothing_end (λ h l. no_trailer t h) w))
        (λ t l. rw (ending_absent k s q t l) (nothing_end (λ h m. absurd (omega arith)) w))
        (λ t l. rw (ending_present k s q t l) (trailer_end (trailer_belongs_lem k s t) l w))

    end_judged : Judges end_fault (EndRefused k s q) (EndsAt k s q end_place)
    end_judged = by_ending k s q
        (λ t. rw (ending_none k s q t) (nothing (EndsAt.nothing (no_trailer t)) (λ n w. no_trailer t (refused_has n w).0)))
        (λ t l. rw (ending_absent k s q t l) (nothing (EndsAt.absent (trailer_belongs_lem k s t) l) (λ n w. let m = (refused_has n w).1 in absurd (omega arith))))
        (λ t l. rw (ending_present k s q t l) (trailer_judged (trailer_belongs_lem k s t) l))

  -- where the sequence sets and the picture sets end
  sequences_judged : Judges (sequences_fault k s) (SetsRefused (sequence_types k) s (sequences_in k (byte_at s 5)) 6) (SetsTo (sequence_types k) s (sequences_in k (byte_at s 5)) 6 (sequences_end k s))
  unfolding sequences_end
  sequences_judged = rw (← count_is k s) (sets_judged (record_layout k).sequence (sequence_types k) (type_in k) (in_type k) s (sequence_count k s) 6)

  sequences_one : (p : ℕ) → SequencesEnd k s p → sequences_end k s ≡ p
  unfolding sequences_end
  sequences_one p w = rw (count_is k s) (sets_to (record_layout k).sequence (sequence_types k) (type_in k) (in_type k) s (sequences_in k (byte_at s 5)) 6 p w.sets).1

  pictures_judged : Judges (sets_fault picture_types s (picture_count k s) (sequences_end k s + 1)) (SetsRefused (8 ∷ []) s (byte_at s (sequences_end k s)) (sequences_end k s + 1))
      (SetsTo (8 ∷ []) s (byte_at s (sequences_end k s)) (sequences_end k s + 1) (pictures_end k s))
  unfolding pictures_end
  pictures_judged = sets_judged picture_types (8 ∷ []) (one_in 8) (in_one 8) s (picture_count k s) (sequences_end k s + 1)

  abbrev Counted : Type 0
  Counted = sequences_end k s < length s

  abbrev SequencesGood : Type 0
  SequencesGood = SetsTo (sequence_types k) s (sequences_in k (byte_at s 5)) 6 (sequences_end k s)

  abbrev PicturesGood : Type 0
  PicturesGood = SetsTo (8 ∷ []) s (byte_at s (sequences_end k s)) (sequences_end k s + 1) (pictures_end k s)

  abbrev BytesTests : ℕ → Type 0
  BytesTests n =
      HeadRefused k s n ⊎ (Head k s
      × (SetsRefused (sequence_types k) s (sequences_in k (byte_at s 5)) 6 n ⊎ (SequencesGood
      × ((((n ≡ 8) × (length s ≤ sequences_end k s)) ⊎ (Counted × SetsRefused (8 ∷ []) s (byte_at s (sequences_end k s)) (sequences_end k s + 1) n)) ⊎ ((Counted × PicturesGood)
      × (EndRefused k s (pictures_end k s) n ⊎ (EndsAt k s (pictures_end k s) (record_end k s)
      × ((n ≡ 13) × (record_end k s < length s)))))))))

  sequences_end_lem : Head k s → SequencesGood → SequencesEnd k s (sequences_end k s)
  sequences_end_lem h a = record { head = h; sets = a }

  pictures_end_lem : Head k s → SequencesGood → Counted × PicturesGood → PicturesEnd k s (pictures_end k s)
  pictures_end_lem h a b = record { count = sequences_end k s; sequences = sequences_end_lem h a; there = b.0; sets = b.1 }

  bytes_to : (n : ℕ) → BytesTests n → BytesRefused k s n
  bytes_to n w = ⊎_elim (λ x. BytesRefused.head x)
      (λ h. ⊎_elim (λ x. BytesRefused.sequences h.0 x)
      (λ a. ⊎_elim
      (⊎_elim
      (λ x. rw x.0 (BytesRefused.count (sequences_end k s) (sequences_end_lem h.0 a.0) x.1))
      (λ x. BytesRefused.pictures (sequences_end k s) (sequences_end_lem h.0 a.0) x.0 x.1))
      (λ b. let e = pictures_end_lem h.0 a.0 b.0 in
      ⊎_elim (λ x. BytesRefused.ending (pictures_end k s) e x)
      (λ c. rw c.1.0 (BytesRefused.after (pictures_end k s) (record_end k s) e c.0 c.1.1))
      b.1) a.1) h.1) w

  -- at the places that the definition computes
  sequences_at : (p : ℕ) → SequencesEnd k s p → Head k s × SequencesGood
  sequences_at p w = (w.head, subst (SetsTo (sequence_types k) s (sequences_in k (byte_at s 5)) 6) (sym (sequences_one p w)) w.sets)

  pictures_one : (q : ℕ) → PicturesEnd k s q → pictures_end k s ≡ q
  unfolding pictures_end
  pictures_one q w =
      rw (sequences_one w.count w.sequences)
      (sets_to picture_types (8 ∷ []) (one_in 8) (in_one 8) s (byte_at s w.count) (w.count + 1) q w.sets).1

  pictures_at : (q : ℕ) → PicturesEnd k s q → Counted × PicturesGood
  pictures_at q w = rw (sequences_one w.count w.sequences, pictures_one q w) (w.there, w.sets)

  bytes_from : (n : ℕ) → BytesRefused k s n → BytesTests n
  bytes_from n (BytesRefused.head w) = inl w
  bytes_from n (BytesRefused.sequences h w) = inr (h, inl w)
  bytes_from n (BytesRefused.count p w l) =
      let a = sequences_at p w in
      inr (a.0, inr (a.1, inl (inl (refl, omega (arith, sequences_one p w)))))
  bytes_from n (BytesRefused.pictures p w l r) =
      let a = sequences_at p w in
      let e = sequences_one p w in
      inr (a.0, inr (a.1, inl (inr (omega (arith, e), rw e r))))
  bytes_from n (BytesRefused.ending q w r) =
      let a = sequences_at w.count w.sequences in
      inr (a.0, inr (a.1, inr (pictures_at q w, inl (rw (pictures_one q w) r))))
  bytes_from n (BytesRefused.after q e w r l) =
      let a = sequences_at w.count w.sequences in
      let x : EndsAt k s (pictures_end k s) e = rw (pictures_one q w) r in
      let z : record_end k s ≡ e = end_one (pictures_end k s) e x in
      inr (a.0, inr (a.1, inr (pictures_at q w, inr (rw z x, (refl, rw z l)))))

  bytes_judged : Judges (record_fault k s) (BytesRefused k s)
      (Head k s × (SequencesGood × ((Counted × PicturesGood) × (EndsAt k s (pictures_end k s) (record_end k s) × (length s ≤ record_end k s)))))
  unfolding record_fault
  bytes_judged = judge_as
      (judge_then head_judged (λ h.
      judge_then sequences_judged (λ a.
      judge_then (judge_then (le_test 7 (length s) (sequences_end k s)) (λ c. pictures_judged)) (λ b.
      judge_then (end_judged (pictures_end k s)) (λ c.
      lt_test 12 (record_end k s) (length s))))))
      bytes_to
      bytes_from
      (λ w. w)
      (λ w. w)

  -- good up to the end of the picture sets, both ways
  pub good_to : (q : ℕ) → PicturesEnd k s q → (head_fault k s ≡ 0) × (sequences_fault k s ≡ 0) × (pictures_fault k s ≡ 0) × (pictures_end k s ≡ q) × (q ≤ length s)
  good_to q w =
      let a = sequences_at w.count w.sequences in
      let b = pictures_at q w in
      let h = head_judged.none a.0 in
      let f = sequences_judged.none a.1 in
      let p = pictures_judged.none b.1 in
      let e = pictures_one q w in
      let l = (pictures_in_lem k s b.0 p).1 in
      (h, f, rw (lt-leb (length s) (sequences_end k s) b.0, p), e, omega arith)

  pub to_good : record_fault k s ≡ 0 → PicturesEnd k s (pictures_end k s)
  to_good e = let w = bytes_judged.good e in pictures_end_lem w.0 w.1.0 w.1.1.0

-- the call
module _ (kind : ℕ) (s : List ℕ) (bytes : Bytes s) where
  refused_as : (k : Kind) {n p : ℕ} → kind_of kind ≡ Some k → read_record kind s ≡ refused n p → BytesRefused k s n × (p ≡ 0)
  refused_as k is e =
      let w = refused_known kind k s is e in
      (subst (BytesRefused k s) w.0 ((bytes_judged k s bytes).because (omega (arith, w.0, w.1))), w.2)

  as_refused : (k : Kind) {n : ℕ} → kind_of kind ≡ Some k → BytesRefused k s n → read_record kind s ≡ refused n 0
  as_refused k {n} is r = let w = (bytes_judged k s bytes).refuses n r in known_refused kind k s is w.0 w.1

  because : (n p : ℕ) → read_record kind s ≡ refused n p → ReadRefused kind s n p
  because n p e = by_kind kind
      (λ z. let w = refused_as Avc (rw z) e in rw w.1 (ReadRefused.avc z w.0))
      (λ z. let w = refused_as Svc (rw z) e in rw w.1 (ReadRefused.svc z w.0))
      (λ g h. refused_along (ReadRefused kind s) (sym (read_none kind s g h) ∙ e) (ReadRefused.kind g h))

  refuses : {n p : ℕ} → ReadRefused kind s n p → read_record kind s ≡ refused n p
  refuses (ReadRefused.kind g h) = read_none kind s g h
  refuses (ReadRefused.avc z r) = as_refused Avc (rw z) r
  refuses (ReadRefused.svc z r) = as_refused Svc (rw z) r

  pub read_refused : (n p : ℕ) → (read_record kind s ≡ refused n p) ↔ ReadRefused kind s n p
  read_refused n p = (because n p, refuses)
