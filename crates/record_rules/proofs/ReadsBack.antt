-- Fields and sets are read back from the bytes that they make, byte after byte. Assumes nothing.
--
--   Start, start  the first bytes that fields and sets make
--   no_bytes      no sets have no bytes
--   Ended, ended  what ends a record is read from the bytes that it makes
--   bytes_fault   the refusal of the bytes of fields and sets: only a length size of 3, or a set
--   bytes_record  what these bytes mean: the fields, and where the sets stand
--   bytes_parts   the sets stand there
use Prim.Native.Nat.{ℕ, ◌+◌, ◌-◌, ◌%◌, ◌≤◌, ◌<◌}
use mathlib.Core.Path.{◌≡◌, refl, ap, sym, ◌∙◌}
use mathlib.Core.Bool.{true}
use mathlib.Core.List.{List, [], ◌∷◌, ◌++◌, append-nil}
use native.Mathlib.Omega.{arith}
use native.Mathlib.Nat.{add-zero}
use borrow.Author.Tests.{eqb-true, lt-leb, le-ltb, eq-eqb, not-true}
use lib.ListN.{length, drop}
use Rattle.words.specs.Tests.{◌≡?◌}
use Rattle.words.specs.RefusalNumbers.{bad_length_size}
use Rattle.words.specs.Refusals.{◌if◌, ◌or_else◌}
use Rattle.words.specs.Bytes.{byte_at, part}
use Rattle.words.proofs.Positions.{Append, at_append, Cons, at_cons, Four, at_four, at_end, part_here}
use Rattle.numbers.specs.declared.Kind.{Kind}
use Rattle.sets.specs.Sets.{sets_fault, sets_end, exactly}
use Rattle.sets.specs.declared.SetTypes.{SetTypes}
use Rattle.sets.proofs.Laws.{sets_none, sets_inside}
use Rattle.record_rules.specs.Layout.{SoundShape, record_layout, byte_of, fixed_in, picture_types, flag_in, flags_byte, byte_fault}
use Rattle.record_rules.specs.Trailers.{extension_types, chroma_shape, depth_shape, values_fault, high_of, ending, ending_of}
use Rattle.record_rules.specs.Read.{length_size, head_fault, sequence_count, sequences_fault, sequences_end, picture_count, pictures_fault, pictures_end, record_fault, record_of}
use Rattle.record_rules.specs.Fields.{flags_of, record_bytes, placed}
use Rattle.record_rules.specs.Answers.{part_bytes}
use Rattle.record_rules.specs.declared.Shape.{Shape}
use Rattle.record_rules.specs.declared.High.{High}
use Rattle.record_rules.specs.declared.Trailer.{Trailer}
use Rattle.record_rules.specs.declared.Trailer.TheVariants.{None, Absent, Present}
use Rattle.record_rules.specs.declared.Fields.{Fields}
use Rattle.record_rules.proofs.Endings.{ending_none, ending_absent, ending_present}
use Rattle.record_rules.proofs.Shapes.{sound_chroma, sound_depth, row, byte_below, plain_rest, fixed_back, value_back, Flagged, flagged}
use Rattle.record_rules.proofs.Numbers.{Numbers, HighNumbers, high_numbers}

-- a byte that is there with its fixed bits, and one that was made
byte_fits : (s : List ℕ) (h : Shape) (p : ℕ) → p < length s → fixed_in h (byte_at s p) ≡ h.fixed → byte_fault s h p ≡ 0
unfolding byte_fault
byte_fits s h p l e = rw (lt-leb (length s) p l, eq-eqb (fixed_in h (byte_at s p)) h.fixed e)

made : (s : List ℕ) (h : Shape) (p v : ℕ) → SoundShape h → p < length s → v < h.low → byte_at s p % h.unit ≡ byte_of h v → byte_fault s h p ≡ 0
made s h p v g l m e = byte_fits s h p l (fixed_back h g v m (byte_at s p) e)

-- the same without flags
plain : (s : List ℕ) (h : Shape) (p v : ℕ) → SoundShape h → v < h.low → byte_at s p ≡ byte_of h v → byte_at s p % h.unit ≡ byte_of h v
plain s h p v g m e = rw e (plain_rest h g v m)

-- sets b that stand in s at p, and end where b ends
placed_sets :
    (types : SetTypes) (s : List ℕ) (p n : ℕ) (b r : List ℕ) → p ≤ length s → drop p s ≡ b ++ r → exactly b n ≡ true →
    (sets_fault types s n p ≡ sets_fault types b n 0) × (sets_end s n p ≡ p + length b)
unfolding exactly
placed_sets types s p n b r h e x =
    let l : sets_end b n 0 ≡ length b = eqb-true _ _ x in
    let w = sets_inside types s p b r h e n 0 (omega arith) in
    (ap (sets_fault types s n) (sym (add-zero p)) ∙ w.0, ap (sets_end s n) (sym (add-zero p)) ∙ w.1 ∙ ap (λ i. p + i) l)

-- what stands in the bytes s of fields and sets
pub record Start (k : Kind) (f : Fields) (a b x s : List ℕ) : Type 0 where
  pub there : 5 < length s
  pub version : byte_at s 0 ≡ 1
  pub profile : byte_at s 1 ≡ f.profile
  pub compatibility : byte_at s 2 ≡ f.compatibility
  pub level : byte_at s 3 ≡ f.level
  pub length_size : byte_at s 4 ≡ flags_byte 0 (flags_of f) + byte_of (record_layout k).length_size (f.length_size - 1)
  pub count : byte_at s 5 ≡ byte_of (record_layout k).count f.sequences
  pub next : drop 6 s ≡ a ++ (f.pictures ∷ (b ++ ((ending f.trailer).head ++ x)))

pub start : (k : Kind) (f : Fields) (a b x : List ℕ) → Start k f a b x (record_bytes k f a b x)
unfolding record_bytes
start k f a b x =
    record { there = omega arith; version = refl; profile = refl; compatibility = refl; level = refl; length_size = refl; count = refl; next = refl }

-- a trailer and its sets, from q on
pub record Ended (k : Kind) (s : List ℕ) (q : ℕ) (t : Trailer) (x : List ℕ) : Type 0 where
  pub is : ending_of k s q ≡ t
  pub fault : (ending t).fault s q ≡ 0
  pub sets : sets_fault extension_types s (ending t).sets (q + length (ending t).head) ≡ sets_fault extension_types x (ending t).sets 0
  pub end : sets_end s (ending t).sets (q + length (ending t).head) ≡ length s
  pub count : q + length (ending t).head + length x ≡ length s
  pub part : part s (q + length (ending t).head) (length x) ≡ x

high_back : (s : List ℕ) (q : ℕ) (t : High) (x : List ℕ) → Four s q (byte_of chroma_shape t.format) (byte_of depth_shape t.luma) (byte_of depth_shape t.chroma) t.extensions x → HighNumbers t → (high_of s q ≡ t) × (values_fault s q ≡ 0)
unfolding values_fault
high_back s q t x w n =
    let a = plain s chroma_shape q t.format sound_chroma n.format w.first in
    let b = plain s depth_shape (q + 1) t.luma sound_depth n.luma w.second in
    let c = plain s depth_shape (q + 2) t.chroma sound_depth n.chroma w.third in (
      rw (
        value_back chroma_shape sound_chroma t.format n.format (byte_at s q) a,
        value_back depth_shape sound_depth t.luma n.luma (byte_at s (q + 1)) b,
        value_back depth_shape sound_depth t.chroma n.chroma (byte_at s (q + 2)) c,
        w.fourth,
      ),
      rw (
        made s chroma_shape q t.format sound_chroma (omega (arith, w.there)) n.format a,
        made s depth_shape (q + 1) t.luma sound_depth (omega (arith, w.there)) n.luma b,
        made s depth_shape (q + 2) t.chroma sound_depth (omega (arith, w.there)) n.chroma c,
        lt-leb (length s) (q + 3) w.there,
      ),
    )

-- no sets have no bytes
pub no_bytes : (x : List ℕ) → exactly x 0 ≡ true → x ≡ []
unfolding exactly
no_bytes [] e = refl
no_bytes (a ∷ x) e =
    let z = sets_none extension_types (a ∷ x) {n = 0} 0 (omega arith) in
    let l : sets_end (a ∷ x) 0 0 ≡ length (a ∷ x) = eqb-true _ _ e in
    absurd (omega (arith, z.1))

-- what is read there is the trailer: one clause for each
read_ending :
    (k : Kind) (s : List ℕ) (q : ℕ) (t : Trailer) (x : List ℕ) → q ≤ length s → drop q s ≡ (ending t).head ++ x →
    (ending t).fits ≡ true → exactly x (ending t).sets ≡ true → (ending t).belongs k (byte_at s 1) ≡ true →
    (ending_of k s q ≡ t) × ((ending t).fault s q ≡ 0)
read_ending k s q None x h e n i g = (ending_none k s q (not-true _ g), refl)
read_ending k s q Absent x h e n i g =
    let z : q ≡ length s = at_end s q h (e ∙ no_bytes x i) in
    (ending_absent k s q g (omega arith), refl)
read_ending k s q (Present t) x h e n i g =
    let f = at_four s q _ _ _ _ x e in
    let w = high_back s q t x f (high_numbers t n) in
    (ending_present k s q g (omega (arith, f.there)) ∙ ap Present w.0, w.1)

pub ended :
    (k : Kind) (s : List ℕ) (q : ℕ) (t : Trailer) (x : List ℕ) → q ≤ length s → drop q s ≡ (ending t).head ++ x →
    (ending t).fits ≡ true → exactly x (ending t).sets ≡ true → (ending t).belongs k (byte_at s 1) ≡ true → Ended k s q t x
ended k s q t x h e n i g =
    let r = read_ending k s q t x h e n i g in
    let m = at_append s q (ending t).head x h e in
    let d : drop (q + length (ending t).head) s ≡ x ++ [] = m.next ∙ sym (append-nil x) in
    let y = placed_sets extension_types s (q + length (ending t).head) (ending t).sets x [] m.within d i in
    let z = at_append s (q + length (ending t).head) x [] m.within d in
    let o : q + length (ending t).head + length x ≡ length s = at_end s (q + length (ending t).head + length x) z.within z.next in
    record {
      is = r.0;
      fault = r.1;
      sets = y.0;
      end = y.1 ∙ o;
      count = o;
      part = part_here s (q + length (ending t).head) x [] d;
    }

module _ (k : Kind) (f : Fields) (a b x s : List ℕ) (w : Start k f a b x s) (n : Numbers k f) (xa : exactly a f.sequences ≡ true) (xb : exactly b f.pictures ≡ true) where
  below : f.length_size - 1 < (record_layout k).length_size.low
  below = omega (arith, n.some, n.most)

  flags : Flagged k f.complete (byte_of (record_layout k).length_size (f.length_size - 1))
  flags = flagged k f.complete _ n.flags (byte_below (record_layout k).length_size (row k).length_size (f.length_size - 1) below)

  size_rest : byte_at s 4 % (record_layout k).length_size.unit ≡ byte_of (record_layout k).length_size (f.length_size - 1)
  size_rest = rw w.length_size flags.rest

  size_back : length_size k s ≡ f.length_size
  size_back = rw (value_back (record_layout k).length_size (row k).length_size (f.length_size - 1) below (byte_at s 4) size_rest) (omega (arith, n.some))

  flags_read : flag_in (record_layout k).flags 0 (byte_at s 4) ≡ f.complete
  flags_read = rw w.length_size flags.read

  count_rest : byte_at s 5 % (record_layout k).count.unit ≡ byte_of (record_layout k).count f.sequences
  count_rest = plain s (record_layout k).count 5 f.sequences (row k).count n.sequences w.count

  head_fault_lem : head_fault k s ≡ (bad_length_size if f.length_size ≡? 3 or_else 0)
  unfolding head_fault
  head_fault_lem =
      rw (
        lt-leb (length s) 0 (omega (arith, w.there)),
        eq-eqb (byte_at s 0) 1 w.version,
        made s (record_layout k).length_size 4 (f.length_size - 1) (row k).length_size (omega (arith, w.there)) below size_rest,
        size_back,
        made s (record_layout k).count 5 f.sequences (row k).count w.there n.sequences count_rest,
      )

  count_back : sequence_count k s ≡ f.sequences
  count_back = value_back (record_layout k).count (row k).count f.sequences n.sequences (byte_at s 5) count_rest

  sequences_back : (sequences_fault k s ≡ sets_fault (record_layout k).sequence a f.sequences 0) × (sequences_end k s ≡ 6 + length a)
  unfolding sequences_end
  sequences_back = rw count_back (placed_sets (record_layout k).sequence s 6 f.sequences a _ w.there w.next xa)

  after : Cons s (6 + length a) f.pictures (b ++ ((ending f.trailer).head ++ x))
  after = at_cons s (6 + length a) f.pictures _ (at_append s 6 a _ w.there w.next).next

  pictures_count : picture_count k s ≡ f.pictures
  pictures_count = rw sequences_back.1 after.byte

  pictures_back : (pictures_fault k s ≡ sets_fault picture_types b f.pictures 0) × (pictures_end k s ≡ 6 + length a + 1 + length b)
  unfolding pictures_end
  pictures_back =
      let y = placed_sets picture_types s (6 + length a + 1) f.pictures b _ (omega (arith, after.there)) after.next xb in
      rw (sequences_back.1, after.byte, lt-leb (length s) (6 + length a) after.there) y

  rest : Append s (6 + length a + 1) b ((ending f.trailer).head ++ x)
  rest = at_append s (6 + length a + 1) b _ (omega (arith, after.there)) after.next

  module _ (xx : exactly x (ending f.trailer).sets ≡ true) (belongs : (ending f.trailer).belongs k f.profile ≡ true) where
    follows : Ended k s (pictures_end k s) f.trailer x
    follows =
        rw pictures_back.1
        (ended k s (6 + length a + 1 + length b) f.trailer x rest.within rest.next n.trailer xx (rw w.profile belongs))

    fault_back : record_fault k s ≡ ((bad_length_size if f.length_size ≡? 3 or_else 0) or_else sets_fault (record_layout k).sequence a f.sequences 0 or_else sets_fault picture_types b f.pictures 0 or_else sets_fault extension_types x (ending f.trailer).sets 0 or_else 0)
    unfolding record_fault
    fault_back = rw (head_fault_lem, sequences_back.0, pictures_back.0, follows.is, follows.fault, follows.sets, follows.end, le-ltb (length s) (length s) (omega arith))

    record_back : record_of k s ≡ placed f a b x
    record_back =
        let d1 : 6 + length a - 6 ≡ length a = omega arith in
        let d2 : 6 + length a + 1 + length b - (6 + length a + 1) ≡ length b = omega arith in
        let d3 : length s - (6 + length a + 1 + length b + length (ending f.trailer).head) ≡ length x = omega (arith, pictures_back.1, follows.count) in
        rw (follows.is, follows.end, w.profile, w.compatibility, w.level, flags_read, size_back, count_back, pictures_count, sequences_back.1, pictures_back.1, d1, d2, d3)

    parts_back : (part_bytes s (placed f a b x).sequences ≡ a) × (part_bytes s (placed f a b x).pictures ≡ b) × (part_bytes s (placed f a b x).extensions ≡ x)
    parts_back =
        (part_here s 6 a _ w.next, part_here s (6 + length a + 1) b _ after.next, rw (← pictures_back.1) follows.part)

module _ (k : Kind) (f : Fields) (a b x : List ℕ) (n : Numbers k f) (xa : exactly a f.sequences ≡ true) (xb : exactly b f.pictures ≡ true) (xx : exactly x (ending f.trailer).sets ≡ true) (belongs : (ending f.trailer).belongs k f.profile ≡ true) where
  pub bytes_fault : record_fault k (record_bytes k f a b x) ≡ ((bad_length_size if f.length_size ≡? 3 or_else 0) or_else sets_fault (record_layout k).sequence a f.sequences 0 or_else sets_fault picture_types b f.pictures 0 or_else sets_fault extension_types x (ending f.trailer).sets 0 or_else 0)
  bytes_fault = fault_back k f a b x (record_bytes k f a b x) (start k f a b x) n xa xb xx belongs

  pub bytes_record : record_of k (record_bytes k f a b x) ≡ placed f a b x
  bytes_record = record_back k f a b x (record_bytes k f a b x) (start k f a b x) n xa xb xx belongs

  pub bytes_parts : let s = record_bytes k f a b x in (part_bytes s (placed f a b x).sequences ≡ a) × (part_bytes s (placed f a b x).pictures ≡ b) × (part_bytes s (placed f a b x).extensions ≡ x)
  bytes_parts = parts_back k f a b x (record_bytes k f a b x) (start k f a b x) n xa xb xx belongs
