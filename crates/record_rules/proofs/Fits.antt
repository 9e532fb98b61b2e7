-- What fits a record: set by set, as the writer finds it; and every record that is read. Assumes nothing.
--
--   fits_by_parts_lem  `fits` is `fits_by_parts`
--   sets_exact         sets that fit are exactly so many, without a refusal
--   Fitting, fitting   what fits, taken apart
--   bytes_bytes        what fits makes bytes
--   read_fits          the fields and the parts of an accepted record fit
use Prim.Native.Nat.{ℕ, ◌+◌, ◌-◌, ◌≤◌, ◌<◌}
use mathlib.Core.Path.{◌≡◌, refl, ap, sym, ◌∙◌}
use mathlib.Core.Bool.{true}
use mathlib.Core.List.{List, ◌∷◌, ◌++◌}
use native.Mathlib.Omega.{arith}
use native.Mathlib.Nat.{add-zero}
use borrow.Author.Tests.{eqb-true, eq-eqb, not-true}
use lib.ListN.{length, drop}
use Rattle.words.specs.Tests.{◌≡?◌, all}
use Rattle.words.specs.RefusalNumbers.{bad_length_size}
use Rattle.words.specs.Refusals.{◌if◌, ◌or_else◌}
use Rattle.words.specs.Bytes.{Bytes, byte_at, part}
use Rattle.words.proofs.Tests.{and_both, all_first, bool_same}
use Rattle.words.proofs.Refusals.{if_none, or_else_none}
use Rattle.words.proofs.Positions.{split_part, part_length}
use Rattle.words.proofs.Bytes.{Held, held_bytes, bytes_held, held_append}
use lib.Dec.{lit<}
use Rattle.numbers.specs.declared.Kind.{Kind}
use Rattle.sets.specs.Sets.{sets_fault, sets_end, exactly, sets_fit}
use Rattle.sets.specs.declared.SetTypes.{SetTypes}
use Rattle.sets.proofs.Laws.{fit_true, sets_inside, sets_outside}
use Rattle.record_rules.specs.Layout.{record_layout, picture_types}
use Rattle.record_rules.specs.Trailers.{extension_types, chroma_shape, depth_shape, high_of, ending}
use Rattle.record_rules.specs.Read.{record_fault, sequence_count, picture_count, sequences_end, pictures_end, trailer_of, extensions_at, record_end, fields_of, record_of}
use Rattle.record_rules.specs.Fields.{record_bytes, fits}
use Rattle.record_rules.specs.Parts.{fits_by_parts}
use Rattle.record_rules.specs.Answers.{part_bytes}
use Rattle.record_rules.specs.declared.Trailer.{Trailer}
use Rattle.record_rules.specs.declared.Trailer.TheVariants.{None, Absent, Present}
use Rattle.record_rules.specs.declared.Fields.{Fields}
use Rattle.record_rules.proofs.Shapes.{row, value_below, byte_below, plain_below, flagged, flags_fit_lem, sound_chroma, sound_depth}
use Rattle.record_rules.proofs.Endings.{by_ending, ending_none, ending_absent, ending_present}
use Rattle.record_rules.proofs.Parsed.{Parsed, parsed}
use Rattle.record_rules.proofs.BytesBack.{bytes_back}
use Rattle.record_rules.proofs.Numbers.{Numbers, numbers, numbers_true, high_numbers, high_true}
use Rattle.record_rules.proofs.ReadsBack.{bytes_fault}

pub record Fitting (k : Kind) (f : Fields) (a b x : List ℕ) : Type 0 where
  pub numbers : Numbers k f
  pub sequences : exactly a f.sequences ≡ true
  pub pictures : exactly b f.pictures ≡ true
  pub extensions : exactly x (ending f.trailer).sets ≡ true
  pub belongs : (ending f.trailer).belongs k f.profile ≡ true
  pub good : record_fault k (record_bytes k f a b x) ≡ 0

pub fitting : (k : Kind) (f : Fields) (a b x : List ℕ) → fits k f a b x ≡ true → Fitting k f a b x
unfolding fits
fitting k f a b x e =
    let c1 = all_first _ _ e in
    let c2 = all_first _ _ c1.1 in
    let c3 = all_first _ _ c2.1 in
    let c4 = all_first _ _ c3.1 in
    let c5 = all_first _ _ c4.1 in
    record {
      numbers = numbers k f c1.0;
      sequences = c2.0;
      pictures = c3.0;
      extensions = c4.0;
      belongs = c5.0;
      good = eqb-true _ _ (all_first _ _ c5.1).0;
    }

fits_true : (k : Kind) (f : Fields) (a b x : List ℕ) → Fitting k f a b x → fits k f a b x ≡ true
unfolding fits all
fits_true k f a b x w = rw (numbers_true k f w.numbers, w.sequences, w.pictures, w.extensions, w.belongs, w.good)

-- the bytes of what fits
ending_bytes : (t : Trailer) (x : List ℕ) → (ending t).fits ≡ true → Held x → Held ((ending t).head ++ x)
ending_bytes None x n g = g
ending_bytes Absent x n g = g
ending_bytes (Present t) x n g =
    let v = high_numbers t n in (
      plain_below chroma_shape sound_chroma t.format v.format,
      (
        plain_below depth_shape sound_depth t.luma v.luma,
        (
          plain_below depth_shape sound_depth t.chroma v.chroma,
          (v.extensions, g),
        ),
      ),
    )

pub bytes_bytes : (k : Kind) (f : Fields) (a b x : List ℕ) → Numbers k f → Bytes a → Bytes b → Bytes x → Bytes (record_bytes k f a b x)
unfolding record_bytes
bytes_bytes k f a b x n ga gb gx =
    let rest = held_append b ((ending f.trailer).head ++ x) (bytes_held b gb) (ending_bytes f.trailer x n.trailer (bytes_held x gx)) in
    let less : f.length_size - 1 < (record_layout k).length_size.low = omega (arith, n.some, n.most) in
    let size = (flagged k f.complete _ n.flags (byte_below (record_layout k).length_size (row k).length_size (f.length_size - 1) less)).below in
    let count = plain_below (record_layout k).count (row k).count f.sequences n.sequences in
    let sets = held_append a (f.pictures ∷ (b ++ ((ending f.trailer).head ++ x))) (bytes_held a ga) (n.pictures, rest) in
    held_bytes (record_bytes k f a b x) (lit< tt, (n.profile, (n.compatibility, (n.level, (size, (count, sets))))))

-- exact sets without a refusal
exact_sets : (types : SetTypes) (s : List ℕ) (n : ℕ) → exactly s n ≡ true → sets_fault types s n 0 ≡ 0 → sets_fit types s n ≡ true
unfolding exactly
exact_sets types s n x e = fit_true types s n e (eqb-true _ _ x)

pub sets_exact : (types : SetTypes) (s : List ℕ) (n : ℕ) → sets_fit types s n ≡ true → (exactly s n ≡ true) × (sets_fault types s n 0 ≡ 0)
unfolding sets_fit
sets_exact types s n e = let w = and_both (sets_fault types s n 0 ≡? 0) (exactly s n) e in (w.1, eqb-true _ _ w.0)

parts_of_lem : (k : Kind) (f : Fields) (a b x : List ℕ) → fits k f a b x ≡ true → fits_by_parts k f a b x ≡ true
unfolding fits_by_parts all
parts_of_lem k f a b x e =
    let w = fitting k f a b x e in
    let z = sym (bytes_fault k f a b x w.numbers w.sequences w.pictures w.extensions w.belongs) ∙ w.good in
    let c1 = or_else_none (bad_length_size if f.length_size ≡? 3 or_else 0) _ z in
    let c2 = or_else_none (sets_fault (record_layout k).sequence a f.sequences 0) _ c1.1 in
    let c3 = or_else_none (sets_fault picture_types b f.pictures 0) _ c2.1 in
    let c4 = or_else_none (sets_fault extension_types x (ending f.trailer).sets 0) 0 c3.1 in
    let c5 = or_else_none (bad_length_size if f.length_size ≡? 3) 0 c1.0 in
    rw (
      numbers_true k f w.numbers,
      if_none _ (f.length_size ≡? 3) c5.0,
      exact_sets (record_layout k).sequence a f.sequences w.sequences c2.0,
      exact_sets picture_types b f.pictures w.pictures c3.0,
      w.belongs,
      exact_sets extension_types x (ending f.trailer).sets w.extensions c4.0,
    )

of_parts : (k : Kind) (f : Fields) (a b x : List ℕ) → fits_by_parts k f a b x ≡ true → fits k f a b x ≡ true
unfolding fits_by_parts
of_parts k f a b x e =
    let c1 = all_first _ _ e in
    let c2 = all_first _ _ c1.1 in
    let c3 = all_first _ _ c2.1 in
    let c4 = all_first _ _ c3.1 in
    let c5 = all_first _ _ c4.1 in
    let n = numbers k f c1.0 in
    let a' = sets_exact (record_layout k).sequence a f.sequences c3.0 in
    let b' = sets_exact picture_types b f.pictures c4.0 in
    let x' = sets_exact extension_types x (ending f.trailer).sets (all_first _ _ c5.1).0 in
    fits_true k f a b x
    (record {
      numbers = n;
      sequences = a'.0;
      pictures = b'.0;
      extensions = x'.0;
      belongs = c5.0;
      good = bytes_fault k f a b x n a'.0 b'.0 x'.0 c5.0 ∙ rw (not-true (f.length_size ≡? 3) c2.0, a'.1, b'.1, x'.1);
    })

pub fits_by_parts_lem : (k : Kind) (f : Fields) (a b x : List ℕ) → fits k f a b x ≡ fits_by_parts k f a b x
fits_by_parts_lem k f a b x = bool_same _ _ (parts_of_lem k f a b x) (of_parts k f a b x)

-- the sets of s from a to e, by themselves
part_exact : (types : SetTypes) (s : List ℕ) (n a e : ℕ) → a ≤ e → e ≤ length s → sets_end s n a ≡ e → exactly (part s a (e - a)) n ≡ true
unfolding exactly
part_exact types s n a e h l g =
    let m : length (part s a (e - a)) ≡ e - a = part_length s a (e - a) (omega arith) in
    let d = sym (split_part s a e h) in
    let g' : sets_end s n (a + 0) ≡ e = ap (sets_end s n) (add-zero a) ∙ g in
    let o = sets_outside types s a (part s a (e - a)) (drop e s) (omega arith) d n 0 (omega arith) in
    let i = sets_inside types s a (part s a (e - a)) (drop e s) (omega arith) d n 0 o in
    eq-eqb (sets_end (part s a (e - a)) n 0) (length (part s a (e - a))) (omega (arith, i.1))

module _ (k : Kind) (s : List ℕ) (g : Bytes s) (w : Parsed k s) where
  trailer_numbers_lem : (ending (trailer_of k s)).fits ≡ true
  trailer_numbers_lem =
      by_ending k s (pictures_end k s)
      (λ t. rw (ending_none k s (pictures_end k s) t))
      (λ t l. rw (ending_absent k s (pictures_end k s) t l))
      (λ t l. rw (ending_present k s (pictures_end k s) t l) (high_true (high_of s (pictures_end k s))
      (record {
        format = value_below chroma_shape (byte_at s (pictures_end k s)) sound_chroma;
        luma = value_below depth_shape (byte_at s (pictures_end k s + 1)) sound_depth;
        chroma = value_below depth_shape (byte_at s (pictures_end k s + 2)) sound_depth;
        extensions = g (pictures_end k s + 3);
      })))

  numbers_read : Numbers k (fields_of k s)
  numbers_read =
      record {
        profile = g 1;
        compatibility = g 2;
        level = g 3;
        flags = flags_fit_lem k (byte_at s 4);
        some = omega arith;
        most = omega (arith, value_below (record_layout k).length_size (byte_at s 4) (row k).length_size);
        sequences = value_below (record_layout k).count (byte_at s 5) (row k).count;
        pictures = g (sequences_end k s);
        trailer = trailer_numbers_lem;
      }

  trailer_sets : exactly (part s (extensions_at k s) (record_end k s - extensions_at k s)) (ending (trailer_of k s)).sets ≡ true
  trailer_sets = part_exact extension_types s (ending (trailer_of k s)).sets (extensions_at k s) (record_end k s) w.extensions (omega (arith, w.end)) refl

  trailer_there : (ending (trailer_of k s)).belongs k (byte_at s 1) ≡ true
  trailer_there =
      by_ending k s (pictures_end k s)
      (λ t. rw (ending_none k s (pictures_end k s) t, t))
      (λ t l. rw (ending_absent k s (pictures_end k s) t l, t))
      (λ t l. rw (ending_present k s (pictures_end k s) t l, t))

  sequences_exact : exactly (part s 6 (sequences_end k s - 6)) (sequence_count k s) ≡ true
  unfolding sequences_end
  sequences_exact = part_exact (record_layout k).sequence s (sequence_count k s) 6 (sequences_end k s) w.after (omega (arith, w.count)) refl

  pictures_exact : exactly (part s (sequences_end k s + 1) (pictures_end k s - (sequences_end k s + 1))) (picture_count k s) ≡ true
  unfolding pictures_end
  pictures_exact = part_exact picture_types s (picture_count k s) (sequences_end k s + 1) (pictures_end k s) (omega (arith, w.later)) w.within refl

pub read_fits : (k : Kind) (s : List ℕ) → Bytes s → record_fault k s ≡ 0 → fits k (fields_of k s) (part_bytes s (record_of k s).sequences) (part_bytes s (record_of k s).pictures) (part_bytes s (record_of k s).extensions) ≡ true
read_fits k s g e =
    let w = parsed k s e in
    fits_true k (fields_of k s) _ _ _
    (record {
      numbers = numbers_read k s g w;
      sequences = sequences_exact k s g w;
      pictures = pictures_exact k s g w;
      extensions = trailer_sets k s g w;
      belongs = trailer_there k s g w;
      good = ap (record_fault k) (bytes_back k s g e) ∙ e;
    })
