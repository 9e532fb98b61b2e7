-- An accepted record, taken apart: no test refused, and where its sets end. Assumes nothing.
--
--   byte_good                 a byte without a refusal is there, with its fixed bits
--   length_size_most          a length size is at most 4
--   Head, head_good           what the six bytes before the sequence sets are
--   Trailed, values_good      what the bytes of a trailer before its sets are
--   Parsed, parsed            all of it
use Prim.Native.Nat.{ℕ, ◌+◌, ◌≤◌, ◌<◌}
use mathlib.Core.Path.{◌≡◌}
use mathlib.Core.Bool.{true, not}
use mathlib.Core.List.{List}
use native.Mathlib.Omega.{arith}
use borrow.Author.Tests.{ltb-false, leb-false, eqb-true, eqb-false, not-false}
use lib.ListN.{length}
use Rattle.words.specs.Tests.{◌≡?◌}
use Rattle.words.specs.RefusalNumbers.{bad_version, bad_length_size}
use Rattle.words.specs.Refusals.{◌if◌}
use Rattle.words.specs.Bytes.{byte_at}
use Rattle.words.proofs.Refusals.{if_none, or_else_none}
use Rattle.numbers.specs.declared.Kind.{Kind}
use Rattle.sets.specs.Sets.{sets_fault}
use Rattle.sets.proofs.Laws.{sets_within}
use Rattle.record_rules.specs.Layout.{record_layout, fixed_in, picture_types, missing, byte_fault}
use Rattle.record_rules.specs.Trailers.{extension_types, chroma_shape, depth_shape, trailer_belongs, values_fault, ending}
use Rattle.record_rules.specs.Read.{length_size, head_fault, sequence_count, sequences_fault, sequences_end, picture_count, pictures_fault, pictures_end, trailer_of, follow_fault, extensions_at, record_end, record_fault}
use Rattle.record_rules.specs.declared.Shape.{Shape}
use Rattle.record_rules.proofs.Shapes.{row, value_below}
use Rattle.record_rules.proofs.Endings.{by_ending, ending_none, ending_absent, ending_present}

pub there : (s : List ℕ) (p : ℕ) → missing s p ≡ 0 → p < length s
there s p e = leb-false _ _ (if_none _ _ e)

pub byte_good : (s : List ℕ) (h : Shape) (p : ℕ) → byte_fault s h p ≡ 0 → (p < length s) × (fixed_in h (byte_at s p) ≡ h.fixed)
unfolding byte_fault
byte_good s h p e =
    let a = or_else_none (missing s p) _ e in
    (there s p a.0, eqb-true _ _ (not-false _ (if_none _ _ a.1)))

-- whatever the bytes are
pub length_size_most : (k : Kind) (s : List ℕ) → length_size k s ≤ 4
length_size_most k s = omega (arith, value_below (record_layout k).length_size (byte_at s 4) (row k).length_size, (row k).low)

pub record Head (k : Kind) (s : List ℕ) : Type 0 where
  pub version : byte_at s 0 ≡ 1
  pub known : length_size k s ≡ 3 → ⊥
  pub there : 5 < length s
  pub length_size : fixed_in (record_layout k).length_size (byte_at s 4) ≡ (record_layout k).length_size.fixed
  pub count : fixed_in (record_layout k).count (byte_at s 5) ≡ (record_layout k).count.fixed

pub head_good : (k : Kind) (s : List ℕ) → head_fault k s ≡ 0 → Head k s
unfolding head_fault
head_good k s e =
    let a = or_else_none (missing s 0) _ e in
    let b = or_else_none (bad_version if not (byte_at s 0 ≡? 1)) _ a.1 in
    let c = or_else_none (byte_fault s (record_layout k).length_size 4) _ b.1 in
    let d = or_else_none (bad_length_size if length_size k s ≡? 3) _ c.1 in
    let f = byte_good s (record_layout k).length_size 4 c.0 in
    let g = byte_good s (record_layout k).count 5 d.1 in
    record {
      version = eqb-true _ _ (not-false _ (if_none _ _ b.0));
      length_size = f.1;
      known = eqb-false _ _ (if_none _ _ d.0);
      there = g.0;
      count = g.1;
    }

pub record Trailed (s : List ℕ) (q : ℕ) : Type 0 where
  pub there : q + 3 < length s
  pub chroma : fixed_in chroma_shape (byte_at s q) ≡ chroma_shape.fixed
  pub luma : fixed_in depth_shape (byte_at s (q + 1)) ≡ depth_shape.fixed
  pub depth : fixed_in depth_shape (byte_at s (q + 2)) ≡ depth_shape.fixed

pub values_good : (s : List ℕ) (q : ℕ) → values_fault s q ≡ 0 → Trailed s q
unfolding values_fault
values_good s q e =
    let a = or_else_none (byte_fault s chroma_shape q) _ e in
    let b = or_else_none (byte_fault s depth_shape (q + 1)) _ a.1 in
    let c = or_else_none (byte_fault s depth_shape (q + 2)) _ b.1 in
    record {
      there = there s (q + 3) c.1;
      chroma = (byte_good s chroma_shape q a.0).1;
      luma = (byte_good s depth_shape (q + 1) b.0).1;
      depth = (byte_good s depth_shape (q + 2) c.0).1;
    }

pub record Parsed (k : Kind) (s : List ℕ) : Type 0 where
  pub head : Head k s
  pub sequences : sequences_fault k s ≡ 0
  pub after : 6 ≤ sequences_end k s
  pub count : sequences_end k s < length s
  pub pictures : sets_fault picture_types s (picture_count k s) (sequences_end k s + 1) ≡ 0
  pub later : sequences_end k s < pictures_end k s
  pub within : pictures_end k s ≤ length s
  pub trailed : trailer_belongs k (byte_at s 1) ≡ true → pictures_end k s < length s → Trailed s (pictures_end k s)
  pub end : record_end k s ≡ length s
  pub extensions : extensions_at k s ≤ record_end k s

-- where sets start and end
pub heads_in : (k : Kind) (s : List ℕ) → Head k s → sequences_fault k s ≡ 0 → (6 ≤ sequences_end k s) × (sequences_end k s ≤ length s)
unfolding sequences_end
heads_in k s h e = sets_within (record_layout k).sequence s (sequence_count k s) 6 h.there e

pub pictures_in_lem : (k : Kind) (s : List ℕ) → sequences_end k s < length s → sets_fault picture_types s (picture_count k s) (sequences_end k s + 1) ≡ 0 → (sequences_end k s + 1 ≤ pictures_end k s) × (pictures_end k s ≤ length s)
unfolding pictures_end
pictures_in_lem k s l e = sets_within picture_types s (picture_count k s) (sequences_end k s + 1) (omega arith) e

pub parsed : (k : Kind) (s : List ℕ) → record_fault k s ≡ 0 → Parsed k s
unfolding record_fault
parsed k s e =
    let a = or_else_none (head_fault k s) _ e in
    let b = or_else_none (sequences_fault k s) _ a.1 in
    let c = or_else_none (pictures_fault k s) _ b.1 in
    let d = or_else_none (follow_fault k s) _ c.1 in
    let m = or_else_none (missing s (sequences_end k s)) _ c.0 in
    let h = head_good k s a.0 in
    let i = heads_in k s h b.0 in
    let l = there s (sequences_end k s) m.0 in
    let j = pictures_in_lem k s l m.1 in
    let f : length s ≤ record_end k s = ltb-false _ _ (if_none _ _ d.1) in
    let g = or_else_none ((ending (trailer_of k s)).fault s (pictures_end k s)) _ d.0 in
    let t : trailer_belongs k (byte_at s 1) ≡ true → pictures_end k s < length s → Trailed s (pictures_end k s) = λ q u. values_good s (pictures_end k s) (rw (ending_present k s (pictures_end k s) q u) at g.0) in
    let x = sets_within extension_types s (ending (trailer_of k s)).sets (extensions_at k s) (by_ending k s (pictures_end k s)
    (λ q. rw (ending_none k s (pictures_end k s) q) (omega (arith, j.1)))
    (λ q u. rw (ending_absent k s (pictures_end k s) q u) (omega (arith, j.1)))
    (λ q u. let y = t q u in rw (ending_present k s (pictures_end k s) q u) (omega (arith, y.there)))) g.1 in
    record {
      head = h;
      sequences = b.0;
      after = i.0;
      count = l;
      pictures = m.1;
      later = omega (arith, j.0);
      within = j.1;
      trailed = t;
      end = omega (arith, x.1);
      extensions = x.0;
    }
