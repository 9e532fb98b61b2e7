-- A record that was read makes the bytes that were read: the parts from one end to the next join to the whole. Assumes nothing.
--
--   end_back       what ends an accepted record is what stands after its picture sets
--   bytes_back     the fields and the parts of an accepted record make its bytes
use Prim.Native.Nat.{ℕ, ◌+◌, ◌-◌}
use mathlib.Core.Path.{◌≡◌, refl}
use mathlib.Core.List.{List, [], ◌∷◌, ◌++◌}
use native.Mathlib.Omega.{arith}
use native.Mathlib.Nat.{add-zero}
use lib.ListN.{drop}
use Rattle.words.specs.Bytes.{Bytes, byte_at, part}
use Rattle.words.proofs.Positions.{split_one, split_part, part_rest, six, four}
use Rattle.numbers.specs.declared.Kind.{Kind}
use Rattle.record_rules.specs.Layout.{record_layout, byte_of, value_in, flag_in, flags_byte}
use Rattle.record_rules.specs.Trailers.{chroma_shape, depth_shape, high_bytes, high_of, ending}
use Rattle.record_rules.specs.Read.{record_fault, length_size, sequences_end, pictures_end, trailer_of, extensions_at, record_end, record_of}
use Rattle.record_rules.specs.Fields.{record_bytes}
use Rattle.record_rules.specs.Answers.{part_bytes, written_again}
use Rattle.record_rules.proofs.Shapes.{row, byte_rest, plain_byte, flags_made}
use Rattle.record_rules.proofs.Endings.{by_ending, ending_none, ending_absent, ending_present}
use Rattle.record_rules.proofs.Parsed.{Trailed, Parsed, parsed}

-- the bytes of a trailer before its sets, with what follows them, are what stands from q on
high_back : (s : List ℕ) (q : ℕ) → Bytes s → Trailed s q → high_bytes (high_of s q) ++ drop (q + 4) s ≡ drop q s
high_back s q g t =
    rw (
      plain_byte chroma_shape (byte_at s q) refl (g q) t.chroma,
      plain_byte depth_shape (byte_at s (q + 1)) refl (g (q + 1)) t.luma,
      plain_byte depth_shape (byte_at s (q + 2)) refl (g (q + 2)) t.depth,
    ) (four s q t.there)

module _ (k : Kind) (s : List ℕ) (g : Bytes s) (w : Parsed k s) where
  -- what ends the record is what stands after the picture sets
  ending_back : (ending (trailer_of k s)).head ++ part s (extensions_at k s) (record_end k s - extensions_at k s) ≡ drop (pictures_end k s) s
  ending_back =
      rw (w.end, part_rest s (extensions_at k s))
      (by_ending k s (pictures_end k s)
      (λ t. rw (ending_none k s (pictures_end k s) t, add-zero (pictures_end k s)))
      (λ t l. rw (ending_absent k s (pictures_end k s) t l, add-zero (pictures_end k s)))
      (λ t l. rw (ending_present k s (pictures_end k s) t l) (high_back s (pictures_end k s) g (w.trailed t l))))

  back : written_again k s (record_of k s) ≡ s
  unfolding record_bytes
  back =
      let h = w.head in
      let rest : part s 6 (sequences_end k s - 6) ++ (byte_at s (sequences_end k s) ∷ (part s (sequences_end k s + 1) (pictures_end k s - (sequences_end k s + 1)) ++ ((ending (trailer_of k s)).head ++ part s (extensions_at k s) (record_end k s - extensions_at k s)))) ≡ drop 6 s =
      rw (ending_back, split_part s (sequences_end k s + 1) (pictures_end k s) (omega (arith, w.later)), split_one s (sequences_end k s) w.count) (split_part s 6 (sequences_end k s) w.after) in
      let less : length_size k s - 1 ≡ value_in (record_layout k).length_size (byte_at s 4) = omega arith in
      let fifth : flags_byte 0 (flag_in (record_layout k).flags 0 (byte_at s 4) ∷ []) + byte_of (record_layout k).length_size (length_size k s - 1) ≡ byte_at s 4 =
      rw (less, byte_rest (record_layout k).length_size (byte_at s 4) h.length_size) (flags_made k (byte_at s 4) (g 4)) in
      let sixth : byte_of (record_layout k).count (value_in (record_layout k).count (byte_at s 5)) ≡ byte_at s 5 =
      plain_byte (record_layout k).count (byte_at s 5) (row k).unit (g 5) h.count in
      cc (six s h.there, h.version)

pub bytes_back : (k : Kind) (s : List ℕ) → Bytes s → record_fault k s ≡ 0 → written_again k s (record_of k s) ≡ s
bytes_back k s g e = back k s g (parsed k s e)

pub end_back : (k : Kind) (s : List ℕ) → Bytes s → record_fault k s ≡ 0 → (ending (trailer_of k s)).head ++ part_bytes s (record_of k s).extensions ≡ drop (pictures_end k s) s
end_back k s g e = ending_back k s g (parsed k s e)
