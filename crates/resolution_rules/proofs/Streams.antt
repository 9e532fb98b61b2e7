-- What a sample delivers as a byte stream, case by case. Assumes nothing.
--
--   stream_number, -sample, -good     of a recording: 30; 14 to 28; else 32 or the byte stream of the units
--   stream_bundle, stream_means       by a bundle and a reader: 1 to 13, else by its recording, with 29
--   stream_as_long                    the byte stream is as long as the output of resolving
use Prim.Native.Nat.{ℕ, ◌+◌, ◌≤◌, ◌<◌}
use mathlib.Core.Path.{◌≡◌, ap, sym, ◌∙◌}
use mathlib.Core.List.{List, [], ◌∷◌}
use mathlib.Core.Logic.{◌⊎◌}
use native.Mathlib.Omega.{arith}
use lib.ListN.{length, length-append}
use Rattle.words.specs.Refusals.{refused, ok}
use Rattle.words.specs.RefusalNumbers.{no_such_number}
use Rattle.words.specs.Bytes.{bytes}
use Rattle.words.specs.Buffers.{within}
use Rattle.words.proofs.Bytes.{bytes_length}
use Rattle.byte_streams.specs.Writing.{stream_of, to_stream}
use Rattle.byte_streams.proofs.Streams.{stream_none, stream_size_lem}
use Rattle.bundles.specs.Recordings.{Recording, sample_count}
use Rattle.bundles.specs.Readers.{Reader}
use Rattle.copies.specs.Written.{length_before}
use Rattle.resolution_rules.specs.Resolving.{Span, delivered, judged}
use Rattle.resolution_rules.specs.Calls.{span_bytes, bytes_of, written, output, stream, stream_call}
use Rattle.resolution_rules.proofs.Delivered.{output_none, output_one, output_append}
use Rattle.resolution_rules.proofs.Calls.{number_good, number_bad}

module _ (r : Recording) (n : ℕ) where
  abbrev count : ℕ
  count = sample_count r.layout

  pub stream_number : (n ≡ 0) ⊎ (count < n) → stream r n ≡ refused no_such_number 0
  unfolding stream
  stream_number h = rw (number_bad count n h)

  module _ (h : 0 < n) (l : n ≤ count) where
    pub stream_sample : {m p : ℕ} → judged r n ≡ refused m p → stream r n ≡ refused m p
    unfolding stream
    stream_sample e = rw (number_good count n h l, e)

    pub stream_good : judged r n ≡ ok tt → stream r n ≡ to_stream (bytes_of r (delivered r n))
    unfolding stream
    stream_good e = rw (number_good count n h l, e)

module _ (reader : Reader) (b : List ℕ) (n : ℕ) where
  pub stream_bundle : {m p : ℕ} (room : ℕ) → reader.means b ≡ refused m p → stream_call reader b n room ≡ refused m p
  unfolding stream_call
  stream_bundle room e = rw e

  pub stream_means : {r : Recording} (room : ℕ) → reader.means b ≡ ok r → stream_call reader b n room ≡ within room (stream r n)
  unfolding stream_call
  stream_means room e = rw e

-- 4 bytes before each unit, there a length, here a start code
module _ (r : Recording) where
  written_size : (u : Span) → length (written r u) ≡ 4 + length (span_bytes r u)
  unfolding written
  written_size u = let l = length-append (bytes length_before u.size) (span_bytes r u) in let b = bytes_length length_before u.size in omega arith

  pub stream_as_long : (us : List Span) → length (stream_of (bytes_of r us)) ≡ length (output r us)
  stream_as_long [] = stream_none ∙ sym (ap length (output_none r))
  stream_as_long (u ∷ us) =
      let below = stream_as_long us in
      let s = stream_size_lem (span_bytes r u) (bytes_of r us) in
      let o = ap length (output_append r (u ∷ []) us) ∙ length-append (output r (u ∷ [])) (output r us) in
      let p = ap length (output_one r u) in
      let w = written_size u in
      omega arith
