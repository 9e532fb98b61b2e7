-- A sample resolved, step by step as the code takes it. Assumes nothing.
--
--   sample_refused, room_refused, sample_resolved    by what is judged
--   call_filled                                      by a table that was filled
--   stream_refused, stream_filled                    a sample as a byte stream: by what is judged; by a table that was filled
--   size_refused, -short, -written, size_good        by how long it is judged to be, and what is known then
use Rattle.std.specs.Prelude.{Ok}
use Prim.Native.Nat.{ℕ, ◌≤◌, ◌<◌}
use mathlib.Core.Path.{◌≡◌, refl, ap, sym}
use mathlib.Core.List.{List}
use lib.ListN.{length}
use Rattle.words.specs.Refusals.{refused, ok, Verdict, ◌and_then◌}
use Rattle.words.specs.RefusalNumbers.{output_too_long}
use Rattle.words.specs.Buffers.{within, counted}
use Rattle.words.proofs.Refusals.{ok_same, ok_refused, refused_same}
use Rattle.words.proofs.Buffers.{within_room, within_not}
use Rattle.byte_streams.specs.Writing.{stream_of, stream_verdict, to_stream}
use Rattle.bundles.specs.Limits.{bundle_most}
use Rattle.bundles.specs.Recordings.{Recording, sample_count}
use Rattle.bundles.specs.Readers.{first_layout}
use Rattle.tables.specs.Tables.{recording_in}
use Rattle.filling.specs.Filling.{filling, table_after}
use Rattle.filling.proofs.Promises.{table_accepted, table_means}
use Rattle.resolution_rules.specs.Resolving.{delivered, judged}
use Rattle.resolution_rules.specs.Calls.{bytes_of, output, number_fault, resolve, stream, resolve_call, stream_call}
use Rattle.resolution_rules.proofs.Calls.{call_means}
use Rattle.resolution_rules.proofs.Streams.{stream_means}
use Rattle.judging.specs.Steps.{judgement_in}
use Rattle.judging.proofs.Judgements.{judged_refused}
use Rattle.resolution.specs.Streams.{stream_size}

-- 30, or 14 to 28
pub sample_refused : (b t : List ℕ) (n : ℕ) → length b ≤ bundle_most → {m q : ℕ} → judgement_in b t n ≡ refused m q → (room : ℕ) → within room (resolve (recording_in b t) n) ≡ refused m q
unfolding resolve
sample_refused b t n h e room = let r = recording_in b t in ap (within room) (judged_refused b t n h e (ok (output r (delivered r n))))

module _ (r : Recording) (n room : ℕ) (g : number_fault (sample_count r.layout) n ≡ 0) where
  pub room_refused : judged r n ≡ ok tt → room < length (output r (delivered r n)) → within room (resolve r n) ≡ refused output_too_long 0
  unfolding resolve
  room_refused e h = rw (g, e) (within_not room (output r (delivered r n)) h)

  pub sample_resolved : judged r n ≡ ok tt → length (output r (delivered r n)) ≤ room → within room (resolve r n) ≡ ok (output r (delivered r n))
  unfolding resolve
  sample_resolved e h = rw (g, e) (within_room room (output r (delivered r n)) h)

-- by the table that was filled
pub call_filled : (b t : List ℕ) → filling first_layout b (length t) ≡ (Ok tt) → {s : List ℕ} → s ≡ table_after first_layout b t → (n room : ℕ) → within room (resolve (recording_in b s) n) ≡ resolve_call first_layout b n room
call_filled b t done f n room = rw (f, table_means b t done) (sym (call_means first_layout b n room (table_accepted b t done)))

-- a byte stream
pub stream_refused : (b t : List ℕ) (n : ℕ) → length b ≤ bundle_most → {m q : ℕ} → judgement_in b t n ≡ refused m q → (room : ℕ) → within room (stream (recording_in b t) n) ≡ refused m q
unfolding stream
stream_refused b t n h e room = let r = recording_in b t in ap (within room) (judged_refused b t n h e (to_stream (bytes_of r (delivered r n))))

module _ (r : Recording) (n : ℕ) where
  abbrev Stream : List ℕ
  Stream = stream_of (bytes_of r (delivered r n))

  -- how long it is: then no unit is refused
  pub size_good : {k : ℕ} → stream_size r n ≡ ok k → (to_stream (bytes_of r (delivered r n)) ≡ ok Stream) × (k ≡ length Stream)
  unfolding stream_size to_stream
  size_good {k} e = go (stream_verdict 0 (bytes_of r (delivered r n))) e
    where
      go : (v : Verdict) → counted (v and_then ok Stream) ≡ ok k → ((v and_then ok Stream) ≡ ok Stream) × (k ≡ length Stream)
      go (refused m p) g = ok_refused g
      go (ok u) g = (refl, sym (ok_same g))

  module _ (room : ℕ) (g : number_fault (sample_count r.layout) n ≡ 0) (j : judged r n ≡ ok tt) where
    -- 32
    pub size_refused : {m q : ℕ} → stream_size r n ≡ refused m q → within room (stream r n) ≡ refused m q
    unfolding stream stream_size to_stream
    size_refused {m} {q} e = rw (g, j) (go (stream_verdict 0 (bytes_of r (delivered r n))) e)
      where
        go : (v : Verdict) → counted (v and_then ok Stream) ≡ refused m q → within room (v and_then ok Stream) ≡ refused m q
        go (refused a b) f = let s = refused_same f in rw (s.0, s.1)
        go (ok u) f = ok_refused (sym f)

    module _ {k : ℕ} (e : stream_size r n ≡ ok k) where
      pub size_short : room < k → within room (stream r n) ≡ refused output_too_long 0
      unfolding stream
      size_short h = let w = size_good e in rw (g, j, w.0) (within_not room Stream (rw w.1 at h))

      pub size_written : k ≤ room → within room (stream r n) ≡ ok Stream
      unfolding stream
      size_written h = let w = size_good e in rw (g, j, w.0) (within_room room Stream (rw w.1 at h))

pub stream_filled : (b t : List ℕ) → filling first_layout b (length t) ≡ (Ok tt) → {s : List ℕ} → s ≡ table_after first_layout b t → (n room : ℕ) → within room (stream (recording_in b s) n) ≡ stream_call first_layout b n room
stream_filled b t done f n room = rw (f, table_means b t done) (sym (stream_means first_layout b n room (table_accepted b t done)))
