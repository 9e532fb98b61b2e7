-- A byte stream judged, unit by unit, as a loop over what a good sample delivers does it. Assumes nothing.
--
--   Streams us size                        no unit of us is refused, and their stream is so long
--   more_good, here_bad                    one unit more that can stand in it; one that cannot
--   Judges, judges_start, -take            what a loop has judged
--   judges_fit                             the sums fit
--   judges_bad, judges_end                 what is judged of a sample
use Prim.Native.Nat.{ℕ, ◌+◌, ◌*◌, ◌≤◌}
use mathlib.Core.Path.{◌≡◌, refl, ap, sym, ◌∙◌}
use mathlib.Core.Bool.{true, false}
use mathlib.Core.List.{List, [], ◌∷◌, ◌++◌}
use native.Mathlib.Omega.{arith}
use lib.ListN.{length, length-append, length-take, length-drop}
use Rattle.words.specs.RefusalNumbers.{unit_not_streamable}
use Rattle.words.specs.Refusals.{refused, ok}
use Rattle.words.specs.Buffers.{counted}
use Rattle.words.proofs.Entries.{map_append}
use Rattle.units.specs.Units.{Sample}
use Rattle.byte_streams.specs.Writing.{is_streamable, stream_of, stream_verdict, to_stream}
use Rattle.byte_streams.proofs.Streams.{verdict_append, stream_none, stream_append, stream_size_lem}
use Rattle.bundles.specs.Limits.{bundle_most}
use Rattle.bundles.specs.Recordings.{Recording}
use Rattle.tables.specs.Tables.{recording_in}
use Rattle.resolution_rules.specs.Resolving.{Span, own, judged}
use Rattle.resolution_rules.specs.Calls.{span_bytes, bytes_of}
use Rattle.resolution_rules.proofs.Delivered.{span_length}
use Rattle.delivery.specs.Steps.{start, step_of}
use Rattle.delivery.specs.Deliveries.{Delivery, span_for, unit_for, spans, deliveries}
use Rattle.delivery.specs.declared.Cursor.{Cursor}
use Rattle.delivery.specs.declared.DeliveredUnit.{DeliveredUnit}
use Rattle.delivery.specs.declared.Stepped.TheVariants as step
use Rattle.delivery.proofs.Deliveries.{all_size, all_none, all_one, all_append, deliveries_spans}
use Rattle.delivery.proofs.Rests.{rest}
use Rattle.delivery.proofs.Folds.{Folded, folded_start, folded_unit, folded_fits, folded_done, folded_split, bound_most}
use Rattle.resolution.specs.Streams.{stream_most, stream_size}
use Rattle.resolution.proofs.Puts.{unit_inside}

-- no unit is refused, and their stream is so long
abbrev pub Streams : List (List ℕ) → ℕ → Type 0
Streams us size = (stream_verdict 0 us ≡ ok tt) × (size ≡ length (stream_of us))

-- one unit more
module _ (us : List (List ℕ)) (size : ℕ) (h : Streams us size) (u : List ℕ) where
  longer : length (stream_of (us ++ (u ∷ []))) ≡ length (stream_of us) + (4 + length u)
  longer =
      let a = ap length (stream_append us (u ∷ [])) ∙ length-append (stream_of us) (stream_of (u ∷ [])) in
      let b = stream_size_lem u [] in
      let n = stream_none in
      omega arith

  pub more_good : is_streamable u ≡ true → {k : ℕ} → length u ≡ k → Streams (us ++ (u ∷ [])) (size + (4 + k))
  unfolding stream_verdict
  more_good t l = let n = longer in let s = h.1 in (rw (verdict_append 0 us (u ∷ []), h.0, t), omega arith)

  pub here_bad : is_streamable u ≡ false → (vs : List (List ℕ)) → counted (to_stream (us ++ (u ∷ vs))) ≡ refused unit_not_streamable size
  unfolding to_stream stream_verdict
  here_bad t vs = rw (verdict_append 0 us (u ∷ vs), h.0, t) (ap (refused unit_not_streamable) (let s = h.1 in omega arith))

-- no longer than the units with 4 bytes each
module _ (r : Recording) where
  part_most : (u : Span) → length (span_bytes r u) ≤ u.size
  part_most u = simp (length-take, length-drop) (omega arith)

  stream_most_lem : (ds : List Delivery) → length (stream_of (bytes_of r (spans ds))) ≤ 4 * length ds + all_size ds
  stream_most_lem [] = let n = stream_none in let a = all_none in omega arith
  stream_most_lem (d ∷ ds) =
      let below = stream_most_lem ds in
      let s = stream_size_lem (span_bytes r d.span) (bytes_of r (spans ds)) in
      let p = part_most d.span in
      let a = all_append (d ∷ []) ds in
      let o = all_one d in
      omega arith

  -- the bytes of joined units
  bytes_append : (ds es : List Delivery) → bytes_of r (spans (ds ++ es)) ≡ bytes_of r (spans ds) ++ bytes_of r (spans es)
  bytes_append ds es = ap (bytes_of r) (map_append (λ (d : Delivery). d.span) ds es) ∙ map_append (span_bytes r) (spans ds) (spans es)

module _ (r : Recording) (n : ℕ) (x : Sample) where
  -- what is judged of the units so far
  abbrev pub Judges : ℕ → List Delivery → Type 0
  Judges size ds = Streams (bytes_of r (spans ds)) size

  pub judges_start : Folded r n x (Judges 0) start
  unfolding stream_verdict
  judges_start = folded_start r n x (Judges 0) (refl, sym stream_none)

  module _ (size : ℕ) (c : Cursor) (w : Folded r n x (Judges size) c) (same : x ≡ own r n) where
    pub judges_take : {u : DeliveredUnit} {d : Cursor} → step_of r n x c ≡ step.Unit u d → is_streamable (span_bytes r (span_for u.span)) ≡ true → Folded r n x (Judges (size + (4 + u.span.size))) d
    judges_take {u} e t = folded_unit r n x (Judges size) c w (Judges (size + (4 + u.span.size)))
        (rw (bytes_append r w.us (unit_for u ∷ []))
        (more_good (bytes_of r (spans w.us)) size w.holds (span_bytes r (span_for u.span)) t (span_length r (span_for u.span) (unit_inside r n x same c e)))) e

    -- a good sample
    module _ (good : judged r n ≡ ok tt) where
      stream_units : (ds : List Delivery) → deliveries r n ≡ ds → stream_size r n ≡ counted (to_stream (bytes_of r (spans ds)))
      unfolding stream_size
      stream_units ds e = ap (λ us. counted (to_stream (bytes_of r us))) (sym (deliveries_spans r n) ∙ ap spans e)

      pub judges_bad : {u : DeliveredUnit} {d : Cursor} → step_of r n x c ≡ step.Unit u d → is_streamable (span_bytes r (span_for u.span)) ≡ false → stream_size r n ≡ refused unit_not_streamable size
      judges_bad {u} {d} e t =
          stream_units (w.us ++ (unit_for u ∷ rest r n x d)) (folded_split r n x (Judges size) c w same good e)
          ∙ rw (bytes_append r w.us (unit_for u ∷ rest r n x d)) (here_bad (bytes_of r (spans w.us)) size w.holds (span_bytes r (span_for u.span)) t (bytes_of r (spans (rest r n x d))))

      pub judges_end : step_of r n x c ≡ step.Done → stream_size r n ≡ ok size
      unfolding to_stream
      judges_end e = let h = folded_done r n x (Judges size) c w same good e in stream_units (deliveries r n) refl ∙ rw (h.0, h.1)

-- the sums fit
pub judges_fit :
    (b t : List ℕ) (n : ℕ) (x : Sample) (size : ℕ) (c : Cursor) → Folded (recording_in b t) n x (Judges (recording_in b t) n x size) c →
    x ≡ own (recording_in b t) n → length b ≤ bundle_most → {u : DeliveredUnit} {d : Cursor} → step_of (recording_in b t) n x c ≡ step.Unit u d →
    size + (4 + u.span.size) ≤ stream_most
judges_fit b t n x size c w same few {u} e =
    let r = recording_in b t in
    let f = folded_fits r n x (Judges r n x size) c w e in
    let l = bound_most b t n x same few in
    let m = stream_most_lem r w.us in
    let k = w.holds.1 in
    omega arith
