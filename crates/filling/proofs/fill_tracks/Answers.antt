-- The loop's invariant: the rows of the first k tracks are written, p is the place of the next, and before is at most how many samples
-- stand before its own. Assumes nothing.
use native.Mathlib.Omega.{arith}
use mathlib.Core.Path.{◌≡◌, refl, sym, ap, ◌∙◌}
use Prim.Native.Nat.{◌+◌, ◌≤◌, ◌<◌}
use Rattle.words.specs.Walks.{skip}
use Rattle.bundles.specs.Fields.{track_head_size}
use Rattle.bundles.specs.Limits.{track_most}
use Rattle.bundles.specs.Bundles.{layout_of}
use Rattle.tables.specs.Tables.{track_row}
use Rattle.bundles.specs.Tracks.{track_count, tracks_at, track_end, track_fault}
use Rattle.words.proofs.Entries.{skip_snoc, big_one}
use Rattle.bundles.proofs.Sections.{Accepted, accepted, TrackGood, track_good}
use Rattle.filling.specs.Filling.{track_cells}
use Rattle.filling.proofs.Rows.{rows_none, rows_put, track_row_lem, track_sound, before_grow}
use Rattle.filling.proofs.fill_tracks.Goals as goal
use Rattle.filling.proofs.fill_tracks.Goals.{In-loop-k}

all : (c : In-loop-k) → Accepted c.args.b.now
all c = accepted c.args.b.now c.requires.0

-- there are not too many
few : (c : In-loop-k) → (c.number-n.result ≤ track_most) × (c.loop-k.k < track_count c.args.b.now)
few c = let f = (all c).tracks.count.few in (omega (arith, c.number-n.ensures), omega (arith, c.number-n.ensures, c.loop-k-test.true))

-- the entry at hand
sound : (c : In-loop-k) → track_fault c.args.b.now c.loop-k.p ≡ 0
sound c = track_sound c.args.b.now (all c) c.loop-k.k c.loop-k.p (few c).1 c.loop-k.invariant.0

here : (c : In-loop-k) → TrackGood c.args.b.now c.loop-k.p
here c = track_good c.args.b.now c.loop-k.p (sound c)

pub loop-k-init : goal.loop-k-init
unfolding skip
loop-k-init c = let a = c.args in
    (refl, omega arith, refl, rows_none (track_cells (layout_of a.b.now)) (λ k. refl) a.t.now (track_row 1))

pub length_size_at-size-requires : goal.length_size_at-size-requires
length_size_at-size-requires c = sound (goal.at.length_size_at-size-requires c).In-loop-k

pub put_row-requires : goal.put_row-requires
put_row-requires c = let h = few (goal.at.put_row-requires c).In-loop-k in (omega arith, omega (arith, c.requires.3, c.loop-k.invariant.2))

pub overflow_add-p : goal.overflow_add-p
overflow_add-p c = let h = here (goal.at.overflow_add-p c).In-loop-k in omega arith

pub overflow_add-p-in-loop-k : goal.overflow_add-p-in-loop-k
overflow_add-p-in-loop-k c = let h = here (goal.at.overflow_add-p-in-loop-k c).In-loop-k in omega arith

pub overflow_add-p-in-loop-k-2 : goal.overflow_add-p-in-loop-k-2
overflow_add-p-in-loop-k-2 c = let h = here (goal.at.overflow_add-p-in-loop-k-2 c).In-loop-k in omega (arith, c.number.ensures)

pub loop-k-preserved : goal.loop-k-preserved
loop-k-preserved c = let a = c.args in
    let b = a.b.now in
    let k = c.loop-k.k in
    let p = c.loop-k.p in
    let h = few (goal.at.loop-k-preserved c).In-loop-k in
    let s : p + (track_head_size + c.number.result) ≡ track_end b p = omega (arith, c.number.ensures) in (
      s ∙ ap (track_end b) c.loop-k.invariant.0 ∙ sym (skip_snoc (track_end b) k (tracks_at b)),
      rw c.samples_before-before.ensures (before_grow b (all (goal.at.loop-k-preserved c).In-loop-k).samples (k + 1)),
      c.put_row.auto.t ∙ c.loop-k.invariant.2,
      c.put_row.ensures ∙ rows_put (track_cells (layout_of b)) (λ m. refl) a.t.now (track_row 1) k (track_row 1 + k) c.loop-k.invariant.3
          (rw (c.number-kind.ensures, c.length_size_at-size.ensures, c.samples_before-before.ensures, big_one b p) (track_row_lem b (all (goal.at.loop-k-preserved c).In-loop-k) k p h.1 c.loop-k.invariant.0)) (omega arith) (omega (arith, c.requires.3)),
    )

pub shape_of-t : goal.shape_of-t
shape_of-t c = c.loop-k.invariant.2

pub returns : goal.returns
returns c = let e : c.loop-k.k ≡ c.number-n.result = omega arith in
    rw (← c.number-n.ensures, ← e) c.loop-k.invariant.3
