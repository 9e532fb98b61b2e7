-- The loop's invariant: p is the place of the track entry after the first i. Assumes nothing.
use native.Mathlib.Omega.{arith}
use Prim.Native.Nat.{◌+◌}
use mathlib.Core.Path.{◌≡◌, refl, sym, ap, ◌∙◌}
use Rattle.words.specs.Walks.{skip}
use Rattle.bundles.specs.Fields.{track_head_size}
use Rattle.bundles.specs.Tracks.{tracks_at, track_end, references_at}
use Rattle.words.proofs.Entries.{skip_snoc}
use Rattle.bundles.proofs.Sections.{TrackGood, track_good, accepted}
use Rattle.filling.proofs.Rows.{track_sound}
use Rattle.filling.proofs.references_at.Goals as goal
use Rattle.filling.proofs.references_at.Goals.{In-loop}

-- the entry at hand
here : (c : In-loop) → TrackGood c.args.b.now c.loop.p
here c =
    let b = c.args.b.now in
    track_good b c.loop.p (track_sound b (accepted b c.requires) c.loop.counter c.loop.p (rw (← c.number-n.ensures) c.loop-test.true) c.loop.invariant)

pub loop-init : goal.loop-init
unfolding skip
loop-init c = refl

pub overflow_add-p : goal.overflow_add-p
overflow_add-p c = let g = here (goal.at.overflow_add-p c).In-loop in omega arith

pub overflow_add-p-in-loop : goal.overflow_add-p-in-loop
overflow_add-p-in-loop c = let g = here (goal.at.overflow_add-p-in-loop c).In-loop in omega arith

pub overflow_add-p-in-loop-2 : goal.overflow_add-p-in-loop-2
overflow_add-p-in-loop-2 c = let g = here (goal.at.overflow_add-p-in-loop-2 c).In-loop in omega (arith, c.number.ensures)

pub loop-preserved : goal.loop-preserved
loop-preserved c = let b = c.args.b.now in
    let s : c.loop.p + (track_head_size + c.number.result) ≡ track_end b c.loop.p = omega (arith, c.number.ensures) in
    s ∙ ap (track_end b) c.loop.invariant ∙ sym (skip_snoc (track_end b) c.loop.counter (tracks_at b))

pub returns : goal.returns
unfolding references_at
returns c = let e : c.loop.counter ≡ c.number-n.result = omega arith in
    rw (← c.number-n.ensures, ← e) c.loop.invariant
