-- The loop's invariant: p is the place of the track entry i. Assumes nothing.
use native.Mathlib.Omega.{arith}
use mathlib.Core.Path.{◌≡◌, refl, sym, ap, ◌∙◌}
use Prim.Native.Nat.{◌+◌, ◌-◌}
use Rattle.words.specs.Walks.{skip}
use Rattle.words.proofs.Entries.{skip_snoc}
use Rattle.bundles.specs.Tracks.{tracks_at, track_end, track_fault}
use Rattle.bundles.proofs.Sections.{TrackGood, track_good, accepted}
use Rattle.filling.proofs.Rows.{track_sound}
use Rattle.contents.proofs.Places.{place_at}
use Rattle.contents.proofs.tracks.place.Goals as goal
use Rattle.contents.proofs.tracks.place.Goals.{In-loop-i}

-- the entry at hand
here : (c : In-loop-i) → track_fault c.args.b.now c.loop-i.p ≡ 0
here c =
    let b = c.args.b.now in
    let h = c.requires in
    let i = c.loop-i.invariant in
    track_sound b (accepted b h.0) (c.loop-i.i - 1) c.loop-i.p (let t = c.loop-i-test.true in omega arith) i.2

good : (c : In-loop-i) → TrackGood c.args.b.now c.loop-i.p
good c = track_good c.args.b.now c.loop-i.p (here c)

pub loop-i-init : goal.loop-i-init
unfolding skip
loop-i-init c = (omega arith, let h = c.requires.1 in omega arith, refl)

pub overflow_add-p : goal.overflow_add-p
overflow_add-p c = let g = good (goal.at.overflow_add-p c).In-loop-i in omega (arith, g.head)

pub record_length-requires : goal.record_length-requires
record_length-requires c = here (goal.at.record_length-requires c).In-loop-i

pub overflow_add-p-in-loop-i : goal.overflow_add-p-in-loop-i
overflow_add-p-in-loop-i c = let g = good (goal.at.overflow_add-p-in-loop-i c).In-loop-i in omega (arith, g.inside, c.record_length.ensures)

pub loop-i-preserved : goal.loop-i-preserved
loop-i-preserved c = let b = c.args.b.now in
    let w = c.loop-i.invariant in
    let i = c.loop-i.i in
    let e : i + 1 - 1 ≡ i - 1 + 1 = let h = w.0 in omega arith in
    (omega arith, let t = c.loop-i-test.true in omega arith, rw (c.record_length.ensures, e) (ap (track_end b) w.2 ∙ sym (skip_snoc (track_end b) (i - 1) (tracks_at b))))

pub returns : goal.returns
returns c = let b = c.args.b.now in
    let h = c.requires in
    let w = c.loop-i.invariant in
    let e : c.loop-i.i ≡ c.args.k = let g = w.1 in let l = c.loop-i-test.false in omega arith in
    let p = rw e at w.2 in
    (p ∙ sym (place_at b _ h.1 h.2), track_sound b (accepted b h.0) _ _ (let q = h.1 in let m = h.2 in omega arith) p)
