-- The loop's invariant: the walk over the tracks has passed i of them and come to the place p, and sizes holds their length sizes.
-- Assumes nothing.
use native.Mathlib.Omega.{arith}
use mathlib.Core.Path.{◌≡◌, ap}
use Prim.Native.Nat.{ℕ, ◌+◌, ◌-◌, ◌<◌, ◌≤◌}
use mathlib.Core.List.{List}
use lib.ListN.{length, take, drop, length-drop}
use lib.Seq.{length-take-le}
use Rattle.std.proofs.Common.{rules}
use Rattle.std.proofs.lemmas.Result.{err_from_is_err_and}
use Rattle.words.specs.Refusals.{ok}
use Rattle.words.proofs.Entries.{walked_start, walked_next, walked_end}
use Rattle.numbers.proofs.Faults.{place_none, place_value, place_fault}
use Rattle.bundles.specs.Limits.{count_fault, track_least, track_most}
use Rattle.bundles.specs.Fields.{track_count_size}
use Rattle.bundles.specs.Tracks.{track_count, tracks_verdict, references_at}
use Rattle.bundles.specs.Steps.{track_read}
use Rattle.bundles.proofs.Sections.{count_good, tracks_good}
use Rattle.bundles.proofs.Checking.{at_count, at_entry, at_end, walked_fault, not_refused, Kept, kept_start, kept_next, kept_sizes}
use Rattle.bundles.proofs.check_tracks.Goals as goal
use Rattle.bundles.proofs.check_tracks.Goals.{In_ok-n, In_ok-t}

-- the count has no refusal
counted : (c : In_ok-n) → count_fault c.args.b.now 0 track_count_size track_least track_most ≡ 0
counted c = place_none c.count_at-count.result 0 c.in_ok-n.ensures c.count_at-count.ensures.fault

few : (c : In_ok-n) → c.in_ok-n.n ≤ track_most
few c = rw (place_value c.count_at-count.result _ 0 c.in_ok-n.ensures c.count_at-count.ensures.value) (count_good c.args.b.now 0 track_count_size track_least track_most (counted c)).few

-- the track at hand
here : (c : In_ok-t) → c.in_ok-t.t ≡ track_read c.args.b.now c.loop-size.p
here c = place_value c.read_track.result _ c.loop-size.p c.in_ok-t.ensures c.read_track.ensures.value

-- so many places as there are tracks
long : (n : ℕ) (s : List ℕ) → n < length s → length (take (n + 1 - 1) (drop 1 s)) ≡ n
long n s h = omega (arith, length-take-le {A = ℕ}, length-drop {A = ℕ})

pub returns-in_err-n : goal.returns-in_err-n
unfolding tracks_verdict
returns-in_err-n c =
    let p = err_from_is_err_and c.from_residual.result c.from_residual.ensures.1 in
    let e = at_count _ _ _ (ok (references_at c.args.b.now)) (place_fault c.count_at-count.result 0 c.in_err-n.ensures c.count_at-count.ensures.fault) in
    rw (p.1, p.2) (record { answer = e; kept = λ z. not_refused _ _ e z })

pub overflow_add-size-items : goal.overflow_add-size-items
overflow_add-size-items c = let h = few (goal.at.overflow_add-size-items c).In_ok-n in omega arith

pub slice_bounds-size-items-end : goal.slice_bounds-size-items-end
slice_bounds-size-items-end c = let h = few (goal.at.slice_bounds-size-items-end c).In_ok-n in let k = c.requires in search rules

pub loop-size-init : goal.loop-size-init
loop-size-init c = (walked_start, kept_start _ _)

pub returns-in_err-t : goal.returns-in_err-t
unfolding tracks_verdict
returns-in_err-t c =
    let p = err_from_is_err_and c.from_residual-in_err-t.result c.from_residual-in_err-t.ensures.1 in
    let n = place_value c.count_at-count.result _ 0 c.in_ok-n.ensures c.count_at-count.ensures.value in
    let h = few (goal.at.returns-in_err-t c).In_ok-n in
    let l : length (take (c.in_ok-n.n + 1 - 1) (drop 1 c.args.sizes.now)) ≡ c.in_ok-n.n = long c.in_ok-n.n c.args.sizes.now (omega (arith, c.requires)) in
    let w = walked_fault c.loop-size.invariant.0 (omega (arith, l)) (place_fault c.read_track.result c.loop-size.p c.in_err-t.ensures c.read_track.ensures.fault) in
    let e = at_entry _ _ _ (ok (references_at c.args.b.now)) (counted (goal.at.returns-in_err-t c).In_ok-n) (rw n at w) in
    rw (p.1, p.2) (record { answer = e; kept = λ z. not_refused _ _ e z })

pub loop-size-preserved : goal.loop-size-preserved
loop-size-preserved c = let v = c.loop-size.invariant in
    let h = few (goal.at.loop-size-preserved c).In_ok-n in
    let t = here c in
    let l : length (take (c.in_ok-n.n + 1 - 1) (drop 1 c.args.sizes.now)) ≡ c.in_ok-n.n = long c.in_ok-n.n c.args.sizes.now (omega (arith, c.requires)) in (
      walked_next v.0 (omega (arith, l)) (place_none c.read_track.result c.loop-size.p c.in_ok-t.ensures c.read_track.ensures.fault) (ap (λ r. r.end) t),
      kept_next c.args.b.now c.loop-size.size-items c.loop-size.size-index c.loop-size.p _ v.1 (omega (arith, l)) v.0.place (ap (λ r. r.size) t),
    )

pub returns : goal.returns
unfolding tracks_verdict references_at
returns c = let v = c.loop-size.invariant in
    let b = c.args.b.now in
    let n = place_value c.count_at-count.result _ 0 c.in_ok-n.ensures c.count_at-count.ensures.value in
    let h = few (goal.at.returns c).In_ok-n in
    let l : length (take (c.in_ok-n.n + 1 - 1) (drop 1 c.args.sizes.now)) ≡ c.in_ok-n.n = long c.in_ok-n.n c.args.sizes.now (omega (arith, c.requires)) in
    let w = walked_end v.0 (omega (arith, l)) in
    let i : c.loop-size.size-index ≡ c.in_ok-n.n = omega (arith, l, v.0.within) in
    let g = rw n at w.0 in
    let p = rw n at w.1 in
    let k : Kept b (track_count b) c.loop-size.size-items = rw (i, n) at v.1 in
    record {
      answer = rw p (at_end _ _ _ _ (counted (goal.at.returns c).In_ok-n) g);
      kept = λ z. kept_sizes b c.args.sizes.now c.loop-size.size-items _ (omega (arith, c.requires)) (tracks_good b (unfold tracks_verdict in z)) k (omega (arith, l, n));
    }
