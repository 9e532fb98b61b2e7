-- The loop's invariant: the entries of the samples so far are written. Assumes nothing.
use native.Mathlib.Omega.{arith}
use mathlib.Core.Path.{◌≡◌, sym, ap, ◌∙◌}
use Prim.Native.Nat.{ℕ, ◌+◌, ◌*◌, ◌≤◌, ◌<◌}
use mathlib.Core.List.{List}
use lib.ListN.{length}
use Rattle.units.specs.Units.{Sample, sample}
use Rattle.samples.specs.Check.{check}
use Rattle.words.specs.Refusals.{ok}
use Rattle.bundles.specs.Limits.{bundle_most, sample_most}
use Rattle.bundles.specs.Recordings.{Recording, sample_count}
use Rattle.tables.specs.Tables.{layout_in, recording_in}
use Rattle.tables.proofs.Layouts.{samples_most}
use Rattle.resolution_rules.specs.Resolving.{sample_of}
use Rattle.delivery.proofs.Steps.{sample_from}
use Rattle.delivery.proofs.Folds.{content_most}
use Rattle.naming_list_rules.specs.Naming.{namers_in, list_entry_size}
use Rattle.naming_list.specs.Steps.{namers_from}
use Rattle.naming_list.proofs.Namers.{namers_formed}
use Rattle.naming_list.proofs.Listings.{namers_few, some_formed, Putting, putting_start, putting_length, putting_most, putting_none, putting_room, putting_some, putting_end}
use Rattle.naming_list.proofs.put_list.Goals as goal
use Rattle.naming_list.proofs.put_list.Goals.{then-kept_count-ne0, else-kept_count-ne0}

module _ (b t : List ℕ) (s n : ℕ) where
  abbrev R : Recording
  R = recording_in b t

  -- the numbers are small
  few : length b ≤ bundle_most → (at : ℕ) {out now : List ℕ} → Putting R s out n at now → (at ≤ n * bundle_most * list_entry_size) × (length (namers_in R s (n + 1)) ≤ bundle_most)
  few small at i =
      let m = namers_few R s (n + 1) in
      let l = content_most b t (n + 1) in
      (putting_most _ _ _ bundle_most (λ k. let j = content_most b t k in omega arith) _ _ _ i, omega arith)

  -- a sample that has some is well formed, and they are its extractors that name s
  module _ {v : ℕ} (kept : v ≡ length (namers_in R s (n + 1))) (some : v ≡ 0 → ⊥) (x : Sample) (same : x ≡ sample_of R (n + 1)) where
    formed : check x ≡ ok tt
    formed = some_formed R s (n + 1) _ same (λ z. some (kept ∙ z))

    namers : namers_from (layout_in t) s (n + 1) x 0 ≡ namers_in R s (n + 1)
    unfolding recording_in
    namers = namers_formed R s (n + 1) _ same formed

pub loop-n-init : goal.loop-n-init
loop-n-init c = putting_start _ _ _

pub overflow_add-sample : goal.overflow_add-sample
overflow_add-sample c = let t = c.loop-n-test.true in let m = samples_most c.args.t.now in let e = c.sample_count-total.ensures in omega arith

pub put_namers-found-requires : goal.put_namers-found-requires
unfolding recording_in
put_namers-found-requires c =
    let a = c.args in
    let t = c.loop-n-test.true in
    let total = samples_most a.t.now in
    let e = c.sample_count-total.ensures in
    let m = content_most a.b.now a.t.now (c.loop-n.n + 1) in
    let l : length c.sample_bytes-x.result.now ≤ length a.b.now = rw c.sample_bytes-x.ensures m in
    let s = c.requires.0 in
    let f = few a.b.now a.t.now a.s.0 c.loop-n.n s _ c.loop-n.invariant in
    let same = sample_from a.b.now a.t.now (c.loop-n.n + 1) c.track_of-k.ensures c.sample_bytes-x.ensures in
    (formed a.b.now a.t.now a.s.0 c.loop-n.n (c.kept_count.ensures ∙ c.requires.2 _ (omega arith) (omega arith)) c.if-kept_count-ne0.true _ same, omega arith, omega arith)

pub overflow_mul-at : goal.overflow_mul-at
unfolding recording_in
overflow_mul-at c =
    let a = c.args in
    let t = c.loop-n-test.true in
    let e = c.sample_count-total.ensures in
    let f = few a.b.now a.t.now a.s.0 c.loop-n.n c.requires.0 _ c.loop-n.invariant in
    let same = sample_from a.b.now a.t.now (c.loop-n.n + 1) c.track_of-k.ensures c.sample_bytes-x.ensures in
    let n = c.put_namers-found.ensures.0 ∙ ap length (namers a.b.now a.t.now a.s.0 c.loop-n.n (c.kept_count.ensures ∙ c.requires.2 _ (omega arith) (omega arith)) c.if-kept_count-ne0.true _ same) in
    omega arith

pub overflow_add-at : goal.overflow_add-at
unfolding recording_in
overflow_add-at c =
    let a = c.args in
    let t = c.loop-n-test.true in
    let total = samples_most a.t.now in
    let e = c.sample_count-total.ensures in
    let f = few a.b.now a.t.now a.s.0 c.loop-n.n c.requires.0 _ c.loop-n.invariant in
    let same = sample_from a.b.now a.t.now (c.loop-n.n + 1) c.track_of-k.ensures c.sample_bytes-x.ensures in
    let n = c.put_namers-found.ensures.0 ∙ ap length (namers a.b.now a.t.now a.s.0 c.loop-n.n (c.kept_count.ensures ∙ c.requires.2 _ (omega arith) (omega arith)) c.if-kept_count-ne0.true _ same) in
    omega arith

pub loop-n-preserved : goal.loop-n-preserved
unfolding recording_in
loop-n-preserved c =
    let a = c.args in
    let l = c.loop-n in
    let h = rw c.sample_count-total.ensures at c.loop-n-test.true in
    let kept = c.kept_count.ensures ∙ c.requires.2 (l.n + 1) (omega arith) (omega arith) in
    elim c.if-kept_count-ne0.branch [
      | then-kept_count-ne0 w ↦
          let same = sample_from a.b.now a.t.now (l.n + 1) w.track_of-k.ensures w.sample_bytes-x.ensures in
          let e = namers a.b.now a.t.now a.s.0 l.n kept w.if-kept_count-ne0.true _ same in
          let m = w.put_namers-found.ensures.0 ∙ ap length e in
          let r = putting_room _ _ _ c.requires.1 _ _ _ l.invariant h in
          rw (w.at-is, w.out-is) (putting_some _ _ _ c.requires.1 _ _ _ l.invariant h m (rw e at (w.put_namers-found.ensures.1 (omega arith))))
      | else-kept_count-ne0 w ↦ rw (w.at-is, w.out-is) (putting_none _ _ _ c.requires.1 _ _ _ l.invariant h (sym kept ∙ w.if-kept_count-ne0.false))
    ]

pub shape_of-out : goal.shape_of-out
shape_of-out c = putting_length _ _ _ c.requires.1 _ _ _ c.loop-n.invariant

pub returns : goal.returns
unfolding recording_in
returns c = putting_end _ _ _ c.requires.1 _ _ _ c.loop-n.invariant (rw c.sample_count-total.ensures at c.loop-n-test.false)
