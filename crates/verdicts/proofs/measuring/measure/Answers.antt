-- The invariant: what the units before p deliver is counted. Assumes nothing.
use Rattle.std.specs.Prelude.{Result, Ok}
use Rattle.std.proofs.lemmas.Result.{err_from_is_err_and}
use native.Mathlib.Omega.{arith}
use mathlib.Core.Path.{◌≡◌, sym, ap, ◌∙◌}
use Prim.Native.Nat.{ℕ, ◌+◌, ◌*◌, ◌≤◌, ◌<◌}
use mathlib.Core.Bool.{true, false}
use mathlib.Core.List.{List}
use lib.ListN.{length}
use Rattle.numbers.specs.Faults.{numbered, refused_at}
use Rattle.numbers.specs.declared.refusals.Fault.{Fault}
use Rattle.numbers.proofs.Faults.{place_ok, place_number}
use Rattle.verdicts.specs.Amounts.{amount_by}
use Rattle.units.specs.Steps.{extractor_at}
use Rattle.numbers.proofs.Laws.{L_some}
use Rattle.units.specs.Units.{Sample, sample, end, size, next, is_aggregator, is_extractor}
use Rattle.units.specs.Aggregators.{included_start}
use Rattle.units.specs.Steps.{unit_of}
use Rattle.units.specs.declared.NalUnit.{NalUnit}
use Rattle.units.proofs.Units.{next_after, whole_end}
use Rattle.unit_steps.proofs.Items.{aggregator_is, extractor_is, unit_is}
use Rattle.bundles.specs.Limits.{bundle_most}
use Rattle.bundles.specs.Recordings.{Recording}
use Rattle.tables.specs.Tables.{recording_in}
use Rattle.copies.proofs.Flat.{walking_whole}
use Rattle.copies.proofs.Rest.{walking_never}
use Rattle.resolution_rules.specs.Resolving.{sample_of}
use Rattle.resolution_rules.proofs.Good.{own_length}
use Rattle.delivery.proofs.Folds.{content_most}
use Rattle.mark_rules.specs.declared.CopyAmount.{CopyAmount}
use Rattle.verdicts.proofs.Counting.{Counting, counting_start, counting_skip, unit_fits, counting_unit, counting_refused, copy_fits, counting_copy, counting_end}
use Rattle.verdicts.proofs.measuring.measure.Goals as goal

-- the unit at p of sample n, which is x
module _ (b t : List ℕ) (small : length b ≤ bundle_most) (n : ℕ) (x : Sample) (same : x ≡ sample_of (recording_in b t) n)
    (count mine copied p : ℕ) (i : Counting (recording_in b t) n x count mine copied p) (on : p < end x) where
  abbrev R : Recording
  R = recording_in b t

  -- no sample is too long
  few : (m : ℕ) → end (sample_of R m) ≤ bundle_most
  few m = let l = content_most b t m in let h = own_length R m in omega arith

  short : end x ≤ bundle_most
  short = let e = ap end same in let f = few n in omega arith

  ends : is_aggregator x p ≡ false → next x p ≤ end x
  ends a = (whole_end x (end x) p (walking_whole x (end x) p i.passing.walking on)).1

  -- the sums fit
  copied-fits : is_aggregator x p ≡ false → is_extractor x p ≡ true → {k : CopyAmount} → amount_by R n (extractor_at x (end x) p) ≡ Ok k → (count + k.count ≤ bundle_most * bundle_most) × (copied + k.bytes ≤ bundle_most * bundle_most)
  copied-fits a e k = let f = copy_fits R n x _ _ _ p i on a e few k in let l = ends a in let s = short in (omega arith, omega arith)

  units-fit : is_aggregator x p ≡ false → is_extractor x p ≡ false → (count + 1 ≤ bundle_most * bundle_most) × (mine + size x p ≤ bundle_most)
  units-fit a e = let f = unit_fits R n x _ _ _ p i on a e in let l = ends a in let s = short in (omega arith, omega arith)

pub loop-p-init : goal.loop-p-init
loop-p-init c = counting_start _ _ _ c.requires.0 c.requires.1

pub returns-in-Nothing : goal.returns-in-Nothing
returns-in-Nothing c = walking_never _ _ _ c.loop-p.invariant.passing.walking c.loop-p-test.true (sym c.item_at.ensures ∙ c.in-Nothing.is)

pub loop-p-smaller-in-Aggregator : goal.loop-p-smaller-in-Aggregator
loop-p-smaller-in-Aggregator c = let l = L_some c.args.k.length_size in let e = (aggregator_is _ _ (sym c.item_at.ensures ∙ c.in-Aggregator.is)).1 in omega (arith, c.loop-p-test.true)

pub loop-p-preserved-in-Aggregator : goal.loop-p-preserved-in-Aggregator
loop-p-preserved-in-Aggregator c =
    let a = aggregator_is _ _ (sym c.item_at.ensures ∙ c.in-Aggregator.is) in
    rw a.1 (counting_skip _ _ _ _ _ _ _ c.loop-p.invariant c.loop-p-test.true a.0)

pub amount_at-copy-requires : goal.amount_at-copy-requires
amount_at-copy-requires c = c.requires.3

pub returns-in_err-a-in-Extractor : goal.returns-in_err-a-in-Extractor
returns-in_err-a-in-Extractor c =
    let a = c.args in
    let e = extractor_is _ _ (sym c.item_at.ensures ∙ c.in-Extractor.is) in
    let w = place_number _ _ (sym c.in_err-a-in-Extractor.was ∙ c.at_place.ensures) in
    let p = err_from_is_err_and c.from_residual.result c.from_residual.ensures.1 in
    rw (p.1, p.2, w.1) (sym (counting_refused _ _ _ _ _ _ _ c.loop-p.invariant c.loop-p-test.true e.0 e.1 (few a.b.now a.t.now c.requires.2 a.n.0 _ c.requires.0 _ _ _ _ c.loop-p.invariant c.loop-p-test.true) (sym c.amount_at-copy.ensures ∙ w.0)))

-- what the extractor at p copies
copied-at : (r : Result CopyAmount Fault) (p : ℕ) {a : CopyAmount} → Ok a ≡ refused_at p r → numbered r ≡ Ok a
copied-at r p e = ap numbered (place_ok r p e)

pub overflow_add-count : goal.overflow_add-count
overflow_add-count c =
    let a = c.args in
    let e = extractor_is _ _ (sym c.item_at.ensures ∙ c.in-Extractor.is) in
    let f = copied-fits a.b.now a.t.now c.requires.2 a.n.0 _ c.requires.0 _ _ _ _ c.loop-p.invariant c.loop-p-test.true e.0 e.1 (sym c.amount_at-copy.ensures ∙ copied-at _ _ c.in_ok-a-in-Extractor.ensures) in
    omega arith

pub overflow_add-copied : goal.overflow_add-copied
overflow_add-copied c =
    let a = c.args in
    let e = extractor_is _ _ (sym c.item_at.ensures ∙ c.in-Extractor.is) in
    let f = copied-fits a.b.now a.t.now c.requires.2 a.n.0 _ c.requires.0 _ _ _ _ c.loop-p.invariant c.loop-p-test.true e.0 e.1 (sym c.amount_at-copy.ensures ∙ copied-at _ _ c.in_ok-a-in-Extractor.ensures) in
    omega arith

pub loop-p-smaller-in-Extractor : goal.loop-p-smaller-in-Extractor
loop-p-smaller-in-Extractor c =
    let e = extractor_is _ _ (sym c.item_at.ensures ∙ c.in-Extractor.is) in
    let l = next_after (sample c.args.k c.args.x.now) c.loop-p.p in
    omega (arith, c.loop-p-test.true, e.2)

pub loop-p-preserved-in-Extractor : goal.loop-p-preserved-in-Extractor
loop-p-preserved-in-Extractor c =
    let a = c.args in
    let e = extractor_is _ _ (sym c.item_at.ensures ∙ c.in-Extractor.is) in
    rw e.2 (counting_copy _ _ _ _ _ _ _ c.loop-p.invariant c.loop-p-test.true e.0 e.1 (few a.b.now a.t.now c.requires.2 a.n.0 _ c.requires.0 _ _ _ _ c.loop-p.invariant c.loop-p-test.true) (sym c.amount_at-copy.ensures ∙ copied-at _ _ c.in_ok-a-in-Extractor.ensures))

pub overflow_add-count-in-Unit : goal.overflow_add-count-in-Unit
overflow_add-count-in-Unit c =
    let a = c.args in
    let e = unit_is _ _ (sym c.item_at.ensures ∙ c.in-Unit.is) in
    let f = units-fit a.b.now a.t.now c.requires.2 a.n.0 _ c.requires.0 _ _ _ _ c.loop-p.invariant c.loop-p-test.true e.0 e.1 in
    omega arith

pub overflow_add-own : goal.overflow_add-own
overflow_add-own c =
    let a = c.args in
    let e = unit_is _ _ (sym c.item_at.ensures ∙ c.in-Unit.is) in
    let f = units-fit a.b.now a.t.now c.requires.2 a.n.0 _ c.requires.0 _ _ _ _ c.loop-p.invariant c.loop-p-test.true e.0 e.1 in
    let s : c.in-Unit.u.size ≡ size (sample a.k a.x.now) c.loop-p.p = ap (λ (u : NalUnit). u.size) e.2 in
    omega arith

pub loop-p-smaller : goal.loop-p-smaller
loop-p-smaller c =
    let u = unit_is _ _ (sym c.item_at.ensures ∙ c.in-Unit.is) in
    let l = next_after (sample c.args.k c.args.x.now) c.loop-p.p in
    let e : c.in-Unit.u.next.0 ≡ next (sample c.args.k c.args.x.now) c.loop-p.p = ap (λ (u : NalUnit). u.next.0) u.2 in
    omega (arith, c.loop-p-test.true)

pub loop-p-preserved : goal.loop-p-preserved
loop-p-preserved c =
    let e = unit_is _ _ (sym c.item_at.ensures ∙ c.in-Unit.is) in
    rw e.2 (counting_unit _ _ _ _ _ _ _ c.loop-p.invariant c.loop-p-test.true e.0 e.1)

pub returns : goal.returns
returns c = c.good-2.ensures ∙ sym (counting_end _ _ _ _ _ _ _ c.loop-p.invariant c.loop-p-test.false)
