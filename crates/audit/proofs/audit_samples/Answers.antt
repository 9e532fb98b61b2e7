-- The laws of a loop over the samples, at the calls' answers. Assumes nothing.
use mathlib.Core.Path.{ap, ◌∙◌}
use Prim.Native.Nat.{◌<◌, ◌≤◌}
use Rattle.tally.specs.Tallies.{raised_by}
use Rattle.tally.specs.declared.Outcome.{Outcome}
use Rattle.tables.specs.Tables.{recording_in}
use Rattle.bundles.specs.Recordings.{sample_count}
use Rattle.audit.proofs.Steps.{auditing_start, auditing_more, auditing_end}
use Rattle.audit.proofs.audit_samples.Goals as goal

pub loop-done-init : goal.loop-done-init
loop-done-init c = auditing_start c.args.b.now c.args.t.now c.args.out.now _ (rw c.requires.1 at c.requires.2) c.start-tally.ensures

pub loop-done-preserved : goal.loop-done-preserved
loop-done-preserved c =
    let l = c.loop-done in
    let r = recording_in c.args.b.now c.args.t.now in
    let more : l.done < sample_count r.layout = rw c.requires.1 at c.loop-done-test.true in
    auditing_more r c.args.out.now l.done l.out l.tally l.invariant more _ _ c.audit_sample-outcome.ensures.1
    (c.raise.ensures ∙ ap (λ (o : Outcome). raised_by o l.tally) c.audit_sample-outcome.ensures.0)

pub returns : goal.returns
returns c =
    let l = c.loop-done in
    let r = recording_in c.args.b.now c.args.t.now in
    let done : sample_count r.layout ≤ l.done = rw c.requires.1 at c.loop-done-test.false in
    auditing_end r c.args.out.now l.done l.out l.tally l.invariant done
