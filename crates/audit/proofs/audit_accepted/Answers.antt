-- 29 is known by the count; nothing is written before. Assumes nothing.
use native.Mathlib.Omega.{arith}
use mathlib.Core.Path.{◌≡◌, ap, sym, ◌∙◌}
use mathlib.Core.List.{List}
use Prim.Native.Nat.{ℕ}
use Rattle.words.proofs.Buffers.{refuse, accept}
use Rattle.bundles.specs.Recordings.{Recording, sample_count}
use Rattle.tables.specs.Tables.{recording_in}
use Rattle.tables.proofs.Layouts.{samples_most}
use Rattle.audit_rules.proofs.Lines.{lines_length}
use Rattle.audit_rules.proofs.Calls.{lines_not, tally_not, lines_fit, tally_fits}
use Rattle.verdicts.specs.Kept.{with_judgements}
use Rattle.verdicts.proofs.Keeping.{all_recording}
use Rattle.audit_rules.specs.Auditing.{tally}
use Rattle.audit.proofs.Answered.{count_in_table}
use Rattle.audit.proofs.Steps.{judgements_kept}
use Rattle.audit.proofs.audit_accepted.Goals as goal
use Rattle.audit.proofs.audit_accepted.Goals.{After-sample_count-count}

abbrev R : After-sample_count-count → Recording
R c = recording_in c.args.b.now c.args.t.now

count : (c : After-sample_count-count) → c.sample_count-count.result ≡ sample_count (R c).layout
count c = count_in_table c.args.b.now c.args.t.now c.sample_count-count.ensures

-- the judgements that are kept change nothing of what the table says
same : (c : After-sample_count-count) {now : List ℕ} → now ≡ with_judgements c.args.b.now c.args.t.now → recording_in c.args.b.now now ≡ R c
same c e = let a = c.args in ap (recording_in a.b.now) e ∙ all_recording a.b.now a.t.now

pub overflow_mul-size : goal.overflow_mul-size
overflow_mul-size c = let h = samples_most c.args.t.now in let e = c.sample_count-count.ensures in omega arith

pub returns-then-out-size : goal.returns-then-out-size
returns-then-out-size c = let h = rw (count (goal.at.returns-then-out-size c).After-sample_count-count) at c.if-out-size.true in (rw c.at.ensures (refuse (lines_not _ _ h)), rw c.at.ensures (sym (tally_not _ _ h)))

pub audit_samples-tally-requires : goal.audit_samples-tally-requires
audit_samples-tally-requires c = let e = c.judge_all.ensures in
    (judgements_kept c.args.b.now c.args.t.now _ e c.requires.0 c.requires.1, count (goal.at.audit_samples-tally-requires c).After-sample_count-count ∙ ap (λ (r : Recording). sample_count r.layout) (sym (same (goal.at.audit_samples-tally-requires c).After-sample_count-count e)), c.if-out-size.false)

pub returns : goal.returns
returns c = let h = rw (count (goal.at.returns c).After-sample_count-count) at c.if-out-size.false in
    let r = same (goal.at.returns c).After-sample_count-count c.judge_all.ensures in
    let e = c.audit_samples-tally.ensures in
    (rw (count (goal.at.returns c).After-sample_count-count, ← lines_length (R (goal.at.returns c).After-sample_count-count)) (accept (lines_fit _ _ h) (rw r at e.1)), rw (e.0 ∙ ap tally r) (sym (tally_fits _ _ h)))
