-- Each return is a case of the answer; nothing is written before the rooms of the new sample and of the list are judged, and these only after
-- the naming list's own call. Assumes nothing.
use Rattle.std.proofs.lemmas.Result.{err_from_is_err_and}
use native.Mathlib.Omega.{arith}
use mathlib.Core.Path.{◌≡◌, ap, sym, ◌∙◌}
use mathlib.Core.Logic.{inl, inr}
use Prim.Native.Nat.{◌≤◌}
use lib.ListN.{length}
use Rattle.words.proofs.Buffers.{refuse_all}
use Rattle.numbers.specs.Answers.{answer_of}
use Rattle.units.specs.Units.{sample}
use Rattle.bundles.specs.Recordings.{Recording, sample_count}
use Rattle.tables.specs.Tables.{recording_in}
use Rattle.resolution_rules.specs.Resolving.{sample_of}
use Rattle.resolution_rules.specs.Calls.{number_fault}
use Rattle.delivery.proofs.Steps.{sample_from}
use Rattle.delivery.proofs.Folds.{content_most}
use Rattle.naming_list.proofs.Listings.{names_beside}
use Rattle.judging.proofs.Numbers.{no_fault, some_fault}
use Rattle.salvage.proofs.Answers.{numbered_bad, numbered_short, names_refused, names_done, numbered_done}
use Rattle.salvage.proofs.salvage_numbered.Goals as goal
use Rattle.salvage.proofs.salvage_numbered.Goals.{After-sample_bytes-s, In_ok-check_number, Start}

abbrev R : Start → Recording
R s = recording_in s.args.b.now s.args.t.now

-- the number is good
sound : (c : In_ok-check_number) → number_fault (sample_count (recording_in c.args.b.now c.args.t.now).layout) c.args.n.0 ≡ 0
unfolding recording_in
sound c = no_fault _ (rw c.sample_count.ensures at c.check_number.ensures) c.in_ok-check_number.was

abbrev R_After_sample_bytes : After-sample_bytes-s → Recording
R_After_sample_bytes s = recording_in s.args.b.now s.args.t.now

-- the sample, its length, and what it comes to
same : (c : After-sample_bytes-s) → sample c.track_of-k.result c.sample_bytes-s.result.now ≡ sample_of (R_After_sample_bytes c) c.args.n.0
same c = let a = c.args in sample_from a.b.now a.t.now a.n.0 c.track_of-k.ensures c.sample_bytes-s.ensures

small : (c : After-sample_bytes-s) → length c.sample_bytes-s.result.now ≤ length c.args.b.now
small c = let a = c.args in rw c.sample_bytes-s.ensures (content_most a.b.now a.t.now a.n.0)

pub returns-in_err-check_number : goal.returns-in_err-check_number
unfolding recording_in
returns-in_err-check_number c =
    let p = err_from_is_err_and c.from_residual.result c.from_residual.ensures.1 in
    let f = some_fault _ (rw c.sample_count.ensures at c.check_number.ensures) c.in_err-check_number.was in
    rw (p.1, p.2, f.2) (refuse_all (numbered_bad (R (goal.at.returns-in_err-check_number c).Start) _ c.args.out.now c.args.changes.now c.args.names.now f.0 f.1))

pub plan_of-plan-requires : goal.plan_of-plan-requires
plan_of-plan-requires c = let l = small (goal.at.plan_of-plan-requires c).After-sample_bytes-s in let m = c.requires.0 in omega arith

pub returns-then-out-plan : goal.returns-then-out-plan
returns-then-out-plan c = let e = c.plan_of-plan.ensures.1 in let h = c.if-out-plan.true in
    rw c.at.ensures (refuse_all (numbered_short (R (goal.at.returns-then-out-plan c).Start) _ c.args.out.now c.args.changes.now c.args.names.now (sound (goal.at.returns-then-out-plan c).In_ok-check_number) _ (same (goal.at.returns-then-out-plan c).After-sample_bytes-s) (inl (omega arith))))

pub returns-then-changes-plan : goal.returns-then-changes-plan
returns-then-changes-plan c = let e = c.plan_of-plan.ensures.2 in let h = c.if-changes-plan.true in
    rw c.at-then-changes-plan.ensures (refuse_all (numbered_short (R (goal.at.returns-then-changes-plan c).Start) _ c.args.out.now c.args.changes.now c.args.names.now (sound (goal.at.returns-then-changes-plan c).In_ok-check_number) _ (same (goal.at.returns-then-changes-plan c).After-sample_bytes-s) (inr (omega arith))))

pub write-requires : goal.write-requires
write-requires c = let e = c.plan_of-plan.ensures in let h = c.if-out-plan.false in let g = c.if-changes-plan.false in (e.0, omega arith, omega arith)

pub returns-in_err-size : goal.returns-in_err-size
returns-in_err-size c =
    let p = err_from_is_err_and c.from_residual-in_err-size.result c.from_residual-in_err-size.ensures.1 in
    rw (p.1, p.2) (let w = rw (names_beside c.args.b.now c.args.t.now c.args.n.0 (length c.args.names.now) c.requires.0 c.requires.1).0 at c.names_in.ensures.0 in
    let n = names_refused (R (goal.at.returns-in_err-size c).Start) c.args.n.0 c.args.out.now c.args.changes.now c.args.names.now (sound (goal.at.returns-in_err-size c).In_ok-check_number) _ (same (goal.at.returns-in_err-size c).After-sample_bytes-s) _ _ w (ap answer_of c.in_err-size.was) in
    rw n.1 (refuse_all n.0))

pub returns : goal.returns
returns c = let w = rw (names_beside c.args.b.now c.args.t.now c.args.n.0 (length c.args.names.now) c.requires.0 c.requires.1).0 at c.names_in.ensures.0 in
    let n = names_done (R (goal.at.returns c).Start) c.args.n.0 c.args.out.now c.args.changes.now c.args.names.now (sound (goal.at.returns c).In_ok-check_number) _ (same (goal.at.returns c).After-sample_bytes-s) _ _ w (ap answer_of c.in_ok-size.was) in
    let e = c.plan_of-plan.ensures in
    let v = c.write.ensures in
    numbered_done (R (goal.at.returns c).Start) c.args.n.0 c.args.out.now c.args.changes.now c.args.names.now (sound (goal.at.returns c).In_ok-check_number) _ (same (goal.at.returns c).After-sample_bytes-s) _ _ _ _ _ _ e.1 e.2 n.0 c.if-out-plan.false c.if-changes-plan.false n.1 v.0 v.1 n.2
