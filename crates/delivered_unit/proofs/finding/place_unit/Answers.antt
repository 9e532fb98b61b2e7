-- A refusal is passed on; a unit that was found lies in its sample, and its sample in the bundle. Assumes nothing.
use Rattle.std.proofs.lemmas.Result.{err_from_is_err_and}
use native.Mathlib.Omega.{arith}
use mathlib.Core.Path.{◌≡◌, sym, ap, ◌∙◌}
use Rattle.words.specs.Refusals.{ok}
use Rattle.tables.specs.Tables.{recording_in, start_in}
use Rattle.resolution_rules.specs.Calls.{resolve_unit, placed_by}
use Rattle.delivery.proofs.Folds.{content_most}
use Rattle.delivery.specs.Deliveries.{span_for}
use Rattle.delivered_unit.specs.Answers.{unit_answer_of}
use Rattle.delivered_unit.proofs.Answered.{found_inside, found_there}
use Rattle.delivered_unit.proofs.finding.place_unit.Goals as goal
use Rattle.delivered_unit.proofs.finding.place_unit.Goals.{In_ok-u}

-- the unit that was found
found : (c : In_ok-u) → let a = c.args in resolve_unit (recording_in a.b.now a.t.now) a.n.0 a.i ≡ ok (span_for c.in_ok-u.u)
found c = sym c.find_unit.ensures ∙ ap unit_answer_of c.in_ok-u.was

pub find_unit-requires : goal.find_unit-requires
find_unit-requires c = c.requires.0

pub overflow_add-start : goal.overflow_add-start
unfolding recording_in
overflow_add-start c = let a = c.args in
    let r = recording_in a.b.now a.t.now in
    let i = found_inside r a.n.0 a.i (span_for c.in_ok-u.u) (found (goal.at.overflow_add-start c).In_ok-u) in
    let w = found_there r a.n.0 a.i (span_for c.in_ok-u.u) (found (goal.at.overflow_add-start c).In_ok-u) in
    let s = c.requires.1 c.in_ok-u.u.sample.0 w.0 w.1 in
    let m = content_most a.b.now a.t.now c.in_ok-u.u.sample.0 in
    let l = c.requires.0 in
    let e = c.sample_start-sample.ensures in
    omega arith

pub returns-in_err-u : goal.returns-in_err-u
returns-in_err-u c =
    let p = err_from_is_err_and c.from_residual.result c.from_residual.ensures.1 in
    rw (p.1, p.2) (let a = c.args in sym (ap (placed_by (start_in a.t.now)) (sym c.find_unit.ensures ∙ ap unit_answer_of c.in_err-u.was)))

pub returns : goal.returns
returns c = rw (found (goal.at.returns c).In_ok-u, c.sample_start-sample.ensures)
