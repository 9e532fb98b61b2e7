-- The unit alone. Assumes nothing.
use Rattle.std.proofs.lemmas.Result.{err_from_is_err_and}
use Rattle.delivered_unit.proofs.Answered.{span_answer_lem}
use Rattle.delivered_unit.proofs.finding.find_unit.Goals as goal

pub returns-in_err-u : goal.returns-in_err-u
returns-in_err-u c =
    let p = err_from_is_err_and c.from_residual.result c.from_residual.ensures.1 in
    rw (p.1, p.2) (rw (span_answer_lem _ _ _, ← c.find_delivery.ensures, c.in_err-u.was))

pub returns : goal.returns
returns c = rw (span_answer_lem _ _ _, ← c.find_delivery.ensures, c.in_ok-u.was)
