-- Each return is a case of the answer. Assumes nothing.
use Rattle.std.proofs.lemmas.Result.{err_from_is_err_and}
use mathlib.Core.Path.{sym}
use Rattle.links.proofs.Cases.{name_link, name_found}
use Rattle.links.proofs.name.Goals as goal

pub returns-in_err-link_fault : goal.returns-in_err-link_fault
returns-in_err-link_fault c =
    let p = err_from_is_err_and c.from_residual.result c.from_residual.ensures.1 in
    rw (p.1, p.2) (name_link _ _ _ _ _ c.in_err-link_fault.ensures)

pub returns : goal.returns
returns c = rw (c.ok_or.ensures.value, c.sample_named.ensures) (name_found _ _ _ _ (sym c.in_ok-link_fault.ensures))
