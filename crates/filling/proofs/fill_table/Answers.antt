-- The bundle's refusal, or the table of an accepted one. Assumes nothing.
use Rattle.std.proofs.lemmas.Result.{err_from_is_err_and}
use mathlib.Core.Path.{refl, sym}
use Rattle.bundles.specs.Bundles.{meaning}
use Rattle.filling.specs.Filling.{filling, table_after}
use Rattle.filling.proofs.fill_table.Goals as goal

pub fill_accepted-requires : goal.fill_accepted-requires
fill_accepted-requires c = sym (rw c.in_ok-check_bundle.was at c.check_bundle.ensures)

pub returns-in_err-check_bundle : goal.returns-in_err-check_bundle
unfolding filling table_after meaning
returns-in_err-check_bundle c =
    let p = err_from_is_err_and c.from_residual.result c.from_residual.ensures.1 in
    rw (p.1, p.2) (let e = rw c.in_err-check_bundle.was at c.check_bundle.ensures in rw (← e) (refl, refl))
