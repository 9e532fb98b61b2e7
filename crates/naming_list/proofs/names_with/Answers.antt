-- By what the extractor names. Assumes nothing.
use mathlib.Core.Path.{sym, ap, ◌∙◌}
use Rattle.numbers.specs.Faults.{numbered}
use Rattle.tables.specs.Tables.{layout_in}
use Rattle.links.proofs.Naming.{naming_refused, naming_sample}
use Rattle.naming_list.proofs.Namers.{names_refused, names_sample_lem}
use Rattle.naming_list.proofs.names_with.Goals as goal

pub returns-in-Err : goal.returns-in-Err
returns-in-Err c = let a = c.args in
    let w = naming_refused (layout_in a.t.now) a.n.0 a.f.track_ref_index a.f.sample_offset (sym c.name.ensures ∙ ap numbered c.in-Err.is) in
    sym (names_refused (layout_in a.t.now) a.s.0 a.n.0 a.f w.0 w.1)

pub returns-in-Ok : goal.returns-in-Ok
returns-in-Ok c = let a = c.args in
    let w = naming_sample (layout_in a.t.now) a.n.0 a.f.track_ref_index a.f.sample_offset (sym c.name.ensures ∙ ap numbered c.in-Ok.is) in
    sym (names_sample_lem (layout_in a.t.now) a.s.0 a.n.0 a.f w.0 w.1)
