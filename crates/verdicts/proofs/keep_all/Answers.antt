-- The judgements of samples 1 to the last. Assumes nothing.
use mathlib.Core.Path.{ap, sym, ◌∙◌}
use Rattle.bundles.specs.Recordings.{sample_count}
use Rattle.tables.specs.Tables.{layout_in}
use Rattle.verdicts.specs.Kept.{judgements_between}
use Rattle.verdicts.proofs.Keeping.{upto_between}
use Rattle.verdicts.proofs.keep_all.Goals as goal

pub returns : goal.returns
returns c =
    let a = c.args in
    c.keep_range.ensures.1 ∙ ap (judgements_between a.b.now a.t.now 1) c.sample_count-count.ensures
    ∙ sym (upto_between a.b.now a.t.now (sample_count (layout_in a.t.now)))
