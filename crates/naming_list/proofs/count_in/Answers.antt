-- A sample that is not well formed has none. Assumes nothing.
use Prim.Native.Nat.{◌≤◌}
use native.Mathlib.Omega.{arith}
use mathlib.Core.Path.{◌≡◌, sym, ap, ◌∙◌}
use lib.ListN.{length}
use Rattle.units.specs.Units.{sample}
use Rattle.samples.specs.Check.{answer_of}
use Rattle.tables.specs.Tables.{recording_in}
use Rattle.resolution_rules.specs.Resolving.{sample_of}
use Rattle.delivery.proofs.Steps.{sample_from}
use Rattle.delivery.proofs.Folds.{content_most}
use Rattle.naming_list.proofs.Namers.{namers_formed, namers_not}
use Rattle.naming_list.proofs.count_in.Goals as goal
use Rattle.naming_list.proofs.count_in.Goals.{After-check_sample}

-- the sample
same : (c : After-check_sample) → let a = c.args in sample c.track_of-k.result c.sample_bytes-x.result.now ≡ sample_of (recording_in a.b.now a.t.now) a.n.0
same c = let a = c.args in sample_from a.b.now a.t.now a.n.0 c.track_of-k.ensures c.sample_bytes-x.ensures

pub put_namers-requires : goal.put_namers-requires
put_namers-requires c = let a = c.args in
    let m = content_most a.b.now a.t.now a.n.0 in
    let l : length c.sample_bytes-x.result.now ≤ length a.b.now = rw c.sample_bytes-x.ensures m in
    let s = c.requires in
    (sym c.check_sample.ensures ∙ ap answer_of c.in-Ok.is, omega arith, omega arith)

pub returns-in-Err : goal.returns-in-Err
returns-in-Err c = let a = c.args in
    sym (ap length (namers_not (recording_in a.b.now a.t.now) a.s.0 a.n.0 _ (same (goal.at.returns-in-Err c).After-check_sample) (sym c.check_sample.ensures ∙ ap answer_of c.in-Err.is)))

pub returns-in-Ok : goal.returns-in-Ok
unfolding recording_in
returns-in-Ok c = let a = c.args in
    c.put_namers.ensures.0 ∙ ap length (namers_formed (recording_in a.b.now a.t.now) a.s.0 a.n.0 _ (same (goal.at.returns-in-Ok c).After-check_sample) (sym c.check_sample.ensures ∙ ap answer_of c.in-Ok.is))
