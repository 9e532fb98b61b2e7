-- 23, 24, or a copy of the sample named. Assumes nothing.
use Rattle.std.proofs.lemmas.Result.{err_from_is_err_and}
use mathlib.Core.Path.{sym, ap, ◌∙◌}
use Rattle.numbers.specs.Faults.{numbered}
use Rattle.tables.specs.Tables.{recording_in}
use Rattle.delivery.proofs.Steps.{sample_from}
use Rattle.verdicts.proofs.Copied.{extract_refused, extract_named}
use Rattle.verdicts.proofs.measuring.extract.Goals as goal

pub copy_known-requires : goal.copy_known-requires
copy_known-requires c = let a = c.args in
    rw (c.known.ensures, sample_from a.b.now a.t.now _ c.track_of-k.ensures c.sample_bytes-z.ensures) (c.requires _)

pub returns-in_err-m : goal.returns-in_err-m
unfolding recording_in
returns-in_err-m c =
    let p = err_from_is_err_and c.from_residual.result c.from_residual.ensures.1 in
    rw (p.1, p.2) (let a = c.args in extract_refused (recording_in a.b.now a.t.now) a.n.0 a.f (sym c.name.ensures ∙ ap numbered c.in_err-m.was))

pub returns : goal.returns
unfolding recording_in
returns c = let a = c.args in
    c.copy_known.ensures
    ∙ rw (sample_from a.b.now a.t.now _ c.track_of-k.ensures c.sample_bytes-z.ensures) (extract_named (recording_in a.b.now a.t.now) a.n.0 a.f (sym c.name.ensures ∙ ap numbered c.in_ok-m.was))
