-- A refused sample gives nothing, a good one what it delivers. Assumes nothing.
use native.Mathlib.Omega.{arith}
use mathlib.Core.Path.{◌≡◌, sym, ap, ◌∙◌}
use Prim.Native.Nat.{ℕ, ◌+◌}
use lib.ListN.{length}
use mathlib.Core.List.{List}
use Rattle.words.specs.Refusals.{ok}
use Rattle.words.specs.Buffers.{write_at}
use Rattle.words.proofs.Buffers.{write_none}
use Rattle.tables.specs.Tables.{recording_in}
use Rattle.resolution_rules.specs.Resolving.{delivered, judged}
use Rattle.resolution_rules.specs.Calls.{resolve}
use Rattle.resolution_rules.specs.Ranges.{given}
use Rattle.delivery.proofs.Steps.{sample_from}
use Rattle.verdicts.specs.Kept.{kept_answer}
use Rattle.resolution.specs.Framing.{framed}
use Rattle.resolution.specs.declared.writing.Framing.TheVariants.{Lengths}
use Rattle.resolution.proofs.Ranges.{kept_refused, kept_good}
use Rattle.resolution.proofs.joining.write_sample.Goals as goal
use Rattle.resolution.proofs.joining.write_sample.Goals.{In-Ok}

-- the sample is good, and gives what it delivers
good : (c : In-Ok) → let a = c.args in let r = recording_in a.b.now a.t.now in
    (judged r a.n.0 ≡ ok tt) × (given (resolve r a.n.0) ≡ framed Lengths r (delivered r a.n.0))
good c = kept_good c.args.b.now c.args.t.now c.args.n.0 c.requires.0 c.requires.1 c.requires.2 (sym (ap kept_answer c.in-Ok.is) ∙ c.kept_verdict.ensures)

pub write_units_from-requires : goal.write_units_from-requires
write_units_from-requires c = let a = c.args in let g = good (goal.at.write_units_from-requires c).In-Ok in
    (sample_from a.b.now a.t.now a.n.0 c.track_of-k.ensures c.sample_bytes-x.ensures, g.0, rw (← g.1) c.requires.3)

pub returns-in-Err : goal.returns-in-Err
returns-in-Err c = let g = kept_refused c.args.b.now c.args.t.now c.args.n.0 c.requires.0 c.requires.1 c.requires.2 (sym (ap kept_answer c.in-Err.is) ∙ c.kept_verdict.ensures) in
    (rw g (omega arith), rw g (write_none _ _))

pub returns-in-Ok : goal.returns-in-Ok
returns-in-Ok c = let g = good (goal.at.returns-in-Ok c).In-Ok in let w = c.write_units_from.ensures in
    (w.0 ∙ ap (λ (x : List ℕ). c.args.from + length x) (sym g.1), w.1 ∙ ap (write_at c.args.out.now c.args.from) (sym g.1))
