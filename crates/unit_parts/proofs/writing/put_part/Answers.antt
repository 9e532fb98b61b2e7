-- Two stores in a row. Assumes nothing.
use native.Mathlib.Omega.{arith}
use Prim.Native.Nat.{ℕ, ◌+◌}
use mathlib.Core.Path.{ap, ◌∙◌}
use mathlib.Core.List.{[], ◌∷◌}
use lib.ListN.{length-set}
use Rattle.words.specs.Buffers.{write_at}
use Rattle.unit_parts.proofs.Parts.{part_write}
use Rattle.unit_parts.proofs.writing.put_part.Goals as goal

pub bounds-out-at-2 : goal.bounds-out-at-2
bounds-out-at-2 c = simp length-set (omega arith)

pub returns : goal.returns
returns c = let a = c.args in
    part_write a.out.now a.at (c.sample_start-sample.result.0 + a.u.start.0) a.u.size c.requires.1
    ∙ ap (λ (start : ℕ). write_at a.out.now a.at ((start + a.u.start.0) ∷ a.u.size ∷ [])) c.sample_start-sample.ensures
