-- Without a trailer, and where it is absent, nothing is written; else its values. Assumes nothing.
use native.Mathlib.Omega.{arith}
use mathlib.Core.Path.{◌∙◌}
use mathlib.Core.Logic.{inl, inr}
use Rattle.record_rules.specs.Trailers.{high_bytes}
use Rattle.words.proofs.Buffers.{write_none, put_fits}
use Rattle.record_writer.proofs.putting.put_trailer.Goals as goal

pub returns-in-None : goal.returns-in-None
returns-in-None c = elim c.in-None.is [ inl e ↦ rw e (write_none _ _) | inr e ↦ rw e (write_none _ _) ]

pub returns-in-Present : goal.returns-in-Present
returns-in-Present c = let a = c.args in
    let r = rw c.in-Present.is at c.requires.1 in
    c.put_bytes.ensures
    ∙ rw (c.high_bytes-values.ensures, c.in-Present.is) (put_fits a.out.now a.at (high_bytes c.in-Present.high) (omega arith))
