-- `program_input::buffers::first` follows its definition. Assumes nothing.
use borrow.Author.Tests.{ltb-true, ltb-false}
use lib.ListN.{length}
use lib.Seq.{take-length}
use native.Mathlib.Omega.{arith}
use mathlib.Core.Path.{◌≡◌}
use Rattle.words.specs.Tests.{◌<?◌}
use Rattle.words.proofs.Tests.{by_bool}
use Rattle.program_input.specs.Input.{front}
use Rattle.program_input.proofs.buffers.first.Goals as goal

pub returns : goal.returns
unfolding front
returns c = let s = c.args.s.now in let n = c.args.n in by_bool (length s <? n)
    (λ t. let k = ltb-true (length s) n t in let e : c.min.result ≡ length s = omega arith in rw (e, t, take-length s))
    (λ t. let k = ltb-false (length s) n t in let e : c.min.result ≡ n = omega arith in rw (e, t))
