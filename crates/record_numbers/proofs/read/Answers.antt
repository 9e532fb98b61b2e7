-- The reader's refusal, then 29, then the numbers. Assumes nothing.
use Rattle.std.proofs.lemmas.Result.{err_from_is_err_and}
use native.Mathlib.Omega.{arith}
use lib.ListN.{length}
use Rattle.words.proofs.Buffers.{refuse}
use Rattle.record_numbers.proofs.Laws.{numbers_length, read_refused, read_short, read_done}
use Rattle.words.specs.Buffers.{overwrite}
use mathlib.Core.Path.{◌≡◌}
use Rattle.record_numbers.specs.Indices.{number_count}
use Rattle.record_numbers.proofs.read.Goals as goal

pub returns-then-out-lt-NUMBER_COUNT : goal.returns-then-out-lt-NUMBER_COUNT
returns-then-out-lt-NUMBER_COUNT c = let a = c.args in rw c.at.ensures (refuse (read_short a.kind a.s.now (length a.out.now) _ (rw c.in_ok-r.was at c.read.ensures) c.if-out-lt-NUMBER_COUNT.true))

pub returns-in_err-r : goal.returns-in_err-r
returns-in_err-r c =
    let p = err_from_is_err_and c.from_residual.result c.from_residual.ensures.1 in
    rw (p.1, p.2) (let a = c.args in refuse (read_refused a.kind a.s.now (length a.out.now) (rw c.in_err-r.was at c.read.ensures)))

pub returns : goal.returns
unfolding overwrite
returns c =
    let a = c.args in
    let l : length c.numbers_of-numbers.result ≡ number_count = rw c.numbers_of-numbers.ensures (numbers_length c.in_ok-r.r) in
    read_done a.kind a.s.now a.out.now c.in_ok-r.r (rw c.in_ok-r.was at c.read.ensures) (omega arith) c.numbers_of-numbers.ensures (rw (c.copy_from_slice.ensures.after, l))
