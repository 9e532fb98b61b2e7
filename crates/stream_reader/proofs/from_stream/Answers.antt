-- By the length size, and what is measured; then what is written is what was measured. Assumes nothing.
use Rattle.std.proofs.lemmas.Result.{err_from_is_err_and}
use native.Mathlib.Omega.{arith}
use mathlib.Core.Path.{◌≡◌, sym, ap, ◌∙◌}
use lib.ListN.{length}
use Rattle.words.specs.Buffers.{within}
use Rattle.words.proofs.Buffers.{refuse}
use Rattle.numbers.specs.Sizes.{in_bytes}
use Rattle.numbers.specs.Answers.{answer_of}
use Rattle.byte_streams.specs.Reading.{units_in, sample_made, from_stream}
use Rattle.byte_streams.proofs.Samples.{call_unknown, call_known}
use Rattle.stream_reader.proofs.Calls.{counted_refused, Read, read_units, accept_count}
use Rattle.stream_reader.proofs.from_stream.Goals as goal
use Rattle.stream_reader.proofs.from_stream.Goals.{In_ok-c, In-Some}

-- the length size is known
known :
    (c : In-Some) →
    let a = c.args in
    let L = in_bytes c.in-Some.l in
    from_stream a.n a.s.now (length a.out.now) ≡ within (length a.out.now) (sample_made L (units_in L a.s.now))
known c =
    let a = c.args in
    call_known a.n a.s.now (length a.out.now) c.in-Some.l (sym c.from_number.ensures ∙ c.in-Some.is)

-- what was measured is what is written
read :
    (c : In_ok-c) →
    let a = c.args in
    Read (in_bytes c.in-Some.l) (length a.out.now) a.s.now c.zeros_end-first.result c.in_ok-c.c
read c =
    let a = c.args in
    let L = in_bytes c.in-Some.l in
    let first = c.zeros_end-first in
    read_units L (length a.out.now) a.s.now first.result first.ensures c.measure.ensures (ap answer_of c.in_ok-c.was)

pub returns-in_default : goal.returns-in_default
returns-in_default c = let a = c.args in
    rw c.at.ensures (refuse (call_unknown a.n a.s.now (length a.out.now) (sym c.from_number.ensures ∙ c.in_default.is)))

pub write_units-requires : goal.write_units-requires
write_units-requires c = let r = read (goal.at.write_units-requires c).In_ok-c in
    (c.zeros_end-first.ensures, r.units, r.size, let f = r.fits in let z = r.size in omega arith)

pub returns-in_err-c : goal.returns-in_err-c
returns-in_err-c c =
    let p = err_from_is_err_and c.from_residual.result c.from_residual.ensures.1 in
    rw (p.1, p.2) (refuse (known (goal.at.returns-in_err-c c).In-Some ∙ counted_refused _ c.measure.ensures (ap answer_of c.in_err-c.was)))

pub returns : goal.returns
returns c = let r = read (goal.at.returns c).In_ok-c in
    accept_count (known (goal.at.returns c).In-Some ∙ r.answer) r.size c.write_units.ensures
