-- The front, the picture sets, the trailer and its sets, one after the other. Assumes nothing.
use native.Mathlib.Omega.{arith}
use mathlib.Core.Path.{◌∙◌}
use Rattle.record_rules.proofs.Numbers.{numbers_true}
use Rattle.record_rules.proofs.Fits.{fitting}
use Rattle.record_writer.proofs.Laws.{bytes_length, record_written}
use Rattle.record_writer.proofs.putting.put_record.Goals as goal

pub overflow_add-end : goal.overflow_add-end
overflow_add-end c = let a = c.args in omega (arith, bytes_length a.k a.f a.sequences.now a.pictures.now a.extensions.now, c.requires.2)

pub put_front-requires : goal.put_front-requires
put_front-requires c = let a = c.args in
    (numbers_true _ _ (fitting _ _ _ _ _ c.requires.0).numbers, omega (arith, bytes_length a.k a.f a.sequences.now a.pictures.now a.extensions.now, c.requires.2))

pub put_trailer-requires : goal.put_trailer-requires
put_trailer-requires c = let a = c.args in
    ((fitting _ _ _ _ _ c.requires.0).numbers.trailer, omega (arith, bytes_length a.k a.f a.sequences.now a.pictures.now a.extensions.now, c.requires.2, c.put_front.auto.out, c.put_bytes.auto.out))

pub overflow_add-end-2 : goal.overflow_add-end-2
overflow_add-end-2 c = let a = c.args in omega (arith, bytes_length a.k a.f a.sequences.now a.pictures.now a.extensions.now, c.requires.1, c.requires.2)

pub returns : goal.returns
returns c = let a = c.args in
    c.put_bytes-2.ensures
    ∙ rw (c.requires.1, c.put_trailer.ensures, c.put_bytes.ensures, c.put_front.ensures) (record_written a.out.now a.k a.f a.sequences.now a.pictures.now a.extensions.now c.requires.2)
