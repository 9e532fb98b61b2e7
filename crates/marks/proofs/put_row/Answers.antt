-- A row is written where it lies in the rows. Assumes nothing.
use native.Mathlib.Omega.{arith}
use mathlib.Core.Path.{refl, sym, ◌∙◌}
use Rattle.std.proofs.lemmas.Slice.{put_mid-paste}
use Rattle.words.proofs.Buffers.{copy_done, put_fits, put_not}
use Rattle.marks.specs.Marks.{row_of}
use Rattle.marks.proofs.put_row.Goals as goal

pub returns-else-i-rows : goal.returns-else-i-rows
returns-else-i-rows c = sym (put_not _ _ (row_of c.args.s) (omega arith))

pub returns-then-i-rows : goal.returns-then-i-rows
returns-then-i-rows c = let s = row_of c.args.s in
    put_mid-paste _ _ _ _ s 5 (c.copy_from_slice.ensures.after ∙ rw (c.kept.ensures, c.kept-then-i-rows.ensures, c.kept-then-i-rows-2.ensures, c.kept-then-i-rows-3.ensures, c.kept-then-i-rows-4.ensures)) (omega arith) refl
    ∙ copy_done _ s _
    ∙ sym (put_fits _ _ s (omega arith))
