-- `program_input::filled::read_full`: each read puts what it takes right after what was read before. Assumes nothing.
use Rattle.std.proofs.Common.{◌+◌, ◌-◌, ◌++◌, rules, arith, length, take, sym, ap, ◌∙◌, subst, le_refl}
use Rattle.std.proofs.lemmas.Slice.{take-put_mid_below}
use Rattle.std.specs.Io.KnownBytes.{Consumes}
use Rattle.std.proofs.KnownBytes.{Consumes-trans}
use borrow.Rule.Slice.PartMut.{put_mid}
use Rattle.program_input.proofs.BufferParts.{take_split, slice_range-put_mid}
use Rattle.program_input.proofs.filled.read_full.Goals as goal

pub loop-done-preserved : goal.loop-done-preserved
loop-done-preserved g c =
    let l = c.loop-done in
    let n = c.in_ok-n.n in
    let room = length l.buffer - l.done in
    let within = l.invariant.1 in
    let part = slice_range-put_mid l.done room n l.buffer c.read.new.buf within c.in_ok-n.ensures.bound.0 in
    let joined = take_split l.done (l.done + n) l.buffer (put_mid l.done room l.buffer c.read.new.buf) (omega arith) (take-put_mid_below _ _ _ _ _ (le_refl _) within) in
    (search rules, search rules, subst (Consumes _ _) (ap (λ s. take l.done l.buffer ++ s) (sym part) ∙ joined) (Consumes-trans _ _ _ _ _ l.invariant.2 c.in_ok-n.ensures.bytes.0))
