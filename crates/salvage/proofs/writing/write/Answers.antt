-- The units before the first top-level fault, and the drop of the tail. Assumes nothing.
use native.Mathlib.Omega.{arith}
use mathlib.Core.Path.{ap, sym, ◌∙◌}
use Rattle.words.specs.Buffers.{overwrite}
use Rattle.salvage.proofs.Answers.{cut_top, cut_length, new_is, list_fits, tail_fits, list_written}
use Rattle.salvage.proofs.writing.write.Goals as goal

pub slice_bounds-write_units-end : goal.slice_bounds-write_units-end
slice_bounds-write_units-end c = sym (cut_length _ _ _ c.requires.0)

pub write_units-c-requires : goal.write_units-c-requires
write_units-c-requires c = let p = c.requires in (cut_top _ _ _ p.0, rw (new_is _ _ _ p.0) p.1, list_fits _ _ _ p.0 c.args.list.now p.2)

pub put_tail-requires : goal.put_tail-requires
put_tail-requires c = λ l. let n = c.write_units-c.auto.list in let m = c.write_units-c.ensures.0 in let f = tail_fits c.args.k c.args.s.now _ c.requires.0 _ c.requires.2 l in omega arith

pub returns : goal.returns
returns c = let w = c.write_units-c.ensures in
    (w.1 ∙ ap (overwrite c.args.out.now) (new_is _ _ _ c.requires.0), c.put_tail.ensures ∙ rw w.2 (list_written _ _ _ c.requires.0 _ _ w.0 c.requires.2))
