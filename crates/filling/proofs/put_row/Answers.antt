-- A row is written over four numbers. Assumes nothing.
use Rattle.std.proofs.Common.{append_assoc}
use Rattle.std.proofs.lemmas.List.{drop-drop}
use native.Mathlib.Omega.{arith}
use mathlib.Core.Path.{◌≡◌, sym}
use mathlib.Core.List.{List}
use Prim.Native.Nat.{ℕ, ◌+◌, ◌*◌}
use borrow.Rule.Slice.PartMut.{put_mid}
use lib.ListN.{length, take, drop}
use Rattle.words.specs.Buffers.{write_at}
use Rattle.filling.proofs.put_row.Goals as goal

written : (t : List ℕ) (p k : ℕ) (x y : List ℕ) → k ≡ length x → y ≡ x → put_mid p k t y ≡ write_at t p x
unfolding write_at
written t p k x y e f = rw (e, f, drop-drop (length x) p t) (sym (append_assoc (take p t) x (drop (p + length x) t)))

pub returns : goal.returns
returns c = written c.args.t.now (c.args.row * 4) _ _ _ (omega arith) c.copy_from_slice.ensures.after
