-- States in rows. Assumes nothing.
--
--   row_past, row_saturated past the end of the rows stands the state before the first unit
--   Small                   a state whose numbers a row keeps as they are
--   put_same, put_other     a state in a row is there, and the other rows stay
use Prim.Native.Nat.{ℕ, min, ◌+◌, ◌*◌, ◌%◌, ◌≤◌, ◌<◌}
use mathlib.Core.Path.{◌≡◌, ap, sym, ◌∙◌}
use mathlib.Core.List.{List}
use native.Mathlib.Omega.{arith}
use mathlib.Core.Logic.{◌⊎◌, inl, inr, ⊎_elim}
use borrow.Author.Tests.{ltb-true, ltb-false, leb-true, leb-false}
use lib.Dec.{ltb, leb}
use lib.ListN.{length, get_or, get_or-eq_default}
use Rattle.words.specs.Buffers.{write_at, put}
use Rattle.words.proofs.Tests.{by_bool}
use Rattle.words.proofs.Buffers.{put_fits, put_not}
use Rattle.words.proofs.Rows.{write_before, write_here, write_after}
use Rattle.mark_rules.specs.declared.WalkState.{WalkState}
use Rattle.mark_rules.specs.States.{front}
use Rattle.marks.specs.Marks.{row_size, row_of, state_in}

pub row_past : (rows : List ℕ) (i : ℕ) → length rows ≤ i → state_in rows i ≡ front
unfolding state_in
row_past rows i h = rw (
  past (i * 5) (omega arith),
  past (i * 5 + 1) (omega arith),
  past (i * 5 + 2) (omega arith),
  past (i * 5 + 3) (omega arith),
  past (i * 5 + 4) (omega arith),
)
  where
    past : (m : ℕ) → i ≤ m → get_or rows m 0 ≡ 0
    past m l = get_or-eq_default rows 0 (omega arith)

-- a row number that saturates lies past the end of the rows
pub row_saturated : (rows : List ℕ) (i m : ℕ) → length rows ≤ m → state_in rows (min i m) ≡ state_in rows i
row_saturated rows i m h = by_bool (leb i m)
    (λ t. let l = leb-true i m t in let e : min i m ≡ i = omega arith in rw e)
    (λ t. let l = leb-false i m t in row_past rows (min i m) (omega arith) ∙ sym (row_past rows i (omega arith)))

-- the numbers of a state are below 2 to the 32nd
pub record Small (s : WalkState) : Type 0 where
  pub place : s.place < 4294967296
  pub until : s.until < 4294967296
  pub count : s.count < 4294967296
  pub bytes : s.bytes < 4294967296
  pub extractors : s.extractors < 4294967296

kept_small : (n : ℕ) → n < 4294967296 → n % 4294967296 ≡ n
kept_small n h = omega arith

module _ (rows : List ℕ) (i : ℕ) (s : WalkState) where
  -- the row is there
  module _ (r : i * 5 + 5 ≤ length rows) where
    there : (j : ℕ) → j < 5 → get_or (write_at rows (i * 5) (row_of s)) (i * 5 + j) 0 ≡ get_or (row_of s) j 0
    there j h = write_here rows (i * 5) (row_of s) r j h

    first : get_or (write_at rows (i * 5) (row_of s)) (i * 5) 0 ≡ get_or (row_of s) 0 0
    first = let e : i * 5 ≡ i * 5 + 0 = omega arith in ap (λ (m : ℕ). get_or (write_at rows (i * 5) (row_of s)) m 0) e ∙ there 0 (omega arith)

    pub put_same : Small s → state_in (put rows (i * row_size) (row_of s)) i ≡ s
    unfolding state_in
    put_same c = rw (
      put_fits rows (i * 5) (row_of s) r,
      first,
      there 1 (omega arith),
      there 2 (omega arith),
      there 3 (omega arith),
      there 4 (omega arith),
      kept_small _ c.place,
      kept_small _ c.until,
      kept_small _ c.count,
      kept_small _ c.bytes,
      kept_small _ c.extractors,
    )

    outside : (m : ℕ) → (m < i * 5) ⊎ (i * 5 + 5 ≤ m) → get_or (write_at rows (i * 5) (row_of s)) m 0 ≡ get_or rows m 0
    outside m h = ⊎_elim (λ l. write_before rows (i * 5) (row_of s) r m l) (λ l. write_after rows (i * 5) (row_of s) r m l) h

  apart : (j c : ℕ) → (j ≡ i → ⊥) → c < 5 → (j * 5 + c < i * 5) ⊎ (i * 5 + 5 ≤ j * 5 + c)
  apart j c h l = by_bool (ltb j i)
      (λ t. let k = ltb-true j i t in inl (omega arith))
      (λ t. let k = ltb-false j i t in inr (omega arith))

  pub put_other : (j : ℕ) → (j ≡ i → ⊥) → state_in (put rows (i * row_size) (row_of s)) j ≡ state_in rows j
  unfolding state_in
  put_other j h = by_bool (leb (i * 5 + 5) (length rows))
      (λ t. let r = leb-true (i * 5 + 5) (length rows) t in rw (
        put_fits rows (i * 5) (row_of s) r,
        outside r (j * 5) (⊎_elim (λ l. inl (omega arith)) (λ l. inr (omega arith)) (apart j 0 h (omega arith))),
        outside r (j * 5 + 1) (apart j 1 h (omega arith)),
        outside r (j * 5 + 2) (apart j 2 h (omega arith)),
        outside r (j * 5 + 3) (apart j 3 h (omega arith)),
        outside r (j * 5 + 4) (apart j 4 h (omega arith)),
      ))
      (λ t. rw (put_not rows (i * 5) (row_of s) (leb-false (i * 5 + 5) (length rows) t)))
