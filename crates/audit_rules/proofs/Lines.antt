-- The lines of an audit: how long they are, and which stands where. Assumes nothing.
--
--   size_thirteen                   the parts of a line are 13 bytes
--   line_bytes_length, line_length  a line is 13 bytes
--   joined_length, joined_at        joined lists of 13 bytes: their length, and which stands where
--   lines_length                    all lines
--   line_at_lem                     line n stands at 13 · (n - 1)
--   line_refused, line_good         the line of a sample that is refused, and of one that is good
use Prim.Native.Nat.{ℕ, zero, suc, ◌+◌, ◌-◌, ◌*◌, ◌≤◌, ◌<◌}
use mathlib.Core.Path.{◌≡◌, refl, ap, ◌∙◌}
use mathlib.Core.List.{List, [], ◌∷◌, ◌++◌, append-nil}
use native.Mathlib.Omega.{arith}
use lib.ListN.{length, drop, length-append}
use lib.Seq.{take_at, drop_at}
use Rattle.words.specs.Refusals.{Verdict, refused, ok}
use Rattle.words.specs.Lists.{each, upto}
use Rattle.words.specs.Bytes.{bytes, part}
use Rattle.words.proofs.Lists.{each_append}
use Rattle.words.proofs.Rows.{upto_split}
use Rattle.words.proofs.Bytes.{bytes_length}
use Rattle.bundles.specs.Recordings.{Recording, sample_count}
use Rattle.resolution_rules.specs.Resolving.{judged, delivered}
use Rattle.numbers.specs.Places.{place_size}
use Rattle.audit_rules.specs.Auditing.{refusal_size, units_size, line_size, line_bytes, line_of, lines}

pub size_thirteen : line_size ≡ 13
size_thirteen = refl

pub line_bytes_length : (v : Verdict) (units : ℕ) → length (line_bytes v units) ≡ line_size
unfolding line_bytes
line_bytes_length v units = simp (length-append, bytes_length)

-- joined lists of 13 bytes
module _ (f : ℕ → List ℕ) (wide : (k : ℕ) → length (f k) ≡ line_size) where
  pub joined_length : (n : ℕ) → length (each f (upto n)) ≡ line_size * n
  unfolding upto each
  joined_length zero = refl
  joined_length (suc n) =
      let e = joined_length n in
      let w = wide (suc n) in
      rw (each_append f (upto n) (suc n ∷ []), length-append (each f (upto n)) (each f (suc n ∷ [])), append-nil (f (suc n))) (omega arith)

  pub joined_at : (i m : ℕ) → i < m → part (each f (upto m)) (line_size * i) line_size ≡ f (i + 1)
  unfolding each
  joined_at i m h =
      let s = upto_split i m h in
      let a : drop (line_size * i) (each f (upto i) ++ (f (i + 1) ++ each f s.rest)) ≡ f (i + 1) ++ each f s.rest = drop_at (each f (upto i)) _ (line_size * i) (joined_length i) in
      rw (s.is, each_append f (upto i) ((i + 1) ∷ s.rest), a) (take_at (f (i + 1)) (each f s.rest) line_size (wide (i + 1)))

module _ (r : Recording) where
  pub line_length : (n : ℕ) → length (line_of r n) ≡ line_size
  unfolding line_of
  line_length n = line_bytes_length _ _

  pub lines_length : length (lines r) ≡ line_size * sample_count r.layout
  unfolding lines
  lines_length = joined_length _ (λ k. line_length _) (sample_count r.layout)

  pub line_at_lem : (n : ℕ) → 0 < n → n ≤ sample_count r.layout → part (lines r) (line_size * (n - 1)) line_size ≡ line_of r n
  unfolding lines
  line_at_lem n h l =
      let e : n - 1 + 1 ≡ n = omega arith in
      joined_at _ (λ k. line_length _) (n - 1) (sample_count r.layout) (omega arith) ∙ ap (line_of r) e

  module _ (n : ℕ) where
    pub line_refused : {m p : ℕ} → judged r n ≡ refused m p → line_of r n ≡ bytes refusal_size m ++ bytes place_size p ++ bytes units_size 0
    unfolding line_of line_bytes
    line_refused e = rw e

    pub line_good : judged r n ≡ ok tt → line_of r n ≡ bytes refusal_size 0 ++ bytes place_size 0 ++ bytes units_size (length (delivered r n))
    unfolding line_of line_bytes
    line_good e = rw e
