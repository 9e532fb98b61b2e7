-- Where units stand, two numbers each, by where samples start. Assumes nothing.
--
--   parts_none, parts_one     no unit; one
--   parts_append, parts_more  joined units; one unit more
--   parts_length              two numbers a unit
--   parts_same                by two tellings of where samples start
--   part_write                two numbers written one after the other
--   part_inside               in any table, a unit that has bytes and lies in its sample lies in the bundle
use Prim.Native.Nat.{ℕ, ◌+◌, ◌*◌, ◌≤◌, ◌<◌}
use mathlib.Core.Path.{◌≡◌, refl, ap, ◌∙◌}
use mathlib.Core.List.{List, [], ◌∷◌, ◌++◌, Memᴰ}
use native.Mathlib.Omega.{arith}
use native.Mathlib.Numerals.{add-one}
use borrow.Author.Tests.{leb-true}
use lib.Dec.{leb}
use lib.ListN.{length, set}
use lib.Seq.{sets-eq}
use Rattle.words.specs.Lists.{each}
use Rattle.words.specs.Buffers.{write_at}
use Rattle.words.proofs.Tests.{by_bool}
use Rattle.words.proofs.Lists.{each_append, each_cong}
use Rattle.words.proofs.Positions.{part_length}
use Rattle.bundles.specs.Recordings.{content_of}
use Rattle.tables.specs.Tables.{start_column, length_column, sample_cell, start_in, inside, recording_in}
use Rattle.sample_tables.proofs.Cells.{content_cells}
use Rattle.resolution_rules.specs.Resolving.{Span}
use Rattle.resolution_rules.specs.Calls.{place_on, part_numbers, parts_by}

module _ (starts : ℕ → ℕ) where
  pub parts_none : parts_by starts [] ≡ []
  unfolding parts_by each
  parts_none = refl

  pub parts_one : (u : Span) → parts_by starts (u ∷ []) ≡ part_numbers (place_on starts u)
  unfolding parts_by each
  parts_one u = refl

  pub parts_append : (us vs : List Span) → parts_by starts (us ++ vs) ≡ parts_by starts us ++ parts_by starts vs
  unfolding parts_by
  parts_append us vs = each_append (λ u. part_numbers (place_on starts u)) us vs

  pub parts_more : (us : List Span) (u : Span) → parts_by starts (us ++ (u ∷ [])) ≡ parts_by starts us ++ part_numbers (place_on starts u)
  parts_more us u = parts_append us (u ∷ []) ∙ rw (parts_one u)

  pub parts_length : (us : List Span) → length (parts_by starts us) ≡ 2 * length us
  unfolding parts_by each
  parts_length [] = refl
  parts_length (u ∷ us) = let below = parts_length us in omega arith

pub parts_same : (f g : ℕ → ℕ) (us : List Span) → ((u : Span) → Memᴰ u us → f u.sample ≡ g u.sample) → parts_by f us ≡ parts_by g us
unfolding parts_by
parts_same f g us h = each_cong (λ u. part_numbers (place_on f u)) (λ u. part_numbers (place_on g u)) us (λ u m. rw (h u m))

pub part_write : (o : List ℕ) (p a b : ℕ) → p + 2 ≤ length o → set (set o p a) (p + 1) b ≡ write_at o p (a ∷ b ∷ [])
unfolding write_at
part_write o p a b h = rw (add-one p) (sets-eq (a ∷ b ∷ []) o p h)

-- bytes that lie in b, where there are some
inside_some : (b : List ℕ) (p n : ℕ) → 0 < length (inside b p n) → p + length (inside b p n) ≤ length b
unfolding inside
inside_some b p n = by_bool (leb (p + n) (length b))
    (λ q. let l = leb-true _ _ q in rw (q, part_length b p n l) (λ h. l))
    (λ q. rw q (λ h. absurd (omega arith)))

pub part_inside : (b t : List ℕ) (u : Span) → 0 < u.size → u.start + u.size ≤ length (content_of (recording_in b t) u.sample) → start_in t u.sample + (u.start + u.size) ≤ length b
part_inside b t u h i =
    let c = sample_cell t u.sample in
    let l = ap length (content_cells b t u.sample) in
    let k = inside_some b (c start_column) (c length_column) (omega arith) in
    omega arith
