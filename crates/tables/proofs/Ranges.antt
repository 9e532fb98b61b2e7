-- The samples of a track are a range, in any table: a track's samples end where a later track's start. Assumes nothing.
--
--   after_none                   the end of a track's samples, of no tracks
--   after_first, after_min       the end of a track's samples: with no later track, with one more
--   after_most                   it is no later than the last sample
--   owner_is, owner_from         a sample is a track's exactly if it lies in its range
--   keep_range                   the numbers from one to another
--   range_samples                the samples of a track, in the layout that a table says, are its range
use Rattle.std.specs.Prelude.{min}
use Prim.Native.Nat.{ℕ, zero, suc, ◌+◌, ◌-◌, ◌≤◌, ◌<◌}
use mathlib.Core.Path.{◌≡◌, refl, ap, sym, ◌∙◌}
use mathlib.Core.Bool.{Bool, ◌&&◌}
use mathlib.Core.List.{List, [], ◌∷◌, map, append-nil, Memᴰ}
use native.Mathlib.Omega.{arith}
use native.Mathlib.Numerals.{add-one}
use borrow.Author.Tests.{lt-ltb, le-ltb, le-leb, ltb-true, ltb-false, leb-true, leb-false, eq-eqb, ne_eqb, eqb-true}
use lib.Dec.{ltb, leb}
use Rattle.words.specs.Tests.{◌<?◌, ◌≤?◌, ◌≡?◌, pick}
use Rattle.words.specs.Lists.{keep, upto, last_that}
use Rattle.words.proofs.Tests.{by_bool, and_both, and_holds, bool_same}
use Rattle.words.proofs.Lists.{keep_append, keep_nothing, last_that_snoc, upto_from}
use Rattle.bundles.specs.Recordings.{samples_in, track_of}
use Rattle.words.proofs.Entries.{map_append}
use Rattle.tables.specs.Tables.{sample_total, track_total, before_in, after_in, owner_in, range_in, numbers_in, layout_in}
use Rattle.words.proofs.Rows.{upto_length}
use Rattle.tables.proofs.Layouts.{samples_count, entry_here}

module _ (t : List ℕ) (k : ℕ) where
  pub after_none : after_in t k 0 ≡ sample_total t
  unfolding after_in
  after_none = refl

  after_suc : (j : ℕ) → after_in t k (suc j) ≡ pick ((k <? suc j) && (before_in t (suc j) <? after_in t k j)) (before_in t (suc j)) (after_in t k j)
  unfolding after_in
  after_suc j = refl

  -- tracks up to k do not count
  after_same : (j : ℕ) → suc j ≤ k → after_in t k (suc j) ≡ after_in t k j
  after_same j h = after_suc j ∙ rw (le-ltb k (suc j) h)

  -- a later track: the lower of the two
  after_later : (j : ℕ) → k < suc j → (after_in t k (suc j) ≤ after_in t k j) × (after_in t k (suc j) ≤ before_in t (suc j))
  after_later j h = rw (after_suc j, lt-ltb k (suc j) h) (by_bool (ltb (before_in t (suc j)) (after_in t k j))
      (λ q. let l = ltb-true (before_in t (suc j)) (after_in t k j) q in rw q (omega arith, omega arith))
      (λ q. let l = ltb-false (before_in t (suc j)) (after_in t k j) q in rw q (omega arith, l)))

  pub after_min : (j : ℕ) → k ≤ j → after_in t k (j + 1) ≡ min (after_in t k j) (before_in t (j + 1))
  after_min j h = rw (add-one j) (after_suc j ∙ rw (lt-ltb k (suc j) (omega arith)) (by_bool (ltb (before_in t (suc j)) (after_in t k j))
      (λ q. let l = ltb-true (before_in t (suc j)) (after_in t k j) q in let m : before_in t (suc j) ≡ min (after_in t k j) (before_in t (suc j)) = omega arith in rw q m)
      (λ q. let l = ltb-false (before_in t (suc j)) (after_in t k j) q in let m : after_in t k j ≡ min (after_in t k j) (before_in t (suc j)) = omega arith in rw q m)))

  after_both : (j n : ℕ) → n ≤ after_in t k j → n ≤ before_in t (suc j) → n ≤ after_in t k (suc j)
  after_both j n g h = rw (after_suc j) (by_bool ((k <? suc j) && (before_in t (suc j) <? after_in t k j)) (λ q. rw q h) (λ q. rw q g))

  pub after_first : (j : ℕ) → j ≤ k → after_in t k j ≡ sample_total t
  after_first zero h = after_none
  after_first (suc j) h = after_same j h ∙ after_first j (omega arith)

  pub after_most : (j : ℕ) → after_in t k j ≤ sample_total t
  after_most zero = let e = after_none in omega arith
  after_most (suc j) = by_bool (leb (suc j) k)
      (λ q. let e = after_same j (leb-true (suc j) k q) in let h = after_most j in omega arith)
      (λ q. let e = after_later j (leb-false (suc j) k q) in let h = after_most j in omega arith)

module _ (t : List ℕ) (n : ℕ) where
  -- the last of the first m tracks that has fewer than n samples before it
  abbrev owner : ℕ → ℕ
  owner m = last_that (λ j. before_in t j <? n) (upto m)

  owner_suc : (m : ℕ) → owner (suc m) ≡ pick (before_in t (suc m) <? n) (suc m) (owner m)
  unfolding upto
  owner_suc m = last_that_snoc (λ j. before_in t j <? n) (upto m) (suc m) ∙ rw (upto_length m)

  owner_most : (m : ℕ) → owner m ≤ m
  unfolding upto last_that
  owner_most zero = omega arith
  owner_most (suc m) = let h = owner_most m in rw (owner_suc m) (by_bool (ltb (before_in t (suc m)) n) (λ q. rw q (omega arith)) (λ q. rw q (omega arith)))

  pub owner_is : (k m : ℕ) → 0 < k → k ≤ m → before_in t k < n → n ≤ after_in t k m → owner m ≡ k
  owner_is k zero p h b a = absurd (omega arith)
  owner_is k (suc m) p h b a = by_bool (leb (suc m) k)
      (λ q.
      let e : suc m ≡ k = (let l = leb-true (suc m) k q in omega arith) in
      owner_suc m ∙ rw (e, lt-ltb (before_in t k) n b))
      (λ q.
      let l = leb-false (suc m) k q in
      let w = after_later t k m l in
      owner_suc m ∙ rw (le-ltb (before_in t (suc m)) n (omega arith)) (owner_is k m p (omega arith) b (omega arith)))

  pub owner_from : (k m : ℕ) → 0 < k → k ≤ m → n ≤ sample_total t → owner m ≡ k → (before_in t k < n) × (n ≤ after_in t k m)
  owner_from k zero p h l e = absurd (omega arith)
  owner_from k (suc m) p h l e = by_bool (ltb (before_in t (suc m)) n)
      (λ q.
      let s : suc m ≡ k = (let z : owner (suc m) ≡ suc m = owner_suc m ∙ rw q in omega arith) in
      let b = ltb-true (before_in t (suc m)) n q in
      (rw (← s) b, rw (after_first t k (suc m) (omega arith)) l))
      (λ q.
      let z : owner (suc m) ≡ owner m = owner_suc m ∙ rw q in
      let u = owner_most m in
      let w = owner_from k m p (omega arith) l (sym z ∙ e) in
      let b = ltb-false (before_in t (suc m)) n q in
      (w.0, after_both t k m n w.1 b))

-- the numbers after a, up to e
module _ (a e : ℕ) where
  abbrev between : ℕ → Bool
  between n = (a <? n) && (n ≤? e)

  keep_below : (n : ℕ) → n ≤ e → keep between (upto n) ≡ map (λ i. a + i) (upto (n - a))
  unfolding upto keep
  keep_below zero h = let z : 0 - a ≡ 0 = omega arith in rw z
  keep_below (suc n) h =
      let below = keep_below n (omega arith) in
      keep_append between (upto n) (suc n ∷ []) ∙ by_bool (ltb a (suc n))
      (λ q.
      let l = ltb-true a (suc n) q in
      let s : suc n - a ≡ suc (n - a) = omega arith in
      let x : a + suc (n - a) ≡ suc n = omega arith in
      rw (q, le-leb (suc n) e h, below, s, map_append (λ i. a + i) (upto (n - a)) (suc (n - a) ∷ []), x))
      (λ q.
      let l = ltb-false a (suc n) q in
      let s : suc n - a ≡ 0 = omega arith in
      let z : n - a ≡ 0 = omega arith in
      rw (q, below, s, z))

  pub keep_range : (n : ℕ) → e ≤ n → keep between (upto n) ≡ map (λ i. a + i) (upto (e - a))
  unfolding upto keep
  keep_range zero h = let z : e ≡ 0 = omega arith in let y : e - a ≡ 0 = omega arith in rw y
  keep_range (suc n) h = let below = keep_range n in by_bool (leb (suc n) e)
      (λ q.
      let l = leb-true (suc n) e q in
      let s : suc n - a ≡ e - a = omega arith in
      keep_below (suc n) l ∙ ap (λ (m : ℕ). map (λ i. a + i) (upto m)) s)
      (λ q.
      let l = leb-false (suc n) e q in
      keep_append between (upto n) (suc n ∷ []) ∙ by_bool (ltb a (suc n))
      (λ r. rw (r, q, append-nil (keep between (upto n))) (below (omega arith)))
      (λ r. rw (r, append-nil (keep between (upto n))) (below (omega arith))))

keep_same : (f g : ℕ → Bool) (xs : List ℕ) → ((x : ℕ) → Memᴰ x xs → f x ≡ g x) → keep f xs ≡ keep g xs
unfolding keep
keep_same f g [] h = refl
keep_same f g (x ∷ xs) h = rw (h x (Memᴰ.head refl), keep_same f g xs (λ y m. h y (Memᴰ.tail m)))

module _ (t : List ℕ) (k : ℕ) (some : 0 < k) where
  track_is : (n : ℕ) → Memᴰ n (upto (sample_total t)) → track_of (layout_in t) n ≡ owner_in t n
  track_is n m = let u = upto_from (sample_total t) n m in ap (λ e. e.track) (entry_here t n u.0 u.1)

  test_same : k ≤ track_total t → (n : ℕ) → Memᴰ n (upto (sample_total t)) → (track_of (layout_in t) n ≡? k) ≡ between (before_in t k) (after_in t k (track_total t)) n
  test_same h n m =
      let u = upto_from (sample_total t) n m in
      bool_same (track_of (layout_in t) n ≡? k) (between (before_in t k) (after_in t k (track_total t)) n)
      (λ q. let w = owner_from t n k (track_total t) some h u.1 (sym (track_is n m) ∙ eqb-true _ _ q) in and_holds _ _ (lt-ltb _ _ w.0) (le-leb _ _ w.1))
      (λ q. let w = and_both _ _ q in eq-eqb _ _ (track_is n m ∙ owner_is t n k (track_total t) some h (ltb-true _ _ w.0) (leb-true _ _ w.1)))

  inside_case : k ≤ track_total t → samples_in (layout_in t) k ≡ numbers_in (range_in t k)
  unfolding samples_in range_in
  inside_case h =
      rw (ne_eqb k 0 (λ z. omega arith), le-ltb (track_total t) k h, samples_count t)
      (keep_same (λ n. track_of (layout_in t) n ≡? k) (between (before_in t k) (after_in t k (track_total t))) (upto (sample_total t)) (test_same h)
      ∙ keep_range (before_in t k) (after_in t k (track_total t)) (sample_total t) (after_most t k (track_total t)))

  outside_case : track_total t < k → samples_in (layout_in t) k ≡ numbers_in (range_in t k)
  unfolding samples_in range_in upto
  outside_case h =
      rw (ne_eqb k 0 (λ z. omega arith), lt-ltb (track_total t) k h, samples_count t)
      (keep_nothing (λ n. track_of (layout_in t) n ≡? k) (upto (sample_total t)) (λ n m. let u = owner_most t n (track_total t) in let e = track_is n m in ne_eqb (track_of (layout_in t) n) k (λ z. omega arith)))

  pub range_samples : samples_in (layout_in t) k ≡ numbers_in (range_in t k)
  range_samples = by_bool (leb k (track_total t)) (λ q. inside_case (leb-true k (track_total t) q)) (λ q. outside_case (leb-false k (track_total t) q))
