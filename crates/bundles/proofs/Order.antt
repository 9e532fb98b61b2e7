-- The order of an accepted bundle's samples: track numbers never fall, and within a track times strictly rise.
-- The idea: each entry without a refusal stands so to the one before it, and the relation is transitive. Assumes nothing.
--
--   InOrder, in_order_then    two entries of section three in order; the relation is transitive
--   entries_rise              the entries of an accepted bundle rise
--   entries_there             each has a track that exists
use Prim.Native.Nat.{ℕ, zero, suc, ◌-◌, ◌≤◌, ◌<◌}
use mathlib.Core.Path.{◌≡◌, subst}
use mathlib.Core.List.Memᴰ
use mathlib.Core.List.{List, [], ◌∷◌, map, Memᴰ}
use native.Mathlib.Omega.{arith}
use borrow.Author.Tests.{ltb-true, ltb-false}
use lib.Dec.{ltb}
use Rattle.words.specs.Lists.{upto}
use Rattle.words.proofs.Tests.{by_bool}
use Rattle.words.proofs.Lists.{Rising, rising_append, upto_from}
use Rattle.words.proofs.Entries.{map_append}
use Rattle.bundles.specs.Recordings.{Entry}
use Rattle.bundles.specs.Tracks.{track_count}
use Rattle.bundles.specs.Samples.{entry_count, entry_at, entry_on, entry_numbers, sample_entries}
use Rattle.bundles.proofs.Sections.{Samples, entry_good, order_good}

pub record InOrder (e f : Entry) : Type 0 where
  pub track : e.track ≤ f.track
  pub time : e.track ≡ f.track → e.time < f.time

pub in_order_then : {e f g : Entry} → InOrder e f → InOrder f g → InOrder e g
in_order_then {e} {f} {g} a c =
    record {
      track = omega (arith, a.track, c.track);
      time = λ h. let x = a.time (omega (arith, a.track, c.track)) in let y = c.time (omega (arith, a.track, c.track)) in omega arith;
    }

module _ (b : List ℕ) (s : Samples b) where
  abbrev entry : ℕ → Entry
  entry n = entry_on b (entry_at b n)

  -- each entry after the one before it
  after : (n : ℕ) → 1 < n → n ≤ entry_count b → InOrder (entry (n - 1)) (entry n)
  after n h l =
      let o = order_good b (entry (n - 1)) (entry n) ((entry_good b n (s.each n (omega arith) l)).order h) in
      record { track = o.0; time = o.1 }

  next : (n : ℕ) → 0 < n → n < entry_count b → InOrder (entry n) (entry (suc n))
  next n h l = subst (λ (k : ℕ). InOrder (entry k) (entry (suc n))) (let e : suc n - 1 ≡ n = omega arith in e) (after (suc n) (omega arith) (omega arith))

  -- any entry after any other
  in_order : (m n : ℕ) → 0 < m → m < n → n ≤ entry_count b → InOrder (entry m) (entry n)
  in_order m zero h l u = absurd (omega arith)
  in_order m (suc n) h l u =
      let below = in_order m n h in
      by_bool (ltb m n)
      (λ q. let k = ltb-true m n q in in_order_then (below k (omega arith)) (next n (omega arith) (omega arith)))
      (λ q. let k = ltb-false m n q in let e : m ≡ n = omega arith in rw e (next n (omega arith) (omega arith)))

  rise : (n : ℕ) → n ≤ entry_count b → Rising InOrder (map entry (upto n))
  unfolding upto
  rise zero l = tt
  rise (suc n) l = rw (map_append entry (upto n) (suc n ∷ [])) (rising_append InOrder (map entry (upto n)) (entry (suc n) ∷ []) (rise n (omega arith))
      ((λ f m. absurd (Memᴰ.not-nil m)), tt)
      (λ e f m k.
      let w = Memᴰ.of_map entry (upto n) m in
      let u = upto_from n w.0 w.1 in
      rw (← w.2, Memᴰ.eq_of_singleton k) (in_order w.0 (suc n) u.0 (omega arith) l)))

  pub entries_rise : Rising InOrder (sample_entries b)
  unfolding sample_entries
  entries_rise = rise (entry_count b) (omega arith)

  pub entries_there : {e : Entry} → Memᴰ e (sample_entries b) → (0 < e.track) × (e.track ≤ track_count b)
  unfolding sample_entries
  entries_there {e} m =
      let w = Memᴰ.of_map entry (entry_numbers b) m in
      let u = upto_from (entry_count b) w.0 w.1 in
      rw (← w.2) (entry_good b w.0 (s.each w.0 u.0 u.1)).there
