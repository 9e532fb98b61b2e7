-- The proofs of what Request05 says of the base in plain facts. Assumes nothing.
--
--   base_exactly, base_missing    where a track's times rise: what the search finds is the base, or that there is none
--   track_rises                   the times of every track of an accepted bundle rise
--   twelve_rounds                 there the search in the linked track of an extractor takes at most 12 rounds
use Prim.Native.Nat.{ℕ, ◌≤◌, ◌<◌}
use mathlib.Core.Path.{◌≡◌, sym, ◌∙◌, subst}
use mathlib.Core.List.{List}
use mathlib.Core.Logic.{◌↔◌}
use native.Mathlib.Omega.{arith}
use borrow.Author.Tests.{eqb-true, eqb-false}
use lib.ListN.{length}
use Rattle.words.specs.Tests.{◌≡?◌}
use Rattle.words.specs.Refusals.{ok}
use Rattle.words.specs.Lists.{nth, last_that}
use Rattle.words.proofs.Tests.{by_bool, by_number}
use Rattle.bundles.specs.Recordings.{Layout, Recording, sample_count, time_of, samples_in}
use Rattle.bundles.specs.Readers.{first_layout}
use Rattle.links.specs.Links.{link_fault, linked_track, at_or_before, base_search, base}
use Rattle.links.specs.Order.{base_sample}
use Rattle.links.proofs.Halving.{digits_least}
use Rattle.links.proofs.Links.{linked_reference, linked_none, track_fewer, search_without_track, search_rounds, base_found}
use Rattle.links.proofs.Order.{base_rising, later_without}
use Rattle.resolution_rules.proofs.Readers.{first_layout_sound}
use Rattle.promise_rules.specs.Resolving.{Sampled, BaseOf, TimesRiseIn}
use Rattle.promise_rules.proofs.ResolveLaws.{in_samples, base_of_lem, of_base}

module _ (y : Layout) (n k : ℕ) (some : k ≡ 0 → ⊥) (rises : TimesRiseIn y k) where
  base_last_that : base y n k ≡ last_that (λ m. at_or_before y m n) (samples_in y k)
  base_last_that = base_rising y n k some (λ i j h l u e f.
      rises i j (record { some = h; there = omega arith; track = e }) (record { some = omega arith; there = u; track = f }) l)

  pub base_exactly : (c : ℕ) → ((0 < (base_search y n k).found) × (nth (samples_in y k) (base_search y n k).found 0 ≡ c)) ↔ BaseOf y n k c
  base_exactly c = rw (← base_found y n k) (
    (λ w. subst (BaseOf y n k) w.1 (base_of_lem y n k base_last_that w.0)),
    of_base y n k base_last_that c,
  )

  pub base_missing : ((base_search y n k).found ≡ 0) ↔ ((m : ℕ) → Sampled y m k → time_of y n < time_of y m)
  base_missing = rw (← base_found y n k) (
    (λ z m s. later_without y n k base_last_that z m (in_samples y m k s)),
    (λ later. by_number (base y n k)
        (λ z. z)
        (λ j z.
        let w = base_of_lem y n k base_last_that (omega arith) in
        let f = w.before in
        let g = later (base_sample y n k) w.sample in
        absurd (omega arith))),
  )

module _ (b : List ℕ) (r : Recording) (accepted : first_layout.means b ≡ ok r) where
  pub track_rises : (k : ℕ) → TimesRiseIn r.layout k
  track_rises k i j p q l = (first_layout_sound.rise b r accepted).times k i j p.some l q.there p.track q.track

  pub twelve_rounds : (n index : ℕ) → 0 < n → n ≤ sample_count r.layout → (base_search r.layout n (linked_track r.layout n index)).rounds ≤ 12
  twelve_rounds n index h l =
      let y = r.layout in
      let k = linked_track y n index in
      by_bool (link_fault y n index ≡? 0)
      (λ q.
      let f = linked_reference y n index (eqb-true _ _ q) in
      let fewer = track_fewer y n k h l (λ e. first_layout_sound.apart b r accepted f.reference f.there (f.from ∙ e ∙ sym f.to)) in
      let most = first_layout_sound.samples b r accepted in
      let digits = digits_least (length (samples_in y k)) 12 (omega arith) in
      let rounds = search_rounds y n k in
      omega arith)
      (λ q. rw (search_without_track y n (linked_none y n index 0 (eqb-false _ _ q)).0) (omega arith))
