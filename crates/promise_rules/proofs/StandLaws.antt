-- The proofs of what Contents says of where all delivered units stand. Assumes nothing.
use Prim.Native.Nat.{ℕ, ◌+◌, ◌*◌, ◌≤◌, ◌<◌}
use mathlib.Core.Path.{◌≡◌, refl, ap, sym, ◌∙◌}
use mathlib.Core.List.Memᴰ
use mathlib.Core.List.{List, [], ◌∷◌}
use mathlib.Core.Logic.{◌⊎◌, ◌↔◌}
use native.Mathlib.Omega.{arith}
use borrow.Author.Tests.{ltb-true, ltb-false}
use lib.ListN.{length}
use Rattle.words.specs.Tests.{◌<?◌}
use Rattle.words.specs.Refusals.{refused, ok}
use Rattle.words.specs.Lists.{◌∈◌, each, nth}
use Rattle.words.specs.Bytes.{Bytes, part}
use Rattle.words.specs.Buffers.{within}
use Rattle.words.proofs.Tests.{by_bool}
use Rattle.words.proofs.Refusals.{ok_refused, ok_same, refused_along, by_answer, by_verdict}
use Rattle.words.proofs.Lists.{each_cong}
use Rattle.words.proofs.Buffers.{within_room, within_not}
use Rattle.bundles.specs.Recordings.{Recording, sample_count, content_of}
use Rattle.bundles.specs.Readers.{first_layout}
use Rattle.resolution_rules.specs.Resolving.{Span, delivered, judged}
use Rattle.resolution_rules.specs.Calls.{no_span, parts_by, span_in, resolve_call, place_call, parts_call}
use Rattle.resolution_rules.proofs.Calls.{by_count, parts_number, parts_sample, parts_good, parts_bundle, parts_means, span_in_lem}
use Rattle.resolution_rules.proofs.Readers.{first_layout_sound}
use Rattle.resolution_rules.proofs.Good.{good_rules}
use Rattle.resolution_rules.proofs.Exactly.{delivered_plain, delivered_there}
use Rattle.unit_parts.proofs.Parts.{parts_length}
use Rattle.promise_rules.specs.Resolving.{Resolved, after_length}
use Rattle.promise_rules.specs.Contents.{UnitsRefused, stand_numbers, joined}
use Rattle.promise_rules.specs.Units.{sample_start}
use Rattle.promise_rules.proofs.UnitLaws.{sample_means, unit_placed}
use Rattle.promise_rules.proofs.CallLaws.{resolved_exactly}
use Rattle.promise_rules.proofs.RefusedLaws.{bundle_refused, refused_bundle, sample_refused, refused_sample, resolved, unresolved}

-- units joined by where they stand
joined_units :
    (b : List ℕ) (r : Recording) (us : List Span) →
    ((u : Span) → u ∈ us → part b (sample_start b u.sample + u.start) u.size ≡ part (content_of r u.sample) u.start u.size) →
    joined b (each (stand_numbers b) us) ≡ each (after_length r) us
unfolding joined each
joined_units b r [] h = refl
joined_units b r (u ∷ us) h =
    rw (h u (Memᴰ.head refl), joined_units b r us (λ v m. h v (Memᴰ.tail m)))

module _ (b : List ℕ) (g : Bytes b) where
  module _ (r : Recording) (accepted : first_layout.means b ≡ ok r) (n : ℕ) (some : 0 < n) (there : n ≤ sample_count r.layout) (good : judged r n ≡ ok tt) where
    start_is : (u : Span) → u ∈ delivered r n → first_layout.content_at b u.sample ≡ sample_start b u.sample
    start_is u m =
        let t = delivered_there r n (good_rules r n good) some there u m in
        (sample_means b g r accepted u.sample t.0 t.1).start

    numbers_are : parts_by (first_layout.content_at b) (delivered r n) ≡ each (stand_numbers b) (delivered r n)
    unfolding parts_by
    numbers_are = each_cong _ (stand_numbers b) (delivered r n) (λ u m. rw (start_is u m))

    size_is : length (each (stand_numbers b) (delivered r n)) ≡ 2 * length (delivered r n)
    size_is = ap length (sym numbers_are) ∙ parts_length (first_layout.content_at b) (delivered r n)

    call_is : (room : ℕ) → parts_call first_layout b n room ≡ within room (ok (each (stand_numbers b) (delivered r n)))
    call_is room = parts_means first_layout b n room accepted ∙ ap (within room) (parts_good r n some there (first_layout.content_at b) good ∙ ap ok numbers_are)

    told : (room : ℕ) → 2 * length (delivered r n) ≤ room → parts_call first_layout b n room ≡ ok (each (stand_numbers b) (delivered r n))
    told room h = call_is room ∙ within_room room (each (stand_numbers b) (delivered r n)) (let s = size_is in omega arith)

    short : (room : ℕ) → room < 2 * length (delivered r n) → parts_call first_layout b n room ≡ refused 29 0
    short room h = call_is room ∙ within_not room (each (stand_numbers b) (delivered r n)) (let s = size_is in omega arith)

    bytes_are : (u : Span) → u ∈ delivered r n → part b (sample_start b u.sample + u.start) u.size ≡ part (content_of r u.sample) u.start u.size
    unfolding span_in
    bytes_are u m =
        let t = delivered_there r n (good_rules r n good) some there u m in
        let i = (delivered_plain r n (good_rules r n good) u m).inside in
        rw (← start_is u m) (span_in_lem first_layout first_layout_sound b r accepted u t.0 t.1 i)

    joined_are : joined b (each (stand_numbers b) (delivered r n)) ≡ each (after_length r) (delivered r n)
    joined_are = joined_units b r (delivered r n) bytes_are

  module _ (n room : ℕ) where
    none : (r : Recording) → first_layout.means b ≡ ok r → (n ≡ 0) ⊎ (sample_count r.layout < n) → parts_call first_layout b n room ≡ refused 30 0
    none r f h = parts_means first_layout b n room f ∙ ap (within room) (parts_number r n (first_layout.content_at b) h)

    bad :
        (r : Recording) → first_layout.means b ≡ ok r → 0 < n → n ≤ sample_count r.layout → {m p : ℕ} → judged r n ≡ refused m p →
        parts_call first_layout b n room ≡ refused m p
    bad r f h l j = parts_means first_layout b n room f ∙ ap (within room) (parts_sample r n h l (first_layout.content_at b) j)

    because : (r : Recording) → first_layout.means b ≡ ok r → {m p : ℕ} → parts_call first_layout b n room ≡ refused m p → UnitsRefused b n room m p
    because r f e = by_count (sample_count r.layout) n
        (λ h. refused_along (UnitsRefused b n room) (sym (none r f h) ∙ e) (UnitsRefused.number r f h))
        (λ h l. by_verdict (judged r n)
        (λ m q j. refused_along (UnitsRefused b n room) (sym (bad r f h l j) ∙ e) (UnitsRefused.sample r f (sample_refused b g r f n h l j)))
        (λ j. by_bool (room <? 2 * length (delivered r n))
        (λ t. let k = ltb-true room (2 * length (delivered r n)) t in
        refused_along (UnitsRefused b n room) (sym (short r f n h l j room k) ∙ e) (UnitsRefused.room r (delivered r n) f (resolved b g r f n h l j) k))
        (λ t. ok_refused (sym e ∙ told r f n h l j room (ltb-false room (2 * length (delivered r n)) t)))))

    refuses : {m p : ℕ} → UnitsRefused b n room m p → parts_call first_layout b n room ≡ refused m p
    refuses (UnitsRefused.bundle w) = parts_bundle first_layout b n room (refused_bundle b g w)
    refuses (UnitsRefused.number r f h) = none r f h
    refuses (UnitsRefused.sample r f w) =
        let k = refused_sample b g r f n w in bad r f k.0 k.1 k.2
    refuses (UnitsRefused.room r us f w h) =
        let k = unresolved b g r n us f w in short r f n w.some w.there k.0 room (rw (← k.1) h)

    pub units_refused : (m p : ℕ) → (parts_call first_layout b n room ≡ refused m p) ↔ UnitsRefused b n room m p
    units_refused m p = (
      λ e. by_answer (first_layout.means b)
          (λ k q f. refused_along (UnitsRefused b n room) (sym (parts_bundle first_layout b n room f) ∙ e) (UnitsRefused.bundle (bundle_refused b g f)))
          (λ r f. because r f e),
      λ w. refuses w,
    )

  module _ (r : Recording) (accepted : first_layout.means b ≡ ok r) (n : ℕ) (us : List Span) (w : Resolved r n us) where
    same : (judged r n ≡ ok tt) × (us ≡ delivered r n)
    same = unresolved b g r n us accepted w

    units_told : (room : ℕ) → 2 * length us ≤ room → parts_call first_layout b n room ≡ ok (each (stand_numbers b) us)
    units_told room h = let k = same in rw k.1 (told r accepted n w.some w.there k.0 room (rw (← k.1) h))

    pub units_joined :
        (room : ℕ) → length (joined b (each (stand_numbers b) us)) ≤ room →
        resolve_call first_layout b n room ≡ ok (joined b (each (stand_numbers b) us))
    units_joined room h =
        let k = same in
        let e : joined b (each (stand_numbers b) us) ≡ each (after_length r) us = rw k.1 (joined_are r accepted n w.some w.there k.0) in
        (resolved_exactly b g r accepted n w.some w.there room (joined b (each (stand_numbers b) us))).1 (us, w, e, h)

    pub units_inside :
        (k : ℕ) → 0 < k → k ≤ length us → let u = nth us k no_span in
        (sample_start b u.sample + u.start + u.size ≤ length b)
        × (place_call first_layout b n k ≡ ok (record { start = sample_start b u.sample + u.start; size = u.size }))
    units_inside k h l = let q = unit_placed b g r accepted n k us w h l in (q.stands.inside, q.there)

  pub units_exactly :
      (r : Recording) → first_layout.means b ≡ ok r → (n : ℕ) → 0 < n → n ≤ sample_count r.layout → (room : ℕ) (ns : List ℕ) →
      (parts_call first_layout b n room ≡ ok ns)
      ↔ ((us : List Span) × Resolved r n us × (ns ≡ each (stand_numbers b) us) × (2 * length us ≤ room))
  units_exactly r f n h l room ns = (
    λ e. by_verdict (judged r n)
        (λ m p j. ok_refused (sym (bad n room r f h l j) ∙ e))
        (λ j. by_bool (room <? 2 * length (delivered r n))
        (λ t. ok_refused (sym (short r f n h l j room (ltb-true room (2 * length (delivered r n)) t)) ∙ e))
        (λ t.
        let k = ltb-false room (2 * length (delivered r n)) t in
        (delivered r n, resolved b g r f n h l j, ok_same (sym e ∙ told r f n h l j room k), k))),
    λ w. units_told r f n w.0 w.1 room w.3 ∙ ap ok (sym w.2),
  )
