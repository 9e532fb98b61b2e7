-- What the calls for one delivered unit answer, step by step as the code takes them. Assumes nothing.
--
--   find_refused, find_past, find_good      one delivered unit, with where it comes from
--   span_answer, span_answer_lem            without that, it is the unit that is asked for
--   unit_inside                             a unit that a good sample delivers lies in its sample
--   found_good, found_mem                   a unit that was found: the sample is good, and delivers it
--   found_inside, found_there               it lies in its sample, and that is one of the recording
--   part_same                               it is the part of the bundle that is promised
--   unit_filled, part_filled, place_filled  the calls by a table that was filled
--   starts_inside                           samples start within the bundle
use Rattle.std.specs.Prelude.{Ok}
use Prim.Native.Nat.{ℕ, ◌≤◌, ◌<◌}
use mathlib.Core.Path.{◌≡◌, refl, ap, sym, ◌∙◌}
use mathlib.Core.List.Memᴰ
use mathlib.Core.List.{List, Memᴰ}
use native.Mathlib.Omega.{arith}
use lib.ListN.{length, length-map}
use Rattle.words.specs.Refusals.{Answer, Verdict, refused, ok, ◌and_then◌, ◌at_place◌}
use Rattle.words.specs.Lists.{nth}
use Rattle.words.proofs.Refusals.{at_ok, at_refused, and_ok, ok_same, ok_refused}
use Rattle.words.proofs.Lists.{nth_mem}
use Rattle.words.proofs.Numbered.{nth_map}
use Rattle.bundles.specs.Limits.{bundle_most}
use Rattle.bundles.specs.Recordings.{Recording, sample_count}
use Rattle.bundles.specs.Bundles.{recording_of}
use Rattle.bundles.specs.Readers.{Reader, first_layout}
use Rattle.tables.specs.Tables.{layout_in, recording_in, start_in}
use Rattle.filling.specs.Filling.{filling, table_after}
use Rattle.filling.proofs.Promises.{table_accepted, table_means, table_starts, table_lays_out}
use Rattle.resolution_rules.specs.Resolving.{Span, delivered, judged}
use Rattle.resolution_rules.specs.Calls.{no_span, number_fault, resolve_unit, placed_by, unit_call, place_call, unit_part}
use Rattle.delivered_unit.specs.Answers.{resolve_delivery, found_bytes}
use Rattle.delivery.specs.Deliveries.{Delivery, deliveries, no_delivery}
use Rattle.delivery.proofs.Deliveries.{deliveries_spans}
use Rattle.judging.specs.Steps.{judgement_in}
use Rattle.judging.proofs.Judgements.{judged_refused}
use Rattle.resolution_rules.specs.Readers.{Sound}
use Rattle.resolution_rules.specs.Rules.{Good}
use Rattle.resolution_rules.proofs.Delivered.{Inside}
use Rattle.resolution_rules.proofs.Good.{good_rules}
use Rattle.resolution_rules.proofs.Exactly.{delivered_plain, delivered_there}
use Rattle.resolution_rules.proofs.Readers.{first_layout_sound}
use Rattle.resolution_rules.proofs.Calls.{number_there, unit_means, span_in_lem}

-- 30, or 14 to 28
pub find_refused : (b t : List ℕ) (n : ℕ) → length b ≤ bundle_most → {m q : ℕ} → judgement_in b t n ≡ refused m q → (i : ℕ) → resolve_delivery (recording_in b t) n i ≡ refused m q
unfolding resolve_delivery
find_refused b t n h e i = let r = recording_in b t in judged_refused b t n h e (number_fault (length (delivered r n)) i at_place 0 and_then ok (nth (deliveries r n) i no_delivery))

-- the unit alone
abbrev pub span_answer : Answer Delivery → Answer Span
span_answer (refused m p) = refused m p
span_answer (ok d) = ok d.span

span_then : (v : Verdict) (a : Answer Delivery) → span_answer (v and_then a) ≡ (v and_then span_answer a)
span_then (refused m p) a = refl
span_then (ok t) a = refl

-- a unit that a good sample delivers lies in its sample
span_mem : (r : Recording) (n : ℕ) (d : Delivery) → Memᴰ d (deliveries r n) → Memᴰ d.span (delivered r n)
span_mem r n d m = rw (← deliveries_spans r n) (Memᴰ.map (λ (a : Delivery). a.span) m)

pub unit_inside : (r : Recording) (n : ℕ) (d : Delivery) → Memᴰ d (deliveries r n) → judged r n ≡ ok tt → Inside r d.span
unit_inside r n d m g = (delivered_plain r n (good_rules r n g) d.span (span_mem r n d m)).inside

module _ (r : Recording) (n i : ℕ) where
  module _ (g : number_fault (sample_count r.layout) n ≡ 0) (j : judged r n ≡ ok tt) where
    pub find_past : {f : ℕ} → f ≡ number_fault (length (delivered r n)) i → (f ≡ 0 → ⊥) → resolve_delivery r n i ≡ refused f 0
    unfolding resolve_delivery
    find_past e h = rw (g, j, at_refused 0 e h)

    pub find_good : number_fault (length (delivered r n)) i ≡ 0 → resolve_delivery r n i ≡ ok (nth (deliveries r n) i no_delivery)
    unfolding resolve_delivery
    find_good e = rw (g, j, e)

  spans_nth : nth (delivered r n) i no_span ≡ (nth (deliveries r n) i no_delivery).span
  spans_nth = rw (← deliveries_spans r n) (nth_map (λ (d : Delivery). d.span) (deliveries r n) i no_delivery)

  pub span_answer_lem : resolve_unit r n i ≡ span_answer (resolve_delivery r n i)
  unfolding resolve_unit resolve_delivery
  span_answer_lem = rw (span_then, span_then, span_then, spans_nth)

  -- a unit that was found
  module _ (d : Delivery) (e : resolve_delivery r n i ≡ ok d) where
    parts : (number_fault (sample_count r.layout) n ≡ 0) × (judged r n ≡ ok tt) × (number_fault (length (delivered r n)) i ≡ 0) × (nth (deliveries r n) i no_delivery ≡ d)
    unfolding resolve_delivery
    parts =
        let a = and_ok _ _ e in
        let b = and_ok (judged r n) _ a.1 in
        let c = and_ok _ _ b.1 in
        (at_ok _ 0 a.0, b.0, at_ok _ 0 c.0, ok_same c.1)

    pub found_good : judged r n ≡ ok tt
    found_good = parts.1

    pub found_mem : Memᴰ d (deliveries r n)
    found_mem =
        let w = parts in
        let s = number_there _ _ w.2 in
        let l : length (delivered r n) ≡ length (deliveries r n) = ap length (sym (deliveries_spans r n)) ∙ length-map (deliveries r n) _ in
        rw (← w.3) (nth_mem (deliveries r n) i no_delivery s.0 (omega arith))

  by_found : (a : Answer Delivery) → resolve_delivery r n i ≡ a → (u : Span) → span_answer a ≡ ok u → (number_fault (sample_count r.layout) n ≡ 0) × Good r n × Memᴰ u (delivered r n)
  by_found (refused m p) e u f = ok_refused f
  by_found (ok d) e u f = ((parts d e).0, good_rules r n (found_good d e), rw (← ok_same f) (span_mem r n d (found_mem d e)))

  module _ (u : Span) (e : resolve_unit r n i ≡ ok u) where
    found : (number_fault (sample_count r.layout) n ≡ 0) × Good r n × Memᴰ u (delivered r n)
    found = by_found (resolve_delivery r n i) refl u (sym span_answer_lem ∙ e)

    pub found_inside : Inside r u
    found_inside = let w = found in (delivered_plain r n w.1 u w.2).inside

    pub found_there : (0 < u.sample) × (u.sample ≤ sample_count r.layout)
    found_there = let w = found in let k = number_there _ _ w.0 in delivered_there r n w.1 k.0 k.1 u w.2

-- a bundle that is accepted by a sound reader
module _ (reader : Reader) (sound : Sound reader) (b : List ℕ) (r : Recording) (e : reader.means b ≡ ok r) (n i : ℕ) where
  by_answer : (a : Answer Span) → resolve_unit r n i ≡ a → found_bytes r a ≡ unit_part reader b a
  by_answer (refused m p) f = refl
  by_answer (ok u) f = let t = found_there r n i u f in sym (span_in_lem reader sound b r e u t.0 t.1 (found_inside r n i u f))

  pub part_same : found_bytes r (resolve_unit r n i) ≡ unit_part reader b (unit_call reader b n i)
  part_same = by_answer (resolve_unit r n i) refl ∙ ap (unit_part reader b) (sym (unit_means reader b n i e))

-- where a unit stands, by two tellings of where samples start
stands_same : (f g : ℕ → ℕ) (a : Answer Span) → ((u : Span) → a ≡ ok u → f u.sample ≡ g u.sample) → placed_by f a ≡ placed_by g a
stands_same f g (refused m p) h = refl
stands_same f g (ok u) h = rw (h u refl)

-- a table that was filled
module _ (b t : List ℕ) (done : filling first_layout b (length t) ≡ (Ok tt)) where
  abbrev R : Recording
  R = recording_of b

  accepted : first_layout.means b ≡ ok R
  accepted = table_accepted b t done

  starts_at : (n : ℕ) → 0 < n → n ≤ sample_count R.layout → start_in (table_after first_layout b t) n ≡ first_layout.content_at b n
  starts_at = table_starts b t R accepted done

  -- whatever is said by the table that is left
  module _ {s : List ℕ} (f : s ≡ table_after first_layout b t) (n i : ℕ) where
    pub unit_filled : resolve_unit (recording_in b s) n i ≡ unit_call first_layout b n i
    unit_filled = rw (f, table_means b t done) (sym (unit_means first_layout b n i accepted))

    pub part_filled : found_bytes (recording_in b s) (resolve_unit (recording_in b s) n i) ≡ unit_part first_layout b (unit_call first_layout b n i)
    part_filled = rw (f, table_means b t done) (part_same first_layout first_layout_sound b R accepted n i)

    pub place_filled : placed_by (start_in s) (resolve_unit (recording_in b s) n i) ≡ place_call first_layout b n i
    unfolding place_call
    place_filled =
        rw (f, table_means b t done)
        (stands_same (start_in (table_after first_layout b t)) (first_layout.content_at b) (resolve_unit R n i) (λ u e. let w = found_there R n i u e in starts_at u.sample w.0 w.1)
        ∙ ap (placed_by (first_layout.content_at b)) (sym (unit_means first_layout b n i accepted)))

  pub starts_inside : {s : List ℕ} → s ≡ table_after first_layout b t → (m : ℕ) → 0 < m → m ≤ sample_count (layout_in s) → start_in s m ≤ length b
  starts_inside {s} f m h l =
      let y : layout_in s ≡ R.layout = ap layout_in f ∙ table_lays_out b t R accepted done in
      let k = rw y at l in
      let c = first_layout_sound.inside b R m accepted h k in
      rw (f, starts_at m h k) (omega arith)
