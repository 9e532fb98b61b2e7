-- Loops over the samples of a recording r: the extractors that name sample s counted, and their entries written. Assumes nothing.
--
--   entries_of, sofar                           the entries of a sample; of the first n samples
--   sofar_none, sofar_more, sofar_all           of none, of one sample more, of all
--   namers_few, some_formed                     no sample has more than bytes; one that has some is well formed
--   Counting, counting_start, -more, -end       a loop that counts, and keeps each count
--   Putting, putting_start, -none, -some, -end  a loop that writes
--   list_few                                    the list is not too long for its numbers
--   names_number, names_room, names_listed      what the call on a recording answers
--   counts_bad, counts_good                     what is kept in the table, by the number
--   names_beside, names_unfit                   the call by a bundle and a table: these fit, or do not
--   call_filled                                 the call by a table that was filled
use Rattle.std.specs.Prelude.{Ok}
use Prim.Native.Nat.{ℕ, zero, suc, ◌+◌, ◌-◌, ◌*◌, ◌≤◌, ◌<◌}
use mathlib.Core.Path.{◌≡◌, refl, ap, ap₂, sym, ◌∙◌}
use mathlib.Core.List.{List, [], ◌∷◌, ◌++◌, map, append-nil}
use mathlib.Core.Logic.{◌⊎◌, inl, inr}
use native.Mathlib.Omega.{arith}
use native.Mathlib.Nat.{suc-mul}
use native.Mathlib.Numerals.{add-one}
use borrow.Author.Tests.{eqb-true, eqb-false, eq-eqb, ne_eqb, leb-true, leb-false, lt-ltb, le-ltb}
use lib.Dec.{eqb, leb}
use lib.ListN.{length, length-append, length-map, length-set}
use Rattle.words.specs.Tests.{◌<?◌}
use Rattle.words.specs.RefusalNumbers.{output_too_long, bundle_too_long}
use Rattle.words.specs.Refusals.{refused, ok}
use Rattle.words.specs.Lists.{each, upto}
use Rattle.words.specs.Buffers.{write_at, overwrite, within}
use Rattle.words.proofs.Tests.{by_bool}
use Rattle.words.proofs.Refusals.{by_verdict, at_refused}
use Rattle.words.proofs.Lists.{each_append}
use Rattle.words.proofs.Kept.{keep_few}
use Rattle.words.proofs.Rows.{upto_more}
use Rattle.words.proofs.Buffers.{write_none, write_first, write_length, write_write, within_room, within_not}
use Rattle.units.specs.Units.{Sample, is_extractor}
use Rattle.units.specs.Aggregators.{units, extractors}
use Rattle.samples.specs.Check.{check}
use Rattle.bundles.specs.Limits.{bundle_most, sample_most}
use Rattle.bundles.specs.Recordings.{Recording, sample_count, content_of}
use Rattle.bundles.specs.Readers.{first_layout}
use Rattle.tables.specs.Tables.{sample_total, layout_in, recording_in, table_most, kept_count_in, with_kept_count}
use Rattle.tables.proofs.Layouts.{samples_count, samples_most}
use Rattle.tables.proofs.KeptCounts.{kept_count_recording, kept_count_layout, kept_count_case, kept_count_set, kept_count_other}
use Rattle.filling.specs.Filling.{filling, table_after}
use Rattle.filling.proofs.Promises.{table_accepted, table_means}
use Rattle.resolution_rules.specs.Resolving.{own}
use Rattle.resolution_rules.specs.Calls.{number_fault}
use Rattle.resolution_rules.proofs.Sizes.{units_count}
use Rattle.delivery.proofs.Folds.{content_most}
use Rattle.naming_list_rules.specs.Naming.{Namer, namer, names_sample, namers_in, naming_list, list_entry_size, list_bytes, names, names_call}
use Rattle.naming_list_rules.proofs.Listing.{list_size_lem}
use Rattle.naming_list.specs.Steps.{counts_upto, counts_for, names_in, table_in}
use Rattle.naming_list.proofs.Namers.{namers_not, list_none, list_append}

module _ (r : Recording) (s : ℕ) where
  abbrev pub entries_of : ℕ → List Namer
  entries_of n = map (namer n) (namers_in r s n)

  unfoldable pub sofar : ℕ → List Namer
  sofar n = each entries_of (upto n)

  pub sofar_none : sofar 0 ≡ []
  unfolding sofar upto each
  sofar_none = refl

  each_one : (n : ℕ) → each entries_of (n ∷ []) ≡ entries_of n
  unfolding each
  each_one n = append-nil _

  pub sofar_more : (n : ℕ) → sofar (n + 1) ≡ sofar n ++ entries_of (n + 1)
  unfolding sofar
  sofar_more n = rw (upto_more n, each_append entries_of (upto n) ((n + 1) ∷ []), each_one (n + 1))

  pub sofar_all : sofar (sample_count r.layout) ≡ naming_list r s
  unfolding sofar naming_list
  sofar_all = refl

  -- the number of entries
  pub sofar_count : (n : ℕ) → length (sofar (n + 1)) ≡ length (sofar n) + length (namers_in r s (n + 1))
  sofar_count n = ap length (sofar_more n) ∙ length-append (sofar n) (entries_of (n + 1)) ∙ rw (length-map (namers_in r s (n + 1)) (namer (n + 1)))

  pub sofar_rises : (n k : ℕ) → length (sofar n) ≤ length (sofar (n + k))
  sofar_rises n zero = let e : n + 0 ≡ n = omega arith in rw e (omega arith)
  sofar_rises n (suc k) =
      let h = sofar_rises n k in
      let e : n + suc k ≡ n + k + 1 = omega arith in
      let c = sofar_count (n + k) in
      rw e (omega arith)

  pub sofar_most : (n m : ℕ) → n ≤ m → length (sofar n) ≤ length (sofar m)
  sofar_most n m h = let e : n + (m - n) ≡ m = omega arith in rw e at (sofar_rises n (m - n))

  pub namers_few : (n : ℕ) → length (namers_in r s n) ≤ length (content_of r n)
  namers_few n = by_verdict (check (own r n))
      (λ m q e. rw (namers_not r s n (own r n) refl e) (omega arith))
      (λ e. (unfold namers_in in rw e
      (let a = keep_few (names_sample r s n) (extractors (own r n)) in
      let b : length (extractors (own r n)) ≤ length (units (own r n)) = (unfold extractors in keep_few (is_extractor (own r n)) (units (own r n))) in
      let u = units_count r n e in
      omega arith)))

  pub sofar_few : (c : ℕ) → ((k : ℕ) → length (content_of r k) ≤ c) → (n : ℕ) → length (sofar n) ≤ n * c
  sofar_few c most zero = rw sofar_none (omega arith)
  sofar_few c most (suc n) =
      let h = sofar_few c most n in
      let e : suc n ≡ n + 1 = omega arith in
      let k = sofar_count n in
      let f = namers_few (n + 1) in
      let l = most (n + 1) in
      let m = suc-mul n c in
      rw (e) (let g : (n + 1) * c ≡ n * c + c = rw (← e) m in omega arith)

  -- a sample that holds an extractor that names s is well formed
  pub some_formed : (n : ℕ) (x : Sample) → x ≡ own r n → (length (namers_in r s n) ≡ 0 → ⊥) → check x ≡ ok tt
  some_formed n x e h = by_verdict (check x)
      (λ m q f. absurd (h (ap length (namers_not r s n x e f))))
      (λ f. f)

-- A loop over the samples that has come behind sample n: count entries in all, and the count kept beside each sample so far.
module _ (b t₀ : List ℕ) (s : ℕ) where
  abbrev R : Recording
  R = recording_in b t₀

  pub record Counting (n count : ℕ) (t : List ℕ) : Type 0 where
    pub recording : recording_in b t ≡ recording_in b t₀
    pub lays : layout_in t ≡ layout_in t₀
    pub equal_length : length t ≡ length t₀
    pub inside : n ≤ sample_count (layout_in t₀)
    pub number : count ≡ length (sofar (recording_in b t₀) s n)
    pub counts : (m : ℕ) → 0 < m → m ≤ n → kept_count_in t m ≡ length (namers_in (recording_in b t₀) s m)
    pub few : count ≤ n * bundle_most
    pub table : t ≡ counts_upto b t₀ s n

  pub counting_start : Counting 0 0 t₀
  unfolding counts_upto
  counting_start =
      record {
        recording = refl;
        lays = refl;
        equal_length = refl;
        inside = omega arith;
        number = ap length (sym (sofar_none R s));
        counts = λ m h l. absurd (omega arith);
        few = omega arith;
        table = refl;
      }

  module _ (n count : ℕ) (t : List ℕ) (c : Counting n count t) (h : n < sample_count (layout_in t₀)) (short : length b ≤ bundle_most) {f : ℕ} (e : f ≡ length (namers_in (recording_in b t) s (n + 1))) where
    found : f ≡ length (namers_in R s (n + 1))
    found = e ∙ ap (λ (r : Recording). length (namers_in r s (n + 1))) c.recording

    -- the numbers are small
    pub counting_fits : (f ≤ bundle_most) × (count + f ≤ (n + 1) * bundle_most)
    counting_fits =
        let a = namers_few R s (n + 1) in
        let m = content_most b t₀ (n + 1) in
        let g = found in
        let k = c.few in
        (omega arith, omega arith)

    pub counting_more : table_most ≤ length t₀ → Counting (n + 1) (count + f) (with_kept_count t (n + 1) f)
    counting_more l =
        let a = counting_fits in
        let g = found in
        let q = c.number in
        let w = sofar_count R s n in
        let limit = samples_most t₀ in
        let z : sample_total t ≡ sample_count (layout_in t₀) = sym (samples_count t) ∙ ap sample_count c.lays in
        let u = c.equal_length in
        record {
          recording = kept_count_recording b t (n + 1) f ∙ c.recording;
          lays = kept_count_layout t (n + 1) f ∙ c.lays;
          equal_length = kept_count_case t (n + 1) f (λ x. length x ≡ length t₀) u (length-set t _ f ∙ u);
          inside = omega arith;
          number = omega arith;
          counts = λ m i j. by_bool (eqb m (n + 1))
              (λ q.
              let v = eqb-true m (n + 1) q in
              rw v (kept_count_set t (n + 1) f (omega arith) (omega arith) (omega arith) ∙ g))
              (λ q.
              let v = eqb-false m (n + 1) q in
              kept_count_other t (n + 1) m f v ∙ c.counts m i (let o : m ≡ n + 1 → ⊥ = v in by_bool (leb m n) (λ y. leb-true m n y) (λ y. let x = leb-false m n y in absurd (o (omega arith)))));
          few = a.1;
          table = kept_next;
        }
      where
        step : with_kept_count (counts_upto b t₀ s n) (n + 1) (length (namers_in R s (n + 1))) ≡ counts_upto b t₀ s (n + 1)
        step = unfold counts_upto in rw (add-one n)

        kept_next : with_kept_count t (n + 1) f ≡ counts_upto b t₀ s (n + 1)
        kept_next = ap₂ (λ (u : List ℕ) (v : ℕ). with_kept_count u (n + 1) v) c.table found ∙ step

  pub counting_end : (n count : ℕ) (t : List ℕ) → Counting n count t → sample_count (layout_in t₀) ≤ n →
      (count ≡ length (naming_list (recording_in b t₀) s)) × (recording_in b t ≡ recording_in b t₀) × ((m : ℕ) → 0 < m → m ≤ sample_count (layout_in t₀) → kept_count_in t m ≡ length (namers_in (recording_in b t₀) s m))
      × (t ≡ counts_upto b t₀ s (sample_count (layout_in t₀)))
  unfolding recording_in
  counting_end n count t c h =
      let i = c.inside in
      let e : n ≡ sample_count (layout_in t₀) = omega arith in
      (c.number ∙ ap (λ (k : ℕ). length (sofar R s k)) e ∙ ap length (sofar_all R s), c.recording, (λ m p q. c.counts m p (omega arith)), c.table ∙ ap (counts_upto b t₀ s) e)

-- A loop over the samples that has come behind sample n: the entries of the samples so far are written over the start of o, up to `at`.
module _ (r : Recording) (s : ℕ) (o : List ℕ) where
  pub record Putting (n at : ℕ) (out : List ℕ) : Type 0 where
    pub inside : n ≤ sample_count r.layout
    pub here : at ≡ length (sofar r s n) * list_entry_size
    pub is : out ≡ write_at o 0 (list_bytes (sofar r s n))

  pub putting_start : Putting 0 0 o
  putting_start = record { inside = omega arith; here = let e = ap length (sofar_none r s) in omega arith; is = rw (sofar_none r s, list_none) (write_none o 0) }

  -- samples of at most so many bytes have at most so many entries
  pub putting_most : (c : ℕ) → ((k : ℕ) → length (content_of r k) ≤ c) → (n at : ℕ) (out : List ℕ) → Putting n at out → at ≤ n * c * list_entry_size
  putting_most c most n at out p = let a = sofar_few r s c most n in let h = p.here in omega arith

  module _ (fits : length (list_bytes (naming_list r s)) ≤ length o) (n at : ℕ) (out : List ℕ) (c : Putting n at out) where
    -- what is written so far, and sample m too, fits
    room : (m : ℕ) → m ≤ sample_count r.layout → length (sofar r s m) * list_entry_size ≤ length o
    room m h =
        let a = list_size_lem (naming_list r s) in
        let b = sofar_most r s m (sample_count r.layout) h in
        let d = ap length (sofar_all r s) in
        omega arith

    pub putting_length : length out ≡ length o
    putting_length = rw c.is (write_length o 0 (list_bytes (sofar r s n)) (let a = list_size_lem (sofar r s n) in let k = room n c.inside in omega arith))

    module _ (h : n < sample_count r.layout) where
      pub putting_none : length (namers_in r s (n + 1)) ≡ 0 → Putting (n + 1) at out
      putting_none z =
          let e : namers_in r s (n + 1) ≡ [] = none_left (namers_in r s (n + 1)) z in
          let g : sofar r s (n + 1) ≡ sofar r s n = sofar_more r s n ∙ rw e (append-nil (sofar r s n)) in
          record { inside = omega arith; here = c.here ∙ rw g; is = c.is ∙ rw g }
        where
          none_left : {A : Type 0} (xs : List A) → length xs ≡ 0 → xs ≡ []
          none_left [] e = refl
          none_left (x ∷ xs) e = absurd (omega arith)

      -- there is room for the entries of the next sample
      pub putting_room : at + length (namers_in r s (n + 1)) * list_entry_size ≤ length out
      putting_room =
          let a = room (n + 1) (omega arith) in
          let b = sofar_count r s n in
          let d = c.here in
          let l = putting_length in
          omega arith

      pub putting_some : {k : ℕ} {out₁ : List ℕ} → k ≡ length (namers_in r s (n + 1)) → out₁ ≡ write_at out at (list_bytes (map (namer (n + 1)) (namers_in r s (n + 1)))) → Putting (n + 1) (at + k * list_entry_size) out₁
      putting_some {k} {out₁} e f =
          let B = list_bytes (sofar r s n) in
          let E = list_bytes (entries_of r s (n + 1)) in
          let a = list_size_lem (sofar r s n) in
          let b = sofar_count r s n in
          let d = c.here in
          let p : at ≡ 0 + length B = omega arith in
          let j : B ++ E ≡ list_bytes (sofar r s (n + 1)) = sym (list_append (sofar r s n) (entries_of r s (n + 1))) ∙ ap list_bytes (sym (sofar_more r s n)) in
          let w = room n c.inside in
          record {
            inside = omega arith;
            here = omega arith;
            is = f ∙ rw (c.is, p) (write_write o 0 B E (omega arith) ∙ ap (write_at o 0) j);
          }

    pub putting_end : sample_count r.layout ≤ n → out ≡ overwrite o (list_bytes (naming_list r s))
    putting_end h =
        let i = c.inside in
        let e : n ≡ sample_count r.layout = omega arith in
        c.is ∙ ap (λ (k : ℕ). write_at o 0 (list_bytes (sofar r s k))) e ∙ rw (sofar_all r s) (write_first o (list_bytes (naming_list r s)))

-- the entries of a table's recording are few
pub list_few : (b t : List ℕ) (s : ℕ) → length b ≤ bundle_most → length (naming_list (recording_in b t) s) ≤ sample_most * bundle_most
unfolding recording_in
list_few b t s h =
    let r = recording_in b t in
    let a = sofar_few r s bundle_most (λ k. let j = content_most b t k in omega arith) (sample_count (layout_in t)) in
    let m = samples_most t in
    let e = ap length (sofar_all r s) in
    omega arith

-- the call on a recording
module _ (r : Recording) (s room : ℕ) where
  pub names_number : {f : ℕ} → f ≡ number_fault (sample_count r.layout) s → (f ≡ 0 → ⊥) → within room (names r s) ≡ refused f 0
  unfolding names
  names_number e h = rw (at_refused 0 e h)

  module _ (g : number_fault (sample_count r.layout) s ≡ 0) where
    pub names_room : room < length (list_bytes (naming_list r s)) → within room (names r s) ≡ refused output_too_long 0
    unfolding names
    names_room h = rw g (within_not room (list_bytes (naming_list r s)) h)

    pub names_listed : length (list_bytes (naming_list r s)) ≤ room → within room (names r s) ≡ ok (list_bytes (naming_list r s))
    unfolding names
    names_listed h = rw g (within_room room (list_bytes (naming_list r s)) h)

-- what is kept in the table
module _ (b t : List ℕ) (s : ℕ) where
  pub counts_bad : {f : ℕ} → f ≡ number_fault (sample_count (layout_in t)) s → (f ≡ 0 → ⊥) → t ≡ counts_for b t s
  unfolding counts_for
  counts_bad e h = rw (← e, ne_eqb _ 0 h)

  pub counts_good : number_fault (sample_count (layout_in t)) s ≡ 0 → counts_upto b t s (sample_count (layout_in t)) ≡ counts_for b t s
  unfolding counts_for
  counts_good e = rw (eq-eqb _ 0 e)

-- the call by a bundle and a table
module _ (b t : List ℕ) (s room : ℕ) where
  pub names_beside : length b ≤ bundle_most → table_most ≤ length t → (names_in b t s room ≡ within room (names (recording_in b t) s)) × (table_in b t s ≡ counts_for b t s)
  unfolding names_in table_in
  names_beside h l = (rw (le-ltb _ _ h, le-ltb _ _ l), rw (le-ltb _ _ h, le-ltb _ _ l))

  pub names_unfit : (bundle_most < length b) ⊎ (length t < table_most) → (names_in b t s room ≡ refused bundle_too_long 0) × (table_in b t s ≡ t)
  unfolding names_in table_in
  names_unfit (inl l) = (rw (lt-ltb _ _ l), rw (lt-ltb _ _ l))
  names_unfit (inr l) = by_bool (bundle_most <? length b) (λ u. (rw u, rw u)) (λ u. (rw (u, lt-ltb _ _ l), rw (u, lt-ltb _ _ l)))

-- the call by a table that was filled
module _ (b t : List ℕ) (done : filling first_layout b (length t) ≡ (Ok tt)) where
  pub call_filled : {u : List ℕ} → u ≡ table_after first_layout b t → (s room : ℕ) → within room (names (recording_in b u) s) ≡ names_call first_layout b s room
  unfolding names_call
  call_filled f s room = rw (f, table_means b t done, table_accepted b t done)
