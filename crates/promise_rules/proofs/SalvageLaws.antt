-- The proofs of what Request11 says of the new sample, the list and the calls. Assumes nothing.
--
--   new_sample, formed                           the new sample, which is well formed
--   unchanged, unchanged_exactly, empty_exactly  a well-formed one is unchanged, and only it, and only it has an empty list
--   in_order                                     the places of the list rise
--   answers_leave, both_leave                    the lent buffers
--   salvage_exactly, salvage_refused             the call on a bundle
--   sample_exactly, sample_refused               the call on a sample outside one
--   again                                        what comes out of it, checked and salvaged
--   list_back, five_bytes                        the list is read back, and gives the new sample; a change in bytes
--   outputs_returned                             what the C functions give back
--   in_bytes                                     samples in bytes
use Prim.Native.Nat.{ℕ, ◌*◌, ◌≤◌, ◌<◌}
use mathlib.Core.Path.{◌≡◌, refl, ap, ap₂, sym, ◌∙◌, subst}
use mathlib.Core.List.{List, [], ◌∷◌, ◌++◌}
use mathlib.Core.Logic.{◌⊎◌, inl, inr, ◌↔◌}
use native.Mathlib.Omega.{arith}
use borrow.Author.Tests.{lt-ltb, le-ltb, ltb-true, ltb-false}
use lib.ListN.{length, drop, get_or}
use Rattle.words.specs.Tests.{◌<?◌}
use Rattle.words.specs.RefusalNumbers.{output_too_long, refusal_numbers}
use Rattle.words.specs.Refusals.{Answer, refused, ok, first}
use Rattle.words.specs.Lists.{◌∈◌, some, keep, each}
use Rattle.words.specs.Bytes.{Bytes, big, bytes}
use Rattle.words.specs.Buffers.{overwrite, within, within_all, WroteAll}
use Rattle.words.proofs.Tests.{by_bool}
use Rattle.words.proofs.Refusals.{by_answer, ok_same, ok_refused, refused_along}
use Rattle.words.proofs.Buffers.{fit_all, lacks_here, lacks_later, within_room, within_all_room, within_all_not}
use Rattle.numbers.specs.declared.Kind.{Kind}
use Rattle.units.specs.Units.{Sample, end, size, type, unit_fault, places_from, top_units, border, top_between}
use Rattle.units.specs.Aggregators.{included_fault, cover_fault}
use Rattle.samples.specs.Check.{inside_verdict, check_alone}
use Rattle.bundles.specs.Recordings.{Recording, sample_count}
use Rattle.bundles.specs.Readers.{first_layout}
use Rattle.resolution_rules.specs.Resolving.{sample_of}
use Rattle.resolution_rules.proofs.Calls.{number_good, number_bad, by_count}
use Rattle.naming_list_rules.specs.Naming.{naming_list, list_bytes, names_call}
use Rattle.naming_list_rules.proofs.Listing.{list_size_lem}
use Rattle.naming_list_rules.proofs.Calls.{names_means, names_there}
use Rattle.salvage_rules.specs.Salvage.{holding, Change, first_fault, cut, whole_units, left_by, is_dropped, loses_cover, fate, unit_bytes, zeroed_bytes, new_bytes, new_content, change_at, tail_drop, salvaged, changes, change_list_bytes, changes_in, applied}
use Rattle.salvage_rules.specs.Calls.{listable_most, outputs, salvage_of, salvage_alone, salvage, salvage_call}
use Rattle.salvage_rules.proofs.Reading.{list_length, changes_read}
use Rattle.salvage_rules.proofs.Promises.{salvaged_formed, formed_unchanged, formed_nothing, nothing_formed, salvaged_twice, list_gives, new_left, list_rises}
use Rattle.salvage_rules.proofs.Sizes.{new_most}
use Rattle.puddockle.specs.Returns.{ReturnedOutputs}
use Rattle.promise_rules.specs.Samples.{Formed, Given}
use Rattle.promise_rules.specs.Salvaging.{SalvageRefused, SampleSalvageRefused}
use Rattle.promise_rules.specs.Returns.{OutputsAnswer, OutputsGiven}
use Rattle.promise_rules.proofs.SampleLaws.{formed_rules, rules_formed}
use Rattle.promise_rules.proofs.CheckLaws.{IsKind, alone, kind_known, kind_unknown, by_kind, size_known, by_size, size_none, one_kind, kind_one}
use Rattle.promise_rules.proofs.CallLaws.{rising_at}
use Rattle.promise_rules.proofs.RefusedLaws.{bundle_refused, refused_bundle}
use Rattle.promise_rules.proofs.ReturnLaws.{in_table, bundle_number}
use Rattle.promise_rules.proofs.RangeLaws.{range_refused, range_number}

-- the new sample
pub formed : (x : Sample) → Formed (salvaged x)
formed x = formed_rules (salvaged x) (salvaged_formed x)

pub unchanged : (x : Sample) → Formed x → (salvaged x ≡ x) × (changes x ≡ [])
unchanged x w = let e = rules_formed x w in (formed_unchanged x e, formed_nothing x e)

pub new_sample : (x : Sample) → salvaged x ≡ record { kind = x.kind; length_size = x.length_size; content = each (λ p. left_by x (fate (cut x) p) p) (whole_units x) }
new_sample x = ap (holding x) (new_left x)

pub unchanged_exactly : (x : Sample) → (salvaged x ≡ x) ↔ Formed x
unchanged_exactly x = (λ e. subst Formed e (formed x), λ w. (unchanged x w).0)

pub in_order : (x : Sample) (i j : ℕ) (d : Change) → i < j → j < length (changes x) → (get_or (changes x) i d).place < (get_or (changes x) j d).place
in_order x i j d = rising_at (λ (a b : Change). a.place < b.place) (changes x) d (list_rises x) i j

pub empty_exactly : (x : Sample) → (changes x ≡ []) ↔ Formed x
empty_exactly x = (λ e. formed_rules x (nothing_formed x e), λ w. formed_nothing x (rules_formed x w))

pub list_back : (x : Sample) → length x.content ≤ 4294967296 → (changes_in (change_list_bytes (changes x)) ≡ changes x) × (applied x (changes_in (change_list_bytes (changes x))) ≡ (salvaged x).content)
list_back x h = let e = changes_read x h in (e, ap (applied x) e ∙ list_gives x)

pub five_bytes : (c : Change) (cs : List Change) → (change_list_bytes [] ≡ []) × (change_list_bytes (c ∷ cs) ≡ bytes 1 c.what ++ bytes 4 c.place ++ change_list_bytes cs)
unfolding change_list_bytes each
five_bytes c cs = (refl, refl)

-- lent buffers
pub answers_leave :
    {o c l o' c' l' x y z : List ℕ} {a : Answer (List ℕ)} → WroteAll (o ∷ c ∷ l ∷ []) (o' ∷ c' ∷ l' ∷ []) a (ok (x ∷ y ∷ z ∷ [])) →
    (a ≡ ok (length x ∷ length y ∷ length z ∷ [])) × ((o' ∷ c' ∷ l' ∷ []) ≡ ((x ++ drop (length x) o) ∷ (y ++ drop (length y) c) ∷ (z ++ drop (length z) l) ∷ []))
unfolding overwrite
answers_leave w = (w.answers, w.buffers)

pub both_leave :
    {o c o' c' x y : List ℕ} {a : Answer (List ℕ)} → WroteAll (o ∷ c ∷ []) (o' ∷ c' ∷ []) a (ok (x ∷ y ∷ [])) →
    (a ≡ ok (length x ∷ length y ∷ [])) × ((o' ∷ c' ∷ []) ≡ ((x ++ drop (length x) o) ∷ (y ++ drop (length y) c) ∷ []))
unfolding overwrite
both_leave w = (w.answers, w.buffers)

-- rooms
short_one : (room : ℕ) (rooms out : List ℕ) (outs : List (List ℕ)) → room < length out → within_all (room ∷ rooms) (ok (out ∷ outs)) ≡ refused output_too_long 0
short_one room rooms out outs h = within_all_not (room ∷ rooms) (out ∷ outs) (lacks_here room rooms out outs h)

-- the call on a sample n of an accepted bundle
module _ (b : List ℕ) (g : Bytes b) (n room croom nroom : ℕ) where
  module _ (r : Recording) (e : first_layout.means b ≡ ok r) where
    abbrev new : List ℕ
    new = (salvaged (sample_of r n)).content

    abbrev list : List ℕ
    list = change_list_bytes (changes (sample_of r n))

    abbrev names : List ℕ
    names = list_bytes (naming_list r n)

    no_number : (n ≡ 0) ⊎ (sample_count r.layout < n) → salvage_call first_layout b n room croom nroom ≡ refused 30 0
    unfolding salvage_call salvage
    no_number h = rw (e, number_bad (sample_count r.layout) n h)

    module _ (h : 0 < n) (l : n ≤ sample_count r.layout) where
      there : salvage_call first_layout b n room croom nroom ≡ within_all (room ∷ croom ∷ nroom ∷ []) (ok (new ∷ list ∷ names ∷ []))
      unfolding salvage_call salvage
      there = rw (e, number_good (sample_count r.layout) n h l)

      lists : (length list ≡ 5 * length (changes (sample_of r n))) × (length names ≡ length (naming_list r n) * 6)
      lists = (list_length (changes (sample_of r n)), list_size_lem (naming_list r n))

      short : (room < length new) ⊎ ((croom < 5 * length (changes (sample_of r n))) ⊎ (nroom < length (naming_list r n) * 6)) → salvage_call first_layout b n room croom nroom ≡ refused 29 0
      short (inl k) = there ∙ short_one room (croom ∷ nroom ∷ []) new (list ∷ names ∷ []) k
      short (inr (inl k)) = let s = lists.0 in
          there ∙ within_all_not (room ∷ croom ∷ nroom ∷ []) (new ∷ list ∷ names ∷ []) (lacks_later room (croom ∷ nroom ∷ []) new (list ∷ names ∷ []) (lacks_here croom (nroom ∷ []) list (names ∷ []) (omega arith)))
      short (inr (inr k)) = let s = lists.1 in
          there ∙ within_all_not (room ∷ croom ∷ nroom ∷ []) (new ∷ list ∷ names ∷ []) (lacks_later room (croom ∷ nroom ∷ []) new (list ∷ names ∷ []) (lacks_later croom (nroom ∷ []) list (names ∷ []) (lacks_here nroom [] names [] (omega arith))))

      fits : length new ≤ room → length list ≤ croom → length names ≤ nroom → salvage_call first_layout b n room croom nroom ≡ ok (new ∷ list ∷ names ∷ [])
      fits i j k = there ∙ within_all_room (room ∷ croom ∷ nroom ∷ []) (new ∷ list ∷ names ∷ [])
          (fit_all room (croom ∷ nroom ∷ []) new (list ∷ names ∷ []) i (fit_all croom (nroom ∷ []) list (names ∷ []) j (fit_all nroom [] names [] k refl)))

      -- one of the two
      by_room : {G : Type 0} → ((room < length new) ⊎ ((croom < 5 * length (changes (sample_of r n))) ⊎ (nroom < length (naming_list r n) * 6)) → G) →
          (length new ≤ room → length list ≤ croom → length names ≤ nroom → G) → G
      by_room f k =
          let s = lists in
          by_bool (room <? length new)
          (λ t. f (inl (ltb-true _ _ t)))
          (λ t. by_bool (croom <? length list)
          (λ u. let v = ltb-true croom (length list) u in f (inr (inl (omega arith))))
          (λ u. by_bool (nroom <? length names)
          (λ w. let v = ltb-true nroom (length names) w in f (inr (inr (omega arith))))
          (λ w. k (ltb-false room (length new) t) (ltb-false croom (length list) u) (ltb-false nroom (length names) w))))

      pub salvage_exactly :
          (outs : List (List ℕ)) → (salvage_call first_layout b n room croom nroom ≡ ok outs)
          ↔ ((outs ≡ new ∷ list ∷ names ∷ []) × (length new ≤ room) × (length list ≤ croom) × (length names ≤ nroom))
      salvage_exactly outs = (
        λ q. by_room (λ k. ok_refused (sym (short k) ∙ q)) (λ i j k. (sym (ok_same (sym (fits i j k) ∙ q)), i, j, k)),
        λ q. fits q.1 q.2 q.3 ∙ ap ok (sym q.0),
      )

      -- (f) the naming list is that of the old sample
      pub names_of_old : (x y z : List ℕ) → salvage_call first_layout b n room croom nroom ≡ ok (x ∷ y ∷ z ∷ []) → names_call first_layout b n nroom ≡ ok z
      names_of_old x y z q =
          let w = (salvage_exactly (x ∷ y ∷ z ∷ [])).0 q in
          let f : z ≡ names = ap third w.0 in
          names_means first_layout b n nroom e ∙ ap (within nroom) (names_there r n h l ∙ ap ok (sym f)) ∙ within_room nroom z (rw f w.3)
        where
          third : List (List ℕ) → List ℕ
          third outs = get_or outs 2 []

  refuses : {m p : ℕ} → SalvageRefused b n room croom nroom m p → salvage_call first_layout b n room croom nroom ≡ refused m p
  refuses (SalvageRefused.bundle w) = bundle_is (refused_bundle b g w)
    where
      bundle_is : {m p : ℕ} → first_layout.means b ≡ refused m p → salvage_call first_layout b n room croom nroom ≡ refused m p
      bundle_is e = unfold salvage_call in rw e
  refuses (SalvageRefused.number r e h) = no_number r e h
  refuses (SalvageRefused.room r e h l k) = short r e h l k

  pub salvage_refused : (m p : ℕ) → (salvage_call first_layout b n room croom nroom ≡ refused m p) ↔ SalvageRefused b n room croom nroom m p
  salvage_refused m p = (λ q. because q, λ w. refuses w)
    where
      along : {a c : ℕ} → SalvageRefused b n room croom nroom a c → salvage_call first_layout b n room croom nroom ≡ refused m p → SalvageRefused b n room croom nroom m p
      along w q = refused_along (SalvageRefused b n room croom nroom) (sym (refuses w) ∙ q) w

      because : salvage_call first_layout b n room croom nroom ≡ refused m p → SalvageRefused b n room croom nroom m p
      because q = by_answer (first_layout.means b)
          (λ a c e. along (SalvageRefused.bundle (bundle_refused b g e)) q)
          (λ r e. by_count (sample_count r.layout) n
          (λ h. along (SalvageRefused.number r e h) q)
          (λ h l. by_room r e h l
          (λ k. along (SalvageRefused.room r e h l k) q)
          (λ i j k. ok_refused (sym q ∙ fits r e h l i j k))))

-- a sample outside a bundle
module _ (kind l : ℕ) (s : List ℕ) (room croom : ℕ) where
  no_kind : (kind ≡ 0 → ⊥) → (kind ≡ 1 → ⊥) → salvage_alone kind l s room croom ≡ refused 4 0
  unfolding salvage_alone
  no_kind a b = rw (kind_unknown kind a b)

  no_size : (k : Kind) → IsKind kind k → (l ∈ (1 ∷ 2 ∷ 4 ∷ []) → ⊥) → salvage_alone kind l s room croom ≡ refused 11 0
  unfolding salvage_alone
  no_size k h u = rw (kind_known kind k h, size_none l u)

  module _ (x : Sample) (w : Given kind l s x) where
    by_sample_of : salvage_alone kind l s room croom ≡ within_all (room ∷ croom ∷ []) (salvage_of x)
    unfolding salvage_alone
    by_sample_of = rw (kind_known kind x.kind w.kind, ← w.size, size_known x.length_size, ← w.content)

    sample_short : (4294967296 < length s) ⊎ ((room < length (salvaged x).content) ⊎ (croom < 5 * length (changes x))) → salvage_alone kind l s room croom ≡ refused 29 0
    unfolding salvage_of
    sample_short (inl k) = by_sample_of ∙ rw (lt-ltb listable_most (end x) (rw w.content k))
    sample_short (inr k) = by_bool (listable_most <? end x)
        (λ t. by_sample_of ∙ rw t)
        (λ t. by_sample_of ∙ rw t (lacks k))
      where
        lacks : (room < length (salvaged x).content) ⊎ (croom < 5 * length (changes x)) → within_all (room ∷ croom ∷ []) (ok (outputs x)) ≡ refused 29 0
        lacks (inl k) = short_one room (croom ∷ []) (salvaged x).content (change_list_bytes (changes x) ∷ []) k
        lacks (inr k) = let z = list_length (changes x) in
            within_all_not (room ∷ croom ∷ []) (outputs x) (lacks_later room (croom ∷ []) (salvaged x).content (change_list_bytes (changes x) ∷ []) (lacks_here croom [] (change_list_bytes (changes x)) [] (omega arith)))

    sample_fits : length s ≤ 4294967296 → length (salvaged x).content ≤ room → length (change_list_bytes (changes x)) ≤ croom → salvage_alone kind l s room croom ≡ ok (outputs x)
    unfolding salvage_of
    sample_fits h i j = by_sample_of ∙ rw (le-ltb listable_most (end x) (rw w.content h))
        (within_all_room (room ∷ croom ∷ []) (outputs x) (fit_all room (croom ∷ []) (salvaged x).content (change_list_bytes (changes x) ∷ []) i (fit_all croom [] (change_list_bytes (changes x)) [] j refl)))

    by_sample : {G : Type 0} → ((4294967296 < length s) ⊎ ((room < length (salvaged x).content) ⊎ (croom < 5 * length (changes x))) → G) →
        (length s ≤ 4294967296 → length (salvaged x).content ≤ room → length (change_list_bytes (changes x)) ≤ croom → G) → G
    by_sample f k =
        let z = list_length (changes x) in
        by_bool (4294967296 <? length s)
        (λ t. f (inl (ltb-true _ _ t)))
        (λ t. by_bool (room <? length (salvaged x).content)
        (λ u. f (inr (inl (ltb-true _ _ u))))
        (λ u. by_bool (croom <? length (change_list_bytes (changes x)))
        (λ v. let a = ltb-true croom (length (change_list_bytes (changes x))) v in f (inr (inr (omega arith))))
        (λ v. k (ltb-false _ _ t) (ltb-false _ _ u) (ltb-false _ _ v))))

  -- the sample that is given
  by_given : {G : Type 0} → ((kind ≡ 0 → ⊥) → (kind ≡ 1 → ⊥) → G) → ((kind ≡ 0) ⊎ (kind ≡ 1) → (l ∈ (1 ∷ 2 ∷ 4 ∷ []) → ⊥) → G) → ((x : Sample) → Given kind l s x → G) → G
  by_given a b f = by_kind kind
      (λ k h. by_size l
      (λ z q. f (record { kind = k; length_size = z; content = s }) (record { kind = h; size = q; content = refl }))
      (λ u v. b (one_kind kind l s k h) u))
      a

  sample_refuses : {m p : ℕ} → SampleSalvageRefused kind l s room croom m p → salvage_alone kind l s room croom ≡ refused m p
  sample_refuses (SampleSalvageRefused.kind a b) = no_kind a b
  sample_refuses (SampleSalvageRefused.length_size h u) = let k = kind_one kind l s h in no_size k.0 k.1 u
  sample_refuses (SampleSalvageRefused.room x w k) = sample_short x w k

  pub sample_refused : (m p : ℕ) → (salvage_alone kind l s room croom ≡ refused m p) ↔ SampleSalvageRefused kind l s room croom m p
  sample_refused m p = (λ q. because q, λ w. sample_refuses w)
    where
      along : {a c : ℕ} → SampleSalvageRefused kind l s room croom a c → salvage_alone kind l s room croom ≡ refused m p → SampleSalvageRefused kind l s room croom m p
      along w q = refused_along (SampleSalvageRefused kind l s room croom) (sym (sample_refuses w) ∙ q) w

      because : salvage_alone kind l s room croom ≡ refused m p → SampleSalvageRefused kind l s room croom m p
      because q = by_given
          (λ a b. along (SampleSalvageRefused.kind a b) q)
          (λ h u. along (SampleSalvageRefused.length_size h u) q)
          (λ x w. by_sample x w
          (λ k. along (SampleSalvageRefused.room x w k) q)
          (λ h i j. ok_refused (sym q ∙ sample_fits x w h i j)))

  pub sample_exactly :
      (outs : List (List ℕ)) → (salvage_alone kind l s room croom ≡ ok outs)
      ↔ ((x : Sample) × Given kind l s x × (outs ≡ (salvaged x).content ∷ change_list_bytes (changes x) ∷ []) × (length s ≤ 4294967296)
      × (length (salvaged x).content ≤ room) × (length (change_list_bytes (changes x)) ≤ croom))
  sample_exactly outs = (
    λ q. by_given
        (λ a b. ok_refused (sym (no_kind a b) ∙ q))
        (λ h u. let k = kind_one kind l s h in ok_refused (sym (no_size k.0 k.1 u) ∙ q))
        (λ x w. by_sample x w
        (λ k. ok_refused (sym (sample_short x w k) ∙ q))
        (λ h i j. (x, w, sym (ok_same (sym (sample_fits x w h i j) ∙ q)), h, i, j))),
    λ q. sample_fits q.0 q.1 q.3 q.4 q.5 ∙ ap ok (sym q.2),
  )

-- what comes out, checked and salvaged
none_listed : (cs : List Change) → change_list_bytes cs ≡ [] → cs ≡ []
none_listed [] e = refl
none_listed (c ∷ cs) e = let n = list_length (c ∷ cs) in let z = ap length e in absurd (omega arith)

pub again :
    (kind l : ℕ) (s : List ℕ) (room croom : ℕ) (new list : List ℕ) → salvage_alone kind l s room croom ≡ ok (new ∷ list ∷ []) →
    (check_alone kind l new ≡ ok tt) × (salvage_alone kind l new room 0 ≡ ok (new ∷ [] ∷ [])) × ((list ≡ []) ↔ (check_alone kind l s ≡ ok tt))
again kind l s room croom new list e =
    let w = (sample_exactly kind l s room croom (new ∷ list ∷ [])).0 e in
    let x = w.0 in
    let g = w.1 in
    let n : new ≡ (salvaged w.0).content = ap (λ (os : List (List ℕ)). get_or os 0 []) w.2 in
    let c : list ≡ change_list_bytes (changes w.0) = ap (λ (os : List (List ℕ)). get_or os 1 []) w.2 in
    let h : Given kind l new (salvaged w.0) = record { kind = g.kind; size = g.size; content = sym n } in
    let t = salvaged_twice w.0 in
    let long = new_most w.0 in
    let size = ap length g.content in
    let same = ap length n in
    let room' = w.4 in
    let lower = w.3 in (
      alone kind l new (salvaged w.0) h ∙ salvaged_formed w.0,
      (sample_exactly kind l new room 0 (new ∷ [] ∷ [])).1 (salvaged w.0, h, outs_again w.0 new n, omega arith, (let twice : length (salvaged (salvaged w.0)).content ≡ length (salvaged w.0).content = ap (λ (z : Sample). length z.content) t.0 in omega arith), rw t.1 (nothing w.0)),
      (
        λ z. alone kind l s w.0 g ∙ nothing_formed w.0 (none_listed (changes w.0) (sym c ∙ z)),
        λ z. c ∙ nothing_listed (formed_nothing w.0 (sym (alone kind l s w.0 g) ∙ z)),
      ),
    )
  where
    nothing_listed : {cs : List Change} → cs ≡ [] → change_list_bytes cs ≡ []
    nothing_listed z = unfold change_list_bytes each in rw z

    nothing : (x : Sample) → length (change_list_bytes []) ≤ 0
    nothing x = unfold change_list_bytes each in omega arith

    outs_again : (x : Sample) (new : List ℕ) → new ≡ (salvaged x).content → (new ∷ [] ∷ []) ≡ ((salvaged (salvaged x)).content ∷ change_list_bytes (changes (salvaged x)) ∷ [])
    outs_again x new n =
        let t = salvaged_twice x in
        ap₂ (λ (a b : List ℕ). a ∷ b ∷ []) (n ∙ sym (ap (λ (z : Sample). z.content) t.0)) (sym (nothing_listed t.1))

-- what the C functions give back
salvage_number : (b : List ℕ) → Bytes b → {n room croom nroom m p : ℕ} → SalvageRefused b n room croom nroom m p → m ∈ refusal_numbers
unfolding some
salvage_number b g (SalvageRefused.bundle w) = bundle_number b g w
salvage_number b g (SalvageRefused.number r e h) = in_table 30 refl
salvage_number b g (SalvageRefused.room r e h i k) = in_table 29 refl

sample_number : {kind l : ℕ} {s : List ℕ} {room croom m p : ℕ} → SampleSalvageRefused kind l s room croom m p → m ∈ refusal_numbers
unfolding some
sample_number (SampleSalvageRefused.kind a b) = in_table 4 refl
sample_number (SampleSalvageRefused.length_size h u) = in_table 11 refl
sample_number (SampleSalvageRefused.room x w k) = in_table 29 refl

outputs_number : {os : List (List ℕ)} {a : Answer (List (List ℕ))} → OutputsAnswer os a → (m p : ℕ) → a ≡ refused m p → m ∈ refusal_numbers
outputs_number (OutputsAnswer.salvage b g n o c l) m p e = salvage_number b g ((salvage_refused b g n (length o) (length c) (length l) m p).0 e)
outputs_number (OutputsAnswer.salvage_sample kind l s o c) m p e = sample_number ((sample_refused kind l s (length o) (length c) m p).0 e)
outputs_number (OutputsAnswer.range b g first last o l) m p e =
    range_number b g first last (length o) (length l) ((range_refused b g first last (length o) (length l) m p).0 e)

outputs_by :
    (a : Answer (List (List ℕ))) → ((m q : ℕ) → a ≡ refused m q → m ∈ refusal_numbers) → {n p : ℕ} {cs : List ℕ} {os os' : List (List ℕ)} →
    ReturnedOutputs n p cs os os' a → OutputsGiven a os n p cs os'
outputs_by (refused m q) h w =
    let e = w.returned.number in let f = w.returned.place in let g = w.counts in let k = w.buffers in
    rw (e, f, g, k) (OutputsGiven.refuses (h m q refl) refl)
outputs_by (ok outs) h w =
    let e = w.returned.number in let f = w.returned.place in let g = w.counts in let k = w.buffers in
    rw (e, f, g, k) (OutputsGiven.accepted outs refl)

pub outputs_returned :
    {os : List (List ℕ)} {a : Answer (List (List ℕ))} → OutputsAnswer os a → {n p : ℕ} {cs : List ℕ} {os' : List (List ℕ)} →
    ReturnedOutputs n p cs os os' a → OutputsGiven a os n p cs os'
outputs_returned {a = a} w r = outputs_by a (outputs_number w) r

pub in_bytes :
    (salvage_alone 1 1 (2 ∷ 0x65 ∷ 0x88 ∷ []) 3 0 ≡ ok ((2 ∷ 0x65 ∷ 0x88 ∷ []) ∷ [] ∷ []))
    × (salvage_alone 1 1 (2 ∷ 0x65 ∷ 0x88 ∷ 0 ∷ 1 ∷ 0x65 ∷ []) 9 9 ≡ ok ((2 ∷ 0x65 ∷ 0x88 ∷ []) ∷ (1 ∷ 0 ∷ 0 ∷ 0 ∷ 3 ∷ []) ∷ []))
    × (salvage_alone 1 1 (7 ∷ 0x7f ∷ 0x80 ∷ 0 ∷ 3 ∷ 1 ∷ 0 ∷ 0 ∷ 1 ∷ 0x65 ∷ []) 9 9 ≡ ok ((1 ∷ 0x65 ∷ []) ∷ (1 ∷ 0 ∷ 0 ∷ 0 ∷ 0 ∷ []) ∷ []))
    × (salvage_alone 1 1 (1 ∷ 0x65 ∷ 7 ∷ 0x7e ∷ 0x80 ∷ 0 ∷ 3 ∷ 0 ∷ 2 ∷ 0x65 ∷ []) 9 9 ≡ ok ((1 ∷ 0x65 ∷ []) ∷ (1 ∷ 0 ∷ 0 ∷ 0 ∷ 2 ∷ []) ∷ []))
    × (salvage_alone 1 1 (5 ∷ 0x7e ∷ 0x80 ∷ 0 ∷ 3 ∷ 5 ∷ 1 ∷ 0x65 ∷ []) 9 9
    ≡ ok ((5 ∷ 0x7e ∷ 0x80 ∷ 0 ∷ 3 ∷ 0 ∷ 1 ∷ 0x65 ∷ []) ∷ (2 ∷ 0 ∷ 0 ∷ 0 ∷ 0 ∷ []) ∷ []))
    × (salvage_alone 1 1 (5 ∷ 0x7e ∷ 0x80 ∷ 0 ∷ 3 ∷ 2 ∷ 1 ∷ 0x65 ∷ 0 ∷ 1 ∷ 0x65 ∷ []) 9 9
    ≡ ok ((5 ∷ 0x7e ∷ 0x80 ∷ 0 ∷ 3 ∷ 2 ∷ 1 ∷ 0x65 ∷ []) ∷ (1 ∷ 0 ∷ 0 ∷ 0 ∷ 8 ∷ []) ∷ []))
    × (salvage_alone 1 1 (5 ∷ 0x7e ∷ 0x80 ∷ 0 ∷ 3 ∷ 5 ∷ 1 ∷ 0x65 ∷ 0 ∷ 1 ∷ 0x65 ∷ []) 9 10
    ≡ ok ((5 ∷ 0x7e ∷ 0x80 ∷ 0 ∷ 3 ∷ 0 ∷ 1 ∷ 0x65 ∷ []) ∷ (2 ∷ 0 ∷ 0 ∷ 0 ∷ 0 ∷ 1 ∷ 0 ∷ 0 ∷ 0 ∷ 8 ∷ []) ∷ []))
    × (salvage_alone 1 1 (5 ∷ 0x7e ∷ 0x80 ∷ 0 ∷ 3 ∷ 8 ∷ 7 ∷ 0x7f ∷ 0x80 ∷ 0 ∷ 3 ∷ 1 ∷ 0 ∷ 0 ∷ 1 ∷ 0x65 ∷ []) 9 10
    ≡ ok ((5 ∷ 0x7e ∷ 0x80 ∷ 0 ∷ 3 ∷ 0 ∷ 1 ∷ 0x65 ∷ []) ∷ (2 ∷ 0 ∷ 0 ∷ 0 ∷ 0 ∷ 1 ∷ 0 ∷ 0 ∷ 0 ∷ 6 ∷ []) ∷ []))
    × (salvage_alone 0 1 (7 ∷ 0x7e ∷ 0x80 ∷ 0 ∷ 3 ∷ 0 ∷ 1 ∷ 0x65 ∷ []) 0 5 ≡ ok ([] ∷ (1 ∷ 0 ∷ 0 ∷ 0 ∷ 0 ∷ []) ∷ []))
    × (salvage_alone 2 3 (1 ∷ []) 0 0 ≡ refused 4 0)
    × (salvage_alone 1 3 (1 ∷ []) 0 0 ≡ refused 11 0)
    × (salvage_alone 1 1 (1 ∷ 0x65 ∷ 0 ∷ []) 1 5 ≡ refused 29 0)
    × (salvage_alone 1 1 (1 ∷ 0x65 ∷ 0 ∷ []) 2 4 ≡ refused 29 0)
unfolding salvage_alone salvage_of first_fault cut new_content new_bytes fate is_dropped loses_cover inside_verdict changes change_at tail_drop unit_bytes zeroed_bytes change_list_bytes each bytes first top_units places_from size type unit_fault big included_fault cover_fault border top_between keep some
in_bytes = (refl, refl, refl, refl, refl, refl, refl, refl, refl, refl, refl, refl, refl)
