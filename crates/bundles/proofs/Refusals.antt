-- The refusals of a bundle: each number is one of its set, and each place lies in the bundle or at its end. Assumes nothing.
--
--   refused_within    a refused bundle's refusal
use Rattle.std.specs.Prelude.{None, Option, Some}
use Prim.Native.Nat.{ℕ, zero, suc, ◌+◌, ◌-◌, ◌≤◌, ◌<◌}
use mathlib.Core.Path.{◌≡◌, refl, sym, subst}
use mathlib.Core.Bool.{Bool, true, not, ◌&&◌}
use mathlib.Core.List.Memᴰ
use mathlib.Core.List.{List, [], ◌∷◌}
use mathlib.Core.Logic.{◌⊎◌, inl, inr, ⊎_elim}
use native.Mathlib.Omega.{arith}
use lib.ListN.{length}
use Rattle.words.specs.Tests.{◌<?◌, ◌≤?◌, ◌≡?◌}
use Rattle.words.specs.RefusalNumbers.{bundle_too_long, bundle_cut, count_out_of_limits, unknown_kind, bad_reference, bad_track_or_time, bad_byte_count, record_refusals, bundle_refusals}
use Rattle.words.specs.Refusals.{◌if◌, ◌or_else◌, refused, ok, Verdict, ◌and_then◌, ◌at_place◌, first}
use Rattle.words.specs.Lists.{some, has, ◌∈◌}
use Rattle.words.specs.Walks.{entries}
use Rattle.words.specs.Bytes.{big}
use Rattle.words.proofs.Lists.{has_from}
use Rattle.words.proofs.Refusals.{at_ok, ok_refused, NoneOr, none_or_if, none_or_or_else, none_or_pick, none_or_some, none_or_wider}
use Rattle.record_rules.proofs.Refusals.{record_refusal}
use Rattle.bundles.specs.Limits.{count_fault, bundle_most, track_least, track_most, reference_most, sample_most}
use Rattle.bundles.specs.Fields.{track_count_size, track_head_size, reference_count_size, reference_size, sample_count_size, sample_entry_size, byte_count_size}
use Rattle.bundles.specs.Recordings.{Entry}
use Rattle.bundles.specs.Tracks.{record_fault_as, tracks_at, record_length, kind_at, record_at, track_count, track_end, track_fault, tracks_verdict, references_at}
use Rattle.bundles.specs.References.{from, to, no_such_track, length_size_on, reference_count, reference_fault, references_verdict, samples_at}
use Rattle.bundles.specs.Samples.{track, entry_count, entry_at, entry_on, order_fault, entry_fault, samples_verdict, byte_count_at}
use Rattle.bundles.specs.Bundles.{byte_count, byte_count_fault, bytes_verdict, length_verdict, bundle_verdict, BundleRefusal}
use Rattle.words.proofs.Entries.{walk_keeps_here}
use Rattle.bundles.proofs.Passing.{first_earlier}
use Rattle.bundles.proofs.Sections.{count_good, track_good, reference_good, entries_inside, tracks_good, references_good, samples_good}
use Rattle.numbers.specs.declared.Kind.{Kind}

-- none, or a refusal of a bundle
abbrev OfBundle : ℕ → Type 0
OfBundle n = NoneOr bundle_refusals n

-- a test of a number of the set, which `refl` shows under `unfolding some`; and what follows it
test : (n : ℕ) (t : Bool) → has n bundle_refusals ≡ true → OfBundle (n if t)
test n t h = none_or_if bundle_refusals n t (has_from n bundle_refusals h)

chain : (n : ℕ) (t : Bool) {m : ℕ} → has n bundle_refusals ≡ true → OfBundle m → OfBundle (n if t or_else m)
chain n t {m} g h = none_or_or_else bundle_refusals (n if t) m (test n t g) h

-- a record's refusals are a bundle's
wider : (n : ℕ) → n ∈ record_refusals → n ∈ bundle_refusals
wider n m = Memᴰ.tail (Memᴰ.tail (Memᴰ.tail (Memᴰ.tail (Memᴰ.tail (Memᴰ.tail (Memᴰ.tail m))))))

-- verdicts that refuse
and_refused : {n p : ℕ} (v w : Verdict) → (v and_then w) ≡ refused n p → (v ≡ refused n p) ⊎ ((v ≡ ok tt) × (w ≡ refused n p))
and_refused (refused m q) w e = inl e
and_refused (ok u) w e = inr (refl, e)

at_said : (n p m q : ℕ) → n at_place p ≡ refused m q → (n ≡ m) × (p ≡ q) × (0 < m)
at_said zero p m q e = ok_refused (sym e)
at_said (suc n) p m q e = let f : suc n ≡ m = cc in let g : p ≡ q = cc in (f, g, omega arith)

first_said : (f : ℕ → ℕ) (ps : List ℕ) (m q : ℕ) → first (λ p. f p at_place p) ps ≡ refused m q → (f q ≡ m) × (0 < m)
unfolding first
first_said f [] m q e = ok_refused (sym e)
first_said f (p ∷ ps) m q e = ⊎_elim
    (λ h. let a = at_said (f p) p m q h in (subst (λ z. f z ≡ m) a.1 a.0, a.2))
    (λ h. first_said f ps m q h.1)
    (and_refused (f p at_place p) (first (λ p. f p at_place p) ps) e)

module _ (b : List ℕ) where
  here_within : {f q n p : ℕ} → OfBundle f → q ≤ length b → f at_place q ≡ refused n p → BundleRefusal b n p
  here_within {f} {q} {n} {p} g h e =
      let a = at_said f q n p e in
      record { number = none_or_some bundle_refusals (subst OfBundle a.0 g) a.2; place = subst (λ z. z ≤ length b) a.1 h }

  walk_within : (next fault : ℕ → ℕ) → ((p : ℕ) → OfBundle (fault p)) → ((p : ℕ) → fault p ≡ 0 → next p ≤ length b) → (m q n p : ℕ) → q ≤ length b →
      first (λ p. fault p at_place p) (entries next m q) ≡ refused n p → BundleRefusal b n p
  walk_within next fault of inside m q n p h e =
      let a = first_said fault (entries next m q) n p e in
      record {
        number = none_or_some bundle_refusals (subst OfBundle a.0 (of p)) a.1;
        place = walk_keeps_here (λ z. z ≤ length b) next fault (λ z g f. inside z f) m q n p h e;
      }

  count_of : (p n least most : ℕ) → OfBundle (count_fault b p n least most)
  unfolding count_fault some
  count_of p n least most =
      chain bundle_cut (length b <? p + n) refl
      (chain count_out_of_limits (big b p n <? least) refl
      (test count_out_of_limits (most <? big b p n) refl))

  record_as_of : (k : Option Kind) (s : List ℕ) → OfBundle (record_fault_as k s)
  unfolding some
  record_as_of (Some k) s = none_or_wider wider (record_refusal k s)
  record_as_of None s = inr (has_from unknown_kind bundle_refusals refl)

  track_of_lem : (p : ℕ) → OfBundle (track_fault b p)
  unfolding track_fault some
  track_of_lem p =
      chain bundle_cut (length b <? p + track_head_size) refl
      (chain bundle_cut (length b <? p + track_head_size + record_length b p) refl
      (record_as_of (kind_at b p) (record_at b p)))

  reference_of : (p : ℕ) → OfBundle (reference_fault b p)
  unfolding reference_fault some
  reference_of p =
      chain bundle_cut (length b <? p + reference_size) refl
      (chain bad_reference (no_such_track b (from b p)) refl
      (chain bad_reference (no_such_track b (to b p)) refl
      (chain bad_reference (from b p ≡? to b p) refl
      (test bad_reference (not (length_size_on b (from b p) ≡? length_size_on b (to b p))) refl))))

  order_of : (e f : Entry) → OfBundle (order_fault e f)
  unfolding order_fault some
  order_of e f =
      chain bad_track_or_time (f.track <? e.track) refl
      (test bad_track_or_time ((f.track ≡? e.track) && (f.time ≤? e.time)) refl)

  entry_of : (n : ℕ) → OfBundle (entry_fault b n)
  unfolding entry_fault some
  entry_of n =
      chain bundle_cut (length b <? entry_at b n + sample_entry_size) refl
      (chain bad_track_or_time (no_such_track b (track b (entry_at b n))) refl
      (none_or_pick bundle_refusals (n ≡? 1) 0 _ (inl refl) (order_of (entry_on b (entry_at b (n - 1))) (entry_on b (entry_at b n)))))

  end_of : (p total : ℕ) → OfBundle (byte_count_fault b p total)
  unfolding byte_count_fault some
  end_of p total =
      chain bundle_cut (length b <? p + byte_count_size) refl
      (chain bad_byte_count (not (byte_count b p ≡? total)) refl
      (chain bundle_cut (length b <? p + byte_count_size + byte_count b p) refl
      (test bad_byte_count (p + byte_count_size + byte_count b p <? length b) refl)))

  tracks_within : {n p : ℕ} → tracks_verdict b ≡ refused n p → BundleRefusal b n p
  unfolding tracks_verdict
  tracks_within {n} {p} e = ⊎_elim
      (λ h. here_within (count_of _ _ _ _) (omega arith) h)
      (λ h. walk_within (track_end b) (track_fault b) track_of_lem (λ q f. (track_good b q f).inside) (track_count b) (tracks_at b) n p (count_good b 0 track_count_size track_least track_most (at_ok _ _ h.0)).inside h.1)
      (and_refused (count_fault b 0 track_count_size track_least track_most at_place 0) _ e)

  references_within : references_at b ≤ length b → {n p : ℕ} → references_verdict b ≡ refused n p → BundleRefusal b n p
  unfolding references_verdict
  references_within g {n} {p} e = ⊎_elim
      (λ h. here_within (count_of _ _ _ _) g h)
      (λ h. walk_within (λ q. q + reference_size) (reference_fault b) reference_of (λ q f. (reference_good b q f).inside) (reference_count b) (references_at b + reference_count_size) n p (count_good b (references_at b) reference_count_size 0 reference_most (at_ok _ _ h.0)).inside h.1)
      (and_refused (count_fault b (references_at b) reference_count_size 0 reference_most at_place references_at b) _ e)

  -- the first entry that is refused: those before it are not, so it stands in the bundle
  samples_within : samples_at b ≤ length b → {n p : ℕ} → samples_verdict b ≡ refused n p → BundleRefusal b n p
  unfolding samples_verdict
  samples_within g {n} {p} e = ⊎_elim
      (λ h. here_within (count_of _ _ _ _) g h)
      (λ h.
      let w = first_earlier (entry_fault b) (entry_at b) (entry_count b) n p h.1 in
      here_within (entry_of w.number) (entries_inside b (count_good b (samples_at b) sample_count_size 0 sample_most (at_ok _ _ h.0)).inside (w.number - 1) (λ z. w.before (w.number - 1) z (let q = w.some in omega arith))) w.refused)
      (and_refused (count_fault b (samples_at b) sample_count_size 0 sample_most at_place samples_at b) _ e)

  bytes_within : byte_count_at b ≤ length b → {n p : ℕ} → bytes_verdict b ≡ refused n p → BundleRefusal b n p
  unfolding bytes_verdict
  bytes_within g e = here_within (end_of _ _) g e

  pub refused_within : (n p : ℕ) → bundle_verdict b ≡ refused n p → BundleRefusal b n p
  unfolding bundle_verdict some
  refused_within n p e = ⊎_elim
      (λ h. here_within (test bundle_too_long (bundle_most <? length b) refl) (omega arith) h)
      (λ h. ⊎_elim
      (λ f. tracks_within f)
      (λ f. ⊎_elim
      (λ g. references_within (tracks_good b f.0).inside g)
      (λ g. ⊎_elim
      (λ i. samples_within (references_good b g.0).inside i)
      (λ i. bytes_within (samples_good b i.0).inside i.1)
      (and_refused (samples_verdict b) _ g.1))
      (and_refused (references_verdict b) _ f.1))
      (and_refused (tracks_verdict b) _ h.1))
      (and_refused (length_verdict b) _ e)
