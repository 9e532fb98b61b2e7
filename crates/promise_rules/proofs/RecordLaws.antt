-- The proofs of what Demands says of records: read and written, in plain facts (a file of specs/ may not cite its own crate's proofs/). Assumes nothing.
--
--   sets_fit_lem, fit_of_sets                                                sets in plain facts, and by the definition
--   ends, ended                                                              what ends a record, in plain facts; both ways
--   valid_avc, valid_svc, fitted                                             fields and sets that fit a record, in plain facts; both ways
--   accepted_exactly                                                         a record is accepted with these fields and sets exactly if it is what they spell
--   written_exactly                                                          they are written exactly if they are valid and there is room: with the bytes that they spell
--   write_refused_exactly                                                    when writing is refused
--   accepted_known, known_accepted, read_none, refused_known, known_refused  the answer of reading, by the first refusal of the bytes
--   read_number                                                              with which numbers
use Rattle.std.specs.Prelude.{Some}
use Prim.Native.Nat.{ℕ, zero, suc, ◌+◌, ◌-◌, ◌*◌, ◌≤◌, ◌<◌}
use mathlib.Core.Path.{◌≡◌, refl, sym, ◌∙◌, subst}
use mathlib.Core.Bool.{true, false, not}
use mathlib.Core.List.Memᴰ
use mathlib.Core.List.{List, [], ◌∷◌, ◌++◌, append-nil}
use mathlib.Core.Logic.{◌⊎◌, inl, inr, ⊎_elim, ◌↔◌}
use native.Mathlib.Omega.{arith}
use borrow.Author.Tests.{ltb-true, ltb-false, eqb-true, eqb-false, ne_eqb, eq-eqb, not-true}
use lib.ListN.{length, drop}
use Rattle.words.specs.Tests.{◌<?◌, ◌≡?◌, all}
use Rattle.words.specs.Refusals.{first_of, Answer, refused, ok}
use Rattle.words.specs.Lists.{◌∈◌}
use Rattle.words.specs.Walks.{entries, skip}
use Rattle.words.specs.Bytes.{Bytes, big}
use Rattle.words.specs.Buffers.{within, overwrite, Wrote}
use Rattle.words.proofs.Tests.{by_bool, all_first, true_false}
use Rattle.words.proofs.Refusals.{or_else_none, ok_refused, refused_same}
use Rattle.words.proofs.Buffers.{within_room, within_not}
use Rattle.numbers.specs.Kinds.{kind_of}
use Rattle.numbers.specs.declared.Kind.{Kind}
use Rattle.numbers.specs.declared.Kind.TheVariants.{Avc, Svc}
use Rattle.sets.specs.Sets.{one_of, set_fault, sets_fault, sets_end, sets_fit}
use Rattle.sets.specs.declared.SetTypes.{SetTypes}
use Rattle.sets.proofs.Laws.{whole, no_fault, fit_sets, fit_true}
use Rattle.record_rules.specs.Layout.{record_layout, picture_types, flags_byte, flags_fit}
use Rattle.record_rules.specs.Trailers.{is_high, extension_types, ending}
use Rattle.record_rules.specs.Fields.{record_bytes, fits}
use Rattle.record_rules.specs.Parts.{fits_by_parts}
use Rattle.record_rules.specs.declared.Flag.{Flag}
use Rattle.record_rules.specs.declared.Flag.TheVariants as flag
use Rattle.record_rules.specs.declared.Trailer.{Trailer}
use Rattle.record_rules.specs.declared.Trailer.TheVariants.{None, Absent, Present}
use Rattle.record_rules.specs.declared.Fields.{Fields}
use Rattle.record_rules.specs.declared.Record.{Record}
use Rattle.record_rules.proofs.Numbers.{Numbers, numbers, numbers_true, high_numbers, high_true}
use Rattle.record_rules.proofs.Answers as answers
use Rattle.record_rules.proofs.Answers.{accepted_as, good_read, refused_as, fault_read}
use Rattle.record_rules.proofs.ReadsBack.{no_bytes}
use Rattle.record_rules.proofs.Fits.{sets_exact, fits_by_parts_lem}
use Rattle.record_rules.specs.Read.{record_fault, record_of, read_record}
use Rattle.record_rules.proofs.Refusals.{record_refusal}
use Rattle.words.specs.RefusalNumbers.{record_refusals}
use Rattle.words.proofs.Refusals.{none_or_some}
use Rattle.record_writer.specs.Write.{write_as, write_record}
use Rattle.record_writer.specs.Promise.{Holds}
use Rattle.record_writer.proofs.Laws.{write_misfit, write_fits}
use Rattle.record_writer.proofs.Promise.{within_ok, written, writes_back, reads_back}
use Rattle.promise_rules.specs.Records.{SetsTo, Sets, trailer_profiles, Shared, RecordEnds, RecordOf, WriteRefused}

-- sets
module _ (types : SetTypes) (ts : List ℕ) (to : (t : ℕ) → one_of types t ≡ true → t ∈ ts) (from : (t : ℕ) → t ∈ ts → one_of types t ≡ true) (s : List ℕ) where
  pub sets_from : (n p q : ℕ) → sets_fault types s n p ≡ 0 → sets_end s n p ≡ q → SetsTo ts s n p q
  unfolding entries skip first_of
  sets_from zero p q e f = f
  sets_from (suc n) p q e f =
      let a = or_else_none (set_fault types s p) _ e in
      let w = whole types s p a.0 in
      (record { some = w.some; inside = w.inside; top = w.top; type = to _ w.type }, sets_from n (p + 2 + big s p 2) q a.1 f)

  pub sets_to : (n p q : ℕ) → SetsTo ts s n p q → (sets_fault types s n p ≡ 0) × (sets_end s n p ≡ q)
  unfolding entries skip first_of
  sets_to zero p q h = (refl, h)
  sets_to (suc n) p q h =
      let w = h.0 in
      let z = no_fault types s p (record { some = w.some; inside = w.inside; top = w.top; type = from _ w.type }) in
      let b = sets_to n (p + 2 + big s p 2) q h.1 in
      (rw z b.0, b.1)

  pub sets_fit_lem : (n : ℕ) → sets_fit types s n ≡ true → Sets ts s n 0
  sets_fit_lem n e = let w = fit_sets types s n e in sets_from n 0 (length s) w.0 w.1

  pub fit_of_sets : (n : ℕ) → Sets ts s n 0 → sets_fit types s n ≡ true
  fit_of_sets n h = let w = sets_to n 0 (length s) h in fit_true types s n w.0 w.1

-- types by name
pub one_in : (a t : ℕ) → one_of (record { one = a; other = a }) t ≡ true → t ∈ (a ∷ [])
one_in a t e = by_bool (t ≡? a) (λ q. Memᴰ.head (eqb-true _ _ q)) (λ q. true_false false (rw q at e) refl)

pub in_one : (a t : ℕ) → t ∈ (a ∷ []) → one_of (record { one = a; other = a }) t ≡ true
in_one a t m = ⊎_elim (λ e. rw (eq-eqb t a e)) (λ k. absurd (Memᴰ.not-nil k)) (Memᴰ.cases_cons m)

pub two_in : (a b t : ℕ) → one_of (record { one = a; other = b }) t ≡ true → t ∈ (a ∷ b ∷ [])
two_in a b t e = by_bool (t ≡? a) (λ q. Memᴰ.head (eqb-true _ _ q)) (λ q. Memᴰ.tail (Memᴰ.head (eqb-true _ _ (rw q at e))))

pub in_two : (a b t : ℕ) → t ∈ (a ∷ b ∷ []) → one_of (record { one = a; other = b }) t ≡ true
in_two a b t m = ⊎_elim
    (λ e. rw (eq-eqb t a e))
    (λ k. ⊎_elim (λ e. rw (eq-eqb t b e) (by_bool (t ≡? a) (λ q. rw q) (λ q. rw q))) (λ l. absurd (Memᴰ.not-nil l)) (Memᴰ.cases_cons k))
    (Memᴰ.cases_cons m)

-- profiles and length sizes
pub high_in : (p : ℕ) → is_high p ≡ true → p ∈ trailer_profiles
high_in p e = by_bool (p ≡? 100)
    (λ q. Memᴰ.head (eqb-true _ _ q))
    (λ q. Memᴰ.tail (by_bool (p ≡? 110)
    (λ s. Memᴰ.head (eqb-true _ _ s))
    (λ s. Memᴰ.tail (by_bool (p ≡? 122)
    (λ t. Memᴰ.head (eqb-true _ _ t))
    (λ t. Memᴰ.tail (Memᴰ.head (eqb-true _ _ (rw (q, s, t) at e))))))))

pub in_high : (p : ℕ) → p ∈ trailer_profiles → is_high p ≡ true
in_high p m = ⊎_elim (λ e. rw e)
    (λ m1. ⊎_elim (λ e. rw e)
    (λ m2. ⊎_elim (λ e. rw e)
    (λ m3. ⊎_elim (λ e. rw e) (λ l. absurd (Memᴰ.not-nil l)) (Memᴰ.cases_cons m3))
    (Memᴰ.cases_cons m2))
    (Memᴰ.cases_cons m1))
    (Memᴰ.cases_cons m)

size_in : (l : ℕ) → 0 < l → l ≤ 4 → not (l ≡? 3) ≡ true → l ∈ (1 ∷ 2 ∷ 4 ∷ [])
size_in l h k e =
    let d : l ≡ 3 → ⊥ = eqb-false _ _ (not-true (l ≡? 3) e) in
    by_bool (l ≡? 1)
    (λ q. Memᴰ.head (eqb-true _ _ q))
    (λ q. by_bool (l ≡? 2)
    (λ s. Memᴰ.tail (Memᴰ.head (eqb-true _ _ s)))
    (λ s. let x : l ≡ 1 → ⊥ = eqb-false _ _ q in let y : l ≡ 2 → ⊥ = eqb-false _ _ s in
    by_bool (l ≡? 4)
    (λ t. Memᴰ.tail (Memᴰ.tail (Memᴰ.head (eqb-true _ _ t))))
    (λ t. let z : l ≡ 4 → ⊥ = eqb-false _ _ t in absurd (omega arith))))

record Size (l : ℕ) : Type 0 where
  pub some : 0 < l
  pub most : l ≤ 4
  pub not_three : not (l ≡? 3) ≡ true

in_size : (l : ℕ) → l ∈ (1 ∷ 2 ∷ 4 ∷ []) → Size l
in_size l m = ⊎_elim (λ e. rw e (record { some = omega arith; most = omega arith; not_three = refl }))
    (λ m1. ⊎_elim (λ e. rw e (record { some = omega arith; most = omega arith; not_three = refl }))
    (λ m2. ⊎_elim (λ e. rw e (record { some = omega arith; most = omega arith; not_three = refl })) (λ l. absurd (Memᴰ.not-nil l)) (Memᴰ.cases_cons m2))
    (Memᴰ.cases_cons m1))
    (Memᴰ.cases_cons m)

-- what fits by parts
pub record Parts (k : Kind) (f : Fields) (a b x : List ℕ) : Type 0 where
  pub numbers : Numbers k f
  pub size : not (f.length_size ≡? 3) ≡ true
  pub sequences : sets_fit (record_layout k).sequence a f.sequences ≡ true
  pub pictures : sets_fit picture_types b f.pictures ≡ true
  pub belongs : (ending f.trailer).belongs k f.profile ≡ true
  pub extensions : sets_fit extension_types x (ending f.trailer).sets ≡ true

pub parts : (k : Kind) (f : Fields) (a b x : List ℕ) → fits k f a b x ≡ true → Parts k f a b x
unfolding fits_by_parts
parts k f a b x h =
    let e : fits_by_parts k f a b x ≡ true = sym (fits_by_parts_lem k f a b x) ∙ h in
    let c1 = all_first _ _ e in
    let c2 = all_first _ _ c1.1 in
    let c3 = all_first _ _ c2.1 in
    let c4 = all_first _ _ c3.1 in
    let c5 = all_first _ _ c4.1 in
    let c6 = all_first _ _ c5.1 in
    record { numbers = numbers k f c1.0; size = c2.0; sequences = c3.0; pictures = c4.0; belongs = c5.0; extensions = c6.0 }

parts_fit : (k : Kind) (f : Fields) (a b x : List ℕ) → Parts k f a b x → fits k f a b x ≡ true
unfolding fits_by_parts all
parts_fit k f a b x w =
    fits_by_parts_lem k f a b x ∙ rw (numbers_true k f w.numbers, w.size, w.sequences, w.pictures, w.belongs, w.extensions)

-- the bytes
heads : {a b c d e e' g g' : ℕ} {l : List ℕ} → e ≡ e' → g ≡ g' → (a ∷ b ∷ c ∷ d ∷ e ∷ g ∷ l) ≡ (a ∷ b ∷ c ∷ d ∷ e' ∷ g' ∷ l)
heads p q = rw (p, q)

module _ (f : Fields) (a b x : List ℕ) where
  bytes_avc : (rest : List ℕ) → f.complete ≡ flag.Absent → (ending f.trailer).head ++ x ≡ rest →
      record_bytes Avc f a b x ≡ (1 ∷ f.profile ∷ f.compatibility ∷ f.level ∷ (252 + (f.length_size - 1)) ∷ (224 + f.sequences) ∷ (a ++ (f.pictures ∷ (b ++ rest))))
  unfolding record_bytes flags_byte
  bytes_avc rest c e = rw (c, e) (heads (omega arith) (omega arith))

  bytes_svc : (bit : ℕ) → ((f.complete ≡ flag.Clear) × (bit ≡ 0)) ⊎ ((f.complete ≡ flag.Set) × (bit ≡ 1)) → f.trailer ≡ None → x ≡ [] →
      record_bytes Svc f a b x ≡ (1 ∷ f.profile ∷ f.compatibility ∷ f.level ∷ (bit * 128 + 124 + (f.length_size - 1)) ∷ f.sequences ∷ (a ++ (f.pictures ∷ b)))
  unfolding record_bytes flags_byte
  bytes_svc bit (inl c) t e = rw (c.0, c.1, t, e, append-nil b) (heads (omega arith) (omega arith))
  bytes_svc bit (inr c) t e = rw (c.0, c.1, t, e, append-nil b) (heads (omega arith) (omega arith))

-- what fits is valid
shared : (k : Kind) (f : Fields) (a b x : List ℕ) → (record_layout k).length_size.low ≡ 4 → Parts k f a b x → Shared f b
shared k f a b x e w =
    let n = w.numbers in
    record {
      profile = n.profile;
      compatibility = n.compatibility;
      level = n.level;
      length_size = size_in f.length_size n.some (omega (arith, n.most, e)) w.size;
      count = n.pictures;
      sets = sets_fit_lem picture_types (8 ∷ []) (one_in 8) (in_one 8) b f.pictures w.pictures;
    }

none_left : (x : List ℕ) → sets_fit extension_types x 0 ≡ true → x ≡ []
none_left x e = no_bytes x (sets_exact extension_types x 0 e).0

nothing_fits : sets_fit extension_types [] 0 ≡ true
nothing_fits = fit_of_sets extension_types (13 ∷ []) (one_in 13) (in_one 13) [] 0 refl

not_high : (p : ℕ) → is_high p ≡ false → p ∈ trailer_profiles → ⊥
not_high p e m = true_false (is_high p) (in_high p m) e

high_not : (p : ℕ) → (p ∈ trailer_profiles → ⊥) → is_high p ≡ false
high_not p h = by_bool (is_high p) (λ t. absurd (h (high_in p t))) (λ t. t)

flag_absent : (c : Flag) → flags_fit 0 0 (c ∷ []) ≡ true → c ≡ flag.Absent
unfolding flags_fit
flag_absent flag.Absent e = refl
flag_absent flag.Clear e = true_false false e refl
flag_absent flag.Set e = true_false false e refl

abbrev Bit : Flag → ℕ → Type 0
Bit c bit = ((c ≡ flag.Clear) × (bit ≡ 0)) ⊎ ((c ≡ flag.Set) × (bit ≡ 1))

flag_given : (c : Flag) → flags_fit 1 0 (c ∷ []) ≡ true → (bit : ℕ) × Bit c bit
unfolding flags_fit
flag_given flag.Absent e = true_false false e refl
flag_given flag.Clear e = (0, inl (refl, refl))
flag_given flag.Set e = (1, inr (refl, refl))

flag_fits_lem : (c : Flag) (bit : ℕ) → Bit c bit → flags_fit 1 0 (c ∷ []) ≡ true
unfolding flags_fit
flag_fits_lem c bit (inl e) = rw e.0
flag_fits_lem c bit (inr e) = rw e.0

absent_fits : (c : Flag) → c ≡ flag.Absent → flags_fit 0 0 (c ∷ []) ≡ true
unfolding flags_fit
absent_fits c e = rw e

-- what ends a record, by the definition and in plain facts
pub ends : (profile : ℕ) (t : Trailer) (x : List ℕ) → (ending t).fits ≡ true → (ending t).belongs Avc profile ≡ true → sets_fit extension_types x (ending t).sets ≡ true → RecordEnds profile t x ((ending t).head ++ x)
ends profile None x n g y = rw (none_left x y) (RecordEnds.none (not_high profile (not-true _ g)))
ends profile Absent x n g y = rw (none_left x y) (RecordEnds.absent (high_in profile g))
ends profile (Present t) x n g y =
    let m = high_numbers t n in
    RecordEnds.trailer t x (high_in profile g) (record { format = m.format; luma = m.luma; chroma = m.chroma; extensions = m.extensions })
    (sets_fit_lem extension_types (13 ∷ []) (one_in 13) (in_one 13) x t.extensions y)

pub record Ended (profile : ℕ) (t : Trailer) (x rest : List ℕ) : Type 0 where
  pub fits : (ending t).fits ≡ true
  pub belongs : (ending t).belongs Avc profile ≡ true
  pub sets : sets_fit extension_types x (ending t).sets ≡ true
  pub bytes : (ending t).head ++ x ≡ rest

pub ended : {profile : ℕ} {t : Trailer} {x rest : List ℕ} → RecordEnds profile t x rest → Ended profile t x rest
ended {profile = profile} (RecordEnds.none h) = record { fits = refl; belongs = rw (high_not profile h); sets = nothing_fits; bytes = refl }
ended {profile = profile} (RecordEnds.absent m) = record { fits = refl; belongs = in_high profile m; sets = nothing_fits; bytes = refl }
ended {profile = profile} (RecordEnds.trailer t x m n y) =
    record {
      fits = high_true t (record { format = n.format; luma = n.luma; chroma = n.chroma; extensions = n.extensions });
      belongs = in_high profile m;
      sets = fit_of_sets extension_types (13 ∷ []) (one_in 13) (in_one 13) x t.extensions y;
      bytes = refl;
    }

module _ (f : Fields) (a b x : List ℕ) where
  valid_avc : Parts Avc f a b x → RecordOf f a b x 0 (record_bytes Avc f a b x)
  valid_avc w =
      let absent = flag_absent f.complete w.numbers.flags in
      rw (bytes_avc f a b x ((ending f.trailer).head ++ x) absent refl)
      (RecordOf.avc ((ending f.trailer).head ++ x) (shared Avc f a b x refl w) absent w.numbers.sequences
      (sets_fit_lem (record_layout Avc).sequence (7 ∷ []) (one_in 7) (in_one 7) a f.sequences w.sequences)
      (ends f.profile f.trailer x w.numbers.trailer w.belongs w.extensions))

  valid_svc : (t : Trailer) → f.trailer ≡ t → Parts Svc f a b x → RecordOf f a b x 1 (record_bytes Svc f a b x)
  valid_svc None e w =
      let bit = flag_given f.complete w.numbers.flags in
      let none = none_left x (rw e at w.extensions) in
      rw (bytes_svc f a b x bit.0 bit.1 e none)
      (RecordOf.svc bit.0 (shared Svc f a b x refl w) bit.1 w.numbers.sequences
      (sets_fit_lem (record_layout Svc).sequence (7 ∷ 15 ∷ []) (two_in 7 15) (in_two 7 15) a f.sequences w.sequences)
      e none)
  valid_svc Absent e w = true_false false (rw e at w.belongs) refl
  valid_svc (Present t) e w = true_false false (rw e at w.belongs) refl

  -- and what is valid fits
  fits_avc : Shared f b → f.complete ≡ flag.Absent → f.sequences < 32 → Sets (7 ∷ []) a f.sequences 0 →
      (ending f.trailer).fits ≡ true → (ending f.trailer).belongs Avc f.profile ≡ true → sets_fit extension_types x (ending f.trailer).sets ≡ true → Parts Avc f a b x
  fits_avc h c l q n g y =
      let z = in_size f.length_size h.length_size in
      record {
        numbers = record {
          profile = h.profile;
          compatibility = h.compatibility;
          level = h.level;
          flags = absent_fits f.complete c;
          some = z.some;
          most = z.most;
          sequences = l;
          pictures = h.count;
          trailer = n;
        };
        size = z.not_three;
        sequences = fit_of_sets (record_layout Avc).sequence (7 ∷ []) (one_in 7) (in_one 7) a f.sequences q;
        pictures = fit_of_sets picture_types (8 ∷ []) (one_in 8) (in_one 8) b f.pictures h.sets;
        belongs = g;
        extensions = y;
      }

  fits_svc : (bit : ℕ) → Shared f b → Bit f.complete bit → f.sequences < 128 → Sets (7 ∷ 15 ∷ []) a f.sequences 0 →
      f.trailer ≡ None → x ≡ [] → Parts Svc f a b x
  fits_svc bit h c l q e none =
      let z = in_size f.length_size h.length_size in
      record {
        numbers = record {
          profile = h.profile;
          compatibility = h.compatibility;
          level = h.level;
          flags = flag_fits_lem f.complete bit c;
          some = z.some;
          most = z.most;
          sequences = l;
          pictures = h.count;
          trailer = rw e;
        };
        size = z.not_three;
        sequences = fit_of_sets (record_layout Svc).sequence (7 ∷ 15 ∷ []) (two_in 7 15) (in_two 7 15) a f.sequences q;
        pictures = fit_of_sets picture_types (8 ∷ []) (one_in 8) (in_one 8) b f.pictures h.sets;
        belongs = rw e;
        extensions = rw (e, none) nothing_fits;
      }

-- what is read
pub accepted_known : (kind : ℕ) (k : Kind) (s : List ℕ) {r : Record} → kind_of kind ≡ Some k → read_record kind s ≡ ok r → (record_fault k s ≡ 0) × (record_of k s ≡ r)
accepted_known kind k s q e = let w = accepted_as k s (sym (answers.read_known kind k s q) ∙ e) in (w.0, sym w.1)

pub known_accepted : (kind : ℕ) (k : Kind) (s : List ℕ) → kind_of kind ≡ Some k → record_fault k s ≡ 0 → read_record kind s ≡ ok (record_of k s)
known_accepted kind k s q e = answers.read_known kind k s q ∙ good_read k s e

-- of a kind's number
pub record Fitted (kind : ℕ) (f : Fields) (a b x s : List ℕ) : Type 0 where
  pub known : Kind
  pub is : kind_of kind ≡ Some known
  pub fits : fits known f a b x ≡ true
  pub bytes : record_bytes known f a b x ≡ s

module _ (f : Fields) (a b x : List ℕ) where
  pub fitted : {kind : ℕ} {s : List ℕ} → RecordOf f a b x kind s → Fitted kind f a b x s
  fitted (RecordOf.avc rest h c l q e) =
      let w = ended e in
      record {
        known = Avc;
        is = refl;
        fits = parts_fit Avc f a b x (fits_avc f a b x h c l q w.fits w.belongs w.sets);
        bytes = bytes_avc f a b x rest c w.bytes;
      }
  fitted (RecordOf.svc bit h c l q e none) =
      record {
        known = Svc;
        is = refl;
        fits = parts_fit Svc f a b x (fits_svc f a b x bit h c l q e none);
        bytes = bytes_svc f a b x bit c e none;
      }

-- the kinds by number
pub by_kind : {G : Type 0} (kind : ℕ) → (kind ≡ 0 → G) → (kind ≡ 1 → G) → ((kind ≡ 0 → ⊥) → (kind ≡ 1 → ⊥) → G) → G
by_kind kind f g h = by_bool (kind ≡? 0)
    (λ t. f (eqb-true _ _ t))
    (λ t. by_bool (kind ≡? 1) (λ u. g (eqb-true _ _ u)) (λ u. h (eqb-false _ _ t) (eqb-false _ _ u)))

module _ (f : Fields) (a b x : List ℕ) where
  write_avc : (room : ℕ) → write_record 0 f a b x room ≡ within room (write_as Avc f a b x)
  unfolding write_record
  write_avc room = refl

  write_svc : (room : ℕ) → write_record 1 f a b x room ≡ within room (write_as Svc f a b x)
  unfolding write_record
  write_svc room = refl

  write_none : (kind room : ℕ) → (kind ≡ 0 → ⊥) → (kind ≡ 1 → ⊥) → write_record kind f a b x room ≡ refused 4 0
  unfolding write_record
  write_none kind room g h = rw (ne_eqb kind 0 g, ne_eqb kind 1 h)

  wrote_avc : (room : ℕ) {s : List ℕ} → write_record 0 f a b x room ≡ ok s → RecordOf f a b x 0 s × (length s ≤ room)
  wrote_avc room e =
      let w = within_ok room (write_as Avc f a b x) (sym (write_avc room) ∙ e) in
      let v = written Avc f a b x w.0 in
      (subst (RecordOf f a b x 0) v.1 (valid_avc f a b x (parts Avc f a b x v.0)), w.1)

  wrote_svc : (room : ℕ) {s : List ℕ} → write_record 1 f a b x room ≡ ok s → RecordOf f a b x 1 s × (length s ≤ room)
  wrote_svc room e =
      let w = within_ok room (write_as Svc f a b x) (sym (write_svc room) ∙ e) in
      let v = written Svc f a b x w.0 in
      (subst (RecordOf f a b x 1) v.1 (valid_svc f a b x f.trailer refl (parts Svc f a b x v.0)), w.1)

  wrote : (kind room : ℕ) {s : List ℕ} → write_record kind f a b x room ≡ ok s → RecordOf f a b x kind s × (length s ≤ room)
  wrote kind room {s} e = by_kind kind
      (λ z. rw z (wrote_avc room (rw z at e)))
      (λ z. rw z (wrote_svc room (rw z at e)))
      (λ g h. ok_refused (sym (write_none kind room g h) ∙ e))

  spelled : (kind room : ℕ) {s : List ℕ} → RecordOf f a b x kind s → write_record kind f a b x room ≡ within room (ok s)
  unfolding write_record
  spelled kind room w =
      let v = fitted f a b x w in
      rw (v.is, write_fits v.known f a b x v.fits, v.bytes)

  pub written_exactly : (kind room : ℕ) (s : List ℕ) → (write_record kind f a b x room ≡ ok s) ↔ (RecordOf f a b x kind s × (length s ≤ room))
  written_exactly kind room s = (wrote kind room, λ w. spelled kind room w.0 ∙ within_room room s w.1)

  pub accepted_exactly : (kind : ℕ) (s : List ℕ) → Bytes s → Holds kind s f a b x ↔ RecordOf f a b x kind s
  accepted_exactly kind s g = (
    λ h. (wrote kind (length s) (writes_back kind s f a b x (length s) g h (omega arith))).0,
    λ w. reads_back kind s f a b x (length s) (spelled kind (length s) w ∙ within_room (length s) s (omega arith)),
  )

  -- a known kind: fields that fit are written, else 31
  module _ (kind : ℕ) (k : Kind) (is : kind_of kind ≡ Some k) (valid : fits k f a b x ≡ true → RecordOf f a b x kind (record_bytes k f a b x)) where
    misfit : fits k f a b x ≡ false → (room : ℕ) → write_record kind f a b x room ≡ refused 31 0
    unfolding write_record
    misfit t room = rw (is, write_misfit k f a b x t)

    because : (known : (kind ≡ 0) ⊎ (kind ≡ 1)) (room : ℕ) {n p : ℕ} → write_record kind f a b x room ≡ refused n p → WriteRefused kind f a b x room n p
    because known room {n} {p} e = by_bool (fits k f a b x)
        (λ t.
        let w = valid t in
        let s = record_bytes k f a b x in
        by_bool (room <? length s)
        (λ l. let l' : room < length s = ltb-true _ _ l in
        let q = refused_same (sym (spelled kind room w ∙ within_not room s l') ∙ e) in
        rw (← q.0, ← q.1) (WriteRefused.room s w l'))
        (λ l. ok_refused (sym e ∙ spelled kind room w ∙ within_room room s (ltb-false _ _ l))))
        (λ t.
        let q = refused_same (sym (misfit t room) ∙ e) in
        rw (← q.0, ← q.1) (WriteRefused.fields known (λ s w. ok_refused (sym (misfit t (length s)) ∙ spelled kind (length s) w ∙ within_room (length s) s (omega arith)))))

    thirty_one : (room : ℕ) → ((s : List ℕ) → RecordOf f a b x kind s → ⊥) → write_record kind f a b x room ≡ refused 31 0
    thirty_one room none = by_bool (fits k f a b x)
        (λ t. absurd (none (record_bytes k f a b x) (valid t)))
        (λ t. misfit t room)

  avc : fits Avc f a b x ≡ true → RecordOf f a b x 0 (record_bytes Avc f a b x)
  avc t = valid_avc f a b x (parts Avc f a b x t)

  svc : fits Svc f a b x ≡ true → RecordOf f a b x 1 (record_bytes Svc f a b x)
  svc t = valid_svc f a b x f.trailer refl (parts Svc f a b x t)

  refused_because : (kind room n p : ℕ) → write_record kind f a b x room ≡ refused n p → WriteRefused kind f a b x room n p
  refused_because kind room n p e = by_kind kind
      (λ z. rw z (because 0 Avc refl avc (inl refl) room (rw z at e)))
      (λ z. rw z (because 1 Svc refl svc (inr refl) room (rw z at e)))
      (λ g h. let q = refused_same (sym (write_none kind room g h) ∙ e) in rw (← q.0, ← q.1) (WriteRefused.kind g h))

  refuses : (kind room : ℕ) {n p : ℕ} → WriteRefused kind f a b x room n p → write_record kind f a b x room ≡ refused n p
  refuses kind room (WriteRefused.kind g h) = write_none kind room g h
  refuses kind room (WriteRefused.fields (inl z) none) = rw z (thirty_one 0 Avc refl avc room (rw z at none))
  refuses kind room (WriteRefused.fields (inr z) none) = rw z (thirty_one 1 Svc refl svc room (rw z at none))
  refuses kind room (WriteRefused.room s w l) = spelled kind room w ∙ within_not room s l

  pub write_refused_exactly : (kind room n p : ℕ) → (write_record kind f a b x room ≡ refused n p) ↔ WriteRefused kind f a b x room n p
  write_refused_exactly kind room n p = (refused_because kind room n p, refuses kind room)

-- reading refused: 4, or a refusal of a record, at 0
pub read_none : (kind : ℕ) (s : List ℕ) → (kind ≡ 0 → ⊥) → (kind ≡ 1 → ⊥) → read_record kind s ≡ refused 4 0
unfolding read_record
read_none kind s g h = rw (ne_eqb kind 0 g, ne_eqb kind 1 h)

pub refused_known : (kind : ℕ) (k : Kind) (s : List ℕ) {n p : ℕ} → kind_of kind ≡ Some k → read_record kind s ≡ refused n p → (record_fault k s ≡ n) × (0 < n) × (p ≡ 0)
refused_known kind k s {n} {p} is e = refused_as k s (sym (answers.read_known kind k s is) ∙ e)

pub known_refused : (kind : ℕ) (k : Kind) (s : List ℕ) {n : ℕ} → kind_of kind ≡ Some k → record_fault k s ≡ n → 0 < n → read_record kind s ≡ refused n 0
known_refused kind k s {n} is e l = answers.read_known kind k s is ∙ fault_read k s e l

of_record : (kind : ℕ) (k : Kind) (s : List ℕ) {n p : ℕ} → kind_of kind ≡ Some k → read_record kind s ≡ refused n p → n ∈ record_refusals
of_record kind k s is e =
    let w = refused_known kind k s is e in
    subst (λ (y : ℕ). y ∈ record_refusals) w.0 (none_or_some record_refusals (record_refusal k s) (omega (arith, w.0, w.1)))

pub read_number : (kind : ℕ) (s : List ℕ) {n p : ℕ} → read_record kind s ≡ refused n p → (n ≡ 4) ⊎ (n ∈ record_refusals)
read_number kind s {n} {p} e = by_kind kind
    (λ z. inr (of_record kind Avc s (rw z) e))
    (λ z. inr (of_record kind Svc s (rw z) e))
    (λ g h. inl (sym (refused_same (sym (read_none kind s g h) ∙ e)).0))

-- given room, a record read and written again: the same bytes, and the rest of the buffer as it was
pub written_back :
    (kind : ℕ) (s : List ℕ) (f : Fields) (a b x : List ℕ) → Bytes s → Holds kind s f a b x → {out out₁ : List ℕ} {c : Answer ℕ} →
    Wrote out out₁ c (write_record kind f a b x (length out)) → length s ≤ length out →
    (c ≡ ok (length s)) × (out₁ ≡ s ++ drop (length s) out)
unfolding overwrite
written_back kind s f a b x g h {out} {out₁} {c} w l =
    let v : Wrote out out₁ c (ok s) = subst (Wrote out out₁ c) (writes_back kind s f a b x (length out) g h l) w in
    (v.answer, v.buffer)
