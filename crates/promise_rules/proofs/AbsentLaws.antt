-- The proofs of what Request01 says: what may end a record, and a trailer that is absent. Assumes nothing.
--
--   ends_exactly                                a record that is good up to its picture sets, by what follows them
--   absent_exactly                              read as absent
--   cut_trailer                                 some bytes of a trailer
--   absent_written, absent_misfit, none_misfit  written
--   absent_number                               as numbers
--   track_good                                  as the record of a track
use Prim.Native.Nat.{ℕ, ◌+◌, ◌-◌, ◌≤◌, ◌<◌}
use mathlib.Core.Path.{◌≡◌, refl, ap, sym, ◌∙◌, subst}
use mathlib.Core.List.{List, [], ◌∷◌, ◌++◌, append-nil}
use mathlib.Core.Logic.{◌⊎◌, inl, inr, ⊎_elim, ◌↔◌}
use native.Mathlib.Omega.{arith}
use borrow.Author.Tests.{ltb-true, ltb-false, le-ltb}
use lib.ListN.{length, drop, get_or}
use lib.Seq.{drop-length}
use Rattle.words.specs.Tests.{◌<?◌}
use Rattle.words.specs.Refusals.{refused, ok}
use Rattle.words.specs.Lists.{◌∈◌}
use Rattle.words.specs.Bytes.{Bytes, byte_at, big, part}
use Rattle.words.proofs.Tests.{by_bool}
use Rattle.words.proofs.Refusals.{ok_same, ok_refused}
use Rattle.words.proofs.Positions.{at_end}
use Rattle.numbers.specs.declared.Kind.TheVariants.{Avc, Svc}
use Rattle.record_rules.specs.Trailers.{extension_types, ending}
use Rattle.record_rules.specs.Read.{record_fault, record_of, trailer_of, pictures_end, read_record}
use Rattle.record_rules.specs.Answers.{part_bytes}
use Rattle.record_rules.specs.declared.Flag.TheVariants as flag
use Rattle.record_rules.specs.declared.Trailer.{Trailer}
use Rattle.record_rules.specs.declared.Trailer.TheVariants.{None, Absent, Present}
use Rattle.record_rules.specs.declared.Fields.{Fields}
use Rattle.record_rules.specs.declared.Record.{Record}
use Rattle.record_rules.proofs.Parsed.{parsed}
use Rattle.record_rules.proofs.BytesBack.{end_back}
use Rattle.record_rules.proofs.ReadsBack as back
use Rattle.record_rules.proofs.Fits.{sets_exact, read_fits}
use Rattle.record_writer.specs.Write.{write_record}
use Rattle.record_numbers.specs.Numbers.{read_numbers}
use Rattle.promise_rules.specs.Records.{Sets, trailer_profiles, Shared, RecordEnds, RecordOf, WriteRefused}
use Rattle.promise_rules.specs.Reading.{ByteAt, ByteRefused, FormatBits, DepthBits, PicturesEnd, EndRefused, BytesRefused, ReadRefused}
use Rattle.promise_rules.specs.Numbers.{trailer_numbers}
use Rattle.promise_rules.specs.Bundles.{TrackAt}
use Rattle.promise_rules.proofs.RecordLaws.{parts, ends, ended, by_kind, accepted_known, known_accepted, accepted_exactly, written_exactly, write_refused_exactly, read_none}
use Rattle.promise_rules.proofs.ReadLaws.{good_to, to_good, read_refused}
use Rattle.promise_rules.proofs.CallLaws.{part_bytes_lem}
use Rattle.promise_rules.proofs.NumberLaws.{numbers_read}

-- the cases apart, by their numbers
abbrev tag : Trailer → ℕ
tag None = 0
tag Absent = 1
tag (Present t) = 2

tag_absent : (t : Trailer) → tag t ≡ 1 → t ≡ Absent
tag_absent None e = absurd (omega arith)
tag_absent Absent e = refl
tag_absent (Present t) e = absurd (omega arith)

tag_number : (t : Trailer) (start len : ℕ) → get_or (trailer_numbers t start len) 0 0 ≡ tag t
tag_number None start len = refl
tag_number Absent start len = refl
tag_number (Present t) start len = refl

-- nothing follows where it is absent, and only where a trailer belongs
absent_rest : {profile : ℕ} {t : Trailer} {x rest : List ℕ} → t ≡ Absent → RecordEnds profile t x rest → (profile ∈ trailer_profiles) × (x ≡ []) × (rest ≡ [])
absent_rest e (RecordEnds.none h) = let z = ap tag e in absurd (omega arith)
absent_rest e (RecordEnds.absent m) = (m, refl, refl)
absent_rest e (RecordEnds.trailer t x m n y) = let z = ap tag e in absurd (omega arith)

none_rest : {profile : ℕ} {t : Trailer} {x rest : List ℕ} → t ≡ None → RecordEnds profile t x rest → profile ∈ trailer_profiles → ⊥
none_rest e (RecordEnds.none h) m = h m
none_rest e (RecordEnds.absent k) m = let z = ap tag e in absurd (omega arith)
none_rest e (RecordEnds.trailer t x k n y) m = let z = ap tag e in absurd (omega arith)

module _ (s : List ℕ) (g : Bytes s) where
  read_ends : record_fault Avc s ≡ 0 → RecordEnds (byte_at s 1) (trailer_of Avc s) (part_bytes s (record_of Avc s).extensions) (drop (pictures_end Avc s) s)
  read_ends e =
      let w = parts Avc _ _ _ _ (read_fits Avc s g e) in
      let x = part_bytes s (record_of Avc s).extensions in
      subst (RecordEnds (byte_at s 1) (trailer_of Avc s) x) (end_back Avc s g e) (ends (byte_at s 1) (trailer_of Avc s) x w.numbers.trailer w.belongs w.extensions)

  ends_read : (q : ℕ) → PicturesEnd Avc s q → (t : Trailer) (x : List ℕ) → RecordEnds (byte_at s 1) t x (drop q s) → (record_fault Avc s ≡ 0) × (trailer_of Avc s ≡ t) × (part_bytes s (record_of Avc s).extensions ≡ x)
  unfolding record_fault
  ends_read q w t x e =
      let v = good_to Avc s g q w in
      let h = ended e in
      let f = sets_exact extension_types x (ending t).sets h.sets in
      let n = back.ended Avc s q t x v.4 (sym h.bytes) h.fits f.0 h.belongs in
      let d : length s - (q + length (ending t).head) ≡ length x = omega (arith, n.count) in (
        rw (v.0, v.1, v.2, v.3, n.is, n.fault, n.sets, f.1, n.end, le-ltb (length s) (length s) (omega arith)),
        rw v.3 n.is,
        rw (v.3, n.is, n.end, d) n.part,
      )

  pub ends_exactly :
      (q : ℕ) → PicturesEnd Avc s q → (t : Trailer) (x : List ℕ) →
      ((r : Record) × (read_record 0 s ≡ ok r) × (r.fields.trailer ≡ t) × (part_bytes s r.extensions ≡ x)) ↔ RecordEnds (byte_at s 1) t x (drop q s)
  ends_exactly q w t x = (
    λ h.
        let e = (accepted_known 0 Avc s refl h.1).0 in
        let r = (accepted_known 0 Avc s refl h.1).1 in
        let i : trailer_of Avc s ≡ t = ap (λ (r : Record). r.fields.trailer) r ∙ h.2 in
        let j : part_bytes s (record_of Avc s).extensions ≡ x = ap (λ (r : Record). part_bytes s r.extensions) r ∙ h.3 in
        rw (← i, ← j, ← (good_to Avc s g q w).3) (read_ends e),
    λ h. let v = ends_read q w t x h in (record_of Avc s, known_accepted 0 Avc s refl v.0, v.1, v.2),
  )

  absent_avc : ((r : Record) × (read_record 0 s ≡ ok r) × (r.fields.trailer ≡ Absent)) → (byte_at s 1 ∈ trailer_profiles) × PicturesEnd Avc s (length s)
  absent_avc h =
      let e = (accepted_known 0 Avc s refl h.1).0 in
      let i : trailer_of Avc s ≡ Absent = ap (λ (r : Record). r.fields.trailer) (accepted_known 0 Avc s refl h.1).1 ∙ h.2 in
      let a = absent_rest i (read_ends e) in
      let z : pictures_end Avc s ≡ length s = at_end s (pictures_end Avc s) (parsed Avc s e).within a.2 in
      (a.0, subst (PicturesEnd Avc s) z (to_good Avc s g e))

  avc_absent : byte_at s 1 ∈ trailer_profiles → PicturesEnd Avc s (length s) → (r : Record) × (read_record 0 s ≡ ok r) × (r.fields.trailer ≡ Absent)
  avc_absent m w =
      let e : drop (length s) s ≡ [] = drop-length s in
      let v = (ends_exactly (length s) w Absent []).1 (rw e (RecordEnds.absent m)) in
      (v.0, v.1, v.2)

  pub absent_exactly :
      (kind : ℕ) → ((r : Record) × (read_record kind s ≡ ok r) × (r.fields.trailer ≡ Absent))
      ↔ ((kind ≡ 0) × (byte_at s 1 ∈ trailer_profiles) × PicturesEnd Avc s (length s))
  absent_exactly kind = (
    λ h. by_kind kind
        (λ z. let a = absent_avc (rw z at h) in (z, a.0, a.1))
        (λ z. let q = ap (λ (r : Record). tag r.fields.trailer) (accepted_known 1 Svc s refl (rw z at h.1)).1 ∙ ap tag h.2 in absurd (omega arith))
        (λ u v. ok_refused (sym (read_none kind s u v) ∙ h.1)),
    λ h. rw h.0 (avc_absent h.1 h.2),
  )

  -- cut after one, two or three bytes whose fixed bits are right
  pub cut_trailer :
      (q : ℕ) → byte_at s 1 ∈ trailer_profiles → PicturesEnd Avc s q → q < length s → length s ≤ q + 3 →
      252 ≤ byte_at s q → (q + 1 < length s → 248 ≤ byte_at s (q + 1)) → (q + 2 < length s → 248 ≤ byte_at s (q + 2)) →
      read_record 0 s ≡ refused 8 0
  cut_trailer q m w a b f l c =
      let format : ByteAt FormatBits s q = record { there = a; bits = f } in
      let gives : EndRefused Avc s q 8 → read_record 0 s ≡ refused 8 0 = λ r. (read_refused 0 s g 8 0).1 (ReadRefused.avc refl (BytesRefused.ending q w r)) in
      by_bool (q + 1 <? length s)
      (λ t.
      let there : q + 1 < length s = ltb-true _ _ t in
      let luma : ByteAt DepthBits s (q + 1) = record { there = there; bits = l there } in
      by_bool (q + 2 <? length s)
      (λ u. let here : q + 2 < length s = ltb-true _ _ u in gives (EndRefused.count m format luma (record { there = here; bits = c here }) b))
      (λ u. gives (EndRefused.chroma m format luma (ByteRefused.missing (ltb-false _ _ u)))))
      (λ t. gives (EndRefused.luma m format (ByteRefused.missing (ltb-false _ _ t))))

  -- as numbers
  pub absent_number :
      (kind room : ℕ) (ns : List ℕ) → read_numbers kind s room ≡ ok ns →
      (get_or ns 11 0 ≡ 1) ↔ ((kind ≡ 0) × (byte_at s 1 ∈ trailer_profiles) × PicturesEnd Avc s (length s))
  absent_number kind room ns e =
      let w = (numbers_read kind s g room ns).0 e in
      let h = (accepted_exactly w.fields w.sequences w.pictures w.extensions kind s g).1 w.valid in
      let t : get_or ns 11 0 ≡ tag w.fields.trailer = ap (λ (l : List ℕ). get_or l 11 0) w.numbers ∙ tag_number w.fields.trailer _ _ in (
        λ one. (absent_exactly kind).0 (h.found, h.read, ap (λ (f : Fields). f.trailer) h.fields ∙ tag_absent w.fields.trailer (sym t ∙ one)),
        λ q.
            let r = (absent_exactly kind).1 q in
            let i : h.found ≡ r.0 = ok_same (sym h.read ∙ r.1) in
            t ∙ ap (λ (f : Fields). tag f.trailer) (sym h.fields) ∙ ap (λ (x : Record). tag x.fields.trailer) i ∙ ap tag r.2,
      )

-- written
module _ (f : Fields) (a c : List ℕ) where
  pub absent_written :
      Shared f c → f.complete ≡ flag.Absent → f.sequences < 32 → Sets (7 ∷ []) a f.sequences 0 →
      f.profile ∈ trailer_profiles → f.trailer ≡ Absent → (room : ℕ) →
      let s : List ℕ = 1 ∷ f.profile ∷ f.compatibility ∷ f.level ∷ (252 + (f.length_size - 1)) ∷ (224 + f.sequences) ∷ (a ++ (f.pictures ∷ c)) in
      (length s ≤ room → write_record 0 f a c [] room ≡ ok s) × (room < length s → write_record 0 f a c [] room ≡ refused 29 0)
  absent_written h e l q m t room =
      let s : List ℕ = 1 ∷ f.profile ∷ f.compatibility ∷ f.level ∷ (252 + (f.length_size - 1)) ∷ (224 + f.sequences) ∷ (a ++ (f.pictures ∷ c)) in
      let v : RecordOf f a c [] 0 (1 ∷ f.profile ∷ f.compatibility ∷ f.level ∷ (252 + (f.length_size - 1)) ∷ (224 + f.sequences) ∷ (a ++ (f.pictures ∷ (c ++ [])))) =
      RecordOf.avc [] h e l q (rw t (RecordEnds.absent m)) in
      let w : RecordOf f a c [] 0 s = rw (append-nil c) at v in
      (λ r. (written_exactly f a c [] 0 room s).1 (w, r), λ r. (write_refused_exactly f a c [] 0 room 29 0).1 (WriteRefused.room s w r))

  module _ (x : List ℕ) where
    abbrev Misplaced : ℕ → Type 0
    Misplaced kind = (kind ≡ 1) ⊎ ((kind ≡ 0) × ((f.profile ∈ trailer_profiles → ⊥) ⊎ (x ≡ [] → ⊥)))

    no_absent : f.trailer ≡ Absent → {kind : ℕ} {s : List ℕ} → Misplaced kind → RecordOf f a c x kind s → ⊥
    no_absent t (inl z) (RecordOf.avc rest h e l q w) = absurd (omega arith)
    no_absent t (inr z) (RecordOf.avc rest h e l q w) = let y = absent_rest t w in ⊎_elim (λ p. p y.0) (λ p. p y.1) z.1
    no_absent t z (RecordOf.svc bit h e l q w n) = let y = ap tag (sym w ∙ t) in absurd (omega arith)

    pub absent_misfit : f.trailer ≡ Absent → (kind : ℕ) → Misplaced kind → (room : ℕ) → write_record kind f a c x room ≡ refused 31 0
    absent_misfit t kind h room =
        (write_refused_exactly f a c x kind room 31 0).1 (WriteRefused.fields (⊎_elim (λ z. inr z) (λ w. inl w.0) h) (λ s w. no_absent t h w))

    no_none : f.trailer ≡ None → f.profile ∈ trailer_profiles → {kind : ℕ} {s : List ℕ} → kind ≡ 0 → RecordOf f a c x kind s → ⊥
    no_none t m z (RecordOf.avc rest h e l q w) = none_rest t w m
    no_none t m z (RecordOf.svc bit h e l q w n) = absurd (omega arith)

    pub none_misfit : f.trailer ≡ None → f.profile ∈ trailer_profiles → (room : ℕ) → write_record 0 f a c x room ≡ refused 31 0
    none_misfit t m room = (write_refused_exactly f a c x 0 room 31 0).1 (WriteRefused.fields (inl refl) (λ s w. no_none t m refl w))

-- in a bundle
module _ (b : List ℕ) (g : Bytes b) where
  pub track_good :
      (p : ℕ) → p + 3 + big b (p + 1) 2 ≤ length b → byte_at b p ≡ 0 → let s = part b (p + 3) (big b (p + 1) 2) in
      byte_at s 1 ∈ trailer_profiles → PicturesEnd Avc s (length s) → TrackAt b p
  track_good p l z m w =
      let s = part b (p + 3) (big b (p + 1) 2) in
      let v = avc_absent s (part_bytes_lem b (p + 3) (big b (p + 1) 2) g) m w in
      let r = v.0 in
      let h = (accepted_exactly r.fields (part_bytes s r.sequences) (part_bytes s r.pictures) (part_bytes s r.extensions) 0 s (part_bytes_lem b (p + 3) (big b (p + 1) 2) g)).0
      (record { found = r; read = v.1; fields = refl; sequences = refl; pictures = refl; extensions = refl }) in
      record {
        head = omega arith;
        inside = l;
        fields = r.fields;
        sequences = part_bytes s r.sequences;
        pictures = part_bytes s r.pictures;
        extensions = part_bytes s r.extensions;
        valid = rw z h;
      }
