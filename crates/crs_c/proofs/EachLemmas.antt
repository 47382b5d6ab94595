-- Many texts, answered one after the other.
use Rattle.std.proofs.Common.{◌≡◌, ◌≤◌, ◌<◌, ◌+◌, ◌-◌, ◌++◌, ◌∷◌, ◌⊎◌, [], ℕ, List, length, take, drop, get_or, slice_set, refl, sym, ap, subst, ◌∙◌, inl, inr, append_assoc, append-nil, arith}
use Rattle.std.proofs.Math.Seq.{take-append_seam, drop-append-add}
use Rattle.std.proofs.lemmas.List.{set_at, get_or_at, take_more, drop_more, drop-drop, length-append, length-drop, length-take-le, take-append-drop, drop_all}
use Rattle.crs_text.specs.inner.Prelude.{refusal_of}
use Rattle.crs_text.specs.declared.fault.Fault.{Fault}
use Rattle.crs_text.specs.declared.fault.Fault.TheVariants as faults
use Rattle.crs_c.specs.declared.calls.canon.Entry.{Entry}
use Rattle.crs_value.specs.inner.Prelude.{IsFaultOfText}
use Rattle.sha2.specs.Sha256.{sha256}
use Rattle.crs_writer.specs.inner.Prelude.{IsCanonicalOf}
use Rattle.crs_c.specs.declared.calls.canon.Wanted.{Wanted}
use Rattle.crs_c.specs.declared.calls.canon.Wanted.TheVariants.{Canonical, Digest}
use Rattle.crs_c.specs.Canon.{IsDigestOf, Spelling}
use Rattle.crs_c.specs.Each.{AreAnsweredBy, EndsAt, IsAnsweredBy, IsEachAt, NeedsMore, text_of}
use Rattle.crs_c.specs.inner.Wanting.{IsMadeOf, IsWanted, level_wanted}
use Rattle.crs_c.specs.inner.Turns.{IsTurn, IsWritten, refused_entry, with_bytes}

-- one entry more at the end
pub answered_more : (Is : Spelling) (texts : List ℕ) (at : ℕ) (entries answered : List Entry) (written : List ℕ) (entry one : Entry) (own : List ℕ) →
    AreAnsweredBy Is texts at entries answered written → IsAnsweredBy Is texts (at + length written) entry one own →
    AreAnsweredBy Is texts at (entries ++ entry ∷ []) (answered ++ one ∷ []) (written ++ own)
answered_more Is texts at [] answered written entry one own are is = (
  one,
  [],
  own,
  [],
  ap (λ z. z ++ one ∷ []) are.0,
  ap (λ z. z ++ own) are.1 ∙ sym (append-nil own),
  subst (λ place. IsAnsweredBy Is texts place entry one own) (omega (arith, ap length are.1)) is,
  (refl, refl),
)
answered_more Is texts at (first ∷ entries) answered written entry one own (new, others, begun, rest, e, f, is_first, are) is =
    let there : at + length written ≡ (at + length begun) + length rest = omega (arith, ap length f, length-append begun rest) in (
      new,
      others ++ one ∷ [],
      begun,
      rest ++ own,
      ap (λ z. z ++ one ∷ []) e,
      ap (λ z. z ++ own) f ∙ append_assoc begun rest own,
      is_first,
      answered_more Is texts (at + length begun) entries others rest entry one own are (rw there at is),
    )

-- what became of the first entries, and of the buffer
pub record SoFar (Is : Spelling) (texts : List ℕ) (old : List Entry) (out : List ℕ) (index at : ℕ)
    (now : List Entry) (out_now : List ℕ) : Type 0 where
  pub answered : List Entry
  pub written : List ℕ
  pub are : AreAnsweredBy Is texts 0 (take index old) answered written
  pub many : length answered ≡ index
  pub entries : now ≡ answered ++ drop index old
  pub place : at ≡ length written
  pub fits : length written ≤ length out
  pub is_out : out_now ≡ written ++ drop (length written) out

-- at first nothing
pub nothing_yet : (Is : Spelling) (texts : List ℕ) (old : List Entry) (out : List ℕ) → SoFar Is texts old out 0 0 old out
nothing_yet Is texts old out = record {
  answered = [];
  written = [];
  are = (refl, refl);
  many = refl;
  entries = refl;
  place = refl;
  fits = omega arith;
  is_out = refl;
}

-- where an answered entry ends
pub ends_there : (Is : Spelling) (texts : List ℕ) (at : ℕ) (entry one : Entry) (own : List ℕ) →
    IsAnsweredBy Is texts at entry one own → one.written_end ≡ at + length own
ends_there Is texts at entry one own (inl (is, e)) = ap (λ (x : Entry). x.written_end) e
ends_there Is texts at entry one own (inr (refusal, is, none, e)) =
    let end = ap (λ (x : Entry). x.written_end) e in
    let long = ap length none in
    omega (arith, end, long)

-- a turn that writes what is answered of a text, or lacks the room
pub turn_written : (Is : Spelling) (texts : List ℕ) (at : ℕ) (entry : Entry) (out bytes : List ℕ) (one : Entry) (new_out : List ℕ) (code : ℕ) →
    at ≤ length out → Is (text_of texts entry) bytes → IsWritten bytes at entry out one new_out code →
    IsTurn Is texts at entry out one new_out code
unfolding IsTurn IsWritten
turn_written Is texts at entry out bytes one new_out code le is (inl (room, e, written, ok)) =
    inl (bytes, inl (is, e), room, written, ok)
turn_written Is texts at entry out bytes one new_out code le is (inr (more, same, five)) =
    inr (inl ((bytes, is, omega (arith, more, le)), same, five))

-- a turn that writes what is wanted
pub turn_made : (wanted : Wanted) (texts : List ℕ) (at : ℕ) (entry : Entry) (out canonical : List ℕ) (one : Entry) (new_out : List ℕ) (code : ℕ) →
    at ≤ length out → IsCanonicalOf (level_wanted wanted) (text_of texts entry) canonical → IsMadeOf wanted canonical at entry out one new_out code →
    IsTurn (IsWanted wanted) texts at entry out one new_out code
turn_made (Canonical level) texts at entry out canonical one new_out code le is made =
    turn_written (IsCanonicalOf level) texts at entry out canonical one new_out code le is made
turn_made (Digest level) texts at entry out canonical one new_out code le is made =
    turn_written (IsDigestOf level) texts at entry out (sha256 canonical) one new_out code le (canonical, is, refl) made

-- a turn whose text is refused, or which has no memory
pub turn_refused : (Is : Spelling) (texts : List ℕ) (at : ℕ) (entry : Entry) (out : List ℕ) (fault : Fault) (told : Entry × ℕ) (new_out : List ℕ) →
    at ≤ length out → IsFaultOfText (text_of texts entry) fault → told ≡ refused_entry at (refusal_of fault) entry → new_out ≡ out →
    IsTurn Is texts at entry out told.0 new_out told.1
unfolding IsTurn
turn_refused Is texts at entry out (faults.Refused refusal) told new_out le is e same =
    let none : at + 0 ≡ at = omega arith in
    let as_before : take at out ++ ([] ++ drop (at + 0) out) ≡ out =
    ap (λ n. take at out ++ drop n out) none ∙ take-append-drop at out in
    inl ([], inr (refusal, is, refl, ap (λ (p : Entry × ℕ). p.0) e), omega (arith, le), same ∙ sym as_before, ap (λ (p : Entry × ℕ). p.1) e)
turn_refused Is texts at entry out (faults.Memory error) told new_out le is e same =
    inr (inr (same, ap (λ (p : Entry × ℕ). p.1) e))

-- a turn that ends with code 0 has answered its entry
pub turn_done : (Is : Spelling) (texts : List ℕ) (at : ℕ) (entry : Entry) (out : List ℕ) (one : Entry) (new_out : List ℕ) (code : ℕ) →
    IsTurn Is texts at entry out one new_out code → code ≡ 0 →
    (own : List ℕ) × IsAnsweredBy Is texts at entry one own × (at + length own ≤ length out) × (new_out ≡ with_bytes at own out)
unfolding IsTurn
turn_done Is texts at entry out one new_out code (inl (own, is, room, written, ok)) none = (own, is, room, written)
turn_done Is texts at entry out one new_out code (inr (inl (needs, same, five))) none = absurd (omega (arith, five, none))
turn_done Is texts at entry out one new_out code (inr (inr (same, three))) none = absurd (omega (arith, three, none))

-- another code says why the call ends before its entry
pub turn_ends : (Is : Spelling) (texts : List ℕ) (at : ℕ) (entry : Entry) (out : List ℕ) (one : Entry) (new_out : List ℕ) (code : ℕ) →
    IsTurn Is texts at entry out one new_out code → (code ≡ 0 → ⊥) →
    (new_out ≡ out) × ((NeedsMore Is texts (length out - at) entry × (code ≡ 5)) ⊎ (code ≡ 3))
unfolding IsTurn
turn_ends Is texts at entry out one new_out code (inl (own, is, room, written, ok)) other = absurd (other ok)
turn_ends Is texts at entry out one new_out code (inr (inl (needs, same, five))) other = (same, inl (needs, five))
turn_ends Is texts at entry out one new_out code (inr (inr (same, three))) other = (same, inr three)

-- ---- what became of the first entries, and of the next

module _ {Is : Spelling} {texts : List ℕ} {old : List Entry} {out : List ℕ} {index at : ℕ} {now : List Entry} {out_now : List ℕ}
    (s : SoFar Is texts old out index at now out_now) where
  -- the buffer keeps its length
  pub same_room : length out_now ≡ length out
  same_room =
      let long : length out_now ≡ length s.written + length (drop (length s.written) out) =
      ap length s.is_out ∙ length-append s.written (drop (length s.written) out) in
      omega (arith, long, length-drop (length s.written) out, s.fits)

  -- the next entry is as before
  next_is : (d : Entry) → index < length old → get_or now index d ≡ get_or old index d
  next_is d lt =
      rw (s.entries, drop_more old index d lt) (get_or_at s.answered (get_or old index d) (drop (index + 1) old) d index s.many)

  -- one entry more is answered
  pub one_more : (d one : Entry) (own new_out : List ℕ) → index < length old → IsAnsweredBy Is texts at (get_or now index d) one own →
      at + length own ≤ length out_now → new_out ≡ with_bytes at own out_now →
      SoFar Is texts old out (index + 1) one.written_end (slice_set now index one) new_out
  one_more d one own new_out lt is room written =
      let begins : at ≡ 0 + length s.written = omega (arith, s.place) in
      let is_next : IsAnsweredBy Is texts (0 + length s.written) (get_or old index d) one own = rw (begins, next_is d lt) at is in
      let front : take at out_now ≡ s.written = rw (s.is_out, s.place) (take-append_seam s.written (drop (length s.written) out)) in
      let sum : at + length own ≡ length s.written + length own = omega (arith, s.place) in
      let all : length (s.written ++ own) ≡ length s.written + length own = length-append s.written own in
      let rest : drop (at + length own) out_now ≡ drop (length (s.written ++ own)) out =
      rw (s.is_out, s.place, drop-append-add s.written (drop (length s.written) out) (length own), all)
      (drop-drop (length own) (length s.written) out) in
      record {
        answered = s.answered ++ one ∷ [];
        written = s.written ++ own;
        are = rw (take_more old index d lt) (answered_more Is texts 0 (take index old) s.answered s.written (get_or old index d) one own s.are is_next);
        many = omega (arith, length-append s.answered (one ∷ []), s.many);
        entries = rw (s.entries, drop_more old index d lt, set_at s.answered (get_or old index d) (drop (index + 1) old) one index s.many)
            (simp append_assoc refl);
        place = ends_there Is texts at (get_or now index d) one own is ∙ sum ∙ sym all;
        fits = omega (arith, room, sum, all, same_room);
        is_out = rw (written, front, rest) (simp append_assoc refl);
      }

  -- the call ends there
  ends : (new_out : List ℕ) (done code : ℕ) → new_out ≡ out_now → done ≡ index → index ≤ length old →
      EndsAt Is texts (length out - length s.written) (drop index old) code →
      IsEachAt Is texts (record { entries = old; out = out; done = 0 }) (record { entries = now; out = new_out; done = done }) code
  unfolding IsEachAt
  ends new_out done code same all le end = (
    take index old,
    s.answered,
    drop index old,
    s.written,
    sym (take-append-drop index old),
    s.entries,
    s.are,
    s.fits,
    same ∙ s.is_out,
    all ∙ sym (length-take-le index old le),
    end,
  )

  -- before the next entry
  pub ends_before : (d : Entry) (new_out : List ℕ) (code : ℕ) → index < length old → new_out ≡ out_now →
      ((NeedsMore Is texts (length out_now - at) (get_or now index d) × (code ≡ 5)) ⊎ (code ≡ 3)) →
      IsEachAt Is texts (record { entries = old; out = out; done = 0 }) (record { entries = now; out = new_out; done = index }) code
  ends_before d new_out code lt same why =
      let room : length out_now - at ≡ length out - length s.written = omega (arith, same_room, s.place) in
      ends new_out index code same refl (omega (arith, lt)) (rw (drop_more old index d lt, ← room, ← next_is d lt) why)

  -- behind all entries
  pub ends_behind : (count : ℕ) → length old ≡ index → count ≡ index →
      IsEachAt Is texts (record { entries = old; out = out; done = 0 }) (record { entries = now; out = out_now; done = count }) 0
  ends_behind count end all = ends out_now count 0 refl all (omega (arith, end)) (rw (drop_all index old (omega (arith, end))) refl)
