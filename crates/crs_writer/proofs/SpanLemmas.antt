-- Texts put among others that are in order: where they belong, and that spans of the others stay theirs.
use Rattle.std.proofs.Common.{◌≡◌, ◌↔◌, ◌++◌, ◌∙◌, ◌≤◌, ◌<◌, ◌+◌, ◌-◌, ℕ, zero, suc, get_or, List, [], ◌∷◌, length, take, drop, Ordering, Less, Equal, Greater, refl, sym, ap, subst, arith}
use Rattle.std.specs.List.{insert, slice_range}
use Rattle.std.specs.Cmp.Lexicographic.{slice_cmp}
use Rattle.std.specs.Ordering.{nat_cmp, match_ordering, ordering_reverse}
use Rattle.std.proofs.lemmas.Cmp.{nat_list_cmp_total}
use Rattle.std.proofs.lemmas.List.{append_assoc, drop-append-le, drop_more, get_or-map, length-append, length-drop, length-map, take-append-drop, take-append-le, take_all, take_more}
use Rattle.crs_value.specs.Sound.{Each}
use Rattle.crs_normal.specs.inner.Prelude.{Ascends, Below, IsIn, in_order, put, put_all}
use Rattle.crs_writer.specs.inner.Spans.{AreInOrder, AreWithin, IsPutAmong, IsWithin, text_at, texts_at}
use Rattle.crs_writer.specs.declared.spans.Span.{Span}

abbrev pub puts : List ℕ → List (List ℕ) → List (List ℕ)
puts t texts = put (λ b. b) t texts

-- ---- where a text belongs

-- above all of the first it belongs behind them
put-behind : (t : List ℕ) (l r : List (List ℕ)) → Each (λ z. slice_cmp nat_cmp t z ≡ Greater) l → puts t (l ++ r) ≡ l ++ puts t r
put-behind t [] r h = refl
put-behind t (z ∷ l) r h =
    ap (λ o. match_ordering o (t ∷ z ∷ l ++ r) (z ∷ l ++ r) (z ∷ puts t (l ++ r))) h.0 ∙ ap (λ rest. z ∷ rest) (put-behind t l r h.1)

middle-has : {A : Type 0} (P : A → Type 0) (l r : List A) (y : A) → Each P (l ++ y ∷ r) → P y
middle-has P [] r y h = h.0
middle-has P (z ∷ l) r y h = middle-has P l r y h.1

-- above what is below a text, it is above those before it
above-front : (t y : List ℕ) (l r : List (List ℕ)) → ((z : List ℕ) → Below z y → slice_cmp nat_cmp t z ≡ Greater) →
    Ascends (λ b. b) (l ++ y ∷ r) → Each (λ z. slice_cmp nat_cmp t z ≡ Greater) l
above-front t y [] r f s = tt
above-front t y (z ∷ l) r f s = (f z (middle-has (Below z) l r y s.0), above-front t y l r f s.1)

-- what is above a text is above those below it
over : (t y z : List ℕ) → Below z y → slice_cmp nat_cmp t y ≡ Greater → slice_cmp nat_cmp t z ≡ Greater
over t y z below h =
    let under : slice_cmp nat_cmp y t ≡ Less = nat_list_cmp_total.antisymm y t ∙ ap ordering_reverse h in
    nat_list_cmp_total.antisymm t z ∙ ap ordering_reverse (nat_list_cmp_total.trans z y t below under)

-- ordered texts, of which those from a place on belong behind a text, by the one before that place
module _ (t bytes : List ℕ) (spans : List Span) (at : ℕ) (d : Span) (y : List ℕ) (is : y ≡ text_at bytes (get_or spans (at - 1) d))
    (some : 0 < at) (le : at ≤ length spans)
    (so : puts t (drop at (texts_at bytes spans)) ≡ t ∷ drop at (texts_at bytes spans)) where
  abbrev texts : List (List ℕ)
  texts = texts_at bytes spans

  abbrev front : List (List ℕ)
  front = take (at - 1) texts

  on : at - 1 + 1 ≡ at
  on = omega (arith, some)

  long : at - 1 < length texts
  long = omega (arith, some, le, length-map spans (text_at bytes))

  here : get_or texts (at - 1) (text_at bytes d) ≡ y
  here = get_or-map (text_at bytes) spans (at - 1) d (text_at bytes d) (omega (arith, some, le)) ∙ sym is

  behind : drop (at - 1) texts ≡ y ∷ drop at texts
  behind = drop_more texts (at - 1) (text_at bytes d) long ∙ (λ i. here i ∷ drop (on i) texts)

  whole : texts ≡ front ++ y ∷ drop at texts
  whole = sym (take-append-drop (at - 1) texts) ∙ ap (λ l. front ++ l) behind

  placed : (o : Ordering) → slice_cmp nat_cmp t y ≡ o →
      puts t (y ∷ drop at texts) ≡ match_ordering o (t ∷ y ∷ drop at texts) (y ∷ drop at texts) (y ∷ puts t (drop at texts))
  placed o h = ap (λ o. match_ordering o (t ∷ y ∷ drop at texts) (y ∷ drop at texts) (y ∷ puts t (drop at texts))) h

  passed : ((z : List ℕ) → Below z y → slice_cmp nat_cmp t z ≡ Greater) → Ascends (λ b. b) texts →
      puts t texts ≡ front ++ puts t (y ∷ drop at texts)
  passed f s =
      ap (puts t) whole
      ∙ put-behind t front (y ∷ drop at texts) (above-front t y front (drop at texts) f (subst (Ascends (λ b. b)) whole s))

  pub step-below : slice_cmp nat_cmp t y ≡ Less → puts t (drop (at - 1) texts) ≡ t ∷ drop (at - 1) texts
  step-below h = ap (puts t) behind ∙ placed Less h ∙ ap (λ l. t ∷ l) (sym behind)

  pub step-equal : Ascends (λ b. b) texts → slice_cmp nat_cmp t y ≡ Equal → puts t texts ≡ texts
  step-equal s h =
      passed (λ z below. nat_list_cmp_total.congr t y z h ∙ nat_list_cmp_total.antisymm y z ∙ ap ordering_reverse below) s
      ∙ ap (λ l. front ++ l) (placed Equal h) ∙ sym whole

  pub step-above : Ascends (λ b. b) texts → slice_cmp nat_cmp t y ≡ Greater → puts t texts ≡ take at texts ++ t ∷ drop at texts
  step-above s h =
      passed (λ z below. over t y z below h) s ∙ ap (λ l. front ++ l) (placed Greater h ∙ ap (λ l. y ∷ l) so)
      ∙ sym (append_assoc front (y ∷ []) (t ∷ drop at texts))
      ∙ ap (λ l. l ++ t ∷ drop at texts)
      (sym (ap (λ n. take n texts) (sym on) ∙ take_more texts (at - 1) (text_at bytes d) long ∙ ap (λ z. front ++ z ∷ []) here))

-- ---- one more text in order

put_all-more : (sorted xs : List (List ℕ)) (t : List ℕ) →
    put_all (λ b. b) sorted (xs ++ t ∷ []) ≡ puts t (put_all (λ b. b) sorted xs)
put_all-more sorted [] t = refl
put_all-more sorted (x ∷ xs) t = put_all-more (puts x sorted) xs t

-- texts in order, as the law of crs_normal has them
pub record OrderLaws : Type 0 where
  pub ascend : (texts : List (List ℕ)) → Ascends (λ b. b) (in_order (λ b. b) texts)
  pub members : (texts : List (List ℕ)) (text : List ℕ) → IsIn text (in_order (λ b. b) texts) ↔ IsIn text texts
  pub one : (xs ys : List (List ℕ)) → Ascends (λ b. b) xs → Ascends (λ b. b) ys → ((text : List ℕ) → IsIn text xs ↔ IsIn text ys) → xs ≡ ys

put-ascends : OrderLaws → (t : List ℕ) (texts : List (List ℕ)) → Ascends (λ b. b) texts → Ascends (λ b. b) (puts t texts)
put-ascends laws t texts s =
    let same : in_order (λ b. b) texts ≡ texts = laws.one (in_order (λ b. b) texts) texts (laws.ascend texts) s (laws.members texts) in
    subst (Ascends (λ b. b)) (put_all-more [] texts t ∙ ap (puts t) same) (laws.ascend (texts ++ t ∷ []))

-- ---- spans among more bytes

pub text-stays : (bytes more : List ℕ) (span : Span) → IsWithin bytes span → text_at (bytes ++ more) span ≡ text_at bytes span
text-stays bytes more span (ordered, within) =
    let front : span.start ≤ length bytes = omega (arith, ordered, within) in
    let room : span.end - span.start ≤ length (drop span.start bytes) =
    omega (arith, ordered, within, length-drop span.start bytes) in
    ap (take (span.end - span.start)) (drop-append-le span.start bytes more front)
    ∙ take-append-le (span.end - span.start) (drop span.start bytes) more room

pub texts-stay : (bytes more : List ℕ) (spans : List Span) → AreWithin bytes spans →
    texts_at (bytes ++ more) spans ≡ texts_at bytes spans
texts-stay bytes more [] h = refl
texts-stay bytes more (s ∷ spans) h =
    let one = text-stays bytes more s h.0 in
    let rest = texts-stay bytes more spans h.1 in
    λ i. one i ∷ rest i

stays-within : (bytes more : List ℕ) (spans : List Span) → AreWithin bytes spans → AreWithin (bytes ++ more) spans
stays-within bytes more [] h = tt
stays-within bytes more (s ∷ spans) h =
    ((h.0.0, omega (arith, h.0.1, length-append bytes more)), stays-within bytes more spans h.1)

pub order-stays : (bytes more : List ℕ) (spans : List Span) → AreInOrder bytes spans → AreInOrder (bytes ++ more) spans
order-stays bytes more spans h = record {
  within = stays-within bytes more spans h.within;
  ascend = subst (Ascends (λ b. b)) (sym (texts-stay bytes more spans h.within)) h.ascend;
}

pub front-order : (all : List ℕ) (start : ℕ) (spans : List Span) → AreInOrder (take start all) spans → AreInOrder all spans
front-order all start spans order =
    subst (λ bytes. AreInOrder bytes spans) (take-append-drop start all)
    (order-stays (take start all) (drop start all) spans order)

-- a fact of the last bytes and the texts of the spans, in words of what is seen of them
pub of-seen : (P : List ℕ → List (List ℕ) → Type 0) (start : ℕ) (rest first all seen : List ℕ) (spans seen_spans : List Span) →
    rest ≡ drop start first → first ≡ all → seen ≡ all → seen_spans ≡ spans → P rest (texts_at seen seen_spans) →
    P (drop start all) (texts_at all spans)
of-seen P start rest first all seen spans seen_spans is e f g h =
    subst (P (drop start all)) (λ i. texts_at (f i) (g i)) (subst (λ t. P t (texts_at seen seen_spans)) (is ∙ ap (drop start) e) h)

-- ---- a span more

insert-within : (bytes : List ℕ) (spans : List Span) (at : ℕ) (span : Span) → AreWithin bytes spans → IsWithin bytes span →
    AreWithin bytes (insert spans at span)
insert-within bytes spans zero span h w = (w, h)
insert-within bytes [] (suc at) span h w = (w, tt)
insert-within bytes (s ∷ spans) (suc at) span h w = (h.0, insert-within bytes spans at span h.1 w)

insert-texts : (bytes : List ℕ) (spans : List Span) (at : ℕ) (span : Span) →
    texts_at bytes (insert spans at span) ≡ insert (texts_at bytes spans) at (text_at bytes span)
insert-texts bytes spans zero span = refl
insert-texts bytes [] (suc at) span = refl
insert-texts bytes (s ∷ spans) (suc at) span = ap (λ l. text_at bytes s ∷ l) (insert-texts bytes spans at span)

-- the spans before the last bytes have the same texts without them
same-texts : (all : List ℕ) (start : ℕ) (spans : List Span) → AreInOrder (take start all) spans →
    texts_at all spans ≡ texts_at (take start all) spans
same-texts all start spans order =
    ap (λ bytes. texts_at bytes spans) (sym (take-append-drop start all)) ∙ texts-stay (take start all) (drop start all) spans order.within

-- the last bytes are put among the texts of the others
pub last-put : OrderLaws → (all : List ℕ) (start at : ℕ) (spans others : List Span) (span : Span) →
    start ≤ length all → AreInOrder (take start all) spans →
    span.start ≡ start → span.end ≡ length all → others ≡ insert spans at span →
    puts (drop start all) (texts_at all spans)
    ≡ take at (texts_at all spans) ++ drop start all ∷ drop at (texts_at all spans) →
    IsPutAmong (drop start all) (take start all) spans all others
last-put laws all start at spans others span le order from to is put =
    let stays : AreInOrder all spans = front-order all start spans order in
    let text : text_at all span ≡ drop start all =
    ap (λ n. slice_range all n span.end) from ∙ ap (λ n. slice_range all start n) to
    ∙ take_all (length all - start) (drop start all) (omega (arith, length-drop start all)) in
    let within : AreWithin all others =
    subst (AreWithin all) (sym is)
    (insert-within all spans at span stays.within (omega (arith, from, to, le), omega (arith, to))) in
    let texts : texts_at all others ≡ puts (drop start all) (texts_at all spans) =
    ap (texts_at all) is ∙ insert-texts all spans at span
    ∙ ap (λ t. insert (texts_at all spans) at t) text ∙ sym put in
    record {
      order = record {
        within = within;
        ascend = subst (Ascends (λ b. b)) (sym texts) (put-ascends laws (drop start all) (texts_at all spans) stays.ascend);
      };
      texts = texts ∙ ap (puts (drop start all)) (same-texts all start spans order);
    }

-- the last bytes are one of the texts already
pub last-known : (all : List ℕ) (start : ℕ) (spans : List Span) →
    AreInOrder (take start all) spans →
    puts (drop start all) (texts_at all spans) ≡ texts_at all spans →
    IsPutAmong (drop start all) (take start all) spans (take start all) spans
last-known all start spans order put =
    let same = same-texts all start spans order in
    record { order = order; texts = sym same ∙ sym put ∙ ap (puts (drop start all)) same }
