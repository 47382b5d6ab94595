-- Geodetic, geographic and compound CRSs are made, and with them all CRSs.
use Rattle.std.proofs.Common.{◌≡◌, ◌≢◌, ℕ, IsTrue, Some, List, [], ◌∷◌, codes, refl, sym, subst, ◌∙◌, arith, true, drop, Bool, false}
use Rattle.crs_decimal.specs.inner.Prelude.{Value, SameNumber, whole_number, IsNormal, exact}
use Rattle.crs_text.specs.inner.Prelude.{Item, arguments, raw_of, RefusedAt, IsWord, at_place, More}
use Rattle.crs_shape.specs.declared.class.Class.{Class}
use Rattle.crs_shape.specs.declared.system_type.SystemType.{SystemType}
use Rattle.crs_shape.specs.inner.Prelude.{is_keyword, class_named, geodetic_slots, slots_of, IsOneOf, dimensions_of, system_word, one_of, takes}
use Rattle.crs_value.specs.inner.Prelude.{OfCrs, GeodeticParts, those, IsGeodetic, Own as BreaksOwn, BadComponent, IsNotEllipsoidal, IsNotHorizontal, IsNotPlane, FirstIs, OfCompound, horizontal_classes, CompoundParts, ProjectedParts, VerticalParts, IsText, IsCompound, IsHorizontal, IsPlane, IsProjected, IsVertical, IsTail, TailParts}
use Rattle.crs_value.specs.declared.values.level.Level.{Level}
use Rattle.crs_value.specs.Sound.{Each}
use Rattle.crs_normal.specs.inner.LowerLaws.{LowerLaws}
use Rattle.crs_normal.specs.PartSpellings.{geodetic_class}
use Rattle.crs_normal.specs.Normal.{IsFirstKeyword, Has, HasAxes, HasTail, HasOwnForm, words_in}
use Rattle.crs_normal.specs.inner.SpelledCrs.{geodetic_keyword, item_geodetic, norm_geodetic, item_compound, item_projected, item_vertical, norm_compound, norm_projected, norm_vertical}
use Rattle.crs_normal.specs.inner.Prelude.{item_frame, norm_frame, word_item, node_of, text_item, norm_tail, tail_items}
use Rattle.crs_normal.proofs.made.SystemLemmas.{IsFew, IsHeadItem}
use Rattle.crs_normal.proofs.made.TailLemmas.{NamesSystem, few-system, system-seen, behind_arguments, Shows, tail-seen, tail_classes, NamesTail, tail_arguments, tail-orderly, IsTailSeen, has-tail, no-repeats, tail_runs, compound-names}
use Rattle.crs_normal.proofs.read.ViewLemmas.{each-so, keyword-names}
use Rattle.crs_normal.proofs.made.CheckLemmas.{IsSystemSeen, IsSystemIn, first-number, word-type}
use Rattle.crs_normal.proofs.made.PartLemmas.{dynamic-of}
use Rattle.crs_normal.proofs.made.FrameLemmas.{geodetic-frame-made, meridian-of}
use Rattle.crs_normal.proofs.made.FrontLemmas.{NamesFrame, meridian-there, crs-node-made, frame-named, frame-fits, frame-seen}
use Rattle.crs_normal.proofs.made.NodeLemmas.{IsAcceptedNormal, Sees, Made, Run, alone, as-argument, views, IsFree}
use Rattle.crs_normal.proofs.made.PlaceLemmas.{same-of, none-of}
use Rattle.crs_normal.proofs.normal.DimensionLemmas.{small-geodetic}
use Rattle.crs_normal.proofs.made.ArgumentLemmas.{Argument, arguments-seen, text-of, node-of, as_runs, one-of, made-of}
use Rattle.std.proofs.Math.Logic.{⊎_elim}
use Rattle.crs_value.specs.declared.values.compound.Horizontal.{Horizontal}
use Rattle.crs_normal.proofs.made.SingleLemmas.{projected-made, projected-seen, vertical-made}
use Rattle.crs_shape.specs.declared.class.Class.TheVariants as class
use Rattle.crs_shape.specs.declared.system_type.SystemType.TheVariants as types
use Rattle.crs_value.specs.declared.values.compound.Horizontal.TheVariants as horizontal

-- ---- the class of a CRS by the type of its system

-- what keywords name in a geodetic or geographic CRS
pub record GeodeticNames (c : Class) : Type 0 where
  pub dynamics : class_named c (codes "DYNAMIC") ≡ Some class.Dynamic
  pub frames : NamesFrame c
  pub meridians : class_named c (codes "PRIMEM") ≡ Some class.PrimeMeridian
  pub systems : NamesSystem c
  pub tails : NamesTail c

pub names-of : (t : SystemType) → GeodeticNames (geodetic_class t)
names-of types.Ellipsoidal = search keyword-names
names-of other = search keyword-names

-- a class and keyword for CRSs with a system of this type
record IsRootClass (t : SystemType) (c : Class) (keyword : List ℕ) : Type 0 where
  letters : IsWord keyword
  known : IsTrue (is_keyword c keyword)
  written : IsFirstKeyword c keyword
  slots : slots_of c ≡ geodetic_slots
  allows : (d : Value) → IsOneOf d (dimensions_of class.GeodeticCrs t) → IsOneOf d (dimensions_of c t)
  breaks : (item : Item) (fault : RefusedAt) → BreaksOwn c item fault → OfCrs (dimensions_of c) c item fault
  own : (item : Item) → Each (λ cs. words_in class.CoordinateSystem cs ≡ system_word t ∷ [])
      (those c class.CoordinateSystem (arguments item)) →
      Has c class.PrimeMeridian item → HasAxes c item → HasTail c item → HasOwnForm c item

other-words : (w : List ℕ) (items : List Item) → w ≢ codes "ellipsoidal" →
    Each (λ cs. words_in class.CoordinateSystem cs ≡ w ∷ []) items →
    Each (λ cs. words_in class.CoordinateSystem cs ≢ codes "ellipsoidal" ∷ []) items
other-words w items n =
    each-so (λ cs. words_in class.CoordinateSystem cs ≡ w ∷ [])
    (λ cs. words_in class.CoordinateSystem cs ≢ codes "ellipsoidal" ∷ [])
    (λ cs h e. let k : w ∷ [] ≡ codes "ellipsoidal" ∷ [] = sym h ∙ e in let q : w ≡ codes "ellipsoidal" = cc in n q) items

geodetic-root : (t : SystemType) → system_word t ≢ codes "ellipsoidal" →
    IsRootClass t class.GeodeticCrs (codes "GEODCRS")
unfolding BreaksOwn is_keyword
geodetic-root t n = record {
  letters = (refl, refl);
  known = refl;
  written = refl;
  slots = refl;
  allows = λ d h. h;
  breaks = λ item fault b. b;
  own = λ item words meridian axes end. (
    other-words (system_word t) (those class.GeodeticCrs class.CoordinateSystem (arguments item)) n words,
    meridian,
    axes,
    end,
  );
}

geographic-root : IsRootClass types.Ellipsoidal class.GeographicCrs (codes "GEOGCRS")
unfolding BreaksOwn is_keyword
geographic-root = record {
  letters = (refl, refl);
  known = refl;
  written = refl;
  slots = refl;
  allows = λ d h. h;
  breaks = λ item fault b. b;
  own = λ item words meridian axes end. (meridian, axes, end);
}

is-root : (t : SystemType) → IsRootClass t (geodetic_class t) (geodetic_keyword t)
is-root types.Cartesian = geodetic-root types.Cartesian (λ e. cc)
is-root types.Ellipsoidal = geographic-root
is-root types.Spherical = geodetic-root types.Spherical (λ e. cc)
is-root types.Vertical = geodetic-root types.Vertical (λ e. cc)

-- ---- the CRSs

abbrev geodetic_arguments : LowerLaws → (level : Level) (c : Class) (g : GeodeticParts) → GeodeticNames c →
    IsFew g.system → IsGeodetic g → List (Argument level 5 c)
geodetic_arguments l level c g n few h =
    text-of g.name h.name ∷ dynamic-of l g.dynamic g.frame (omega arith) n.dynamics h.dynamic ∷
    node-of (item_frame (codes "DATUM") (norm_frame level g.frame)) (omega arith)
    (frame-named level c g.frame n.frames) (geodetic-frame-made l level g.frame h.frame) ∷
    meridian-of l g.meridian (omega arith) n.meridians h.meridian ∷
    behind_arguments l level 5 c g.system (tail_arguments l level 5 c g.tail (omega arith) n.tails h.tail) (omega arith)
    n.systems few

-- the word of each node `CS`
system-words : {t : SystemType} {d : Value} {systems axes units : List Item} → IsSystemSeen t d systems axes units →
    Each (λ cs. words_in class.CoordinateSystem cs ≡ system_word t ∷ []) systems
system-words {t = t} s =
    subst (λ cs. Each (λ i. words_in class.CoordinateSystem i ≡ system_word t ∷ []) cs) (sym s.systems_are) (
      same-of raw_of (those class.CoordinateSystem class.Word (arguments s.head)) (word_item (system_word t) ∷ [])
          s.is_head.words (λ p. refl, tt),
      tt,
    )

pub geodetic-made : LowerLaws → (level : Level) (g : GeodeticParts) → IsGeodetic g → (p : ℕ) →
    IsAcceptedNormal level (geodetic_class g.system.system_type) 6 (at_place p (item_geodetic (norm_geodetic level g)))
geodetic-made l level g h =
    let c : Class = geodetic_class g.system.system_type in
    let few = few-system l (dimensions_of class.GeodeticCrs) small-geodetic g.system h.system h.dimension in
    let all = geodetic_arguments l level c g (names-of g.system.system_type) few h in
    let r = is-root g.system.system_type in
    let shown = λ (item : Item) (s : Sees c (as_runs all) item).
    frame-seen level true g.dynamic g.frame h.dynamic (refl, (refl, (refl, tt))) s in
    crs-node-made l level 5 c (geodetic_keyword g.system.system_type) _ _ all refl r.letters r.known r.written
    (rw r.slots (rw (frame-fits true g.frame).0 (refl {a = true})))
    ((frame-fits true g.frame).1 level (item_frame (codes "DATUM") (norm_frame level g.frame) ∷ [])
    (drop 3 (as_runs all)) (tail-orderly level g.tail))
    g.system g.tail few (r.allows g.system.dimension h.dimension) r.breaks
    (λ item s. ((shown item s).0.1, (shown item s).1))
    (λ item s seen. r.own item (system-words seen) (meridian-there level g.meridian _ (shown item s).0.0))

-- the system of a CRS, as the checks of a compound see it
pub geodetic-seen : LowerLaws → (level : Level) (g : GeodeticParts) → IsGeodetic g → (p : ℕ) →
    IsSystemIn g.system (geodetic_class g.system.system_type) (at_place p (item_geodetic (norm_geodetic level g)))
geodetic-seen l level g h p =
    let c : Class = geodetic_class g.system.system_type in
    let item : Item = at_place p (item_geodetic (norm_geodetic level g)) in
    let few : IsFew g.system =
    few-system l (dimensions_of class.GeodeticCrs) small-geodetic g.system h.system h.dimension in
    let s = arguments-seen level 5 c (geodetic_keyword g.system.system_type) _ _
    (geodetic_arguments l level c g (names-of g.system.system_type) few h) refl p in
    system-seen l level c item g.system g.tail few
    (frame-seen level true g.dynamic g.frame h.dynamic (refl, (refl, (refl, tt))) s).0.1

-- ---- compound CRSs are made, and with them all CRSs

-- ---- horizontal parts: geographic or projected

abbrev side_class : Bool → Class
side_class true = class.GeographicCrs
side_class false = class.ProjectedCrs

-- a CRS that a compound may have as its horizontal part
record IsSide (level : Level) (geographic : Bool) (j : Item) : Type 0 where
  made : Made level 7 class.CompoundCrs (side_class geographic) j
  fine : (p : ℕ) → ¬ (FirstIs (IsNotHorizontal (side_class geographic))
      (those (side_class geographic) class.CoordinateSystem (arguments (at_place p j))))

is-plane : LowerLaws → (t : SystemType) (d : Value) (cs : Item) → IsHeadItem t d cs → IsNormal d →
    SameNumber (exact d) (whole_number 2) → ¬ (IsNotPlane cs)
is-plane l t d cs h n same b =
    let f : b.0 ≡ d = first-number l d b.0 (those class.CoordinateSystem class.Number (arguments cs)) n h.numbers
    b.1.0 in
    b.1.1 (subst (λ v. SameNumber (exact v) (whole_number 2)) (sym f) same)

is-ellipsoidal : (t : SystemType) (d : Value) (cs : Item) → IsHeadItem t d cs → t ≡ types.Ellipsoidal →
    ¬ (IsNotEllipsoidal cs)
is-ellipsoidal t d cs h e b =
    b.1.1 (sym (word-type t b.0 (those class.CoordinateSystem class.Word (arguments cs)) h.words b.1.0) ∙ e)

geodetic-side : LowerLaws → (level : Level) (g : GeodeticParts) → IsGeodetic g →
    g.system.system_type ≡ types.Ellipsoidal → IsPlane g.system →
    IsSide level true (item_geodetic (norm_geodetic level g))
unfolding class_named is_keyword
geodetic-side l level g h e plane = record {
  made = as-argument (omega arith)
      (subst (λ t. class_named class.CompoundCrs (geodetic_keyword t) ≡ Some class.GeographicCrs) (sym e) refl)
      (λ p. subst (λ t. IsAcceptedNormal level (geodetic_class t) 6 (at_place p (item_geodetic (norm_geodetic level g)))) e
      (geodetic-made l level g h p));
  fine = λ p b.
      let s = geodetic-seen l level g h p in
      let are = subst (λ t. those (geodetic_class t) class.CoordinateSystem
      (arguments (at_place p (item_geodetic (norm_geodetic level g)))) ≡ s.head ∷ []) e s.systems_are in
      ⊎_elim (is-ellipsoidal g.system.system_type g.system.dimension s.head s.is_head e)
      (is-plane l g.system.system_type g.system.dimension s.head s.is_head h.system.dimension plane)
      (subst (λ cs. FirstIs (IsNotHorizontal class.GeographicCrs) cs) are b);
}

projected-side : LowerLaws → (level : Level) (g : ProjectedParts) → IsProjected g → IsPlane g.system →
    IsSide level false (item_projected (norm_projected level g))
unfolding class_named is_keyword
projected-side l level g h plane = record {
  made = as-argument (omega arith) refl (projected-made l level g h);
  fine = λ p b.
      let s = projected-seen l level g h p in
      is-plane l g.system.system_type g.system.dimension s.head s.is_head h.system.dimension plane
      (subst (λ cs. FirstIs (IsNotHorizontal class.ProjectedCrs) cs) s.systems_are b);
}

-- ---- compound CRSs of such a part

abbrev compound_runs : Level → Bool → Item → List ℕ → VerticalParts → TailParts → List Run
compound_runs level b j name v t =
    alone class.Text (text_item name) ∷ alone (side_class b) j ∷ alone class.VerticalCrs
    (item_vertical (norm_vertical level v)) ∷ tail_runs level t

side-fits : (b : Bool) → (takes (one_of horizontal_classes) (side_class b) ≡ true) × IsFree (side_class b)
side-fits true = (refl, λ level items runs h. h)
side-fits false = (refl, λ level items runs h. h)

side-shows : (level : Level) (b : Bool) (j : Item) (name : List ℕ) (v : VerticalParts) (t : TailParts) (item : Item) →
    Each (Shows class.CompoundCrs item (compound_runs level b j name v t)) tail_classes →
    Each (Shows class.CompoundCrs item (tail_runs level t)) tail_classes
side-shows level true j name v t item h = h
side-shows level false j name v t item h = h

compound-breaks : (level : Level) (b : Bool) (j : Item) (name : List ℕ) (v : VerticalParts) (t : TailParts)
    (item : Item) (fault : RefusedAt) → IsSide level b j →
    Each (Shows class.CompoundCrs item (compound_runs level b j name v t)) horizontal_classes →
    IsTailSeen class.CompoundCrs item →
    ¬ (OfCompound (arguments item) fault)
compound-breaks level true j name v t item fault s h q =
    ⊎_elim (no-repeats class.CompoundCrs item fault q) (⊎_elim
    (none-of (BadComponent class.GeodeticCrs) _ [] fault h.0 tt)
    (⊎_elim (none-of (BadComponent class.GeographicCrs) _ (j ∷ []) fault h.1.0 (λ p b. s.fine p b.1, tt))
    (⊎_elim (none-of (BadComponent class.ProjectedCrs) _ [] fault h.1.1.0 tt) (λ k. k))))
compound-breaks level false j name v t item fault s h q =
    ⊎_elim (no-repeats class.CompoundCrs item fault q) (⊎_elim
    (none-of (BadComponent class.GeodeticCrs) _ [] fault h.0 tt)
    (⊎_elim (none-of (BadComponent class.GeographicCrs) _ [] fault h.1.0 tt)
    (⊎_elim (none-of (BadComponent class.ProjectedCrs) _ (j ∷ []) fault h.1.1.0 (λ p b. s.fine p b.1, tt)) (λ k. k))))

side-made : LowerLaws →
    (level : Level) (b : Bool) (j : Item) (name : List ℕ) (v : VerticalParts) (t : TailParts) → IsSide level b j →
    IsText name → IsVertical v → IsTail t → (p : ℕ) →
    IsAcceptedNormal level class.CompoundCrs 8 (at_place p (node_of (codes "COMPOUNDCRS") (text_item name)
    (More j (More (item_vertical (norm_vertical level v)) (tail_items (norm_tail level t))))))
unfolding BreaksOwn class_named is_keyword
side-made l level b j name v t s n h g =
    let runs : List Run = compound_runs level b j name v t in
    let seen = λ (item : Item) (q : Sees class.CompoundCrs runs item). tail-seen level class.CompoundCrs item t
    (side-shows level b j name v t item (views tail_classes q)) in
    made-of level 7 class.CompoundCrs (codes "COMPOUNDCRS") _ _ (text-of name n ∷ one-of s.made ∷
    node-of (item_vertical (norm_vertical level v)) (omega arith) refl
    (vertical-made l level v h) ∷
    tail_arguments l level 7 class.CompoundCrs t (omega arith) compound-names g) refl (refl, refl) refl refl
    (rw (side-fits b).0 (refl {a = true}))
    ((side-fits b).1 level (j ∷ []) (drop 2 runs) (tail-orderly level t))
    (λ item q r. has-tail class.CompoundCrs item r (seen item q))
    (λ item fault q. compound-breaks level b j name v t item fault s
    (views horizontal_classes q) (seen item q))

pub compound-made : LowerLaws → (level : Level) (c : CompoundParts) → IsCompound c → (p : ℕ) →
    IsAcceptedNormal level class.CompoundCrs 8 (at_place p (item_compound (norm_compound level c)))
compound-made l level c h p = by c.horizontal h.horizontal
  where
    by : (part : Horizontal) → IsHorizontal part →
        IsAcceptedNormal level class.CompoundCrs 8
        (at_place p (item_compound (norm_compound level (record c { horizontal = part }))))
    by (horizontal.Geodetic g) q =
        side-made l level true (item_geodetic (norm_geodetic level g)) c.name c.vertical c.tail
        (geodetic-side l level g q.0 q.1 q.2)
        h.name h.vertical h.tail p
    by (horizontal.Projected g) q =
        side-made l level false (item_projected (norm_projected level g)) c.name c.vertical c.tail
        (projected-side l level g q.0 q.1)
        h.name h.vertical h.tail p
