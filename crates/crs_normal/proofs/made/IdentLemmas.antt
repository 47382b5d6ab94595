-- Identifiers and lists of them, and units, are made; the classes as which frames are made.
use Rattle.std.proofs.Common.{◌≡◌, ℕ, ◌+◌, ◌≤◌, true, Option, Some, None, List, [], ◌∷◌, ◌++◌, map, drop, codes, IfSome, inl, inr, refl, sym, subst, arith, ◌⊎◌}
use Rattle.std.proofs.lemmas.List.{append-nil}
use Rattle.crs_text.specs.inner.Prelude.{Item, leaf, End, More, skip, Kind, number, text, word, at_place, at_places, item_text, arguments, RefusedAt, IsWord}
use Rattle.crs_shape.specs.declared.class.Class.{Class}
use Rattle.crs_shape.specs.inner.Prelude.{is_keyword, class_of_kind, class_named, one_of, optional_of, takes, slots_of, unit_slots, unit_word}
use Rattle.crs_value.specs.inner.Prelude.{kept, kept-each, kept-made, single_of, IsIdent, IsText, Own as BreaksOwn, IsAboveZero, NotAbove, AnyOf, OfUnit, those, ReadsNumber, IsUnit, UnitParts}
use Rattle.crs_value.specs.declared.values.level.Level.{Level}
use Rattle.crs_value.specs.Sound.{Each}
use Rattle.crs_value.specs.Values.{IdentParts}
use Rattle.crs_normal.specs.inner.LowerLaws.{LowerLaws}
use Rattle.crs_normal.specs.Normal.{Ascend, IsCode, IsFirstKeyword, HasOwnForm}
use Rattle.crs_normal.specs.inner.Prelude.{in_order, code_item, text_node, item_ident, set_idents, number_item, item_unit}
use Rattle.crs_normal.proofs.made.AscendLemmas.{set-ascends}
use Rattle.crs_normal.proofs.read.ViewLemmas.{each-so, keyword-names}
use Rattle.crs_normal.proofs.members.SetLemmas.{each-in_order}
use Rattle.crs_normal.proofs.made.ArgumentLemmas.{each-of, Argument, made-of, may-of, may-text, one-of, text-of, as_runs, fit, number-of}
use Rattle.crs_normal.proofs.made.LeafLemmas.{IsCodeKind, code-kind, code-made, code_kind}
use Rattle.crs_normal.proofs.made.NodeLemmas.{IsAcceptedNormal, IsOrderly, Made, Run, as-argument, given, line, none-orderly, IsFree}
use Rattle.crs_normal.proofs.texts.SegmentLemmas.{each-map}
use Rattle.crs_shape.specs.declared.unit_kind.UnitKind.{UnitKind}
use Rattle.crs_value.specs.declared.values.frame.Frame.{Frame}
use Rattle.crs_decimal.specs.inner.Prelude.{plain, Value, IsNormal}
use Rattle.crs_normal.proofs.made.PlaceLemmas.{ArePlaced, none-of}
use Rattle.crs_shape.specs.declared.class.Class.TheVariants as class
use Rattle.crs_shape.specs.declared.unit_kind.UnitKind.TheVariants as kinds
use Rattle.crs_value.specs.declared.values.frame.Frame.TheVariants as frame

-- ---- identifiers, with the kinds of the code and the version

-- the kind of a version, if there is one
abbrev version_kind : Option (List ℕ) → Kind
version_kind None = text
version_kind (Some raw) = code_kind raw

kind-free : (k : Kind) → IsFree (class_of_kind k)
kind-free number level items runs h = h
kind-free other level items runs h = h

abbrev code_classes : List Class
code_classes = class.Number ∷ class.Text ∷ []

code-taken : (k : Kind) (raw : List ℕ) → IsCodeKind k raw → takes (one_of code_classes) (class_of_kind k) ≡ true
code-taken number raw h = refl
code-taken text raw h = refl
code-taken word raw h = absurd h

version-taken : (version : Option (List ℕ)) → IfSome version IsText →
    takes (optional_of code_classes) (class_of_kind (version_kind version)) ≡ true
version-taken None h = refl
version-taken (Some raw) h = code-taken (code_kind raw) raw (code-kind raw h)

version-made : LowerLaws → (level : Level) (version : Option (List ℕ)) → IfSome version IsText →
    IfSome version (λ raw. Made level 1 class.Identifier (class_of_kind (version_kind version)) (code_item raw))
version-made l level None h = tt
version-made l level (Some raw) h = code-made l level 1 (code_kind raw) raw (code-kind raw h)

code-is : (k : Kind) (raw : List ℕ) (p : ℕ) (more : List Item) → IsCodeKind k raw → Each IsCode more →
    Each IsCode (single_of (More (leaf k p raw) End) ++ more)
code-is number raw p more h m = (inl (h, refl), m)
code-is text raw p more h m = (inr (h.0, refl), m)
code-is word raw p more h m = absurd h

version-is : (version citation uri : Option (List ℕ)) (s : ℕ) → IfSome version IsText →
    Each IsCode (single_of (at_places s (line (given code_item version)
    (line (given (text_node (codes "CITATION")) citation)
    (line (given (text_node (codes "URI")) uri) End)))))
version-is None None None s h = tt
version-is None None (Some uri) s h = tt
version-is None (Some citation) uri s h = tt
version-is (Some raw) citation uri s h =
    subst (Each IsCode) (append-nil _) (code-is (code_kind raw) raw (s + 1) [] (code-kind raw h) tt)

pub ident-made : LowerLaws → (level : Level) (i : IdentParts) → IsIdent i → (p : ℕ) →
    IsAcceptedNormal level class.Identifier 2 (at_place p (item_ident i))
unfolding is_keyword BreaksOwn class_named
ident-made l level i h =
    let kind = code-kind i.code h.code in
    let all : List (Argument level 1 class.Identifier) =
    text-of i.authority h.authority ∷ one-of (code-made l level 1 (code_kind i.code) i.code kind) ∷
    may-of (class_of_kind (version_kind i.version)) code_item i.version (version-made l level i.version h.version) ∷
    may-text class.Citation (codes "CITATION") (refl, refl) refl refl (λ item. tt) (λ item fault b. b) refl (omega arith)
    refl i.citation h.citation ∷ may-text class.Uri (codes "URI") (refl, refl) refl refl (λ item. tt)
    (λ item fault b. b) refl (omega arith) refl i.uri h.uri ∷ [] in
    made-of level 1 class.Identifier (codes "ID") _ _ all refl (refl, refl) refl refl
    (rw (code-taken (code_kind i.code) i.code kind) (rw (version-taken i.version h.version) (refl {a = true})))
    (kind-free (code_kind i.code) level (code_item i.code ∷ []) (drop 2 (as_runs all)) (kind-free (version_kind i.version)
    level (given code_item i.version) (drop 3 (as_runs all)) (none-orderly level)))
    (λ item s r. subst (λ js. Each IsCode (single_of (skip 1 js) ++ single_of (skip 2 js))) (sym s.are)
    (code-is (code_kind i.code) i.code _ _ kind (version-is i.version i.citation i.uri _ h.version)))
    (λ item fault s b. b)

-- ---- lists of identifiers, in order

pub idents-sound : (level : Level) (identifiers : List IdentParts) → Each IsIdent identifiers → Each IsIdent (set_idents level identifiers)
unfolding set_idents
idents-sound level identifiers h =
    each-in_order (λ i. item_text (item_ident i)) IsIdent (kept level identifiers) (kept-each (λ l. IsIdent) level identifiers h)

-- the run of identifiers in a node where their keyword names them
abbrev pub ids_run : Level → List IdentParts → Run
ids_run level identifiers = record { of = class.Identifier; items = map item_ident (set_idents level identifiers) }

pub identifiers-made : LowerLaws → (level : Level) (most : ℕ) (parent : Class) (identifiers : List IdentParts) → 2 ≤ most →
    class_named parent (codes "ID") ≡ Some class.Identifier →
    Each IsIdent identifiers → Each (Made level most parent class.Identifier) (map item_ident (set_idents level identifiers))
identifiers-made l level most parent identifiers deep named h =
    each-map item_ident (Made level most parent class.Identifier) (set_idents level identifiers)
    (each-so IsIdent (λ i. Made level most parent class.Identifier (item_ident i))
    (λ i q. as-argument deep named (ident-made l level i q))
    (set_idents level identifiers) (idents-sound level identifiers h))

abbrev pub ids-of : {level : Level} {most : ℕ} {parent : Class} → LowerLaws → (identifiers : List IdentParts) →
    2 ≤ most → class_named parent (codes "ID") ≡ Some class.Identifier → Each IsIdent identifiers →
    Argument level most parent
ids-of {level = level} {most = most} {parent = parent} l identifiers deep named h =
    each-of class.Identifier item_ident (set_idents level identifiers) None
    (identifiers-made l level most parent identifiers deep named h)

-- nothing after them is one
pub identifiers-ascend : (level : Level) (identifiers : List IdentParts) → Ascend (map item_ident (set_idents level identifiers) ++ [])
unfolding set_idents
identifiers-ascend level identifiers = set-ascends item_ident (kept level identifiers)

-- and the level keeps them all
pub identifiers-left : (level : Level) (identifiers : List IdentParts) →
    kept level (map item_ident (set_idents level identifiers) ++ []) ≡ map item_ident (set_idents level identifiers)
    ++ []
unfolding set_idents
identifiers-left level identifiers =
    kept-made (λ is. map item_ident (in_order (λ i. item_text (item_ident i)) is) ++ []) refl level identifiers

-- where there is no other set, and no usage and no remark
pub ids-orderly : (level : Level) (identifiers : List IdentParts) → IsOrderly level (ids_run level identifiers ∷ [])
ids-orderly level identifiers =
    let none = none-orderly level in
    ((identifiers-ascend level identifiers, none.0.1), ((identifiers-left level identifiers, none.1.0.1), refl))

-- ---- the classes as which units, reference frames and ensembles are made

-- a unit of this kind may be one of this class
abbrev pub IsKindIn : Class → UnitKind → Type 0
IsKindIn class.LengthUnit kind = kind ≡ kinds.Length
IsKindIn class.AngleUnit kind = kind ≡ kinds.Angle
IsKindIn class.ScaleUnit kind = kind ≡ kinds.Scale
IsKindIn class.PlainUnit kind = kind ≡ kinds.Plain
IsKindIn class.AxisUnit kind = (kind ≡ kinds.Length) ⊎ (kind ≡ kinds.Angle)
IsKindIn other kind = ⊥

-- the class of the reference frame or ensemble of a geodetic CRS
abbrev pub geodetic_frame_class : Frame → Class
geodetic_frame_class (frame.Datum datum) = class.GeodeticFrame
geodetic_frame_class (frame.Ensemble ensemble) = class.GeodeticEnsemble

-- the class of the reference frame or ensemble of a vertical CRS
abbrev pub vertical_frame_class : Frame → Class
vertical_frame_class (frame.Datum datum) = class.VerticalFrame
vertical_frame_class (frame.Ensemble ensemble) = class.VerticalEnsemble

-- ---- units are made

-- ---- numbers

-- a number that is written plainly reads as its value alone
pub reads-one : LowerLaws → (v value : Value) (item : Item) (p : ℕ) → IsNormal v →
    item ≡ at_place p (number_item v) → ReadsNumber item value → value ≡ v
reads-one l v value item p n e r =
    let d : ReadsNumber (at_place p (number_item v)) value = subst (λ i. ReadsNumber i value) e r in
    l.denotes_one (plain v) value v d.0 n d.1 (l.denotes v n)

pub not-below : LowerLaws → (v : Value) (items : List Item) (fault : RefusedAt) → IsNormal v → IsAboveZero v →
    ArePlaced items (number_item v ∷ []) →
    ¬ (AnyOf NotAbove items fault)
not-below l v items fault n a h =
    none-of NotAbove items (number_item v ∷ []) fault h
    (λ p b. b.1.1.1 (subst IsAboveZero (sym (reads-one l v b.1.0 _ p n refl b.1.1.0)) a), tt)

-- ---- units

-- what a unit of this kind is, as one of its class
abbrev IsUnitClass : Class → UnitKind → Type 0
IsUnitClass c kind =
    (slots_of c ≡ unit_slots) × (is_keyword c (unit_word kind) ≡ true) × IsFirstKeyword c (unit_word kind)
    × ((item : Item) → HasOwnForm c item)
    × ((item : Item) (fault : RefusedAt) → BreaksOwn c item fault → OfUnit c item fault)

unit-class : (c : Class) (kind : UnitKind) → IsKindIn c kind → IsUnitClass c kind
unfolding is_keyword BreaksOwn
unit-class class.LengthUnit kind h = rw h (refl, refl, refl, λ item. tt, λ item fault b. b)
unit-class class.AngleUnit kind h = rw h (refl, refl, refl, λ item. tt, λ item fault b. b)
unit-class class.ScaleUnit kind h = rw h (refl, refl, refl, λ item. tt, λ item fault b. b)
unit-class class.PlainUnit kind h = rw h (refl, refl, refl, λ item. tt, λ item fault b. b)
unit-class class.AxisUnit kind (inl h) = rw h (refl, refl, inl refl, λ item. tt, λ item fault b. b)
unit-class class.AxisUnit kind (inr h) = rw h (refl, refl, inr refl, λ item. tt, λ item fault b. b)
unit-class other kind h = absurd h

pub unit-letters : (kind : UnitKind) → IsWord (unit_word kind)
unit-letters kinds.Length = (refl, refl)
unit-letters other = (refl, refl)

pub unit-names-id : (c : Class) (kind : UnitKind) → IsKindIn c kind → class_named c (codes "ID") ≡ Some class.Identifier
unit-names-id c kind k = rw (keyword-names c (codes "ID")) (rw (unit-class c kind k).0
    (refl {a = Some class.Identifier}))

-- a unit in its one form, of this kind
abbrev pub unit_as : Level → UnitKind → UnitParts → UnitParts
unit_as level kind u = record { kind = kind; name = u.name; factor = u.factor; identifiers = set_idents level u.identifiers }

abbrev pub unit-arguments : LowerLaws → (level : Level) (c : Class) (kind : UnitKind) (u : UnitParts) →
    IsKindIn c kind → IsUnit u → List (Argument level 2 c)
unit-arguments l level c kind u k h =
    text-of u.name h.name ∷ number-of l u.factor h.factor ∷
    ids-of l u.identifiers (omega arith) (unit-names-id c kind k) h.identifiers ∷ []

pub unit-fits : (l : LowerLaws) (level : Level) (c : Class) (kind : UnitKind) (u : UnitParts) (k : IsKindIn c kind)
    (h : IsUnit u) → fit (slots_of c) (unit-arguments l level c kind u k h) ≡ true
unit-fits l level c kind u k h = rw (unit-class c kind k).0 refl

pub unit-unbroken : LowerLaws → (c : Class) (kind : UnitKind) (u : UnitParts) → IsKindIn c kind → IsUnit u →
    (item : Item) (fault : RefusedAt) → ArePlaced (those c class.Number (arguments item)) (number_item u.factor ∷ []) →
    ¬ (BreaksOwn c item fault)
unit-unbroken l c kind u k h item fault numbers b =
    not-below l u.factor (those c class.Number (arguments item)) fault h.factor h.above_zero numbers
    ((unit-class c kind k).4 item fault b)

pub unit-made : LowerLaws → (level : Level) (c : Class) (kind : UnitKind) (u : UnitParts) → IsKindIn c kind →
    IsUnit u → (p : ℕ) →
    IsAcceptedNormal level c 3 (at_place p (item_unit (unit_as level kind u)))
unit-made l level c kind u k h =
    let is_unit = unit-class c kind k in
    made-of level 2 c (unit_word kind) _ _ (unit-arguments l level c kind u k h) refl (unit-letters kind) is_unit.1
    is_unit.2 (unit-fits l level c kind u k h) (ids-orderly level u.identifiers) (λ item s r. is_unit.3 item)
    (λ item fault s. unit-unbroken l c kind u k h item fault (s.view class.Number))
