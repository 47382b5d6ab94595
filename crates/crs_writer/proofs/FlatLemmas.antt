-- The rules by which a writer of a node's parts is proved without an answer.
use Rattle.std.proofs.Common.{◌≡◌, ℕ, List, [], ◌∷◌, ◌++◌, Bool, true, false, OnOk, Option, Some, None, Result, if◌then◌else◌, refl, sym, ap, subst, ◌∙◌, append_assoc}
use Rattle.std.proofs.lemmas.List.{append-nil}
use Rattle.std.proofs.lemmas.Result.{on_ok_weaker}
use Rattle.std.specs.Option.{option_copied, option_map}
use denote.Bor.{Bor}
use Rattle.crs_text.specs.inner.Prelude.{Item, Siblings, End, More, item_text, others_text}
use Rattle.crs_shape.specs.declared.unit_kind.UnitKind.{UnitKind}
use Rattle.crs_shape.specs.declared.unit_kind.UnitKind.TheVariants as kinds
use Rattle.crs_decimal.specs.inner.Prelude.{plain, Value}
use Rattle.crs_value.specs.inner.Prelude.{AxisMeridianParts, UnitParts}
use Rattle.crs_value.specs.Values.{IdentParts}
use Rattle.crs_value.specs.declared.values.level.Level.{Level}
use Rattle.crs_normal.specs.inner.Prelude.{axis_meridian_text, each, number_node, opt, item_axis_meridian, norm_axis_meridians, is_zero, item_ident, item_unit, norm_unit, norm_units, number_item, set_idents}
use Rattle.crs_writer.specs.inner.FromItems.{Writes, SaysIfAny}
use Rattle.crs_writer.specs.inner.Openings.{named_node}
use Rattle.crs_writer.specs.inner.Parts.{number_behind, opt_text}
use Rattle.crs_writer.proofs.NodeTextLemmas.{closed, keyworded, last-more, then-text, then-system}
use Rattle.crs_writer.proofs.PieceLemmas.{then-each, then-more, then-opt, three, two}

-- ---- parts that may be missing, and then the rest

pub then-plain : {A : Type 0} (spell : A → Item) (value : Option A) (rest : Siblings) (old s1 s2 : List ℕ) →
    s1 ≡ old ++ opt_text (λ v. item_text (spell v)) value → s2 ≡ s1 ++ others_text rest → s2 ≡ old ++ others_text (opt spell value rest)
then-plain spell None rest old s1 s2 e f = two old [] (others_text rest) s1 s2 e f
then-plain spell (Some v) rest old s1 s2 e f = two old (44 ∷ item_text (spell v)) (others_text rest) s1 s2 e f

pub then-part : {A B : Type 0} (spell : B → Item) (norm : A → B) (value : Option A) (rest : Siblings) (old s1 s2 : List ℕ) →
    s1 ≡ old ++ opt_text (λ v. item_text (spell (norm v))) value → s2 ≡ s1 ++ others_text rest →
    s2 ≡ old ++ others_text (opt spell (option_map norm value) rest)
then-part spell norm None rest old s1 s2 e f = two old [] (others_text rest) s1 s2 e f
then-part spell norm (Some v) rest old s1 s2 e f = two old (44 ∷ item_text (spell (norm v))) (others_text rest) s1 s2 e f

pub then-unit : (level : Level) (asked : UnitKind) (value : Option UnitParts) (rest : Siblings) (old s1 s2 : List ℕ) →
    s1 ≡ old ++ opt_text (λ v. item_text (item_unit (norm_unit level asked v))) value → s2 ≡ s1 ++ others_text rest →
    s2 ≡ old ++ others_text (opt item_unit (norm_units level asked value) rest)
then-unit level asked None rest old s1 s2 e f = two old [] (others_text rest) s1 s2 e f
then-unit level asked (Some v) rest old s1 s2 e f = two old (44 ∷ item_text (item_unit (norm_unit level asked v))) (others_text rest) s1 s2 e f

pub last-unit : (level : Level) (asked : UnitKind) (value : Option UnitParts) (old s1 : List ℕ) →
    s1 ≡ old ++ opt_text (λ v. item_text (item_unit (norm_unit level asked v))) value →
    s1 ≡ old ++ others_text (opt item_unit (norm_units level asked value) End)
last-unit level asked value old s1 e = then-unit level asked value End old s1 s1 e (sym (append-nil s1))

unit-unless : (level : Level) (kind : UnitKind) (zero : Bool) (unit : Option UnitParts) →
    norm_units level kind (if zero then None else unit) ≡ (if zero then None else norm_units level kind unit)
unit-unless level kind true unit = refl
unit-unless level kind false unit = refl

-- a prime meridian whose unit is left out at longitude 0
pub unless-zero : (level : Level) (opening name : List ℕ) (l : Value) (u : Option UnitParts) (is : List IdentParts) (old new : List ℕ) →
    new ≡ old ++ named_node opening name (More (number_item l)
    (opt item_unit (norm_units level kinds.Angle (if is_zero l then None else u)) (each item_ident (set_idents level is) End))) →
    new ≡ old ++ named_node opening name (More (number_item l)
    (opt item_unit (if is_zero l then None else norm_units level kinds.Angle u) (each item_ident (set_idents level is) End)))
unless-zero level opening name l u is old new e =
    e ∙ ap (λ k. old ++ named_node opening name (More (number_item l) (opt item_unit k (each item_ident (set_idents level is) End))))
    (unit-unless level kinds.Angle (is_zero l) u)

pub then-along : (level : Level) (value : Option AxisMeridianParts) (rest : Siblings) (old s1 s2 : List ℕ) →
    s1 ≡ old ++ opt_text (axis_meridian_text level) value → s2 ≡ s1 ++ others_text rest →
    s2 ≡ old ++ others_text (opt item_axis_meridian (norm_axis_meridians level value) rest)
then-along level None rest old s1 s2 e f = two old [] (others_text rest) s1 s2 e f
then-along level (Some v) rest old s1 s2 e f = two old (44 ∷ axis_meridian_text level v) (others_text rest) s1 s2 e f

pub last-part : {A B : Type 0} (spell : B → Item) (norm : A → B) (value : Option A) (old s1 : List ℕ) →
    s1 ≡ old ++ opt_text (λ v. item_text (spell (norm v))) value → s1 ≡ old ++ others_text (opt spell (option_map norm value) End)
last-part spell norm value old s1 e = then-part spell norm value End old s1 s1 e (sym (append-nil s1))

number-text : (keyword : List ℕ) (value : Option Value) →
    number_behind (44 ∷ (keyword ++ 91 ∷ [])) value ≡ others_text (opt (number_node keyword) value End)
number-text keyword None = refl
number-text keyword (Some v) = simp (append_assoc, append-nil)

pub then-number : (keyword : List ℕ) (value : Option Value) (rest : Siblings) (old s1 s2 : List ℕ) →
    s1 ≡ old ++ number_behind (44 ∷ (keyword ++ 91 ∷ [])) value → s2 ≡ s1 ++ others_text rest →
    s2 ≡ old ++ others_text (opt (number_node keyword) value rest)
then-number keyword value rest old s1 s2 e f =
    then-opt (number_node keyword) value rest old s1 s2 (e ∙ ap (λ (x : List ℕ). old ++ x) (number-text keyword value)) f

-- ---- sets, and then the rest

pub then-set : {A : Type 0} (spell : A → Item) (values : List A) (text : List ℕ) (rest : Siblings) (old s1 s2 : List ℕ) →
    others_text (each spell values End) ≡ text → s1 ≡ old ++ text → s2 ≡ s1 ++ others_text rest →
    s2 ≡ old ++ others_text (each spell values rest)
then-set spell values text rest old s1 s2 is e f = then-each spell values rest old s1 s2 (e ∙ ap (λ (x : List ℕ). old ++ x) (sym is)) f

-- ---- what parts say

-- in words of the value, or of what is seen of it
pub told : {A : Type 0} (text : A → List ℕ) (value seen : A) (old new : List ℕ) → value ≡ seen → new ≡ old ++ text seen → new ≡ old ++ text value
told text value seen old new e f = f ∙ ap (λ v. old ++ text v) (sym e)

-- the spelling of a value, by what is written of the fields that are seen of it
pub spelled : {T E A W : Type 0} (r : Result T E) (text : A → List ℕ) (seen value : A) (old new : List ℕ) → seen ≡ value → OnOk r W →
    (W → new ≡ old ++ text seen) → OnOk r (new ≡ old ++ text value)
spelled r text seen value old new e h by = on_ok_weaker r (λ w. by w ∙ ap (λ v. old ++ text v) e) h

-- the text of whatever is read, by what is written of the arguments
pub written : {T E V W : Type 0} {Reads : V → Type 0} (r : Result T E) (text : V → List ℕ) (old new : List ℕ) →
    OnOk r W → (W → (value : V) → Reads value → new ≡ old ++ text value) → OnOk r (Writes Reads text old new)
written r text old new h by = on_ok_weaker r (λ w. record { writes = by w }) h

-- a part of a value that may be missing
pub copied : {V : Type 0} (parts : Option (Bor V)) (value : Option V) → option_copied parts ≡ value →
    SaysIfAny (λ (s : Bor V) v. v ≡ s.now) parts value
copied None None e = tt
copied None (Some v) e = let h : ⊥ = cc in h
copied (Some s) None e = let h : ⊥ = cc in h
copied (Some s) (Some v) e = let h : v ≡ s.now = cc in h

-- a part that is seen through a reference
pub through : {P V : Type 0} (Says : P → V → Type 0) (refs : Option (Bor P)) (parts : Option P) (value : Option V) →
    option_copied refs ≡ parts → SaysIfAny Says parts value → SaysIfAny (λ (s : Bor P) v. Says s.now v) refs value
through Says None None None e h = tt
through Says None None (Some v) e h = h
through Says None (Some s) value e h = let n : ⊥ = cc in absurd n
through Says (Some r) None value e h = let n : ⊥ = cc in absurd n
through Says (Some r) (Some s) None e h = h
through Says (Some r) (Some s) (Some v) e h = let q : s ≡ r.now = cc in subst (λ x. Says x v) q h

-- ---- numbers

-- a node from its opening with a number, its arguments behind that, and its closing delimiter
pub numbered : (opening : List ℕ) (value : Value) (others : Siblings) (old s1 s2 s3 : List ℕ) → s1 ≡ old ++ (opening ++ plain value) →
    s2 ≡ s1 ++ others_text others → s3 ≡ s2 ++ 93 ∷ [] → s3 ≡ old ++ ((opening ++ plain value) ++ (others_text others ++ 93 ∷ []))
numbered opening value others old s1 s2 s3 e f g = three old (opening ++ plain value) (others_text others) (93 ∷ []) s1 s2 s3 e f g

pub ruleset value_rules = (copied)

pub ruleset flat_rules = (closed, then-opt, then-each, then-more, then-text, then-part, then-number, then-unit)

pub ruleset number_rules = (numbered, then-more, last-more)

pub ruleset along_rules = (numbered, last-unit)

pub ruleset dynamic_rules = (three, last-part)

pub ruleset crs_rules = (closed, keyworded, then-opt, then-more, then-part, then-unit, then-system)
