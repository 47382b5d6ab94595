-- Axes as they are looked up and written, and what is written of nodes straight from their items.
use Rattle.std.proofs.Common.{◌≡◌, ℕ, suc, ◌+◌, List, [], ◌∷◌, ◌++◌, Option, Some, None, codes, refl, sym, ap, ◌∙◌, subst, append_assoc}
use Rattle.crs_text.specs.inner.Prelude.{Siblings, End, More, item_text, others_text, Item}
use Rattle.crs_shape.specs.inner.Prelude.{asked_kind, direction_word}
use Rattle.crs_value.specs.inner.Prelude.{AxisParts, SystemParts}
use Rattle.crs_value.specs.declared.values.level.Level.{Level}
use Rattle.crs_same.specs.inner.Prelude.{own_or}
use Rattle.crs_normal.specs.inner.Prelude.{each, number_node, opt, word_item, axes_from, axis_at, item_axis, item_axis_meridian, item_head, norm_axis, norm_axis_meridians, norm_system, system_items, with_axis, item_ident, item_unit, norm_units, set_idents, whole_value, node_of, text_item, text_node}
use Rattle.crs_writer.specs.inner.Openings.{named_node, opened, text_behind}
use Rattle.crs_writer.proofs.PieceLemmas.{two, three, then-more, then-opt}
use Rattle.crs_writer.proofs.TextLemmas.{each-text, text-node}
use Rattle.std.proofs.lemmas.List.{append-nil}

with-text : (level : Level) (system : SystemParts) (k : ℕ) (axis : Option AxisParts) (rest : List AxisParts) →
    others_text (each item_axis (with_axis level system k axis rest) End)
    ≡ others_text (each item_axis (with_axis level system k axis []) End) ++ others_text (each item_axis rest End)
with-text level system k None rest = refl
with-text level system k (Some axis) rest =
    each-text item_axis (norm_axis level system k axis ∷ []) (each item_axis rest End)

step : (level : Level) (system : SystemParts) (k n : ℕ) (s1 s2 : List ℕ) →
    s2 ≡ s1 ++ others_text (each item_axis (with_axis level system k (axis_at k 1 system.axes) []) End) →
    s2 ++ others_text (each item_axis (axes_from level system (k + 1) n) End)
    ≡ s1 ++ others_text (each item_axis (axes_from level system k (suc n)) End)
step level system k n s1 s2 e =
    let here = others_text (each item_axis (with_axis level system k (axis_at k 1 system.axes) []) End) in
    let rest = others_text (each item_axis (axes_from level system (k + 1) n) End) in
    two s1 here rest s2 (s2 ++ rest) e refl
    ∙ ap (λ (x : List ℕ). s1 ++ x) (sym (with-text level system k (axis_at k 1 system.axes) (axes_from level system (k + 1) n)))

-- one position more is written, `left` being one more than `rest`
pub next-axis : (level : Level) (system : SystemParts) (k left rest : ℕ) (s1 s2 whole : List ℕ) → left ≡ suc rest →
    s1 ++ others_text (each item_axis (axes_from level system k left) End) ≡ whole →
    s2 ≡ s1 ++ others_text (each item_axis (with_axis level system k (axis_at k 1 system.axes) []) End) →
    s2 ++ others_text (each item_axis (axes_from level system (k + 1) rest) End) ≡ whole
next-axis level system k left rest s1 s2 whole e f g =
    step level system k rest s1 s2 g
    ∙ subst (λ n. s1 ++ others_text (each item_axis (axes_from level system k n) End) ≡ whole) e f

-- a system, and then the rest
pub then-system : (level : Level) (system : SystemParts) (rest : Siblings) (old s1 s2 : List ℕ) →
    s1 ≡ old ++ others_text (system_items (norm_system level system) End) → s2 ≡ s1 ++ others_text rest →
    s2 ≡ old ++ others_text (system_items (norm_system level system) rest)
then-system level system rest old s1 s2 e f =
    let s = norm_system level system in
    let head = item_text (item_head s) in
    let axes = others_text (each item_axis s.axes End) in
    two old (44 ∷ (head ++ axes)) (others_text rest) s1 s2 e f
    ∙ ap (λ (x : List ℕ). old ++ (44 ∷ x))
    (append_assoc head axes (others_text rest) ∙ ap (λ (x : List ℕ). head ++ x) (sym (each-text item_axis s.axes rest)))

-- an axis in its place behind a comma, in words of its own
pub placed : (level : Level) (system : SystemParts) (position : ℕ) (axis : AxisParts) (old s1 new : List ℕ) → s1 ≡ old ++ 44 ∷ [] →
    new ≡ s1 ++ named_node (codes "AXIS[\"") axis.name (More (word_item (direction_word axis.direction))
    (opt item_axis_meridian (norm_axis_meridians level axis.meridian) (opt (number_node (codes "ORDER")) (Some (whole_value position))
    (opt item_unit (norm_units level (asked_kind system.system_type axis.direction) (own_or axis.unit system.unit))
    (each item_ident (set_idents level axis.identifiers) End))))) →
    new ≡ old ++ 44 ∷ item_text (item_axis (norm_axis level system position axis))
unfolding norm_axis
placed level system position axis old s1 new e f =
    two old (44 ∷ []) (item_text (item_axis (norm_axis level system position axis))) s1 new e f

-- ---- what is written straight from items, put together from what is written of each part

-- a node from its opening, its arguments behind the name, and its closing delimiter
pub closed : (opening name : List ℕ) (others : Siblings) (old s1 s2 s3 : List ℕ) → s1 ≡ old ++ opened opening name →
    s2 ≡ s1 ++ others_text others → s3 ≡ s2 ++ 93 ∷ [] → s3 ≡ old ++ (opened opening name ++ (others_text others ++ 93 ∷ []))
closed opening name others old s1 s2 s3 e f g = three old (opened opening name) (others_text others) (93 ∷ []) s1 s2 s3 e f g

-- a node with this keyword
pub keyworded : (opening keyword name : List ℕ) (others : Siblings) (old new : List ℕ) → opening ≡ keyword ++ 91 ∷ 34 ∷ [] →
    new ≡ old ++ (opened opening name ++ (others_text others ++ 93 ∷ [])) → new ≡ old ++ item_text (node_of keyword (text_item name) others)
keyworded opening keyword name others old new e f =
    let rest = others_text others ++ 93 ∷ [] in
    let text = name ++ 34 ∷ [] in
    f ∙ ap (λ (o : List ℕ). old ++ ((o ++ text) ++ rest)) e
    ∙ ap (λ (x : List ℕ). old ++ x) (append_assoc (keyword ++ 91 ∷ 34 ∷ []) text rest ∙ append_assoc keyword (91 ∷ 34 ∷ []) (text ++ rest))

-- a node of one text, if there is one, alone or before the rest
pub last-text : (keyword : List ℕ) (value : Option (List ℕ)) (old s1 : List ℕ) →
    s1 ≡ old ++ text_behind (44 ∷ (keyword ++ 91 ∷ 34 ∷ [])) value → s1 ≡ old ++ others_text (opt (text_node keyword) value End)
last-text keyword value old s1 e = e ∙ ap (λ (x : List ℕ). old ++ x) (text-node keyword value)

pub then-text : (keyword : List ℕ) (value : Option (List ℕ)) (rest : Siblings) (old s1 s2 : List ℕ) →
    s1 ≡ old ++ text_behind (44 ∷ (keyword ++ 91 ∷ 34 ∷ [])) value → s2 ≡ s1 ++ others_text rest →
    s2 ≡ old ++ others_text (opt (text_node keyword) value rest)
then-text keyword value rest old s1 s2 e f =
    then-opt (text_node keyword) value rest old s1 s2 (last-text keyword value old s1 e) f

-- an argument alone
pub last-more : (item : Item) (old s1 : List ℕ) → s1 ≡ old ++ 44 ∷ item_text item → s1 ≡ old ++ others_text (More item End)
last-more item old s1 e = then-more item End old s1 s1 e (sym (append-nil s1))

-- an argument that was written as such, and then the rest
pub then-one : (item : Item) (rest : Siblings) (old s1 s2 : List ℕ) →
    s1 ≡ old ++ others_text (More item End) → s2 ≡ s1 ++ others_text rest → s2 ≡ old ++ others_text (More item rest)
then-one item rest old s1 s2 e f =
    two old (44 ∷ item_text item) (others_text rest) s1 s2
    (e ∙ ap (λ (x : List ℕ). old ++ 44 ∷ x) (append-nil (item_text item))) f
