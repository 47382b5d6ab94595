-- What is known of rules files is only added to.
use Rattle.std.proofs.Common.{◌≡◌, ◌++◌, ◌∷◌, [], ℕ, Bool, true, false, List, Option, None, Some, length, take, refl, sym, ap, subst, ◌∙◌}
use Rattle.std.proofs.Math.Seq.{take-append_seam}
use Rattle.std.proofs.lemmas.List.{append-nil, append_assoc}
use Rattle.crs_shape.specs.declared.unit_kind.UnitKind.{UnitKind}
use Rattle.crs_rules.specs.Rules.{ParameterKindParts, RulesParts}
use Rattle.crs_rules.specs.declared.uncounted.Uncounted.{Uncounted}
use Rattle.crs_rules.specs.inner.Grown.{Extends, HasGrown}
use Rattle.crs_rules.specs.inner.Marks.{IsMarked, gone_back}
use Rattle.crs_rules.specs.Members.{MemberParts, kind_of}
use Rattle.crs_rules.specs.inner.AddedNodes.{IsAdded}
use Rattle.crs_rules.specs.Statements.{Reading, joined, with_alias}
use Rattle.crs_rules.specs.declared.file.reader.Mark.{Mark}

extends-on : {A : Type 0} (xs ys zs : List A) → Extends xs ys → Extends ys zs → Extends xs zs
extends-on xs ys zs (more, e) (others, f) =
    (more ++ others, f ∙ (ap (λ l. l ++ others) e ∙ append_assoc xs more others))

-- only the line differs, or what doesn't count
grown_same : (r s : Reading) → s.seen ≡ r.seen → s.rules.names ≡ r.rules.names → s.rules.units ≡ r.rules.units
    → s.rules.kinds ≡ r.rules.kinds → HasGrown r s
grown_same r s seen names units kinds = record {
  seen = ([], seen ∙ sym (append-nil r.seen));
  names = ([], names ∙ sym (append-nil r.rules.names));
  units = ([], units ∙ sym (append-nil r.rules.units));
  kinds = ([], kinds ∙ sym (append-nil r.rules.kinds));
}

pub grown_self : (r : Reading) → HasGrown r r
grown_self r = grown_same r r refl refl refl refl

pub grown_by : (r s : Reading) → s ≡ r → HasGrown r s
grown_by r s e = subst (HasGrown r) (sym e) (grown_self r)

pub grown_on : (r s t : Reading) → HasGrown r s → HasGrown s t → HasGrown r t
grown_on r s t g h = record {
  seen = extends-on r.seen s.seen t.seen g.seen h.seen;
  names = extends-on r.rules.names s.rules.names t.rules.names g.names h.names;
  units = extends-on r.rules.units s.rules.units t.rules.units g.units h.units;
  kinds = extends-on r.rules.kinds s.rules.kinds t.rules.kinds g.kinds h.kinds;
}

-- one more node of a set, or one that stood there
pub grown_seen : (r q : Reading) (m : MemberParts) (new : Bool) (seen : List MemberParts) → q ≡ r → IsAdded q.seen m new seen
    → HasGrown r (record q { seen = seen })
grown_seen r q m true seen e h =
    rw (← e) (let k = grown_self q in record { seen = (m ∷ [], h.1); names = k.names; units = k.units; kinds = k.kinds })
grown_seen r q m false seen e h = rw (← e) (grown_same q (record q { seen = seen }) h.1 refl refl refl)

-- one more name or unit
grown_alias : (r : Reading) (k : Option UnitKind) (first m : MemberParts)
    → HasGrown r (record r { rules = with_alias k first m r.rules })
grown_alias r None first m = let k = grown_self r in record { seen = k.seen; names = (_, refl); units = k.units; kinds = k.kinds }
grown_alias r (Some o) first m = let k = grown_self r in record { seen = k.seen; names = k.names; units = (_, refl); kinds = k.kinds }

-- the alias of a node that isn't the first of its set
grown_on_join : (r : Reading) (first : Option MemberParts) (m : MemberParts) → HasGrown r (record r { rules = joined first m r.rules })
grown_on_join r None m = grown_self r
grown_on_join r (Some first) m = grown_alias r (kind_of first.class) first m

pub grown_joined : (r : Reading) (first : Option MemberParts) (m : MemberParts) (rules : RulesParts)
    → rules ≡ joined first m r.rules → HasGrown r (record r { rules = rules })
grown_joined r first m rules is = rw is (grown_on_join r first m)

-- one more kind
pub grown_kind : (r : Reading) (k : ParameterKindParts) → HasGrown r (record r { rules = record r.rules { kinds = r.rules.kinds ++ k ∷ [] } })
grown_kind r k = let g = grown_self r in record { seen = g.seen; names = g.names; units = g.units; kinds = (k ∷ [], refl) }

-- another thing doesn't count
pub grown_dropped : (r : Reading) (u : Uncounted) → HasGrown r (record r { rules = record r.rules { uncounted = u } })
grown_dropped r u = grown_same r (record r { rules = record r.rules { uncounted = u } }) refl refl refl refl

-- at another line
pub grown_line : (r : Reading) (n : ℕ) → HasGrown r (record r { line = n })
grown_line r n = grown_same r (record r { line = n }) refl refl refl refl

taken : {A : Type 0} (n : ℕ) (xs ys : List A) → n ≡ length xs → Extends xs ys → take n ys ≡ xs
taken n xs ys e (more, f) = ap (λ k. take k ys) e ∙ (ap (take (length xs)) f ∙ take-append_seam xs more)

-- a reader is there again
pub back_there : (mark : Mark) (r s : Reading) → IsMarked r mark → HasGrown r s → gone_back mark s ≡ r
back_there mark r s m g =
    let seen = taken mark.seen r.seen s.seen m.seen g.seen in
    let names = taken mark.names r.rules.names s.rules.names m.names g.names in
    let units = taken mark.units r.rules.units s.rules.units m.units g.units in
    let kinds = taken mark.kinds r.rules.kinds s.rules.kinds m.kinds g.kinds in
    λ i. record {
      line = m.line i;
      seen = seen i;
      rules = record { names = names i; units = units i; uncounted = m.uncounted i; kinds = kinds i };
    }
