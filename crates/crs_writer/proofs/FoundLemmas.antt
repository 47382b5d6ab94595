-- What the arguments of a node say.
use Rattle.std.proofs.Common.{◌≡◌, List, [], ◌∷◌, Option, Some, None, sym, subst}
use Rattle.std.specs.Option.{option_copied}
use denote.Bor.{Bor}
use Rattle.crs_text.specs.inner.Prelude.{Item}
use Rattle.crs_shape.specs.declared.class.Class.{Class}
use Rattle.crs_value.specs.inner.Prelude.{ReadsEach, ReadsFirst, ReadsOptional}
use Rattle.crs_writer.specs.inner.Node.{IsFirst, args, item}
use Rattle.crs_writer.specs.inner.FromItems.{SaysIfAny}
use Rattle.crs_writer.specs.declared.nodes.node.Node.{Node}
use Rattle.crs_writer.proofs.FlatLemmas.{through}

found-said : {V : Type 0} (R : Class → Item → V → Type 0) (of : Node) (c : Class) (found : Option Node) (value : Option V) → IsFirst of c (args c of) found →
    ReadsOptional (R c) (args c of) value → SaysIfAny (λ (n : Node) v. R n.class (item n) v) found value
found-said R of c None None e h = tt
found-said {V = V} R of c None (Some v) e h = let P : List Item → Type 0 = λ xs. ReadsOptional (R c) xs (Some v) in subst P e h
found-said {V = V} R of c (Some n) None e h = let P : List Item → Type 0 = λ xs. ReadsOptional (R c) xs None in subst P e.2 h
found-said {V = V} R of c (Some n) (Some v) e h =
    let P : List Item → Type 0 = λ xs. ReadsOptional (R c) xs (Some v) in subst (λ k. R k (item n) v) (sym e.0) (subst P e.2 h)

-- by the first argument of a class, which is seen through a reference
pub first-said : {V : Type 0} (R : Class → Item → V → Type 0) (of : Node) (c : Class) (found : Option Node) (refs : Option (Bor Node)) (value : Option V) →
    IsFirst of c (args c of) found → option_copied refs ≡ found → ReadsOptional (R c) (args c of) value →
    SaysIfAny (λ (s : Bor Node) v. R s.now.class (item s.now) v) refs value
first-said R of c found refs value e same h =
    through (λ (n : Node) v. R n.class (item n) v) refs found value same (found-said R of c found value e h)

-- an argument that must be there, as one that may be missing
pub needed : {V : Type 0} (R : Item → V → Type 0) (items : List Item) (value : V) → ReadsFirst R items value → ReadsOptional R items (Some value)
needed R [] value h = h
needed R (item ∷ items) value h = h

-- by the argument that must be there, which is found, or seen through a reference
pub one-found : {V : Type 0} (R : Class → Item → V → Type 0) (of n : Node) (c : Class) (value : V) → IsFirst of c (args c of) (Some n) →
    ReadsFirst (R c) (args c of) value → R n.class (item n) value
one-found R of n c value e h = found-said R of c (Some n) (Some value) e (needed (R c) (args c of) value h)

pub one-said : {V : Type 0} (R : Class → Item → V → Type 0) (of : Node) (c : Class) (found : Option Node) (refs : Option (Bor Node)) (value : V) →
    IsFirst of c (args c of) found → option_copied refs ≡ found → ReadsFirst (R c) (args c of) value →
    SaysIfAny (λ (s : Bor Node) v. R s.now.class (item s.now) v) refs (Some value)
one-said R of c found refs value e same h = first-said R of c found refs (Some value) e same (needed (R c) (args c of) value h)

-- by all arguments of a class
pub all-said : {V : Type 0} (R : Class → Item → V → Type 0) (c d : Class) (items found : List Item) (values : List V) → d ≡ c → found ≡ items →
    ReadsEach (R c) items values → ReadsEach (R d) found values
all-said R c d items found values e same h =
    let P : List Item → Type 0 = λ xs. ReadsEach (R c) xs values in subst (λ k. ReadsEach (R k) found values) (sym e) (subst P (sym same) h)
