-- What holds at each level of that which is kept. What is proved of it elsewhere is proved by these
-- laws, and of no level by itself.
use Rattle.std.specs.Prelude.{◌≡◌, List, [], Option, None, IfSome, refl}
use Rattle.std.proofs.Common.{sym}
use Rattle.crs_value.specs.Sound.{Each}
use Rattle.crs_value.specs.Kept.{kept, kept_one}
use Rattle.crs_value.specs.declared.values.level.Level.{Level}
use Rattle.crs_value.specs.declared.values.level.Level.TheVariants as levels

-- where there are no members, none is kept
pub kept-none : {A : Type 0} (level : Level) → kept {A = A} level [] ≡ []
kept-none levels.Full = refl
kept-none levels.Definition = refl

-- members are put together and then kept, or kept and then put together
pub kept-joined : {A B : Type 0} (join : Option A → List A → List B) → join None [] ≡ [] →
    (level : Level)
    (member : Option A) (members : List A) →
    join (kept_one level member) (kept level members) ≡ kept level (join member members)
kept-joined join none levels.Full member members = refl
kept-joined join none levels.Definition member members = none

-- what holds of each member at the full level holds of each kept one at its own
pub kept-each : {A : Type 0} (P : Level → A → Type 0) (level : Level) (members : List A) →
    Each (P levels.Full) members → Each (P level) (kept level members)
kept-each P levels.Full members h = h
kept-each P levels.Definition members h = tt

-- what holds of one that may be missing at the full level holds of the kept one at its own
pub kept-if_some : {A : Type 0} (P : Level → A → Type 0) (level : Level) (member : Option A) →
    IfSome member (P levels.Full) →
    IfSome (kept_one level member) (P level)
kept-if_some P levels.Full member h = h
kept-if_some P levels.Definition member h = tt

-- what is made of kept members is kept
pub kept-made : {A B : Type 0} (make : List A → List B) → make [] ≡ [] →
    (level : Level) (members : List A) → kept level (make (kept level members))
    ≡ make (kept level members)
kept-made make none levels.Full members = refl
kept-made make none levels.Definition members = sym none

-- what is made of a kept one that may be missing is kept
pub kept-made_one : {A B : Type 0} (make : Option A → List B) → make None ≡ [] →
    (level : Level) (member : Option A) → kept level (make (kept_one level member))
    ≡ make (kept_one level member)
kept-made_one make none levels.Full member = refl
kept-made_one make none levels.Definition member = sym none

-- where there are none of these if there are none of those, these are kept if those are
pub kept-where_none : {A B : Type 0} (level : Level) (those : List A) (these : List B) →
    (those ≡ [] → these ≡ []) → kept level those ≡ those →
    kept level these ≡ these
kept-where_none levels.Full those these none h = refl
kept-where_none levels.Definition those these none h = sym (none (sym h))

-- where one is missing if there are none of those, it is kept if those are
pub kept-where_none-one : {A B : Type 0} (level : Level) (those : List A) (this : Option B) →
    (those ≡ [] → this ≡ None) →
    kept level those ≡ those →
    kept_one level this ≡ this
kept-where_none-one levels.Full those this none h = refl
kept-where_none-one levels.Definition those this none h = sym (none (sym h))
