use Rattle.std.proofs.Common.{◌≡◌, Bool, true, false, not, Option, Some, None, refl, sym, ◌∙◌, ap, is_some}
use Rattle.std.proofs.lemmas.Bool.{and_parts}
use Rattle.crs_value.proofs.judging.quick_checks.noted.Goals as goal

is-none : {V : Type 0} (o : Option V) (b : Bool) → is_some o ≡ not b → b ≡ true → o ≡ None
is-none None b e f = refl
is-none (Some v) b e f = let k : true ≡ false = e ∙ ap not f in cc

pub returns : goal.returns
returns c = record {
  counted = refl;
  placed = λ e. let both = and_parts _ _ e in (both.0, c.has_place.ensures both.1);
  none = λ e. let both = and_parts _ _ e in (both.0, is-none _ _ c.is_none.ensures both.1);
  fit = λ e. let both = and_parts _ _ e in (both.0, λ cs axis asks units. c.fits_own.ensures both.1 cs axis (rw c.asked_kind-kind.ensures asks) units);
  free = λ e. let both = and_parts _ _ e in (both.0, is-none _ _ c.is_none-2.ensures both.1);
  long = λ e. let both = and_parts _ _ e in (both.0, sym c.asked_kind-kind.ensures ∙ c.same_kind.ensures.0 both.1);
  turned = λ e. let both = and_parts _ _ e in (both.0, sym c.asked_kind-kind.ensures ∙ c.same_kind-2.ensures.0 both.1);
}
