use Rattle.std.proofs.Common.{ℕ, List, length, codes, refl, ap, inl, inr, arith, true, false, pos, negsuc, subst}
use Rattle.std.specs.Fmt.{digits}
use Rattle.crs_decimal.specs.Numbers.{IsBounded, IsInBounds, number_of, Denotes, HasForm, SameNumber, Value, exact, zero}
use Rattle.crs_decimal.specs.inner.Split.{IsCutWhole, parts_of}
use Rattle.crs_decimal.specs.inner.Examples.{value}
use Rattle.crs_decimal.specs.declared.mantissa.Mantissa.{Mantissa}
use Rattle.crs_decimal.proofs.BoundLemmas.{far_unbounded}
use Rattle.crs_decimal.proofs.SplitLemmas.{spells_parts, parts_only, form_whole}
use Rattle.crs_decimal.proofs.laws.worked_examples.Goals as goal

denoted : (bs : List ℕ) (v : Value) → IsCutWhole bs → IsBounded (parts_of bs) → SameNumber (number_of (parts_of bs)) (exact v) → Denotes bs (exact v)
denoted bs v w b s = (parts_of bs, spells_parts bs w, b, s)

large : IsCutWhole (codes "1E41")
large = record { all = refl; some = omega arith; exponent = omega arith }

abbrev one : Mantissa
one = record { digits = 1; zeros = 0; is_long = false }

too_large : ¬ (IsInBounds (codes "1E41"))
too_large h =
    let p = parts_only (codes "1E41") h.0 h.1 in
    far_unbounded (parts_of (codes "1E41")) one (refl, λ e. omega (arith, e)) (inr (omega arith)) (subst IsBounded p h.2)

two_periods : ¬ (HasForm (codes "1.5.2"))
two_periods h = let w = form_whole (codes "1.5.2") h in absurd (omega (arith, ap length w.all))

no_digit : ¬ (HasForm (codes "."))
no_digit h = let w = form_whole (codes ".") h in absurd (omega (arith, w.some))

pub returns : goal.returns
unfolding digits
returns c = record {
  spellings = (
    denoted (codes "-0012.3400") (value true 1234 (negsuc 1))
        (record { all = refl; some = omega arith; exponent = tt })
        (record { mantissa_digits = omega arith; exponent_digits = omega arith; measured = inr (1234, 2, (refl, λ e. omega (arith, e)), omega arith, omega arith, omega arith) })
        (refl, inl refl),
    denoted (codes "1.5e+3") (value false 15 (pos 2))
        (record { all = refl; some = omega arith; exponent = omega arith })
        (record { mantissa_digits = omega arith; exponent_digits = omega arith; measured = inr (15, 0, (refl, λ e. omega (arith, e)), omega arith, omega arith, omega arith) })
        (refl, inl refl),
    denoted (codes "-.0E999") zero
        (record { all = refl; some = omega arith; exponent = omega arith })
        (record { mantissa_digits = omega arith; exponent_digits = omega arith; measured = inl refl })
        (refl, inr (refl, refl)),
  );
  faults = (((parts_of (codes "1E41"), spells_parts (codes "1E41") large), too_large), two_periods, no_digit);
  plain = (refl, refl, refl, refl);
}
