use Rattle.std.proofs.Common.{refl, sym, ◌∙◌}
use Rattle.crs_writer.specs.inner.Prelude.{IsCanonicalOf}
use Rattle.crs_group.specs.declared.placed.Placed.TheVariants.{Blank}
use Rattle.crs_group.proofs.CatalogueLemmas.{blank-added, canonical-forms, is-black, lines-added, lines-result, put-result, refuse-result}
use Rattle.crs_group.proofs.KnownLemmas.{joined-put}
use Rattle.crs_group.specs.GroupTexts.{ShareWhereSame}
use Rattle.crs_group.proofs.catalogue.Catalogue.add.Goals as goal

pub returns-then-is_blank-clause-catalogue : goal.returns-then-is_blank-clause-catalogue
returns-then-is_blank-clause-catalogue c placed whole =
    blank-added IsCanonicalOf ShareWhereSame (λ level. canonical-forms level (c.main_theorem.ensures level))
    placed c.args.self.now whole c.args.line c.args.text.now
    (sym c.is_blank.ensures ∙ c.if-is_blank.true)

pub returns-in-Some-clause-catalogue : goal.returns-in-Some-clause-catalogue
returns-in-Some-clause-catalogue c =
    let has = c.in-Some.ensures.group in
    put-result IsCanonicalOf ShareWhereSame (λ level. canonical-forms level (c.main_theorem.ensures level))
    c.args.self.now c.join.new.self c.args.self.now.level refl c.args.line c.args.text.now has.canon c.join.result
    (is-black c.args.text.now c.is_blank.result c.if-is_blank.false c.is_blank.ensures)
    has.is_canonical has.is_at_level
    (joined-put has.canon c.args.line c.in-Some.at c.args.self.now.groups c.join.new.self.groups c.join.result
    has.found c.join.ensures.groups)
    c.join.ensures.level c.join.ensures.refused

pub returns-in-Ok-clause-catalogue : goal.returns-in-Ok-clause-catalogue
returns-in-Ok-clause-catalogue c =
    let put = rw c.canon.ensures.unchanged at c.put_and_remember.ensures in
    put-result IsCanonicalOf ShareWhereSame (λ level. canonical-forms level (c.main_theorem.ensures level))
    c.args.self.now c.put_and_remember.new.self c.args.self.now.level refl c.args.line c.args.text.now c.in-Ok.canon c.put_and_remember.result
    (is-black c.args.text.now c.is_blank.result c.if-is_blank.false c.is_blank.ensures)
    c.in-Ok.ensures.answer c.in-Ok.ensures.level put.groups put.level put.refused

pub returns-in-Err-clause-catalogue : goal.returns-in-Err-clause-catalogue
returns-in-Err-clause-catalogue c =
    let refused = rw c.canon.ensures.unchanged at c.refuse.ensures in
    refuse-result IsCanonicalOf ShareWhereSame (λ level. canonical-forms level (c.main_theorem.ensures level))
    c.args.self.now c.refuse.new.self c.args.line c.args.text.now c.in-Err.fault c.refuse.result
    (is-black c.args.text.now c.is_blank.result c.if-is_blank.false c.is_blank.ensures)
    c.in-Err.ensures.answer refused.refused refused.level refused.groups

pub returns-then-is_blank-clause-lines : goal.returns-then-is_blank-clause-lines
returns-then-is_blank-clause-lines c =
    lines-added IsCanonicalOf ShareWhereSame c.args.self.now c.args.self.now c.args.line c.args.text.now Blank
    (returns-then-is_blank-clause-catalogue c)

pub returns-in-Some-clause-lines : goal.returns-in-Some-clause-lines
returns-in-Some-clause-lines c =
    lines-result IsCanonicalOf ShareWhereSame c.args.self.now c.join.new.self c.args.line c.args.text.now c.join.result
    (returns-in-Some-clause-catalogue c)

pub returns-in-Ok-clause-lines : goal.returns-in-Ok-clause-lines
returns-in-Ok-clause-lines c =
    lines-result IsCanonicalOf ShareWhereSame c.args.self.now c.put_and_remember.new.self c.args.line c.args.text.now c.put_and_remember.result
    (returns-in-Ok-clause-catalogue c)

pub returns-in-Err-clause-lines : goal.returns-in-Err-clause-lines
returns-in-Err-clause-lines c =
    lines-result IsCanonicalOf ShareWhereSame c.args.self.now c.refuse.new.self c.args.line c.args.text.now c.refuse.result
    (returns-in-Err-clause-catalogue c)
