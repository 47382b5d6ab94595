use Rattle.std.proofs.Common.{◌≡◌, ◌++◌, ◌∙◌, ℕ, List, ap, false, sym, true}
use Rattle.crs_shape.specs.declared.class.Class.TheVariants as class
use Rattle.crs_value.specs.inner.Prelude.{ReadsUsage}
use Rattle.crs_writer.specs.inner.Node.{item}
use Rattle.crs_writer.proofs.FoundLemmas.{all-said}
use Rattle.crs_writer.proofs.NothingWrittenLemmas.{untold, usages-dropped, usages-kept, with-some, without-bare}
use Rattle.crs_writer.proofs.FlatLemmas.{written}
use Rattle.crs_writer.proofs.spelling.tail.write_usages_of.Goals as goal

pub returns-then-has_bare : goal.returns-then-has_bare
returns-then-has_bare c = written c.write_set_with.result _ _ _ c.write_set_with.ensures (λ set t r.
    with-some _ (item c.args.node.now) _ _ t.bare_parts t.usages
    (λ lacks. let none : false ≡ true = sym (c.has_bare.ensures.1 lacks) ∙ c.if-has_bare.true in absurd cc) r.bare_parts
    (λ u reads. set u t.usages reads (all-said ReadsUsage class.Usage _ _ _ _ c.all-usages.ensures.class c.all-usages.ensures.all r.usages))
    ∙ ap (λ (x : List ℕ). c.args.out.now.items ++ x) (usages-kept c.args.level (c.keeps.ensures.full c.if-keeps.true) t.bare_parts t.usages))

pub returns-else-has_bare : goal.returns-else-has_bare
returns-else-has_bare c = written c.write_set.result _ _ _ c.write_set.ensures (λ set t r.
    without-bare _ (item c.args.node.now) _ _ t.bare_parts t.usages (c.has_bare.ensures.0 c.if-has_bare.false) r.bare_parts
    (set.writes t.usages (all-said ReadsUsage class.Usage _ _ _ _ c.all-usages.ensures.class c.all-usages.ensures.all r.usages))
    ∙ ap (λ (x : List ℕ). c.args.out.now.items ++ x) (usages-kept c.args.level (c.keeps.ensures.full c.if-keeps.true) t.bare_parts t.usages))

pub returns-else-keeps : goal.returns-else-keeps
returns-else-keeps c =
    untold _ _ _ (λ t r. usages-dropped c.args.level (c.keeps.ensures.definition c.if-keeps.false) t.bare_parts t.usages)
