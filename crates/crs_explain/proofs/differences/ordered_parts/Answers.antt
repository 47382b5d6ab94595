use Rattle.std.proofs.Common.{◌≡◌, ◌∙◌, ◌++◌, List, ap, rules, subst, sym}
use Rattle.std.proofs.lemmas.Fn.{always_returns_same}
use Rattle.std.proofs.lemmas.List.Sorted.{IsNonDecreasingBy-from_sort_by_key}
use Rattle.crs_same.specs.inner.Prelude.{DifferencesInCrs}
use Rattle.crs_explain.specs.Differing.{AreTexts, PartTexts}
use Rattle.crs_explain.specs.InOrder.{rank}
use Rattle.crs_explain.proofs.OrderLemmas.{where-none, where-some}
use Rattle.crs_explain.proofs.differences.ordered_parts.Goals as goal

pub returns-then-is_empty-clause-parts : goal.returns-then-is_empty-clause-parts
returns-then-is_empty-clause-parts c =
    let level = c.args.level in let a = c.args.a.now in let b = c.args.b.now in
    where-none (DifferencesInCrs level a b) _ (sym c.is_empty.ensures ∙ c.if-is_empty.true)
    (λ none. (c.no_part_differs_where_same.ensures.none level a b).0 (c.first_difference_is_first_part.ensures.none level a b none))
    (rw c.as_slice.ensures c.in_ok-differences.ensures)

pub returns-clause-parts : goal.returns-clause-parts
returns-clause-parts c =
    let words = c.args.words.now in
    let level = c.args.level in let a = c.args.a.now in let b = c.args.b.now in
    let (texts, are, all) = c.in_ok-append_texts.ensures in (
      where-some (DifferencesInCrs level a b) _ (sym c.is_empty.ensures ∙ c.if-is_empty.false)
          (λ one further are. c.no_part_differs_where_same.ensures.some level a b c.crs_is_sound.ensures c.crs_is_sound-2.ensures one.path
          (c.first_difference_is_first_part.ensures.some level a b one further are))
          (rw c.as_slice.ensures c.in_ok-differences.ensures),
      (
        _,
        (_, c.in_ok-differences.ensures, subst (AreTexts level _) (sym (all ∙ ap (λ (told : List PartTexts). told ++ texts) c.new-texts.ensures.items)) are),
        record {
          are_all = c.sort_by_key.ensures.permutation;
          by_word = IsNonDecreasingBy-from_sort_by_key (rank words) _ c.in_ok-sort_by_key.ensures.sorted (λ a r next called. search rules);
          as_before = c.sort_by_key.ensures.stable (rank words)
              (always_returns_same _ (λ a r. r ≡ rank words a.0.now) _ (λ a r next called. search rules));
        },
      ),
    )

pub returns-clause-some : goal.returns-clause-some
returns-clause-some c none =
    let is = returns-clause-parts c in
    is.0 ((c.nothing_is_told_where_same.ensures.ordered c.args.words.now c.args.level c.args.a.now c.args.b.now
    c.crs_is_sound.ensures c.crs_is_sound-2.ensures _ is.1).0 none)
