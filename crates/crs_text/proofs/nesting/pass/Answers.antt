use Rattle.std.proofs.Common.{arith, refl, sym, inr, reverse, ◌∙◌}
use Rattle.std.proofs.lemmas.Bool.{eqb-true}
use Rattle.std.proofs.lemmas.List.{length-reverse}
use Rattle.crs_text.specs.Tokens.{comma, opening, closing}
use Rattle.crs_text.proofs.tokens.ScanLemmas.{number_at, text_at, word_at, comma_at, opening_at, closing_at}
use Rattle.crs_text.proofs.rows.NestingLemmas.{passed_single, places-closing, popped, pushed}
use Rattle.crs_text.proofs.nesting.pass.Goals as goal

pub returns-in-Number : goal.returns-in-Number
returns-in-Number c =
    passed_single _ _ (reverse c.args.nest.now.items) _ _ _ (number_at c.args.text.now c.args.at c.requires.within _ (rw c.in-Number.is at c.requires.lexed))

pub returns-in-Text : goal.returns-in-Text
returns-in-Text c =
    passed_single _ _ (reverse c.args.nest.now.items) _ _ _ (text_at c.args.text.now c.args.at c.requires.within _ (rw c.in-Text.is at c.requires.lexed))

pub returns-in-Word : goal.returns-in-Word
returns-in-Word c =
    passed_single _ _ (reverse c.args.nest.now.items) _ _ _ (word_at c.args.text.now c.args.at c.requires.within _ (rw c.in-Word.is at c.requires.lexed))

pub returns-in-Comma : goal.returns-in-Comma
returns-in-Comma c =
    record { token = comma; forms = comma_at c.args.text.now c.args.at c.requires.within (rw c.in-Comma.is at c.requires.lexed); places = refl; within = omega (arith, c.requires.within) }

pub returns-in-Opening : goal.returns-in-Opening
returns-in-Opening c = (refl, inr (c.in-Opening.square, _, opening_at c.args.text.now c.args.at c.requires.within c.in-Opening.square (rw c.in-Opening.is at c.requires.lexed), omega (arith, length-reverse c.args.nest.now.items, eqb-true _ 12 (sym c.is_full.ensures.value ∙ c.if-is_full.true))))

pub returns-in-Opening-2 : goal.returns-in-Opening-2
returns-in-Opening-2 c =
    record {
      token = opening c.in-Opening-2.square;
      forms = opening_at c.args.text.now c.args.at c.requires.within c.in-Opening-2.square (rw c.in-Opening-2.is at c.requires.lexed);
      places = pushed _ _ c.args.at c.push.ensures.items;
      within = omega (arith, c.requires.within);
    }

pub returns-in-Closing : goal.returns-in-Closing
returns-in-Closing c =
    let places = (popped _ _ _ c.pop.ensures.items c.pop.ensures.variant).0 in
    record {
      token = closing c.args.at c.in-Closing.square;
      forms = closing_at c.args.text.now c.args.at c.requires.within c.in-Closing.square (rw c.in-Closing.is at c.requires.lexed);
      places = sym places ∙ places-closing (reverse c.args.nest.now.items) c.args.at c.args.at c.in-Closing.square;
      within = omega (arith, c.requires.within);
    }
