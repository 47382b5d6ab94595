use Rattle.std.proofs.Common.{◌≡◌, ℕ, Bool, true, false, Ok, take, drop, ◌+◌, sym, ap, ◌∙◌, arith, rules}
use Rattle.crs_text.specs.Tokens.{comma, opening, closing}
use Rattle.crs_text.specs.declared.items.ItemKind.TheVariants as kinds
use Rattle.crs_text.proofs.tokens.ScanLemmas.{number_at, text_at, word_at, comma_at, opening_at, closing_at, stop_flaw, stopped_token, stopped_too_deep, taken_by, stopped_by, single_taken, single_stopped, IsSingleAt}
use Rattle.crs_text.proofs.rows.ShowsLemmas.{refused_from_shows, none_from_refused}
use Rattle.crs_text.proofs.scanning.take_lexed.Goals as goal
use Rattle.crs_text.proofs.scanning.take_lexed.Goals.{in-Number+in_ok-take_single-in-Number, in-Text+in_ok-take_single-in-Text, in-Word+in_ok-take_single-in-Word, in-Comma, in-Closing, in-Opening+in-Taken, in-Opening+in-Refused}

pub returns-in-TooDeep : goal.returns-in-TooDeep
returns-in-TooDeep c =
    let forms = opening_at c.args.text.now c.args.at c.requires.more c.in-Opening.square (rw c.in-Opening.is at c.requires.lexed) in
    stopped_too_deep c.args.text.now c.args.at c.args.table.now c.at.result c.at.ensures.place c.in-Opening.square _ (drop (c.args.at + 1) c.args.text.now) c.at.ensures.number forms c.in-TooDeep.ensures

pub returns-in-Flaw : goal.returns-in-Flaw
returns-in-Flaw c =
    let flaw = rw c.in-Flaw.is at c.requires.lexed in
    record {
      reason = c.in-Flaw.reason;
      skip = c.in-Flaw.skip;
      is_number = c.at-in-Flaw.ensures.number;
      is_place = c.at-in-Flaw.ensures.place;
      stop = λ ts shows. stop_flaw c.in-Flaw.reason _ ts _ c.in-Flaw.skip flaw;
    }

pub returns-in_err-take_single-in-Number : goal.returns-in_err-take_single-in-Number
returns-in_err-take_single-in-Number c = let stopped = c.in_err-take_single-in-Number.ensures c.args.text.now in search (rules, stopped)

pub returns-in_err-take_single-in-Text : goal.returns-in_err-take_single-in-Text
returns-in_err-take_single-in-Text c = let stopped = c.in_err-take_single-in-Text.ensures c.args.text.now in search (rules, stopped)

pub returns-in_err-take_single-in-Word : goal.returns-in_err-take_single-in-Word
returns-in_err-take_single-in-Word c = let stopped = c.in_err-take_single-in-Word.ensures c.args.text.now in search (rules, stopped)

pub returns : goal.returns
returns c =
    let text = c.args.text.now in
    let at = c.args.at in
    let before = c.args.table.now in
    let took = c.if-not-was_taken.false in
    elim c.match-lexed.branch [
      | in-Number+in_ok-take_single-in-Number w ↦
          let got : w.take_single.result ≡ Ok c.match-lexed.was_taken.0 = rw w.was_taken-is (search rules) in
          let raw = w.front_of-raw.ensures ∙ ap (take w.in-Number.length) c.rest_of-left.ensures in
          let here : IsSingleAt text at kinds.Number w.front_of-raw.result.now w.in-Number.length = rw raw (number_at text at c.requires.more w.in-Number.length (rw w.in-Number.is at c.requires.lexed)) in
          rw (w.table-is, ap (λ (p : Bool × ℕ). p.1) w.was_taken-is) (single_taken text at w.in-Number.length before w.take_single.new.table c.match-lexed.was_taken.0 kinds.Number _ here (rw got at w.take_single.ensures) c.if-not-was_taken.false)
      | in-Text+in_ok-take_single-in-Text w ↦
          let got : w.take_single-in-Text.result ≡ Ok c.match-lexed.was_taken.0 = rw w.was_taken-is (search rules) in
          let raw = w.front_of-raw-in-Text.ensures ∙ ap (take w.in-Text.length) (w.rest_of.ensures ∙ ap (drop 1) c.rest_of-left.ensures) in
          let here : IsSingleAt text at kinds.Text w.front_of-raw-in-Text.result.now (w.in-Text.length + 2) = rw raw (text_at text at c.requires.more w.in-Text.length (rw w.in-Text.is at c.requires.lexed)) in
          rw (w.table-is, ap (λ (p : Bool × ℕ). p.1) w.was_taken-is) (single_taken text at (w.in-Text.length + 2) before w.take_single-in-Text.new.table c.match-lexed.was_taken.0 kinds.Text _ here (rw got at w.take_single-in-Text.ensures) c.if-not-was_taken.false)
      | in-Word+in_ok-take_single-in-Word w ↦
          let got : w.take_single-in-Word.result ≡ Ok c.match-lexed.was_taken.0 = rw w.was_taken-is (search rules) in
          let raw = w.front_of-raw-in-Word.ensures ∙ ap (take w.in-Word.length) c.rest_of-left.ensures in
          let here : IsSingleAt text at kinds.Word w.front_of-raw-in-Word.result.now w.in-Word.length = rw raw (word_at text at c.requires.more w.in-Word.length (rw w.in-Word.is at c.requires.lexed)) in
          rw (w.table-is, ap (λ (p : Bool × ℕ). p.1) w.was_taken-is) (single_taken text at w.in-Word.length before w.take_single-in-Word.new.table c.match-lexed.was_taken.0 kinds.Word _ here (rw got at w.take_single-in-Word.ensures) c.if-not-was_taken.false)
      | in-Comma w ↦
          rw (w.table-is, ap (λ (p : Bool × ℕ). p.1) w.was_taken-is) (taken_by text at 1 before w.comma.new.self w.comma.result comma (omega (arith, c.requires.more)) (comma_at text at c.requires.more (rw w.in-Comma.is at c.requires.lexed)) w.comma.ensures (sym (ap (λ (p : Bool × ℕ). p.0) w.was_taken-is) ∙ took))
      | in-Closing w ↦
          rw (w.table-is, ap (λ (p : Bool × ℕ). p.1) w.was_taken-is) (taken_by text at 1 before w.close.new.self w.close.result (closing at w.in-Closing.square) (omega (arith, c.requires.more)) (closing_at text at c.requires.more w.in-Closing.square (rw w.in-Closing.is at c.requires.lexed)) w.close.ensures (sym (ap (λ (p : Bool × ℕ). p.0) w.was_taken-is) ∙ took))
      | in-Opening+in-Taken w ↦
          rw (w.table-is, ap (λ (p : Bool × ℕ). p.1) w.was_taken-is) (record {
            token = opening w.in-Opening.square;
            forms = opening_at text at c.requires.more w.in-Opening.square (rw w.in-Opening.is at c.requires.lexed);
            step = w.in-Taken.ensures;
            within = omega (arith, c.requires.more);
          })
      | in-Opening+in-Refused w ↦ let e : false ≡ true = sym (ap (λ (p : Bool × ℕ). p.0) w.was_taken-is) ∙ took in absurd cc
    ]

pub returns-then-not-was_taken : goal.returns-then-not-was_taken
returns-then-not-was_taken c =
    let text = c.args.text.now in
    let at = c.args.at in
    let before = c.args.table.now in
    let r = c.at-then-not-was_taken.result in
    let place = c.at-then-not-was_taken.ensures.place in
    let number = c.at-then-not-was_taken.ensures.number in
    let left_out = c.if-not-was_taken.true in
    elim c.match-lexed.branch [
      | in-Number+in_ok-take_single-in-Number w ↦
          let got : w.take_single.result ≡ Ok c.match-lexed.was_taken.0 = rw w.was_taken-is (search rules) in
          let raw = w.front_of-raw.ensures ∙ ap (take w.in-Number.length) c.rest_of-left.ensures in
          let here : IsSingleAt text at kinds.Number w.front_of-raw.result.now w.in-Number.length = rw raw (number_at text at c.requires.more w.in-Number.length (rw w.in-Number.is at c.requires.lexed)) in
          single_stopped text at w.in-Number.length before w.take_single.new.table c.match-lexed.was_taken.0 kinds.Number _ here (rw got at w.take_single.ensures) r place number c.if-not-was_taken.true
      | in-Text+in_ok-take_single-in-Text w ↦
          let got : w.take_single-in-Text.result ≡ Ok c.match-lexed.was_taken.0 = rw w.was_taken-is (search rules) in
          let raw = w.front_of-raw-in-Text.ensures ∙ ap (take w.in-Text.length) (w.rest_of.ensures ∙ ap (drop 1) c.rest_of-left.ensures) in
          let here : IsSingleAt text at kinds.Text w.front_of-raw-in-Text.result.now (w.in-Text.length + 2) = rw raw (text_at text at c.requires.more w.in-Text.length (rw w.in-Text.is at c.requires.lexed)) in
          single_stopped text at (w.in-Text.length + 2) before w.take_single-in-Text.new.table c.match-lexed.was_taken.0 kinds.Text _ here (rw got at w.take_single-in-Text.ensures) r place number c.if-not-was_taken.true
      | in-Word+in_ok-take_single-in-Word w ↦
          let got : w.take_single-in-Word.result ≡ Ok c.match-lexed.was_taken.0 = rw w.was_taken-is (search rules) in
          let raw = w.front_of-raw-in-Word.ensures ∙ ap (take w.in-Word.length) c.rest_of-left.ensures in
          let here : IsSingleAt text at kinds.Word w.front_of-raw-in-Word.result.now w.in-Word.length = rw raw (word_at text at c.requires.more w.in-Word.length (rw w.in-Word.is at c.requires.lexed)) in
          single_stopped text at w.in-Word.length before w.take_single-in-Word.new.table c.match-lexed.was_taken.0 kinds.Word _ here (rw got at w.take_single-in-Word.ensures) r place number c.if-not-was_taken.true
      | in-Comma w ↦
          stopped_by text at 1 before w.comma.new.self w.comma.result comma r place number (comma_at text at c.requires.more (rw w.in-Comma.is at c.requires.lexed)) w.comma.ensures (sym (ap (λ (p : Bool × ℕ). p.0) w.was_taken-is) ∙ left_out) (λ ts shows deep. deep)
      | in-Closing w ↦
          stopped_by text at 1 before w.close.new.self w.close.result (closing at w.in-Closing.square) r place number (closing_at text at c.requires.more w.in-Closing.square (rw w.in-Closing.is at c.requires.lexed)) w.close.ensures (sym (ap (λ (p : Bool × ℕ). p.0) w.was_taken-is) ∙ left_out) (λ ts shows deep. deep)
      | in-Opening+in-Taken w ↦ let e : true ≡ false = sym (ap (λ (p : Bool × ℕ). p.0) w.was_taken-is) ∙ left_out in absurd cc
      | in-Opening+in-Refused w ↦
          let square = w.in-Opening.square in
          stopped_token text at before r place (opening square) _ number (opening_at text at c.requires.more square (rw w.in-Opening.is at c.requires.lexed))
          (none_from_refused before _ square w.in-Refused.ensures) (λ ts shows deep. refused_from_shows ts before square shows w.in-Refused.ensures.0 deep.0)
    ]
