use Rattle.std.proofs.Common.{◌≡◌, ◌+◌, ◌<◌, length, drop, arith, ap, sym, ◌∙◌}
use Rattle.std.specs.List.{prefix_len}
use Rattle.std.proofs.lemmas.List.{length-drop}
use Rattle.std.proofs.lemmas.List.Sums.{prefix_len-le-length}
use Rattle.crs_text.specs.inner.Runs.{is_plain}
use Rattle.crs_text.proofs.tokens.QuotedLemmas.{open_at, shut_at, past_doubled, plain_first, within_at}
use Rattle.crs_text.proofs.lexing.closing_quote.Goals as goal

pub returns-then-quote-after : goal.returns-then-quote-after
returns-then-quote-after c =
    let e : c.unwrap_or.result ≡ prefix_len is_plain (drop c.loop-at.at c.args.after.now) = c.unwrap_or.ensures ∙ plain_first c.rest_of-rest.result.now c.find_byte.result c.find_byte.ensures ∙ ap (prefix_len is_plain) c.rest_of-rest.ensures in
    open_at c.args.after.now c.loop-at.at c.loop-at.invariant.0 c.loop-at.invariant.1 (sym (ap (λ z. c.loop-at.at + z) e) ∙ c.if-quote-after.true)

pub returns-then-not-begins_with_quote : goal.returns-then-not-begins_with_quote
returns-then-not-begins_with_quote c =
    let e : c.unwrap_or.result ≡ prefix_len is_plain (drop c.loop-at.at c.args.after.now) = c.unwrap_or.ensures ∙ plain_first c.rest_of-rest.result.now c.find_byte.result c.find_byte.ensures ∙ ap (prefix_len is_plain) c.rest_of-rest.ensures in
    let lt : c.loop-at.at + c.unwrap_or.result < length c.args.after.now = omega (arith, length-drop c.loop-at.at c.args.after.now, prefix_len-le-length is_plain (drop c.loop-at.at c.args.after.now), e, c.if-quote-after.false) in (
      shut_at c.args.after.now c.loop-at.at (c.loop-at.at + c.unwrap_or.result) c.loop-at.invariant.0 c.loop-at.invariant.1 (ap (λ z. c.loop-at.at + z) e) lt
          (rw c.rest_of.ensures at (c.if-not-begins_with_quote.ensures)),
      lt,
    )

pub loop-at-preserved : goal.loop-at-preserved
loop-at-preserved c =
    let e : c.unwrap_or.result ≡ prefix_len is_plain (drop c.loop-at.at c.args.after.now) = c.unwrap_or.ensures ∙ plain_first c.rest_of-rest.result.now c.find_byte.result c.find_byte.ensures ∙ ap (prefix_len is_plain) c.rest_of-rest.ensures in
    let lt : c.loop-at.at + c.unwrap_or.result < length c.args.after.now = omega (arith, length-drop c.loop-at.at c.args.after.now, prefix_len-le-length is_plain (drop c.loop-at.at c.args.after.now), e, c.if-quote-after.false) in
    let q = c.loop-at.at + c.unwrap_or.result in
    let f = sym c.rest_of.ensures ∙ c.if-not-begins_with_quote.ensures in
    let w : q + 1 < length c.args.after.now = within_at c.args.after.now _ 34 (q + 1) f in
    (omega (arith, w), past_doubled c.args.after.now c.loop-at.at q c.loop-at.invariant.0 c.loop-at.invariant.1 (ap (λ z. c.loop-at.at + z) e) lt _ f)
