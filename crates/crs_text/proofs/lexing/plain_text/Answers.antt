use Rattle.std.proofs.Common.{drop, ap, sym, subst, ◌∙◌, IsUtf8}
use Rattle.std.specs.List.{prefix_len}
use Rattle.crs_text.specs.Tokens.{StopsAt, is_quote}
use Rattle.crs_text.specs.inner.Runs.{is_plain_ascii}
use Rattle.crs_text.proofs.tokens.LexedLemmas.{lexed_text, with_quote}
use Rattle.crs_text.proofs.tokens.RunLemmas.{ascii_shut, ascii_utf8, IsClosing}
use Rattle.crs_text.proofs.lexing.plain_text.Goals as goal

pub returns-then-not-begins_with_quote : goal.returns-then-not-begins_with_quote
returns-then-not-begins_with_quote c =
    let left = c.args.left.now in
    let n = c.length-length.result in
    let counted = c.length-length.ensures.value ∙ ap (prefix_len is_plain_ascii) c.rest_of-after.ensures in
    let behind = c.rest_of-behind.ensures ∙ ap (drop n) c.rest_of-after.ensures in
    let closing : IsClosing (drop n (drop 1 left)) = subst IsClosing behind (c.if-begins_with_quote.ensures, subst (StopsAt is_quote) c.rest_of.ensures c.if-not-begins_with_quote.ensures) in
    let shut = ascii_shut (drop 1 left) n counted closing in
    lexed_text left c.requires n shut (subst IsUtf8 (sym (with_quote (drop 1 left) n shut)) (ascii_utf8 (drop 1 left) n counted closing))
