use Rattle.std.proofs.Common.{◌≡◌, ◌∙◌, ◌++◌, [], ap, append-nil, false, length, rules, subst, sym, vec_len, ◌==◌}
use Rattle.std.specs.List.{flat_map}
use Rattle.std.proofs.lemmas.Bool.{eqb-true}
use Rattle.std.proofs.lemmas.List.{nil_from_length}
use Rattle.bstr.specs.Text.{lines_of}
use Rattle.crs_desk.specs.LinesRun.{PrefixParts, prefixed}
use Rattle.crs_desk.proofs.PrefixedLines.{behind_prefix, prefixed_lines, unprefixed}
use Rattle.crs_desk.proofs.runs.line_output.prefix_lines.Goals as goal

pub returns-then-not-prefix : goal.returns-then-not-prefix
returns-then-not-prefix c =
    let front = c.prefix.inside.bytes in
    let long : length front.items ≡ vec_len front = search rules in
    let none = nil_from_length front.items (eqb-true (length front.items) 0 (sym (c.if-is_empty.ensures ∙ ap (λ n. n == 0) (sym long)))) in
    let lines : c.prefix.inside.in_object ≡ false = search rules in
    subst (λ (p : PrefixParts). c.args.bytes.items ≡ prefixed p c.args.bytes.items) c.prefix.view_is
    (sym (unprefixed (record { bytes = front.items; in_object = c.prefix.inside.in_object }) c.args.bytes.items none lines))

pub returns : goal.returns
returns c =
    let behind = behind_prefix c.args.prefix.now in
    let done : c.loop-line.line-iterator ≡ [] = search rules in
    sym (append-nil c.loop-line.lines.items)
    ∙ (subst (λ left. c.loop-line.lines.items ++ flat_map behind left ≡ flat_map behind (lines_of c.args.bytes.items)) done
    c.loop-line.invariant ∙ prefixed_lines c.args.prefix.now c.args.bytes.items)
