use Rattle.std.proofs.Common.{◌≡◌, ◌∙◌, drop, length, rules, sym, ap, take, arith}
use Rattle.crs_text.specs.Items.{first_of, here, tokens}
use Rattle.crs_text.specs.inner.Table.{rows}
use Rattle.crs_text.proofs.rows.IdLemmas.{row-within}
use Rattle.crs_text.proofs.tokens.LaidLemmas.{own, bytes_of}
use Rattle.crs_text.proofs.items.Items.written.Goals as goal

pub part_of-requires : goal.part_of-requires
part_of-requires c =
    let w = row-within c.args.self.now c.args.id c.row-row.result c.requires c.row-row.ensures.is in
    let t : c.deref.result.now ≡ rows 0 c.args.self.now = c.deref.ensures.value ∙ c.self.invariant.rows ∙ ap (λ t. rows 0 t) c.self.view_is in
    omega (arith, w, ap length t, c.id.view_is)

pub written_length-requires : goal.written_length-requires
written_length-requires c =
    let o = own c.self.inside.source.now _ _ c.args.id _ _ _ _ c.self.invariant.laid c.self.view_is c.requires c.row-row.ensures.is (search rules) (c.deref.ensures.value ∙ c.self.invariant.rows) c.id.view_is c.part_of.ensures in
    omega (arith, o.long, o.span.within)

pub overflow_add-row : goal.overflow_add-row
overflow_add-row c =
    let o = own c.self.inside.source.now _ _ c.args.id _ _ _ _ c.self.invariant.laid c.self.view_is c.requires c.row-row.ensures.is (search rules) (c.deref.ensures.value ∙ c.self.invariant.rows) c.id.view_is c.part_of.ensures in
    omega (arith, o.long, o.span.within, c.in_ok-length.ensures.length)

pub overflow_add-row-2 : goal.overflow_add-row-2
overflow_add-row-2 c =
    let o = own c.self.inside.source.now _ _ c.args.id _ _ _ _ c.self.invariant.laid c.self.view_is c.requires c.row-row.ensures.is (search rules) (c.deref.ensures.value ∙ c.self.invariant.rows) c.id.view_is c.part_of.ensures in
    omega (arith, o.span.closed)

pub part_of-requires-then-row-length : goal.part_of-requires-then-row-length
part_of-requires-then-row-length c =
    let o = own c.self.inside.source.now _ _ c.args.id _ _ _ _ c.self.invariant.laid c.self.view_is c.requires c.row-row.ensures.is (search rules) (c.deref.ensures.value ∙ c.self.invariant.rows) c.id.view_is c.part_of.ensures in
    omega (arith, o.long, o.span.within, c.in_ok-length.ensures.length)

pub returns-then-row-length : goal.returns-then-row-length
returns-then-row-length c =
    let source = c.self.inside.source.now in
    let o = own source _ _ c.args.id _ _ _ _ c.self.invariant.laid c.self.view_is c.requires c.row-row.ensures.is (search rules) (c.deref.ensures.value ∙ c.self.invariant.rows) c.id.view_is c.part_of.ensures in
    let e : c.in_ok-length.length ≡ length (bytes_of (tokens (first_of (here c.args.self.now c.args.id)))) = c.in_ok-length.ensures.length ∙ o.long in
    let stands = o.span.stands (omega (arith, e, c.if-row-length.true)) in
    c.part_of-then-row-length.ensures ∙ ap (λ n. take n (drop c.row-row.result.place source)) e ∙ sym stands.bytes ∙ o.text c.in_ok-length.ensures.square
