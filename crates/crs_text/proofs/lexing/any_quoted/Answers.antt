use Rattle.crs_text.proofs.tokens.LexedLemmas.{lexed_text, whole_at_quote, flawed_inside, flawed_open, unclosed}
use Rattle.crs_text.proofs.lexing.any_quoted.Goals as goal

pub returns-in-Ok : goal.returns-in-Ok
returns-in-Ok c =
    let shut = rw c.rest_of-after.ensures at c.in-Some.ensures in
    let f = rw (c.front_of.ensures, c.rest_of-after.ensures) at c.in-Ok.ensures in
    lexed_text c.args.left.now c.requires c.in-Some.length shut (whole_at_quote c.args.left.now c.requires c.in-Some.length shut f.1)

pub returns-in-Err : goal.returns-in-Err
returns-in-Err c =
    let shut = rw c.rest_of-after.ensures at c.in-Some.ensures in
    let f = rw (c.front_of.ensures, c.rest_of-after.ensures) at c.in-Err.ensures in
    rw c.flaw.ensures (flawed_inside c.args.left.now c.requires c.in-Some.length c.in-Err.valid shut f.0 f.1)

pub returns-in-Ok-valid_length : goal.returns-in-Ok-valid_length
returns-in-Ok-valid_length c =
    let i = rw c.rest_of-after.ensures at c.in-None.ensures in
    let f = rw c.rest_of-after.ensures at c.in-Ok-valid_length.ensures in
    rw c.flaw-in-Ok-valid_length.ensures (unclosed c.args.left.now c.requires i f.1)

pub returns-in-Err-valid_length : goal.returns-in-Err-valid_length
returns-in-Err-valid_length c =
    let i = rw c.rest_of-after.ensures at c.in-None.ensures in
    let f = rw c.rest_of-after.ensures at c.in-Err-valid_length.ensures in
    rw c.flaw-in-Err-valid_length.ensures (flawed_open c.args.left.now c.requires c.in-Err-valid_length.valid i f.0 f.1)
