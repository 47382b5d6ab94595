use Rattle.std.proofs.Common.{◌≡◌, Ok, arith, rules}
use Rattle.crs_desk.proofs.KnownText.{read_whole}
use Rattle.crs_desk.proofs.runs.reading.read_text.Goals as goal

pub returns-then-count-eq0-clause-ok : goal.returns-then-count-eq0-clause-ok
returns-then-count-eq0-clause-ok g c =
    let l = c.loop-turn.invariant in
    let got : c.read.result ≡ Ok c.in_ok-count.count = search rules in
    read_whole c.args.source.now c.loop-turn.source c.read.new.self c.loop-turn.text.items c.read.new.room
    c.read.result c.in_ok-count.count c.read.ensures.counted c.read.ensures.bytes got
    c.if-count-eq0.true (omega (arith, l.room)) l.healthy (omega (arith, l.taken, c.loop-turn.text.ok))
    (omega (arith, l.short, c.loop-turn.text.ok)) l.told
