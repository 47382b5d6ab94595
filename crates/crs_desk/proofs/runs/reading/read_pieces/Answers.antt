use Rattle.std.proofs.Common.{◌≡◌, ◌++◌, Ok, arith, rules, take}
use Rattle.crs_desk.proofs.KnownText.{read_whole}
use Rattle.crs_desk.proofs.PieceLemmas.{whole-held}
use Rattle.crs_desk.proofs.runs.reading.read_pieces.Goals as goal

pub returns-then-count-eq0-clause-ok : goal.returns-then-count-eq0-clause-ok
returns-then-count-eq0-clause-ok g c =
    let l = c.loop-turn.invariant in
    let got : c.read.result ≡ Ok c.in_ok-count.count = search rules in
    let held = l.held in record {
      text = held.0;
      is_whole = read_whole c.args.source.now c.loop-turn.source c.read.new.self held.0 c.read.new.room c.read.result
          c.in_ok-count.count c.read.ensures.counted c.read.ensures.bytes got c.if-count-eq0.true
          (omega (arith, l.room)) l.healthy (omega (arith, held.1.is_counted)) (omega (arith, held.1.is_counted, l.taken, l.short))
          held.1.is_first;
      is_held = whole-held c.loop-turn.refused held.0 c.loop-turn.feeder held.2;
    }

pub loop-turn-preserved : goal.loop-turn-preserved
loop-turn-preserved g c =
    let held = c.loop-turn.invariant.held in
    let got : c.read.result ≡ Ok c.in_ok-count.count = search rules in record {
      room = search rules;
      reads = search rules;
      taken = search rules;
      short = search rules;
      unended = search rules;
      within = search rules;
      healthy = search rules;
      held = (
        held.0 ++ take c.in_ok-count.count c.read.new.room,
        (rw got at c.read.ensures.given) c.args.source.now held.0 held.1,
        c.in_ok-refused.ensures.ok held.0 held.2,
      );
    }
