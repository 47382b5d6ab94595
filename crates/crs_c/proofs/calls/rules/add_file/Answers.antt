use Rattle.crs_c.proofs.FilesLemmas.{one_more}
use Rattle.crs_c.proofs.calls.rules.add_file.Goals as goal

pub invariant_of-held : goal.invariant_of-held
invariant_of-held c =
    one_more c.args.text.now c.held.inside.reader c.read.new.self c.held.invariant c.in-Ok.ensures.answer
