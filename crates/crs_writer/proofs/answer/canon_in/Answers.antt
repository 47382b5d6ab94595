use Rattle.crs_writer.proofs.answer.canon_in.Goals as goal

pub returns-in-Ok-written_from-clause-answer : goal.returns-in-Ok-written_from-clause-answer
returns-in-Ok-written_from-clause-answer c =
    let spelled = c.in-Ok.ensures.answer in (
      spelled.0,
      (c.in_ok-items.items, (c.in_ok-items.ensures, spelled.1)),
      c.in-Ok-written_from.ensures.text spelled.0 spelled.1,
    )
