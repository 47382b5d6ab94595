use Rattle.crs_desk.proofs.runs.explain.ToldTelling.refusal.Goals as goal

pub refusal_text-requires : goal.refusal_text-requires
refusal_text-requires c = (c.one_answer.ensures.within c.args.text.now c.args.refusal c.requires).1

pub refusal_object-requires : goal.refusal_object-requires
refusal_object-requires c = (c.one_answer.ensures.within c.args.text.now c.args.refusal c.requires).1
