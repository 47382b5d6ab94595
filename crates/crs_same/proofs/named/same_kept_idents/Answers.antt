use Rattle.crs_same.proofs.named.same_kept_idents.Goals as goal

pub returns : goal.returns
returns c = rw (← c.kept.ensures, ← c.kept-2.ensures, ← c.of-a.ensures, ← c.of-b.ensures) c.same_set.ensures
