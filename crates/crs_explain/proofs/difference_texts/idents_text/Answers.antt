use Rattle.std.proofs.Common.{rules}
use Rattle.crs_explain.proofs.difference_texts.idents_text.Goals as goal

pub returns : goal.returns
returns c = rw (← c.as_slice.ensures, ← c.as_slice-2.ensures, ← c.kept-these.ensures, ← c.kept-others.ensures) (search rules)
