use Rattle.std.proofs.Common.{◌≡◌, ◌++◌, List, drop}
use Rattle.crs_explain.specs.Differing.{AreTexts, PartTexts}
use Rattle.crs_explain.proofs.difference_texts.append_texts.Given as goal

abbrev pub invariant-loop-difference : goal.invariant-loop-difference
invariant-loop-difference l =
    (rest : List PartTexts) → AreTexts l.level (drop l.difference-index l.difference-items) rest →
    (texts : List PartTexts) × AreTexts l.level l.difference-items texts × (l.out.items ++ rest ≡ l.fn.out.items ++ texts)
