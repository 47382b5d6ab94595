use Rattle.std.proofs.Common.{◌≡◌, ◌++◌, List, map}
use Rattle.crs_explain.specs.Differing.{AreTextsOfNames, PartTexts}
use Rattle.crs_explain.proofs.difference_texts.Sets.append_names.Given as goal

abbrev pub invariant-loop-name : goal.invariant-loop-name
invariant-loop-name l =
    let Are = AreTextsOfNames l.self.at.level l.self.at.path.now l.self.these.now l.self.others.now in
    (rest : List PartTexts) → Are (map (λ name. name.items) l.name-iterator) rest →
    (texts : List PartTexts) × Are (map (λ name. name.items) l.names.keys) texts × (l.out.items ++ rest ≡ l.fn.out.items ++ texts)
