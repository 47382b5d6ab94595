-- Files whose lines are the same, in another order.
use Rattle.std.specs.Prelude.{◌≡◌, ◌++◌, ℕ, List, [], ◌∷◌}
use Rattle.crs_rules.specs.ReorderedAxes.{IsReordered}
use Rattle.crs_streams.specs.Lines.{AreLines}

-- these are the lines of some files, one file after another
abbrev pub AreLinesOf : List (List ℕ) → List (List ℕ) → Type 0
AreLinesOf [] lines = lines ≡ []
AreLinesOf (file ∷ files) lines =
    (front : List (List ℕ)) × (back : List (List ℕ)) × AreLines file front × AreLinesOf files back
    × (lines ≡ front ++ back)

-- the second files have the lines of the first in some order, however many files there are
abbrev pub AreReordered : List (List ℕ) → List (List ℕ) → Type 0
AreReordered files others =
    (lines : List (List ℕ)) × (theirs : List (List ℕ)) × AreLinesOf files lines
    × AreLinesOf others theirs × IsReordered lines theirs
