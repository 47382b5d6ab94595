-- The rules of no files, and of one more.
use Rattle.std.proofs.Common.{ℕ, List, [], ◌∷◌, ◌++◌, refl, subst, sym}
use Rattle.crs_rules.specs.RulesFile.{ReadsFile, start}
use Rattle.crs_rules.specs.Statements.{Over, Reading}
use Rattle.crs_c.specs.inner.Files.{AreOfFiles}

pub no_files : AreOfFiles start
no_files = ([], refl)

and-one : (files : List (List ℕ)) (text : List ℕ) (r s t : Reading) → Over ReadsFile r files s → ReadsFile s text t →
    Over ReadsFile r (files ++ text ∷ []) t
and-one [] text r s t e reads = (t, subst (λ q. ReadsFile q text t) (sym e) reads, refl)
and-one (file ∷ files) text r s t (q, first, over) reads = (q, first, and-one files text q s t over reads)

pub one_more : (text : List ℕ) (s t : Reading) → AreOfFiles s → ReadsFile s text t → AreOfFiles t
one_more text s t (files, over) reads = (files ++ text ∷ [], and-one files text start s t over reads)
