-- Keys put into a set are spellings put into a list that is in order.
use Rattle.std.proofs.Common.{◌≡◌, ℕ, List, [], ◌∷◌, ◌++◌, Vec, refl, ap, ◌∙◌}
use Rattle.std.specs.BTreeSet.{insert_key}
use Rattle.std.specs.Cmp.Lexicographic.{slice_cmp}
use Rattle.std.specs.Ordering.{nat_cmp, match_ordering}
use Rattle.std.specs.declared.alloc.Global.{Global}
use Rattle.std.specs.declared.cmp.Ordering.{Ordering}
use Rattle.crs_normal.specs.inner.Prelude.{put}
use Rattle.crs_writer.specs.inner.Members.{spellings}
use Rattle.crs_writer.proofs.TextLemmas.{map-match}

abbrev pub compared : Vec ℕ Global → Vec ℕ Global → Ordering
compared a b = slice_cmp nat_cmp a.items b.items

pub spellings-insert : (keys : List (Vec ℕ Global)) (key : Vec ℕ Global) →
    spellings (insert_key compared keys key) ≡ put (λ bytes. bytes) key.items (spellings keys)
spellings-insert [] key = refl
spellings-insert (x ∷ keys) key =
    map-match (λ v. v.items) (compared key x) (key ∷ x ∷ keys) (x ∷ keys) (x ∷ insert_key compared keys key)
    ∙ ap (λ rest. match_ordering (compared key x) (key.items ∷ x.items ∷ spellings keys) (x.items ∷ spellings keys) (x.items ∷ rest))
    (spellings-insert keys key)

-- a key of this spelling, written to what was empty, is put in
pub gathered : (old new : List (Vec ℕ Global)) (key : Vec ℕ Global) (start bytes : List ℕ) →
    new ≡ insert_key compared old key → start ≡ [] → key.items ≡ start ++ bytes →
    spellings new ≡ put (λ x. x) bytes (spellings old)
gathered old new key start bytes e f g =
    ap (λ keys. spellings keys) e ∙ spellings-insert old key
    ∙ ap (λ x. put (λ y. y) x (spellings old)) (g ∙ ap (λ (x : List ℕ). x ++ bytes) f)
