-- A text has the raw bytes of its tokens at their places.
use Rattle.std.proofs.Common.{◌≡◌, ℕ, suc, List, [], ◌∷◌, ◌++◌, length, take, drop, refl, sym, ap, subst, ◌∙◌, append_assoc, arith}
use Rattle.std.proofs.lemmas.List.{length-append, drop_at}
use Rattle.std.proofs.Math.Seq.{take-append_seam}
use Rattle.crs_text.specs.Tokens as tokens
use Rattle.crs_text.specs.Tokens.{Token, single, spelling, IsFormed, Forms, Fronts}
use Rattle.crs_text.specs.inner.Tree.{AreLaid, EndsIn, StandsAt, TokenStands, AllStand, EachToken, IsTable}
use Rattle.crs_text.specs.inner.Table.{Flat}
use Rattle.crs_text.specs.inner.Scan.{IsScanned}
use Rattle.crs_text.proofs.texts.WrittenLemmas.{fronts_formed}

pub cut_front : (source bytes white rest : List ℕ) → EndsIn source bytes → bytes ≡ white ++ rest → EndsIn source rest
cut_front source bytes white rest (front, e) f = (front ++ white, e ∙ ap (λ z. front ++ z) f ∙ sym (append_assoc front white rest))

pub stands_at : (source front raw rest : List ℕ) (place : ℕ) → source ≡ front ++ (raw ++ rest) → place ≡ length front → StandsAt source place raw
stands_at source front raw rest place e p = record {
  within = omega (arith, ap length e, length-append front (raw ++ rest), length-append raw rest, p);
  bytes = sym (ap (λ z. take (length raw) z) (ap (drop place) e ∙ drop_at front (raw ++ rest) place (sym p)) ∙ take-append_seam raw rest);
}

stands : (source : List ℕ) (t : Token) (left rest : List ℕ) → EndsIn source left → Forms (length source) t left rest → TokenStands source t
stands source (single tokens.text place raw) left rest (front, e) f =
    let spelled : left ≡ 34 ∷ (raw ++ 34 ∷ rest) = f.spelled ∙ ap (λ (z : List ℕ). 34 ∷ z) (append_assoc raw (34 ∷ []) rest) in
    stands_at source (front ++ 34 ∷ []) raw (34 ∷ rest) (suc place) (e ∙ ap (λ z. front ++ z) spelled ∙ sym (append_assoc front (34 ∷ []) (raw ++ 34 ∷ rest)))
    (omega (arith, ap length e, length-append front left, f.placed, length-append front (34 ∷ [])))
stands source (single kind place raw) left rest (front, e) f =
    stands_at source front raw rest place (e ∙ ap (λ z. front ++ z) f.spelled) (omega (arith, ap length e, length-append front left, f.placed))
stands source t left rest ends f = tt

all_stand : (source : List ℕ) (ts : List Token) (bytes left : List ℕ) → EndsIn source bytes → Fronts (length source) bytes ts left → AllStand source ts
all_stand source [] bytes left ends p = tt
all_stand source (t ∷ ts) bytes left ends p =
    let at = cut_front source bytes p.2.white p.0 ends p.2.parts in
    (stands source t p.0 p.1 at p.3, all_stand source ts p.1 left (cut_front source p.0 (spelling t) p.1 at p.3.spelled) p.4)

pub table_of_scanned : (source : List ℕ) (table : Flat) (s : IsScanned source table) → IsTable source table.rows s.0
table_of_scanned source table (item, s, e) = record {
  rows = ap (λ (f : Flat). f.rows) e;
  stand = subst (AllStand source) s.2.are (all_stand source s.0 source [] ([], refl) s.1);
  formed = subst (EachToken IsFormed) s.2.are (fronts_formed (length source) source [] s.0 s.1);
  laid = subst (AreLaid source) s.2.are (record { bytes = source; left = []; ends = ([], refl); fronts = s.1 });
  node = s.2.is_node;
}
