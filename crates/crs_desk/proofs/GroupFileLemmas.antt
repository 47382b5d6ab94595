-- Files that are grouped, one after another.
use Rattle.std.proofs.Common.{◌≡◌, ◌++◌, ◌∷◌, [], ℕ, List, Option, arith, append-nil, append_assoc, inl, inr, Err, IfOk, IfSome, Ok, OnOk, Result, refl, max}
use Rattle.std.proofs.Math.Nat.{max-zero}
use Rattle.crs_streams.specs.declared.fault.RunFault.{RunFault}
use Rattle.crs_value.specs.declared.values.level.Level.{Level}
use Rattle.crs_group.specs.GroupTexts.{PlacedLine}
use Rattle.crs_group.specs.Names.{NamedText}
use Rattle.crs_group.specs.inner.GroupReading.{IsLedgerOfNamed, LedgerParts}
use Rattle.crs_desk.specs.FilesGrouped.{AreReadFiles, IsReadFile}
use Rattle.crs_desk.specs.inner.FilesGrouping.{IsAdded}

-- a further file was read
pub read-more : (known : List ℕ → Option (List ℕ)) (names rest left : List (List ℕ)) (name : List ℕ)
    (texts one : List NamedText) (so-far own : ℕ) → left ≡ name ∷ rest → IsReadFile (known name) name one own
    → ((more : List NamedText) (others : ℕ) → AreReadFiles known left more others
    → AreReadFiles known names (texts ++ more) (max so-far others))
    → (more : List NamedText) (others : ℕ) → AreReadFiles known rest more others
    → AreReadFiles known names ((texts ++ one) ++ more) (max (max so-far own) others)
read-more known names rest left name texts one so-far own is read goes more others files =
    let greatest : max so-far (max own others) ≡ max (max so-far own) others = omega arith in
    rw (append_assoc texts one more, ← greatest)
    (goes (one ++ more) (max own others) (rw is (one, more, own, others, read, files, refl, refl)))

-- all files were read
pub read-all : (known : List ℕ → Option (List ℕ)) (names left : List (List ℕ)) (texts : List NamedText) (status : ℕ) → left ≡ []
    → ((more : List NamedText) (others : ℕ) → AreReadFiles known left more others
    → AreReadFiles known names (texts ++ more) (max status others))
    → AreReadFiles known names texts status
read-all known names left texts status none goes = simp (append-nil, max-zero) at (goes [] 0 (rw none (refl, refl)))

-- a file that can't be read changes nothing
pub none-added : (Form : Level → List ℕ → List ℕ → Type 0) (Share : Level → PlacedLine → PlacedLine → Type 0)
    (known : Option (List ℕ)) (name : List ℕ) (ledger : LedgerParts) → IsAdded Form Share known name ledger ledger 2
none-added Form Share known name ledger = ([], inr (refl, refl), λ texts is. rw (append-nil texts) is)

-- a file that was read is added
pub one-added : (Form : Level → List ℕ → List ℕ → Type 0) (Share : Level → PlacedLine → PlacedLine → Type 0)
    (known : Option (List ℕ)) (name text : List ℕ) (before after : LedgerParts) (status : ℕ) → IfSome known (λ all. text ≡ all)
    → ((texts : List NamedText) → IsLedgerOfNamed Form Share texts before
    → IsLedgerOfNamed Form Share (texts ++ record { name = name; text = text } ∷ []) after)
    → status ≡ 0 → IsAdded Form Share known name before after status
one-added Form Share known name text before after status all added is =
    (record { name = name; text = text } ∷ [], inl (text, all, refl, is), added)

pub text-added : (Form : Level → List ℕ → List ℕ → Type 0) (Share : Level → PlacedLine → PlacedLine → Type 0)
    (known : Option (List ℕ)) (name text : List ℕ) (before after : LedgerParts) (told : Result ℕ RunFault)
    → IfSome known (λ all. text ≡ all) → IfOk told (λ status. status ≡ 0)
    → OnOk told ((texts : List NamedText) → IsLedgerOfNamed Form Share texts before
    → IsLedgerOfNamed Form Share (texts ++ record { name = name; text = text } ∷ []) after)
    → IfOk told (IsAdded Form Share known name before after)
text-added Form Share known name text before after (Ok status) all is added = one-added Form Share known name text before after status all added is
text-added Form Share known name text before after (Err fault) all is added = tt
