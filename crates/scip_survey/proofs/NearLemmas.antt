-- Names, and the nearest of them.
use Rattle.std.proofs.Common.{◌≡◌, ℕ, ◌+◌, ◌<◌, ◌&&◌, nat_le, min, List, []}
use Rattle.std.proofs.Common.{◌∷◌, ◌++◌, length, take, get_or, refl, sym, ◌∙◌, ap, ap₂, arith}
use Rattle.std.specs.List.{flat_map, list_all}
use Rattle.std.proofs.lemmas.Bool.Decides.{nat_tests}
use Rattle.std.proofs.lemmas.List.Concat.{flat_map-append}
use Rattle.std.proofs.lemmas.List.Folds.{list_all_more}
use Rattle.scip_records.specs.declared.records.Document.{Document}
use Rattle.scip_survey.specs.Near.{name_in}

-- the names of all documents
pub names_all : (documents : List Document)
    → flat_map (λ (d : Document). flat_map name_in d.symbols) documents
    ≡ flat_map name_in (flat_map (λ (d : Document). d.symbols) documents)
names_all [] = refl
names_all (d ∷ documents) =
    ap (λ l. flat_map name_in d.symbols ++ l) (names_all documents)
    ∙ sym (flat_map-append name_in d.symbols (flat_map (λ (e : Document). e.symbols) documents))

min_within : (a b n : ℕ) → nat_le n (min a b) ≡ (nat_le n a && nat_le n b)
min_within a b n = grind (arith, nat_tests)

-- the least of one more
pub one_nearer : {X : Type 0} (far : X → ℕ) (xs : List X) (i : ℕ) (d : X) (n least here now : ℕ) → i < length xs
    → now ≡ min least here → here ≡ far (get_or xs i d)
    → nat_le n least ≡ list_all (λ x. nat_le n (far x)) (take i xs)
    → nat_le n now ≡ list_all (λ x. nat_le n (far x)) (take (i + 1) xs)
one_nearer far xs i d n least here now within is_min is_far so_far =
    ap (λ m. nat_le n m) is_min
    ∙ (min_within least here n
    ∙ (ap₂ ◌&&◌ so_far (ap (λ m. nat_le n m) is_far)
    ∙ sym (list_all_more (λ x. nat_le n (far x)) xs i d within)))
