-- What is known of a source that is linked alone.
use Rattle.std.proofs.Common.{◌≡◌, ◌∙◌, ◌<◌, ℕ, List, [], ◌∷◌, length, Some, codes}
use Rattle.std.proofs.Common.{ap, sym, refl, subst}
use Rattle.std.specs.List.{slice_get}
use Rattle.std.proofs.lemmas.Option.{slice_get_within, same_Some}
use Rattle.basics.proofs.ListLemmas.{item_at}
use Rattle.index_hooks.specs.declared.choice.Choice.{Choice}
use Rattle.proto_decl.specs.Facts.{Facts}
use Rattle.scip_symbol.specs.Path.{IsGoodPath}
use Rattle.proto_visibility.specs.Files.{File, IsSource}
use Rattle.scip_model.specs.Chosen.{HaveChoices}
use Rattle.scip_model.specs.Conditions.{HaveGoodPaths, AreOfText, HasText}
use Rattle.surface_tests.specs.OneSource.{source_with}
use Rattle.surface_tests.proofs.ShortListLemmas.{at_one}

pub is_source : (facts : Facts) → IsSource (source_with facts ∷ []) 0
is_source facts = record { file = source_with facts; numbered = refl; source = refl; present = refl }

pub has_text : (text : List ℕ) (facts : Facts) → AreOfText text facts → HasText (source_with facts ∷ []) 0 text
has_text text facts of_text other has =
    let there = at_one (source_with facts) 0 has.file has.numbered in
    let known : Some facts ≡ Some other = ap (λ (f : File). f.facts) there.1 ∙ has.known in
    subst (AreOfText text) (same_Some facts other known) of_text

good_path : IsGoodPath (codes "a.proto")
good_path = record { as_folder = refl; name = codes "a"; ending = refl }

pub good_paths : (facts : Facts) → HaveGoodPaths (source_with facts ∷ [])
good_paths facts number file at =
    let there = at_one (source_with facts) number file at in
    subst IsGoodPath (ap (λ (f : File). f.path) there.1) good_path

pub have_choices : (facts : Facts) (list : List Choice) → length list ≡ length facts.declarations
    → HaveChoices (source_with facts ∷ []) (list ∷ [])
have_choices facts list size file index other declared has =
    let there = at_one (source_with facts) file has.has_facts.file has.has_facts.numbered in
    let known : Some facts ≡ Some other = ap (λ (f : File). f.facts) there.1 ∙ has.has_facts.known in
    let is : facts ≡ other = same_Some facts other known in
    let few : index < length other.declarations =
    slice_get_within other.declarations index declared has.numbered in
    let sizes : length other.declarations ≡ length list =
    ap (λ (fs : Facts). length fs.declarations) (sym is) ∙ sym size in
    let choice = item_at list index (subst (λ (n : ℕ). index < n) sizes few) in
    let file_is : slice_get (list ∷ []) file ≡ Some list =
    subst (λ (n : ℕ). slice_get (list ∷ []) n ≡ Some list) (sym there.0) refl in
    (choice.0, record { of_file = list; file_is = file_is; declaration_is = choice.1 })
