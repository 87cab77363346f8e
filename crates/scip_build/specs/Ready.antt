-- What holds of files that were read from a tree, and so of those of them that are kept. Names in their options are
-- linked, or not (`links`).
use Rattle.std.specs.Prelude.{◌≡◌, ◌<◌, ◌≤◌, ℕ, Bool, false, ⊤, Result, Ok, Err, Some, List, length, map}
use Rattle.std.specs.declared.cmp.Ordering.{Ordering}
use Rattle.std.specs.declared.cmp.Ordering.TheVariants.{Less}
use Rattle.std.specs.Ordering.{nat_cmp, bool_cmp, ordering_then}
use Rattle.std.specs.Cmp.Lexicographic.{slice_cmp}
use Rattle.std.specs.List.{slice_get}
use Rattle.std.specs.List.Sorted.{IsStrictlyIncreasing}
use Rattle.proto_decl.specs.declared.declaration.Declaration.{Declaration}
use Rattle.index_hooks.specs.declared.choice.Choice.{Choice}
use Rattle.index_pool.specs.Workers.{most_inputs}
use Rattle.proto_visibility.specs.Files as link
use Rattle.scip_symbol.specs.Path.{IsGoodPath}
use Rattle.scip_model.specs.Conditions.{AreOfText}
use Rattle.scip_build.specs.declared.fault.FileFault.{FileFault}
use Rattle.scip_build.specs.Files.{FileContents, ReadFile}
use Rattle.scip_build.specs.Linking.{linked_files}
use Rattle.scip_build.specs.Documents.{beside_in}

-- the facts are those of the text, and each declaration has a choice
pub record AreWhole (contents : FileContents) : Type 0 where
  pub of_text : AreOfText contents.text contents.facts
  pub chosen : (index : ℕ) (declared : Declaration) → slice_get contents.facts.declarations index ≡ Some declared
      → (choice : Choice) × (slice_get contents.choices index ≡ Some choice)

abbrev pub AreWholeIfRead : Result FileContents FileFault → Type 0
AreWholeIfRead (Ok contents) = AreWhole contents
AreWholeIfRead (Err fault) = ⊤

-- the fields that are known of a file stand in order of place
abbrev pub HasFieldsInOrder : Result FileContents FileFault → Type 0
HasFieldsInOrder contents = IsStrictlyIncreasing (map (λ fact. fact.name.start) (beside_in contents).fields)

pub record IsOfTree (links : Bool) (parsed_file : ReadFile) : Type 0 where
  pub good : IsGoodPath parsed_file.path
  pub contents : AreWholeIfRead parsed_file.contents
  pub fields : HasFieldsInOrder parsed_file.contents
  pub links_are : parsed_file.links_options ≡ links

-- sources before included files, behind these those that are left out, and each of these by path
abbrev pub parsed_file_cmp : ReadFile → ReadFile → Ordering
parsed_file_cmp a b = ordering_then (bool_cmp a.is_left_out b.is_left_out)
    (ordering_then (bool_cmp a.is_included b.is_included) (slice_cmp nat_cmp a.path b.path))

-- none of the files is left out
abbrev pub ArePresent : List ReadFile → Type 0
ArePresent parsed = (number : ℕ) (parsed_file : ReadFile) → slice_get parsed number ≡ Some parsed_file
    → parsed_file.is_left_out ≡ false

pub record AreOfTree (links : Bool) (parsed : List ReadFile) : Type 0 where
  pub few : length parsed ≤ most_inputs
  pub each : (number : ℕ) (parsed_file : ReadFile) → slice_get parsed number ≡ Some parsed_file
      → IsOfTree links parsed_file
  pub own : link.HaveOwnPaths (linked_files parsed)
  pub rising : (lesser number : ℕ) (a b : ReadFile) → lesser < number → slice_get parsed lesser ≡ Some a
      → slice_get parsed number ≡ Some b → parsed_file_cmp a b ≡ Less
