-- What was chosen for the declarations of the files.
use Rattle.std.specs.Prelude.{◌≡◌, ℕ, true, Some, List}
use Rattle.std.specs.List.{slice_get}
use Rattle.proto_decl.specs.Facts.{Facts}
use Rattle.proto_decl.specs.declared.declaration.Declaration.{Declaration}
use Rattle.proto_visibility.specs.Files.{File}
use Rattle.index_hooks.specs.declared.choice.Choice.{Choice}
use Rattle.scip_model.specs.Named.{HasDeclaration}

-- For each file a list: the choice for each of its declarations, in their order.
abbrev pub Chosen : Type 0
Chosen = List (List Choice)

-- the choice for a declaration, by its file's number and its own
pub record IsChosen (chosen : Chosen) (file declaration : ℕ) (choice : Choice) : Type 0 where
  pub of_file : List Choice
  pub file_is : slice_get chosen file ≡ Some of_file
  pub declaration_is : slice_get of_file declaration ≡ Some choice

-- both numbers have an entry
abbrev pub HasChoice : Chosen → (file declaration : ℕ) → Type 0
HasChoice chosen file declaration = (choice : Choice) × IsChosen chosen file declaration choice

-- each declaration of the files has one
abbrev pub HaveChoices : List File → Chosen → Type 0
HaveChoices files chosen = (file index : ℕ) (facts : Facts) (declared : Declaration)
    → HasDeclaration files file index facts declared → HasChoice chosen file index

-- the declaration is kept
pub record IsKeptDeclaration (chosen : Chosen) (file declaration : ℕ) : Type 0 where
  pub choice : Choice
  pub is_chosen : IsChosen chosen file declaration choice
  pub keeps : choice.keep ≡ true
