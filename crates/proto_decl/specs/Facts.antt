-- What is known of a file from its tokens and its tree.
use Rattle.std.specs.Prelude.{ℕ, ◌≡◌, ◌<◌, Bool, true, false, Option, Some, None, List, [], ◌++◌, length, map}
use Rattle.std.specs.Prelude.{All}
use Rattle.std.specs.List.{flat_map}
use Rattle.proto_lex.specs.declared.span.Span.{Span}
use Rattle.proto_lex.specs.Lexed.{Lexed, IsLexed, AreInOrder}
use Rattle.comment_texts.specs.declared.form.CommentForm.{CommentForm}
use Rattle.comment_texts.specs.declared.form.CommentForm.TheVariants.{Raw}
use Rattle.proto_decl.specs.Detailed.{AreDetails}
use Rattle.proto_decl.specs.declared.detail.Detail.{Detail}
use Rattle.proto_decl.specs.declared.form.FactForm.{FactForm}
use Rattle.proto_parse.specs.tree.File.{File}
use Rattle.proto_parse.specs.Derives.{DerivesBySome}
use Rattle.proto_decl.specs.Names.{components_at}
use Rattle.proto_decl.specs.Imports.{imports_of}
use Rattle.proto_decl.specs.Declares.{package_spans, Declares}
use Rattle.proto_decl.specs.Uses.{uses_of}
use Rattle.proto_decl.specs.declared.uses.Component.{Component}
use Rattle.proto_decl.specs.declared.uses.Use.{Use}
use Rattle.proto_decl.specs.declared.imports.Imported.{Imported}
use Rattle.proto_decl.specs.declared.declaration.Declaration.{Declaration}

-- The package's name has no components if the file has no package.
pub record Facts : Type 0 where
  pub number : ℕ
  pub package_name : List Component
  pub imports : List Imported
  pub declarations : List Declaration
  pub uses : List Use
  pub details : Option (List Detail)

-- how the declarations of a file read, and where they are, if that is asked for
abbrev pub AreDetailsIf : (asked : Bool) → Lexed → File → Option (List Detail) → Type 0
AreDetailsIf false lexed file details = details ≡ None
AreDetailsIf true lexed file details = (known : List Detail) × (details ≡ Some known) × AreDetails lexed file known

-- where the declarations are, of which there are details
abbrev pub extents_of : Option (List Detail) → List Span
extents_of None = []
extents_of (Some details) = map (λ (detail : Detail). detail.extent) details

-- the form without details
abbrev pub without_details : CommentForm → FactForm
without_details comments = record { comments = comments; details = false }

-- comments as they are written, and no details
abbrev pub plain_form : FactForm
plain_form = without_details Raw

-- The facts of the file with this number, in a form.
pub record AreFactsOf (form : FactForm) (number : ℕ) (lexed : Lexed) (file : File) (facts : Facts) : Type 0 where
  pub numbered : facts.number ≡ number
  pub package_name : facts.package_name ≡ components_at lexed.text (package_spans file.package_name)
  pub imports : facts.imports ≡ imports_of lexed.text file.imports
  pub declarations : Declares form.comments lexed file facts.declarations
  pub uses : facts.uses ≡ uses_of lexed.text file
  pub details : AreDetailsIf form.details lexed file facts.details

-- The facts of some file, in some form: of a text that has a lexing, of which the tokens derive a tree.
pub record AreOfSomeFile (facts : Facts) : Type 0 where
  pub form : FactForm
  pub lexed : Lexed
  pub file : File
  pub is_lexed : IsLexed lexed.text lexed.tokens lexed.comments
  pub derives : DerivesBySome lexed.text lexed.tokens file
  pub of_file : AreFactsOf form facts.number lexed file facts

-- Where declared names are.
abbrev pub name_spans : List Declaration → List Span
name_spans declarations = map (λ declaration. declaration.name) declarations

-- Each declared name comes after those before it: its place is there once.
abbrev pub NamesInOrder : List Declaration → Type 0
NamesInOrder declarations = AreInOrder 0 (name_spans declarations)

-- Where the components of a name are, and those of uses.
abbrev pub component_spans : List Component → List Span
component_spans components = map (λ component. component.span) components

abbrev pub use_spans : List Use → List Span
use_spans uses = flat_map (λ used. component_spans used.components) uses

-- Each component of a use comes after those before it.
abbrev pub UsesInOrder : List Use → Type 0
UsesInOrder uses = AreInOrder 0 (use_spans uses)

-- Each import comes after those before it.
abbrev pub ImportsInOrder : List Imported → Type 0
ImportsInOrder imports = AreInOrder 0 (map (λ imported. imported.span) imports)

-- The components of the package's name are in order, between the names of the declarations before its statement and
-- those of the declarations after it.
pub record PackageInOrder (facts : Facts) : Type 0 where
  pub before : List Declaration
  pub behind : List Declaration
  pub split : facts.declarations ≡ before ++ behind
  pub in_order : AreInOrder 0 (name_spans before ++ (component_spans facts.package_name ++ name_spans behind))

-- Each use has at least one component, and each declaration a name.
abbrev pub UsesAreFilled : List Use → Type 0
UsesAreFilled uses = All (λ used. 0 < length used.components) uses

abbrev pub NamesAreFilled : List Declaration → Type 0
NamesAreFilled declarations = All (λ declaration. 0 < length declaration.full_name) declarations
