-- Laws of facts, comment texts and scopes.
use Rattle.std.specs.Prelude.{ℕ, ◌≡◌, ◌<◌, ◌≤◌, List, [], ◌∷◌, ◌++◌, length, map, All, Contains, ◌≢◌}
use Rattle.std.specs.Str.{IsCharBoundary}
use Rattle.proto_lex.specs.declared.span.Span.{Span}
use Rattle.proto_lex.specs.Lexed.{Lexed, IsLexed, IsPart, part_of, AreApart}
use Rattle.proto_lex.specs.Lexes.{Spells}
use Rattle.proto_lex.specs.declared.token.TokenKind.TheVariants.{Identifier}
use Rattle.comment_texts.specs.declared.form.CommentForm.{CommentForm}
use Rattle.proto_parse.specs.tree.File.{File}
use Rattle.proto_parse.specs.Derives.{DerivesBySome}
use Rattle.proto_decl.specs.Names.{qualified, IsSimple, small_letters, dotted, components_of, package_of, prefix_of}
use Rattle.proto_decl.specs.Names.{IsAround}
use Rattle.proto_decl.specs.Declares.{step_named, simple_name}
use Rattle.proto_decl.specs.Comments.{IsLeadingText, IsTrailingText}
use Rattle.proto_decl.specs.Detailed.{AreDetails}
use Rattle.proto_decl.specs.declared.form.FactForm.{FactForm}
use Rattle.proto_decl.specs.declared.detail.Detail.{Detail}
use Rattle.proto_decl.specs.Facts.{Facts, AreFactsOf, AreOfSomeFile, component_spans, extents_of, name_spans, use_spans}
use Rattle.proto_decl.specs.declared.declaration.DeclarationKind.TheVariants.{Message, Field, Enum, Service, Oneof}
use Rattle.proto_decl.specs.declared.declaration.DeclarationKind.TheVariants.{Value, Method}
use Rattle.proto_decl.specs.declared.declaration.DeclarationStep.{DeclarationStep}
use Rattle.proto_decl.specs.declared.declaration.Declaration.{Declaration}
use Rattle.proto_decl.specs.declared.imports.Imported.{Imported}
use Rattle.proto_decl.specs.declared.declaration.DeclarationKind.{DeclarationKind}
use Rattle.proto_decl.specs.declared.uses.Component.{Component}

-- A token leads one text and trails one in each form, in a text with the tokens and comments of its lexing.
abbrev pub OneLeadingText : Type 0
OneLeadingText = (form : CommentForm) (lexed : Lexed) (first : Span) (text other : List ℕ)
    → IsLexed lexed.text lexed.tokens lexed.comments
    → IsLeadingText form lexed first text → IsLeadingText form lexed first other → text ≡ other

abbrev pub OneTrailingText : Type 0
OneTrailingText = (form : CommentForm) (lexed : Lexed) (closing : Span) (text other : List ℕ)
    → IsLexed lexed.text lexed.tokens lexed.comments
    → IsTrailingText form lexed closing text → IsTrailingText form lexed closing other → text ≡ other

-- A file has one list of facts in each form.
abbrev pub OneFacts : Type 0
OneFacts = (form : FactForm) (number : ℕ) (lexed : Lexed) (file : File) (facts other : Facts)
    → IsLexed lexed.text lexed.tokens lexed.comments
    → AreFactsOf form number lexed file facts → AreFactsOf form number lexed file other → facts ≡ other

-- A file has one list of details.
abbrev pub OneDetails : Type 0
OneDetails = (lexed : Lexed) (file : File) (details others : List Detail)
    → IsLexed lexed.text lexed.tokens lexed.comments
    → AreDetails lexed file details → AreDetails lexed file others → details ≡ others

-- The field and the message of one group: the message is named as it stands, and the field so in small letters.
pub record AreOfGroup (text : List ℕ) (field message : Declaration) : Type 0 where
  pub place : IsPart text message.name
  pub outer : List DeclarationStep
  pub message_path : message.path ≡ outer ++ step_named Message (part_of text message.name) ∷ []
  pub field_path : field.path ≡ outer ++ step_named Field (small_letters (part_of text message.name)) ∷ []

-- The simple name of a declaration is what is at its name's place, but for the field of a group: that is named by the
-- group's message, which is declared in the same file.
pub data IsSpelled (text : List ℕ) (declarations : List Declaration) (declaration : Declaration) : Type 0 where
  as_it_stands : simple_name declaration.path ≡ part_of text declaration.name
      → IsSpelled text declarations declaration
  as_its_group : {message : Declaration} → Contains declarations message → AreOfGroup text declaration message
      → IsSpelled text declarations declaration

-- Its place is a part of the text, and its full name is its simple name in its scope.
pub record IsNamedAt (text : List ℕ) (declarations : List Declaration) (declaration : Declaration) : Type 0 where
  pub place : IsPart text declaration.name
  pub spelled : IsSpelled text declarations declaration
  pub scope : List ℕ
  pub full : declaration.full_name ≡ qualified scope (simple_name declaration.path)

abbrev pub NamesAreSpelled : Type 0
NamesAreSpelled = (form : FactForm) (number : ℕ) (lexed : Lexed) (file : File) (facts : Facts)
    → IsLexed lexed.text lexed.tokens lexed.comments
    → DerivesBySome lexed.text lexed.tokens file → AreFactsOf form number lexed file facts
    → All (IsNamedAt lexed.text facts.declarations) facts.declarations

-- The full name of a scope of a file: of its package, which is the root's if it has none, or of a declaration.
pub data IsScope (facts : Facts) : List ℕ → Type 0 where
  of_package : IsScope facts (dotted (map (λ component. component.name) facts.package_name))
  of_declaration : {declaration : Declaration} → Contains facts.declarations declaration
      → IsScope facts declaration.full_name

-- A declaration has a simple name in a scope of its file.
pub record StandsInScope (facts : Facts) (declaration : Declaration) : Type 0 where
  pub scope : List ℕ
  pub name : List ℕ
  pub simple : IsSimple name
  pub full : declaration.full_name ≡ qualified scope name
  pub stands : IsScope facts scope

-- What a file names: a package, by the first components of its own, or a declaration.
pub data IsEntity (facts : Facts) : List ℕ → Type 0 where
  packaged : {count : ℕ} → 0 < count → count ≤ length facts.package_name
      → IsEntity facts (package_of facts.package_name count)
  declared : {declaration : Declaration} → Contains facts.declarations declaration
      → IsEntity facts declaration.full_name

-- The first components of a declaration's full name, any number of them, make the full name of a package or a
-- declaration of its file.
abbrev pub PrefixesAreEntities : Facts → Type 0
PrefixesAreEntities facts =
    All (λ declaration. (count : ℕ) → 0 < count → count ≤ length (components_of declaration.full_name)
    → IsEntity facts (prefix_of declaration.full_name count)) facts.declarations

-- Around the full name of a simple name in a scope is that scope.
abbrev pub ScopesNest : Type 0
ScopesNest = (scope name : List ℕ) → IsSimple name → IsAround (qualified scope name) scope

-- One scope at most is around each.
abbrev pub OneAround : Type 0
OneAround = (scope outer other : List ℕ) → IsAround scope outer → IsAround scope other → outer ≡ other

-- a span begins and ends between two characters, or at an end of the text
pub record IsWhole (text : List ℕ) (span : Span) : Type 0 where
  pub starts : IsCharBoundary text span.start
  pub ends : IsCharBoundary text span.end

-- The components of the package's name and of uses, the imports and the declared names are parts of the text, and the
-- declarations' extents are whole.
pub record StandInText (text : List ℕ) (facts : Facts) : Type 0 where
  pub package_name : All (IsPart text) (component_spans facts.package_name)
  pub imports : All (IsPart text) (map (λ (imported : Imported). imported.span) facts.imports)
  pub names : All (IsPart text) (name_spans facts.declarations)
  pub uses : All (IsPart text) (use_spans facts.uses)
  pub extents : All (IsWhole text) (extents_of facts.details)

abbrev pub FactsStandInText : Type 0
FactsStandInText = (facts : Facts) → (origin : AreOfSomeFile facts) → StandInText origin.lexed.text facts

-- ---- the ancestors of declarations: by the names on its path a full name is made, and what is on it is declared

-- The names of the scopes that a declaration is in and its own: a message or a service is a scope, and an enum is
-- none, so that a value is a sibling of its enum (proto3 language guide, Enumerations).
abbrev pub scoped : DeclarationKind → (name : List ℕ) → (inner : List (List ℕ)) → List (List ℕ)
scoped Enum name inner = inner
scoped Message name inner = name ∷ inner
scoped Service name inner = name ∷ inner
scoped Field name inner = name ∷ inner
scoped Oneof name inner = name ∷ inner
scoped Value name inner = name ∷ inner
scoped Method name inner = name ∷ inner

abbrev pub names_of : List DeclarationStep → List (List ℕ)
names_of [] = []
names_of (step ∷ []) = step.name ∷ []
names_of (step ∷ (next ∷ others)) = scoped step.kind step.name (names_of (next ∷ others))

-- the components of a package's name, without their places
abbrev pub component_names : List Component → List (List ℕ)
component_names = map (λ c. c.name)

-- the names of the package's components and on the paths are identifiers
pub record AreNamed (components : List Component) (declarations : List Declaration) : Type 0 where
  pub of_components : All (Spells Identifier) (component_names components)
  pub of_steps : All (λ d. All (λ step. Spells Identifier step.name) d.path) declarations

-- Each prefix of a path leads to a declaration, and the names of the package's components and those on the path,
-- joined by dots, are the full name.
pub record AreHeld (components : List Component) (declarations : List Declaration) : Type 0 where
  pub holder : (d : Declaration) (outer inner : List DeclarationStep) → Contains declarations d
      → d.path ≡ outer ++ inner → outer ≢ []
      → (other : Declaration) × Contains declarations other × (other.path ≡ outer)
  pub full_names : All (λ d. d.full_name ≡ dotted (component_names components ++ names_of d.path)) declarations

-- ---- each fact has places of its own in the text

-- where the declared names and the components of the package's name are
abbrev pub named_spans : Facts → List Span
named_spans facts = name_spans facts.declarations ++ component_spans facts.package_name

-- The components of uses are apart from these, and an import begins where none of all those does.
pub record StandApart (facts : Facts) : Type 0 where
  pub uses : (used named : Span) → Contains (use_spans facts.uses) used → Contains (named_spans facts) named
      → AreApart used named
  pub imports : (imported : Imported) (named : Span) → Contains facts.imports imported
      → Contains (named_spans facts ++ use_spans facts.uses) named
      → imported.span.start ≢ named.start
