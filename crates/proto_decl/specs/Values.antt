-- What contracts see of a declaration, of one before its comments are looked for, of what is around it, and of what
-- a callback sees.
use Rattle.std.specs.Prelude.{ℕ, List}
use Rattle.proto_lex.specs.declared.span.Span.{Span}
use Rattle.proto_parse.specs.tree.Heading.{Heading}
use Rattle.proto_decl.specs.declared.declaration.DeclarationKind.{DeclarationKind}
use Rattle.proto_decl.specs.declared.declaration.DeclarationStep.{DeclarationStep}

-- Its full name, the path from the package to it, where its simple name is, and the texts of the comments before and
-- behind it. Names and texts are lists of bytes.
pub record Declaration : Type 0 where
  pub kind : DeclarationKind
  pub full_name : List ℕ
  pub path : List DeclarationStep
  pub name : Span
  pub leading : List ℕ
  pub trailing : List ℕ

pub record Outline : Type 0 where
  pub kind : DeclarationKind
  pub full_name : List ℕ
  pub path : List DeclarationStep
  pub heading : Heading

-- The full name of the scope that declarations are in, and the path to what they are in.
pub record Surrounding : Type 0 where
  pub scope : List ℕ
  pub path : List DeclarationStep

-- The names and texts are lists of bytes.
pub record Seen : Type 0 where
  pub kind : DeclarationKind
  pub name : List ℕ
  pub full_name : List ℕ
  pub leading : List ℕ
  pub trailing : List ℕ
