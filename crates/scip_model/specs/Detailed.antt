-- What an index says of a source's symbols besides their documentation, if details are asked for (`scip.proto`,
-- SymbolInformation; what is said is the profile's).
use Rattle.std.specs.Prelude.{ℕ, ℤ, pos, Option, Some, None, List, [], ◌∷◌, codes}
use Rattle.std.specs.List.{slice_get}
use Rattle.std.specs.Option.{option_and_then}
use Rattle.scip_records.specs.Details.{no_details, no_signature}
use Rattle.scip_records.specs.declared.details.Details.{Details}
use Rattle.scip_records.specs.declared.details.Signature.{Signature}
use Rattle.proto_decl.specs.Facts.{Facts}
use Rattle.proto_decl.specs.declared.detail.Detail.{Detail}
use Rattle.proto_decl.specs.declared.declaration.DeclarationKind.{DeclarationKind}
use Rattle.proto_decl.specs.declared.declaration.DeclarationKind.TheVariants.{Message, Enum, Service, Field, Oneof}
use Rattle.proto_decl.specs.declared.declaration.DeclarationKind.TheVariants.{Value, Method}
use Rattle.proto_decl.specs.declared.declaration.DeclarationStep.{DeclarationStep}
use Rattle.proto_decl.specs.declared.declaration.Declaration.{Declaration}
use Rattle.scip_symbol.specs.Entities.{OfDeclaration}
use Rattle.scip_symbol.specs.Package.{Package}
use Rattle.proto_visibility.specs.Files.{File}
use Rattle.scip_model.specs.Named.{text_of}
use Rattle.scip_model.specs.Repeated.{Home, namespaces_before}

-- `SymbolInformation.Kind`: File, Package; Message, Enum, Interface, Field, Union, EnumMember, Method
abbrev pub file_kind : ℤ
file_kind = pos 16

abbrev pub package_kind : ℤ
package_kind = pos 35

abbrev pub kind_number : DeclarationKind → ℤ
kind_number Message = pos 28
kind_number Enum = pos 11
kind_number Service = pos 21
kind_number Field = pos 15
kind_number Oneof = pos 59
kind_number Value = pos 12
kind_number Method = pos 26

-- the path to what a declaration with this path is in
abbrev pub path_around : List DeclarationStep → List DeclarationStep
path_around [] = []
path_around (step ∷ []) = []
path_around (step ∷ (next ∷ others)) = step ∷ path_around (next ∷ others)

-- The symbol of what a declaration is in, by the path to it: a message, a service, or a value's enum. One directly in
-- its file has none. What is in a oneof or an `extend` is in the message around that, if there is one.
abbrev pub symbol_around : Package → (namespaces : List (List ℕ)) → List DeclarationStep → List ℕ
symbol_around id namespaces [] = []
symbol_around id namespaces (step ∷ steps) = text_of id (OfDeclaration namespaces (step ∷ steps))

abbrev pub text_around : Home → Facts → Declaration → List ℕ
text_around home facts declared =
    symbol_around home.id (namespaces_before home facts declared) (path_around declared.path)

-- a signature with this text
abbrev pub signature_with : List ℕ → Signature
signature_with text = record { language = codes "Protobuf"; text = text }

-- of a source's file, and of a component of its package's name: the kind alone
abbrev pub kind_if_asked : Option (List Detail) → ℤ → Details
kind_if_asked None kind = no_details
kind_if_asked (Some details) kind = record { kind = kind; signature = no_signature; enclosing_symbol = [] }

-- the details of a file's declarations, if they are asked for, and those of one, by its number
abbrev pub details_in : File → Option (List Detail)
details_in file = option_and_then (λ (facts : Facts). facts.details) file.facts

abbrev pub detail_at : Facts → (index : ℕ) → Option Detail
detail_at facts index = option_and_then (λ (details : List Detail). slice_get details index) facts.details

-- of a declaration, with the symbol of what it is in
abbrev pub details_shown : Declaration → Option Detail → (around : List ℕ) → Details
details_shown declared None around = no_details
details_shown declared (Some detail) around = record {
  kind = kind_number declared.kind;
  signature = signature_with detail.signature;
  enclosing_symbol = around;
}

-- The rows, of `message Book { string title = 1; }` in the package `a`:
--   `Book`   28, `message Book`, none around it
--   `title`  15, `string title = 1`, around it `a/Book#`
abbrev pub details_with : Home → Facts → Declaration → Option Detail → Details
details_with home facts declared detail = details_shown declared detail (text_around home facts declared)
