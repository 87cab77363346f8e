-- What is kept of each declaration of a file for those who ask for details: how it reads, and where it is.
use Rattle.std.specs.Prelude.{List}
use Rattle.std.specs.List.{AllZip}
use Rattle.proto_lex.specs.Lexed.{Lexed}
use Rattle.proto_parse.specs.tree.Heading.{Heading}
use Rattle.proto_parse.specs.tree.File.{File}
use Rattle.proto_decl.specs.Declares.{outlines_of}
use Rattle.proto_decl.specs.Signatures.{IsSignatureText}
use Rattle.proto_decl.specs.Extents.{IsExtent}
use Rattle.proto_decl.specs.declared.declaration.Outline.{Outline}
use Rattle.proto_decl.specs.declared.detail.Detail.{Detail}

pub record IsDetail (lexed : Lexed) (heading : Heading) (detail : Detail) : Type 0 where
  pub signature : IsSignatureText lexed heading.first detail.signature
  pub extent : IsExtent lexed heading detail.extent

-- The details of what is declared by these outlines, one for each.
abbrev pub AreDetailsOf : Lexed → List Outline → List Detail → Type 0
AreDetailsOf lexed outlines details = AllZip (λ outline detail. IsDetail lexed outline.heading detail) outlines details

-- Those of a file, in order of the names' places: one for each of its declarations.
abbrev pub AreDetails : Lexed → File → List Detail → Type 0
AreDetails lexed file details = AreDetailsOf lexed (outlines_of lexed.text file) details
