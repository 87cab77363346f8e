-- What the types of an index's records know of it, for laws that speak of every index: each text is
-- UTF-8, each enum and role an int32, and each number of a range an int32 that is not negative.
use Rattle.std.specs.Prelude.{All, IfSome, FitsSigned}
use Rattle.std.specs.Int.{w32}
use Rattle.std.specs.Str.{IsUtf8}
use Rattle.scip_records.specs.Range.{IsRange}
use Rattle.scip_records.specs.declared.records.Index.{Index}
use Rattle.scip_records.specs.declared.records.Metadata.{Metadata}
use Rattle.scip_records.specs.declared.records.ToolInfo.{ToolInfo}
use Rattle.scip_records.specs.declared.records.Document.{Document}
use Rattle.scip_records.specs.declared.records.Occurrence.{Occurrence}
use Rattle.scip_records.specs.declared.records.SymbolInformation.{SymbolInformation}
use Rattle.scip_records.specs.declared.details.Signature.{Signature}
use Rattle.scip_records.specs.declared.details.Details.{Details}

pub record IsFitOccurrence (o : Occurrence) : Type 0 where
  pub range : IsRange o.range
  pub symbol : IsUtf8 o.symbol
  pub symbol_roles : FitsSigned w32 o.symbol_roles
  pub enclosing_range : IfSome o.enclosing_range IsRange

pub record IsFitSignature (s : Signature) : Type 0 where
  pub language : IsUtf8 s.language
  pub text : IsUtf8 s.text

pub record IsFitDetails (d : Details) : Type 0 where
  pub kind : FitsSigned w32 d.kind
  pub signature : IsFitSignature d.signature
  pub enclosing_symbol : IsUtf8 d.enclosing_symbol

pub record IsFitInfo (i : SymbolInformation) : Type 0 where
  pub symbol : IsUtf8 i.symbol
  pub documentation : All IsUtf8 i.documentation
  pub display_name : IsUtf8 i.display_name
  pub details : IsFitDetails i.details

pub record IsFitDocument (d : Document) : Type 0 where
  pub relative_path : IsUtf8 d.relative_path
  pub occurrences : All IsFitOccurrence d.occurrences
  pub symbols : All IsFitInfo d.symbols
  pub language : IsUtf8 d.language
  pub position_encoding : FitsSigned w32 d.position_encoding

pub record IsFitToolInfo (t : ToolInfo) : Type 0 where
  pub name : IsUtf8 t.name
  pub version : IsUtf8 t.version
  pub arguments : All IsUtf8 t.arguments

pub record IsFitMetadata (m : Metadata) : Type 0 where
  pub version : FitsSigned w32 m.version
  pub tool_info : IfSome m.tool_info IsFitToolInfo
  pub project_root : IsUtf8 m.project_root
  pub text_document_encoding : FitsSigned w32 m.text_document_encoding

pub record IsWellFormed (i : Index) : Type 0 where
  pub metadata : IfSome i.metadata IsFitMetadata
  pub documents : All IsFitDocument i.documents
  pub external_symbols : All IsFitInfo i.external_symbols
