-- The records of an index as lines for people. Lines and columns count from 1. (The words are this project's own.)
use Rattle.std.specs.Prelude.{ℕ, ℤ, ◌+◌, List, [], ◌++◌, codes, Option, None, Some}
use Rattle.std.specs.Fmt.{decimal, signed_decimal}
use Rattle.scip_records.specs.Range.{RangeNumbers}
use Rattle.scip_records.specs.declared.records.Metadata.{Metadata}
use Rattle.scip_records.specs.declared.records.ToolInfo.{ToolInfo}
use Rattle.scip_records.specs.declared.records.Document.{Document}
use Rattle.scip_records.specs.declared.records.Occurrence.{Occurrence}
use Rattle.scip_records.specs.declared.records.SymbolInformation.{SymbolInformation}
use Rattle.scip_query.specs.Kinds.{kind_text}

-- the tool's name and version, if they are known
abbrev pub tool_text : Option ToolInfo → List ℕ
tool_text None = []
tool_text (Some tool) = codes " " ++ tool.name ++ codes " " ++ tool.version

-- `metadata ROOT TOOL VERSION`
abbrev pub metadata_line : Metadata → List ℕ
metadata_line m = codes "metadata " ++ m.project_root ++ tool_text m.tool_info ++ codes "\n"

-- `document PATH LANGUAGE ENCODING`
abbrev pub document_line : Document → List ℕ
document_line d =
    codes "document " ++ d.relative_path ++ codes " " ++ d.language ++ codes " "
    ++ signed_decimal d.position_encoding ++ codes "\n"

-- `:L:C`, `-L2:C2` and ` ROLES SYMBOL`
abbrev pub start_text : RangeNumbers → List ℕ
start_text range = codes ":" ++ decimal (range.start_line + 1) ++ codes ":" ++ decimal (range.start_column + 1)

abbrev pub end_text : RangeNumbers → List ℕ
end_text range = codes "-" ++ decimal (range.end_line + 1) ++ codes ":" ++ decimal (range.end_column + 1)

abbrev pub roles_text : (roles : ℤ) (symbol : List ℕ) → List ℕ
roles_text roles symbol = codes " " ++ signed_decimal roles ++ codes " " ++ symbol ++ codes "\n"

-- `occurrence PATH:L:C-L2:C2 ROLES SYMBOL`
abbrev pub occurrence_line : List ℕ → Occurrence → List ℕ
occurrence_line path o =
    codes "occurrence " ++ path ++ start_text o.range ++ end_text o.range ++ roles_text o.symbol_roles o.symbol

-- `symbol PATH KIND SYMBOL`
abbrev pub symbol_line : List ℕ → SymbolInformation → List ℕ
symbol_line path entry =
    codes "symbol " ++ path ++ codes " " ++ kind_text entry.details.kind ++ codes " " ++ entry.symbol ++ codes "\n"

-- `external KIND SYMBOL`
abbrev pub external_line : SymbolInformation → List ℕ
external_line entry = codes "external " ++ kind_text entry.details.kind ++ codes " " ++ entry.symbol ++ codes "\n"
