-- One index of several (`scip.proto`, Index, Metadata, Document, SymbolInformation): its documents by path, its
-- external entries by symbol.
use Rattle.std.specs.Prelude.{◌≡◌, ◌↔◌, ℕ, pos, Bool, false, Option, Some, None, List, [], ◌∷◌, map, flat_map, filter}
use Rattle.std.specs.Prelude.{reverse, Contains}
use Rattle.std.specs.List.{enumerate_from, list_any}
use Rattle.std.specs.List.Sorted.{IsStrictlySortedBy}
use Rattle.std.specs.Str.{bytes_eq}
use Rattle.std.specs.declared.cmp.Ordering.{Ordering}
use Rattle.std.specs.Ordering.{nat_cmp, on}
use Rattle.std.specs.Cmp.Lexicographic.{slice_cmp}
use Rattle.scip_records.specs.declared.records.Index.{Index}
use Rattle.scip_records.specs.declared.records.Metadata.{Metadata}
use Rattle.scip_records.specs.declared.records.Document.{Document}
use Rattle.scip_records.specs.declared.records.SymbolInformation.{SymbolInformation}

-- ---- documents

-- the documents of an index with a number, each with that number
abbrev pub documents_in : ℕ × Index → List (ℕ × Document)
documents_in i = map (λ (d : Document). (i.0, d)) i.1.documents

-- all documents, each with the number of its index, from 0
abbrev pub numbered_documents : List Index → List (ℕ × Document)
numbered_documents indexes = flat_map documents_in (enumerate_from 0 indexes)

abbrev pub has_path : List ℕ → ℕ × Document → Bool
has_path path d = bytes_eq d.1.relative_path path

-- those with a path, the latest first
abbrev pub latest_with : List Index → List ℕ → List (ℕ × Document)
latest_with indexes path = filter (has_path path) (reverse (numbered_documents indexes))

-- it is the latest with its path
pub record IsLatest (indexes : List Index) (document : Document) : Type 0 where
  pub index : ℕ
  pub earlier : List (ℕ × Document)
  pub latest : latest_with indexes document.relative_path ≡ (index, document) ∷ earlier

-- by path
abbrev pub document_cmp : Document → Document → Ordering
document_cmp = on (λ (d : Document). d.relative_path) (slice_cmp nat_cmp)

-- ---- external entries

-- the external entries of all
abbrev pub all_externals : List Index → List SymbolInformation
all_externals indexes = flat_map (λ (i : Index). i.external_symbols) indexes

abbrev pub has_symbol : List ℕ → SymbolInformation → Bool
has_symbol symbol entry = bytes_eq entry.symbol symbol

-- one of the documents has an entry of the symbol
abbrev pub define : List Document → List ℕ → Bool
define documents symbol = list_any (λ (d : Document). list_any (has_symbol symbol) d.symbols) documents

-- it is the first external entry of its symbol, of which no document has one
pub record IsExternal (indexes : List Index) (documents : List Document) (entry : SymbolInformation) : Type 0 where
  pub later : List SymbolInformation
  pub first : filter (has_symbol entry.symbol) (all_externals indexes) ≡ entry ∷ later
  pub undefined : define documents entry.symbol ≡ false

-- by symbol
abbrev pub entry_cmp : SymbolInformation → SymbolInformation → Ordering
entry_cmp = on (λ (e : SymbolInformation). e.symbol) (slice_cmp nat_cmp)

-- ---- metadata

abbrev pub first_metadata : List Index → Option Metadata
first_metadata [] = None
first_metadata (first ∷ others) = first.metadata

-- metadata that says only which root there is
abbrev pub only_root : List ℕ → Metadata
only_root root = record { version = pos 0; tool_info = None; project_root = root; text_document_encoding = pos 0 }

-- metadata with another root
abbrev pub with_root : List ℕ → Metadata → Metadata
with_root root m = record {
  version = m.version;
  tool_info = m.tool_info;
  project_root = root;
  text_document_encoding = m.text_document_encoding;
}

-- the metadata with the root that is asked for, if one is
abbrev pub metadata_with : Option (List ℕ) → Option Metadata → Option Metadata
metadata_with None metadata = metadata
metadata_with (Some root) None = Some (only_root root)
metadata_with (Some root) (Some m) = Some (with_root root m)

-- ---- the index

-- It has the latest document of each path, and the first external entry of each symbol of which it has no other. Its
-- metadata is that of the first index, with the root that is asked for.
pub record IsJoin (root : Option (List ℕ)) (indexes : List Index) (joined : Index) : Type 0 where
  pub metadata : joined.metadata ≡ metadata_with root (first_metadata indexes)
  pub documents : (d : Document) → Contains joined.documents d ↔ IsLatest indexes d
  pub by_path : IsStrictlySortedBy document_cmp joined.documents
  pub externals : (e : SymbolInformation) → Contains joined.external_symbols e ↔ IsExternal indexes joined.documents e
  pub by_symbol : IsStrictlySortedBy entry_cmp joined.external_symbols
