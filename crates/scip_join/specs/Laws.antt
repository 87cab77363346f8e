-- What the definition of a join says, whatever the code does.
use Rattle.std.specs.Prelude.{◌≡◌, ◌≢◌, ◌⊎◌, ℕ, true, false, Option}
use Rattle.std.specs.Prelude.{None, List, [], All, Contains, IfSome, flat_map}
use Rattle.std.specs.List.Sorted.{IsPermutation, IsStrictlySortedBy}
use Rattle.std.specs.Str.{IsUtf8}
use Rattle.scip_records.specs.declared.records.Index.{Index}
use Rattle.scip_records.specs.declared.records.Document.{Document}
use Rattle.scip_records.specs.declared.records.SymbolInformation.{SymbolInformation}
use Rattle.scip_wire.specs.WellFormed.{IsWellFormed}
use Rattle.scip_join.specs.Joined.{all_externals, define, document_cmp, entry_cmp, IsJoin}
use Rattle.scip_join.specs.Refused.{AreOnce}

-- indexes have one join at most
abbrev pub OneJoin : Type 0
OneJoin = (root : Option (List ℕ)) (indexes : List Index) (joined other : Index) → IsJoin root indexes joined
    → IsJoin root indexes other → joined ≡ other

-- the join of well-formed indexes is well-formed, if the root that is asked for is UTF-8
abbrev pub JoinIsWellFormed : Type 0
JoinIsWellFormed = (root : Option (List ℕ)) (indexes : List Index) (joined : Index) → IfSome root IsUtf8
    → All IsWellFormed indexes → IsJoin root indexes joined → IsWellFormed joined

-- ---- an index that is cut into shards

-- the documents of all
abbrev pub all_documents : List Index → List Document
all_documents indexes = flat_map (λ (i : Index). i.documents) indexes

-- Its documents come by path and its external entries by symbol, of which no document has one.
pub record IsInOrder (index : Index) : Type 0 where
  pub by_path : IsStrictlySortedBy document_cmp index.documents
  pub by_symbol : IsStrictlySortedBy entry_cmp index.external_symbols
  pub undefined : (e : SymbolInformation) → Contains index.external_symbols e → define index.documents e.symbol ≡ false

-- Indexes with the metadata of a whole, among which its documents are parted. Each of its external entries is in one of
-- them, and each of theirs is one of its own, or a document of the whole has an entry of the symbol.
pub record AreShards (whole : Index) (shards : List Index) : Type 0 where
  pub some : shards ≢ []
  pub metadata : All (λ (shard : Index). shard.metadata ≡ whole.metadata) shards
  pub parted : IsPermutation (all_documents shards) whole.documents
  pub each : (e : SymbolInformation) → Contains whole.external_symbols e → Contains (all_externals shards) e
  pub own : (e : SymbolInformation) → Contains (all_externals shards) e
      → Contains whole.external_symbols e ⊎ (define whole.documents e.symbol ≡ true)

-- shards of an index in order have it as their join, and no path twice
pub record ShardsMakeTheWhole : Type 0 where
  pub join : (whole : Index) (shards : List Index) → IsInOrder whole → AreShards whole shards
      → IsJoin None shards whole
  pub once : (whole : Index) (shards : List Index) → IsInOrder whole → AreShards whole shards → AreOnce shards
