-- The steps of the code that keeps what comes, and then what the join has of it.
use Rattle.std.specs.Prelude.{◌≡◌, ◌⊎◌, ◌+◌, ◌++◌, ◌&&◌, ℕ, Bool, true, false, not, Option, None, Some, List, cond}
use Rattle.std.specs.Prelude.{nat_eq, filter, reverse}
use Rattle.std.specs.Str.{bytes_eq}
use Rattle.scip_records.specs.declared.records.Index.{Index}
use Rattle.scip_records.specs.declared.records.Metadata.{Metadata}
use Rattle.scip_records.specs.declared.records.SymbolInformation.{SymbolInformation}
use Rattle.scip_join.specs.declared.piece.Piece.{Piece}
use Rattle.scip_join.specs.declared.joined.JoinedIndex.{JoinedIndex}
use Rattle.scip_join.specs.Joined.{entry_cmp, metadata_with}
use Rattle.scip_join.specs.Refused.{root_of}
use Rattle.scip_join.specs.Gathered.{Gathered, pieces_in}
use Rattle.scip_join.specs.Tables.{all_symbols, has_same_path, has_same_symbol, is_among, piece_cmp, records_in}
use Rattle.scip_join.specs.Tables.{HaveOwnPaths, IsFirstOfEach}

-- an index came, and another root is its own
abbrev pub are_apart : (count : ℕ) → (first own : List ℕ) → Bool
are_apart count first own = not (nat_eq count 0) && not (bytes_eq first own)

-- so, if no root is asked for
abbrev pub is_other_of : (asked : Option (List ℕ)) → (count : ℕ) → (first own : List ℕ) → Bool
is_other_of (Some root) count first own = false
is_other_of None count first own = are_apart count first own

-- no root is asked for, an index came, and this metadata has another root than its own
abbrev pub is_other : Gathered → Option Metadata → Bool
is_other kept metadata =
    is_other_of kept.choices.project_root kept.count (root_of kept.metadata) (root_of metadata)

-- one more index is counted, which has this number and this metadata
pub record IsCounted (old : Gathered) (metadata : Option Metadata) (new : Gathered) (number : ℕ) : Type 0 where
  pub number_is : number ≡ old.count
  pub count : new.count ≡ old.count + 1
  pub first : new.metadata ≡ cond (nat_eq old.count 0) metadata old.metadata
  pub choices : new.choices ≡ old.choices
  pub pieces : new.pieces ≡ old.pieces
  pub externals : new.externals ≡ old.externals

-- what is needed of one more index is kept
pub record IsAdded (old : Gathered) (index : Index) (new : Gathered) : Type 0 where
  pub choices : new.choices ≡ old.choices
  pub count : new.count ≡ old.count + 1
  pub metadata : new.metadata ≡ cond (nat_eq old.count 0) index.metadata old.metadata
  pub pieces : new.pieces ≡ old.pieces ++ pieces_in old.count index.documents
  pub externals : new.externals ≡ old.externals ++ index.external_symbols

-- of entries the first of each symbol stay, but for those that a piece has
pub record AreUndefined (pieces : List Piece) (all left : List SymbolInformation) : Type 0 where
  pub firsts : List SymbolInformation
  pub are_first : IsFirstOfEach entry_cmp has_same_symbol all firsts
  pub left_are : left ≡ filter (λ (e : SymbolInformation). not (is_among (all_symbols pieces) e.symbol)) firsts

-- just what the join has is kept
pub record IsSettled (old new : Gathered) : Type 0 where
  pub choices : new.choices ≡ old.choices
  pub metadata : new.metadata ≡ old.metadata
  pub pieces : IsFirstOfEach piece_cmp has_same_path (reverse old.pieces) new.pieces
  pub externals : AreUndefined new.pieces old.externals new.externals
  pub allowed : (old.choices.replace ≡ true) ⊎ HaveOwnPaths (reverse old.pieces)

-- these are the pieces of what is kept
pub record AreKept (kept : Gathered) (whole : JoinedIndex) : Type 0 where
  pub metadata : whole.metadata ≡ metadata_with kept.choices.project_root kept.metadata
  pub documents : whole.documents ≡ records_in kept.pieces
  pub external_symbols : whole.external_symbols ≡ kept.externals
