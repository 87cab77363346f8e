-- Documents, which are pieces of an index, put in the order of paths, of which each has one; and why they can't be.
use Rattle.std.specs.Prelude.{◌≡◌, ◌≢◌, ◌<◌, ⊤, ℕ, Some, List, length, map, Contains, Option, None, codes}
use Rattle.std.specs.List.{slice_get}
use Rattle.std.specs.Ordering.{nat_cmp}
use Rattle.std.specs.Cmp.Lexicographic.{slice_cmp}
use Rattle.std.specs.List.Sorted.{IsPermutation, IsStrictlySortedBy}
use denote.Ref.{Bor}
use Rattle.scip_records.specs.declared.records.Document.{Document}
use Rattle.scip_model.specs.declared.pieces.MergeFault.{MergeFault}
use Rattle.scip_model.specs.declared.pieces.MergeFault.TheVariants.{Stranger, Twice, Missing, Memory}

-- the texts of paths
abbrev pub texts : List (Bor (List ℕ)) → List (List ℕ)
texts paths = map (λ (path : Bor (List ℕ)). path.now) paths

-- each path is after those before it
abbrev pub IsRising : List (List ℕ) → Type 0
IsRising = IsStrictlySortedBy (slice_cmp nat_cmp)

abbrev pub paths_of : List Document → List (List ℕ)
paths_of documents = map (λ document. document.relative_path) documents

-- the pieces, each once, in the order of the paths
pub record AreMerged (paths : List (List ℕ)) (pieces documents : List Document) : Type 0 where
  pub same : IsPermutation pieces documents
  pub in_order : paths_of documents ≡ paths

-- the piece with this number has none of the paths
pub record IsStranger (paths : List (List ℕ)) (pieces : List Document) (piece : ℕ) : Type 0 where
  pub document : Document
  pub numbered : slice_get pieces piece ≡ Some document
  pub strange : Contains paths document.relative_path → ⊥

-- it has the path of an earlier one
pub record IsTwice (pieces : List Document) (piece : ℕ) : Type 0 where
  pub document : Document
  pub numbered : slice_get pieces piece ≡ Some document
  pub earlier : ℕ
  pub other : Document
  pub before : earlier < piece
  pub stands : slice_get pieces earlier ≡ Some other
  pub same : other.relative_path ≡ document.relative_path

-- of the first so many pieces none is either
abbrev pub AreFine : (paths : List (List ℕ)) → List Document → (count : ℕ) → Type 0
AreFine paths pieces count = (piece : ℕ) → piece < count
    → (IsStranger paths pieces piece → ⊥) × (IsTwice pieces piece → ⊥)

-- no piece has the path with this number
pub record IsMissing (paths : List (List ℕ)) (pieces : List Document) (number : ℕ) : Type 0 where
  pub path : List ℕ
  pub numbered : slice_get paths number ≡ Some path
  pub missing : Contains (paths_of pieces) path → ⊥

-- the least such path
pub record IsFirstMissing (paths : List (List ℕ)) (pieces : List Document) (number : ℕ) : Type 0 where
  pub missing : IsMissing paths pieces number
  pub least : (other : ℕ) → other < number → IsMissing paths pieces other → ⊥

-- The first piece that is a stranger, or there twice; or, if there is none, the first path without a piece. Nothing
-- is said about memory.
abbrev pub MayRefuseMerge : (paths : List (List ℕ)) → (pieces : List Document) → MergeFault → Type 0
MayRefuseMerge paths pieces (Stranger piece) = AreFine paths pieces piece × IsStranger paths pieces piece
MayRefuseMerge paths pieces (Twice piece) = AreFine paths pieces piece × IsTwice pieces piece
MayRefuseMerge paths pieces (Missing number) = AreFine paths pieces (length pieces) × IsFirstMissing paths pieces number
MayRefuseMerge paths pieces Memory = ⊤

-- so there is one reason
abbrev pub OneMergeRefusal : Type 0
OneMergeRefusal = (paths : List (List ℕ)) (pieces : List Document) (fault other : MergeFault)
    → MayRefuseMerge paths pieces fault → MayRefuseMerge paths pieces other
    → fault ≢ Memory → other ≢ Memory → fault ≡ other

-- and pieces have one list in order at most
abbrev pub OneMergedList : Type 0
OneMergedList = (paths : List (List ℕ)) (pieces documents others : List Document) → IsRising paths
    → AreMerged paths pieces documents → AreMerged paths pieces others → documents ≡ others

-- ---- what is said about why they make no index

abbrev pub name_of : MergeFault → List ℕ
name_of (Stranger piece) = codes "Stranger"
name_of (Twice piece) = codes "Twice"
name_of (Missing path) = codes "Missing"
name_of Memory = codes "Memory"

-- the piece or the path that it names
abbrev pub number_of : MergeFault → Option ℕ
number_of (Stranger piece) = Some piece
number_of (Twice piece) = Some piece
number_of (Missing path) = Some path
number_of Memory = None
