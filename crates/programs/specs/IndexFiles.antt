-- The index that files hold together: of one file its own, and of several their join.
-- `gives` is what reading a file may give.
use Rattle.std.specs.Prelude.{◌≡◌, ◌<◌, ⊤, ℕ, false, List, [], ◌∷◌, ◌++◌, Option, None, Some, Result, Ok, Err, length}
use Rattle.scip_records.specs.declared.records.Index.{Index}
use Rattle.scip_wire.specs.Decodes.{Decodes}
use Rattle.scip_wire.specs.Refused.{NoIndex}
use Rattle.scip_wire.specs.Spelling.{spelling_of, max_index_len}
use Rattle.scip_wire.specs.declared.wire_fault.WireFault.{WireFault}
use Rattle.scip_join.specs.Gathered.{Gathered, gathered}
use Rattle.scip_join.specs.Joined.{IsJoin}
use Rattle.scip_join.specs.Pieces.{ArePiecesOf}
use Rattle.scip_join.specs.Refused.{HasOtherEncoding, HasOtherRoot, IsAllowed, IsTwice}
use Rattle.scip_join.specs.declared.choices.JoinChoices.{JoinChoices}
use Rattle.scip_join.specs.declared.join_fault.TwoDocuments.{TwoDocuments}
use Rattle.scip_join.specs.declared.joined.JoinedIndex.{JoinedIndex}
use Rattle.programs.specs.declared.files_fault.FilesFault.{FilesFault}
use Rattle.programs.specs.declared.files_fault.FilesFault.TheVariants.{Read, OtherRoot, OtherEncoding, Twice, TooLarge}
use Rattle.programs.specs.declared.files_fault.FilesFault.TheVariants.{Memory}
use Rattle.programs.specs.declared.index_fault.IndexFault.{IndexFault}
use Rattle.programs.specs.declared.index_fault.IndexFault.TheVariants as one

-- ---- one file

-- the index that the file's bytes decode to; or that it can't be read, or why they decode to none; or memory ran out
pub data IsReadFrom (gives : Option (List ℕ) → Type 0) : Result Index IndexFault → Type 0 where
  is_index : {index : Index} (bytes : List ℕ) → gives (Some bytes) → Decodes bytes index → IsReadFrom gives (Ok index)
  is_unreadable : gives None → IsReadFrom gives (Err one.Unreadable)
  is_no_index : {fault : WireFault} (bytes : List ℕ) → gives (Some bytes) → NoIndex bytes fault
      → IsReadFrom gives (Err (one.Wire fault))
  reading_lacks_memory : IsReadFrom gives (Err one.Memory)

-- ---- several files

-- a file holds this index, which comes behind these; its project root is that of the first, if none is asked for, and it
-- says no other text encoding
pub record IsNext (gives : Option (List ℕ) → Type 0) (choices : JoinChoices) (indexes : List Index) (index : Index)
    : Type 0 where
  pub read : IsReadFrom gives (Ok index)
  pub own : ¬ (HasOtherRoot choices indexes index)
  pub encoded : ¬ (HasOtherEncoding indexes index)

-- why no index of the file with a number comes behind these
pub data HasNoNext (gives : Option (List ℕ) → Type 0) (choices : JoinChoices) (indexes : List Index) (number : ℕ)
    : FilesFault → Type 0 where
  unread : {fault : IndexFault} → IsReadFrom gives (Err fault)
      → HasNoNext gives choices indexes number (Read number fault)
  other_root : (index : Index) → IsReadFrom gives (Ok index) → HasOtherRoot choices indexes index
      → HasNoNext gives choices indexes number (OtherRoot number)
  other_encoding : (index : Index) → IsReadFrom gives (Ok index) → HasOtherEncoding indexes index
      → ¬ (HasOtherRoot choices indexes index) → HasNoNext gives choices indexes number (OtherEncoding number)
  adding_lacks_memory : HasNoNext gives choices indexes number Memory

-- the files with these paths hold these indexes
pub data AreRead (gives : List ℕ → Option (List ℕ) → Type 0) (choices : JoinChoices)
    : (paths : List (List ℕ)) → List Index → Type 0 where
  none : AreRead gives choices [] []
  one_more : {paths : List (List ℕ)} {path : List ℕ} {indexes : List Index} {index : Index}
      → AreRead gives choices paths indexes → IsNext (gives path) choices indexes index
      → AreRead gives choices (paths ++ path ∷ []) (indexes ++ index ∷ [])

-- the join of the indexes that the files with these paths hold
pub record IsJoinOf (gives : List ℕ → Option (List ℕ) → Type 0) (choices : JoinChoices) (paths : List (List ℕ))
    (joined : Index) : Type 0 where
  pub indexes : List Index
  pub read : AreRead gives choices paths indexes
  pub allowed : IsAllowed choices indexes
  pub is : IsJoin choices.project_root indexes joined

-- Why there is none, the first of these: of a file in turn no index comes behind those before; a path is there twice,
-- and none is to be replaced; the join is too large. Memory may run out before each of them.
pub data HasNoJoin (gives : List ℕ → Option (List ℕ) → Type 0) (choices : JoinChoices) (paths : List (List ℕ))
    : FilesFault → Type 0 where
  no_next : {fault : FilesFault} (before : List (List ℕ)) (path : List ℕ) (after : List (List ℕ))
      (indexes : List Index)
      → paths ≡ before ++ path ∷ after → AreRead gives choices before indexes
      → HasNoNext (gives path) choices indexes (length before) fault → HasNoJoin gives choices paths fault
  twice : {two : TwoDocuments} (indexes : List Index) → AreRead gives choices paths indexes
      → choices.replace ≡ false → IsTwice indexes two → HasNoJoin gives choices paths (Twice two)
  too_large : (joined : Index) → IsJoinOf gives choices paths joined → max_index_len < length (spelling_of joined)
      → HasNoJoin gives choices paths TooLarge
  joining_lacks_memory : HasNoJoin gives choices paths Memory

-- ---- as one index

-- a project root is asked for, so that indexes of any are joined, and no document is replaced
abbrev pub any_roots : JoinChoices
any_roots = record { project_root = Some []; replace = false }

-- the index of one file is its own
pub data IsOwnIndex (gives : Option (List ℕ) → Type 0) : Result Index FilesFault → Type 0 where
  is_own : {index : Index} → IsReadFrom gives (Ok index) → IsOwnIndex gives (Ok index)
  has_no_own : {fault : IndexFault} → IsReadFrom gives (Err fault) → IsOwnIndex gives (Err (Read 0 fault))
  own_lacks_memory : IsOwnIndex gives (Err Memory)

-- The index of several is the one that their join's spelling decodes to, so it is the join
-- (`spelling_decodes_to_its_index` of `scip_wire`).
pub data IsJoinedIndex (gives : List ℕ → Option (List ℕ) → Type 0) (paths : List (List ℕ))
    : Result Index FilesFault → Type 0 where
  is_joined : {index : Index} (joined : Index) → IsJoinOf gives any_roots paths joined
      → Decodes (spelling_of joined) index → IsJoinedIndex gives paths (Ok index)
  has_no_join : {fault : FilesFault} → HasNoJoin gives any_roots paths fault
      → IsJoinedIndex gives paths (Err fault)

-- the index that the files with these paths hold together, or why they hold none
abbrev pub IsIndexOf : (gives : List ℕ → Option (List ℕ) → Type 0) → (paths : List (List ℕ))
    → Result Index FilesFault → Type 0
IsIndexOf gives (path ∷ []) found = IsOwnIndex (gives path) found
IsIndexOf gives paths found = IsJoinedIndex gives paths found

-- ---- the steps

-- an index came behind these, and what is kept is that of all
pub record Adds (gives : Option (List ℕ) → Type 0) (choices : JoinChoices) (indexes : List Index) (kept : Gathered)
    : Type 0 where
  pub index : Index
  pub next : IsNext gives choices indexes index
  pub is : kept ≡ gathered choices (indexes ++ index ∷ [])

-- what is kept is that of the indexes that the files hold
pub record AreGathered (gives : List ℕ → Option (List ℕ) → Type 0) (choices : JoinChoices) (paths : List (List ℕ))
    (kept : Gathered) : Type 0 where
  pub indexes : List Index
  pub read : AreRead gives choices paths indexes
  pub is : kept ≡ gathered choices indexes

-- these are the pieces of their join
pub record HasPieces (gives : List ℕ → Option (List ℕ) → Type 0) (choices : JoinChoices) (paths : List (List ℕ))
    (whole : JoinedIndex) : Type 0 where
  pub joined : Index
  pub is : IsJoinOf gives choices paths joined
  pub pieces : ArePiecesOf whole joined

-- why an index isn't spelled in memory: it is too large, or memory ran out
abbrev pub MayNotSpell : Index → FilesFault → Type 0
MayNotSpell index TooLarge = max_index_len < length (spelling_of index)
MayNotSpell index Memory = ⊤
MayNotSpell index fault = ⊥
