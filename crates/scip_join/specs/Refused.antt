-- Why indexes have no join.
use Rattle.std.specs.Prelude.{◌≡◌, ◌≢◌, ◌≤◌, ◌⊎◌, ⊤, ℕ, ℤ, pos, Bool, true, false, not, ◌&&◌, Option, None, Some}
use Rattle.std.specs.Prelude.{List, [], ◌∷◌, ◌++◌, length}
use Rattle.std.specs.declared.cmp.Ordering.TheVariants.{Less}
use Rattle.std.specs.Ordering.{int_eq, nat_cmp}
use Rattle.std.specs.Cmp.Lexicographic.{slice_cmp}
use Rattle.scip_records.specs.declared.records.Index.{Index}
use Rattle.scip_records.specs.declared.records.Metadata.{Metadata}
use Rattle.scip_records.specs.declared.records.Document.{Document}
use Rattle.scip_join.specs.declared.choices.JoinChoices.{JoinChoices}
use Rattle.scip_join.specs.declared.join_fault.JoinFault.{JoinFault}
use Rattle.scip_join.specs.declared.join_fault.JoinFault.TheVariants.{OtherRoot, OtherEncoding, Twice, Memory}
use Rattle.scip_join.specs.declared.join_fault.TwoDocuments.{TwoDocuments}
use Rattle.scip_join.specs.Joined.{first_metadata, latest_with}

-- the project root of an index; one without metadata has the empty text
abbrev pub root_of : Option Metadata → List ℕ
root_of None = []
root_of (Some m) = m.project_root

-- no root is asked for, and an index that comes behind these has another one than the first of all
pub record HasOtherRoot (choices : JoinChoices) (indexes : List Index) (index : Index) : Type 0 where
  pub none_asked : choices.project_root ≡ None
  pub differs : root_of index.metadata ≢ root_of (first_metadata (indexes ++ index ∷ []))

-- the text encoding that an index says; 0, which says none, without metadata (`scip.proto`, TextEncoding)
abbrev pub encoding_of : Option Metadata → ℤ
encoding_of None = pos 0
encoding_of (Some m) = m.text_document_encoding

-- both say one, and they differ
abbrev pub contradict : (first own : ℤ) → Bool
contradict first own = not (int_eq first (pos 0)) && (not (int_eq own (pos 0)) && not (int_eq first own))

-- an index that comes behind these says another text encoding than the first of them
abbrev pub HasOtherEncoding : List Index → Index → Type 0
HasOtherEncoding indexes index =
    contradict (encoding_of (first_metadata indexes)) (encoding_of index.metadata) ≡ true

-- one document at most has the path
abbrev pub IsOnce : List Index → List ℕ → Type 0
IsOnce indexes path = length (latest_with indexes path) ≤ 1

-- each path is there once at most
abbrev pub AreOnce : List Index → Type 0
AreOnce indexes = (path : List ℕ) → IsOnce indexes path

-- documents may take the place of others, or need not
abbrev pub IsAllowed : JoinChoices → List Index → Type 0
IsAllowed choices indexes = (choices.replace ≡ true) ⊎ AreOnce indexes

-- the latest two documents with a path are in the indexes with these numbers, and each lesser path is there once
pub record IsTwice (indexes : List Index) (two : TwoDocuments) : Type 0 where
  pub document : Document
  pub other : Document
  pub earlier : List (ℕ × Document)
  pub latest : latest_with indexes two.path ≡ (two.later, document) ∷ (two.earlier, other) ∷ earlier
  pub least : (path : List ℕ) → slice_cmp nat_cmp path two.path ≡ Less → IsOnce indexes path

-- Why the indexes that came have no join. (Those of roots and encodings are told as soon as the index comes.) Nothing
-- is said about memory.
abbrev pub MayRefuse : JoinChoices → List Index → JoinFault → Type 0
MayRefuse choices indexes OtherRoot = ⊥
MayRefuse choices indexes OtherEncoding = ⊥
MayRefuse choices indexes (Twice two) = (choices.replace ≡ false) × IsTwice indexes two
MayRefuse choices indexes Memory = ⊤
