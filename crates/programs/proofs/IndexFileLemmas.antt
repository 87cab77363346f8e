-- What files hold together.
use Rattle.std.proofs.Common.{◌≡◌, ◌≢◌, ◌⊎◌, ◌<◌, ℕ, List, [], ◌∷◌, ◌++◌, length, map, take, Option, Some}
use Rattle.std.proofs.Common.{Err, inl, inr, sym, ◌∙◌, ap, subst, arith}
use Rattle.std.specs.Io.KnownBytes.{Appends}
use Rattle.std.proofs.lemmas.List.{length-map, length-take-le}
use Rattle.scip_records.specs.declared.records.Index.{Index}
use Rattle.scip_wire.specs.Refused.{NoIndex}
use Rattle.scip_wire.specs.declared.wire_fault.WireFault.{WireFault}
use Rattle.scip_wire.specs.declared.wire_fault.WireFault.TheVariants as wire
use Rattle.scip_join.specs.Gathered.{Gathered, gathered}
use Rattle.scip_join.specs.Joined.{IsJoin}
use Rattle.scip_join.specs.Pieces.{ArePiecesOf}
use Rattle.scip_join.specs.Refused.{IsAllowed, MayRefuse}
use Rattle.scip_join.specs.declared.choices.JoinChoices.{JoinChoices}
use Rattle.scip_join.specs.declared.join_fault.JoinFault.TheVariants as join
use Rattle.scip_join.specs.declared.join_fault.TwoDocuments.{TwoDocuments}
use Rattle.scip_join.specs.declared.joined.JoinedIndex.{JoinedIndex}
use Rattle.programs.specs.IndexFaults.{fault_of_wire}
use Rattle.programs.specs.IndexFiles.{Adds, AreGathered, HasNoJoin, HasNoNext, HasPieces, IsIndexOf, IsJoinOf}
use Rattle.programs.specs.IndexFiles.{IsReadFrom, MayNotSpell}
use Rattle.programs.specs.IndexFiles.AreRead.{none, one_more}
use Rattle.programs.specs.IndexFiles.HasNoJoin.{no_next, twice, too_large, joining_lacks_memory}
use Rattle.programs.specs.IndexFiles.IsJoinedIndex.{has_no_join}
use Rattle.programs.specs.IndexFiles.IsOwnIndex.{own_lacks_memory}
use Rattle.programs.specs.IndexFiles.IsReadFrom.{is_no_index, reading_lacks_memory}
use Rattle.programs.specs.declared.files_fault.FilesFault.{FilesFault}
use Rattle.programs.specs.declared.files_fault.FilesFault.TheVariants as fault
use Rattle.programs.specs.declared.index_fault.IndexFault.TheVariants as one

-- ---- one file

-- a fault that isn't want of memory is why there is no index
no_index : (gives : Option (List ℕ) → Type 0) (bytes : List ℕ) (fault : WireFault) → gives (Some bytes)
    → (fault ≡ wire.Memory) ⊎ NoIndex bytes fault → (fault ≢ wire.Memory) → IsReadFrom gives (Err (one.Wire fault))
no_index gives bytes fault given (inl same) other = absurd (other same)
no_index gives bytes fault given (inr why) other = is_no_index bytes given why

-- bytes that are refused, and not for want of memory, decode to no index
pub refused_bytes : (gives : Option (List ℕ) → Type 0) (bytes : List ℕ) (fault : WireFault) → gives (Some bytes)
    → (fault ≡ wire.Memory) ⊎ NoIndex bytes fault → IsReadFrom gives (Err (fault_of_wire fault))
refused_bytes gives bytes (wire.Truncated at) given why = no_index gives bytes _ given why (λ same. cc)
refused_bytes gives bytes (wire.Varint at) given why = no_index gives bytes _ given why (λ same. cc)
refused_bytes gives bytes (wire.FieldZero at) given why = no_index gives bytes _ given why (λ same. cc)
refused_bytes gives bytes (wire.Group at) given why = no_index gives bytes _ given why (λ same. cc)
refused_bytes gives bytes (wire.WireType at) given why = no_index gives bytes _ given why (λ same. cc)
refused_bytes gives bytes (wire.Repeated at) given why = no_index gives bytes _ given why (λ same. cc)
refused_bytes gives bytes (wire.Utf8 at) given why = no_index gives bytes _ given why (λ same. cc)
refused_bytes gives bytes (wire.BadRange at) given why = no_index gives bytes _ given why (λ same. cc)
refused_bytes gives bytes wire.Memory given why = reading_lacks_memory

-- ---- several files

-- no file was read yet
pub none_yet : (gives : List ℕ → Option (List ℕ) → Type 0) (choices : JoinChoices) (kept : Gathered)
    → kept ≡ gathered choices [] → AreGathered gives choices [] kept
none_yet gives choices kept is = record { indexes = []; read = none; is = is }

-- one more file is read
pub one_file_more : (gives : List ℕ → Option (List ℕ) → Type 0) (choices : JoinChoices) (paths : List (List ℕ))
    (path : List ℕ) (kept new : Gathered) (are : AreGathered gives choices paths kept)
    → Adds (gives path) choices are.indexes new → AreGathered gives choices (paths ++ path ∷ []) new
one_file_more gives choices paths path kept new are adds = record {
  indexes = are.indexes ++ adds.index ∷ [];
  read = one_more are.read adds.next;
  is = adds.is;
}

-- so many items are in front of one
pub counted : {A B : Type 0} (f : A → B) (xs : List A) (number : ℕ) → number < length xs
    → number ≡ length (map f (take number xs))
counted f xs number within = sym (length-map (take number xs) f ∙ length-take-le number xs (omega (arith, within)))

-- what is kept has its own choices
own : (choices : JoinChoices) (kept : Gathered) (indexes : List Index) → kept ≡ gathered choices indexes
    → kept ≡ gathered kept.choices indexes
own choices kept indexes is =
    is ∙ ap (λ (c : JoinChoices). gathered c indexes) (sym (ap (λ (g : Gathered). g.choices) is))

-- so, by what is said of one more
pub added_more : (gives : List ℕ → Option (List ℕ) → Type 0) (choices : JoinChoices) (paths : List (List ℕ))
    (path : List ℕ) (kept new : Gathered) → AreGathered gives choices paths kept
    → ((indexes : List Index) → kept ≡ gathered kept.choices indexes → Adds (gives path) kept.choices indexes new)
    → AreGathered gives choices (paths ++ path ∷ []) new
added_more gives choices paths path kept new are adds =
    one_file_more gives choices paths path kept new are
    (subst (λ (c : JoinChoices). Adds (gives path) c are.indexes new) (ap (λ (g : Gathered). g.choices) are.is)
    (adds are.indexes (own choices kept are.indexes are.is)))

-- of a file in turn no index comes
pub stops_at : (gives : List ℕ → Option (List ℕ) → Type 0) (choices : JoinChoices) (before : List (List ℕ))
    (path : List ℕ) (after paths : List (List ℕ)) (kept : Gathered) (number : ℕ) (stop : FilesFault)
    (are : AreGathered gives choices before kept) → paths ≡ before ++ path ∷ after → number ≡ length before
    → HasNoNext (gives path) choices are.indexes number stop → HasNoJoin gives choices paths stop
stops_at gives choices before path after paths kept number stop are parted is stopped =
    no_next before path after are.indexes parted are.read
    (subst (λ (n : ℕ). HasNoNext (gives path) choices are.indexes n stop) is stopped)

-- so, by what is said of it
pub stopped_at : (gives : List ℕ → Option (List ℕ) → Type 0) (choices : JoinChoices) (before : List (List ℕ))
    (path : List ℕ) (after paths : List (List ℕ)) (kept : Gathered) (number : ℕ) (stop : FilesFault)
    → AreGathered gives choices before kept → paths ≡ before ++ path ∷ after → number ≡ length before
    → ((indexes : List Index) → kept ≡ gathered kept.choices indexes
    → HasNoNext (gives path) kept.choices indexes number stop) → HasNoJoin gives choices paths stop
stopped_at gives choices before path after paths kept number stop are parted is stopped =
    stops_at gives choices before path after paths kept number stop are parted is
    (subst (λ (c : JoinChoices). HasNoNext (gives path) c are.indexes number stop)
    (ap (λ (g : Gathered). g.choices) are.is) (stopped are.indexes (own choices kept are.indexes are.is)))

module _ (gives : List ℕ → Option (List ℕ) → Type 0) (choices : JoinChoices) (paths : List (List ℕ)) where
  -- the pieces of the join of what is kept
  pub pieces_of : (kept : Gathered) (whole : JoinedIndex) (are : AreGathered gives choices paths kept)
      → ((joined : Index) × IsJoin choices.project_root are.indexes joined × ArePiecesOf whole joined)
      → IsAllowed choices are.indexes → HasPieces gives choices paths whole
  pieces_of kept whole are made allowed = record {
    joined = made.0;
    is = record { indexes = are.indexes; read = are.read; allowed = allowed; is = made.1 };
    pieces = made.2;
  }

  -- a path is there twice, by what is said of it
  pub has_twice : (kept : Gathered) (two : TwoDocuments) → AreGathered gives choices paths kept
      → ((indexes : List Index) → kept ≡ gathered kept.choices indexes
      → MayRefuse kept.choices indexes (join.Twice two)) → HasNoJoin gives choices paths (fault.Twice two)
  has_twice kept two are refused =
      let told : MayRefuse choices are.indexes (join.Twice two) =
      subst (λ (c : JoinChoices). MayRefuse c are.indexes (join.Twice two)) (ap (λ (g : Gathered). g.choices) are.is)
      (refused are.indexes (own choices kept are.indexes are.is)) in
      twice are.indexes are.read told.0 told.1

  -- the join is too large to be spelled, or memory ran out
  pub unspelled : (joined : Index) (fault : FilesFault) → IsJoinOf gives choices paths joined
      → MayNotSpell joined fault → HasNoJoin gives choices paths fault
  unspelled joined fault.TooLarge is large = too_large joined is large
  unspelled joined fault.Memory is may = joining_lacks_memory
  unspelled joined (fault.Read number read) is may = absurd may
  unspelled joined (fault.OtherRoot number) is may = absurd may
  unspelled joined (fault.OtherEncoding number) is may = absurd may
  unspelled joined (fault.Twice two) is may = absurd may

-- ---- as one index

-- memory may run out before an index is found
pub finding_lacks_memory : (gives : List ℕ → Option (List ℕ) → Type 0) (paths : List (List ℕ))
    → IsIndexOf gives paths (Err fault.Memory)
finding_lacks_memory gives [] = has_no_join joining_lacks_memory
finding_lacks_memory gives (path ∷ []) = own_lacks_memory
finding_lacks_memory gives (path ∷ (second ∷ others)) = has_no_join joining_lacks_memory

-- a text that is written to what held nothing is all that it holds
pub all_written : (old new due : List ℕ) → old ≡ [] → Appends (Some old) (Some new) due → new ≡ due
all_written old new due nothing appends = appends ∙ ap (λ (l : List ℕ). l ++ due) nothing
