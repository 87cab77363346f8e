-- What a run answers, by where it stops.
use Rattle.std.proofs.Common.{◌≡◌, ◌↔◌, ◌∙◌, ℕ, suc, ◌<◌, ◌≤◌, List, [], ◌∷◌, length, map, Option, IfSome, Result, Ok}
use Rattle.std.proofs.Common.{Err, refl, sym, subst, arith}
use Rattle.std.specs.List.{All, AllZip}
use Rattle.std.proofs.lemmas.List.Elements.{All-nil, All-cons}
use Rattle.std.proofs.Math.Nat.{lt_of_not-le}
use Rattle.proto_decl.specs.Values.{Seen}
use Rattle.index_hooks.specs.declared.choice.Choice.{Choice}
use Rattle.source_tree.specs.Files.{TreeFile}
use Rattle.streams.specs.Writers.{SinkOf, Writer, writing}
use Rattle.scip_records.specs.declared.records.Index.{Index}
use Rattle.scip_records.specs.declared.records.Document.{Document}
use Rattle.scip_records.specs.declared.records.Metadata.{Metadata}
use Rattle.scip_records.specs.declared.records.SymbolInformation.{SymbolInformation}
use Rattle.scip_build.specs.Builds.{IsBuilt, IsBuildFault}
use Rattle.scip_build.specs.Forms.{ArePartsOf}
use Rattle.scip_build.specs.declared.parts.Parts.{Parts}
use Rattle.scip_build.specs.declared.built.Built.{Built}
use Rattle.scip_build.specs.declared.settings.Settings.{Settings}
use Rattle.scip_build.specs.declared.fault.BuildFault.{BuildFault}
use Rattle.scip_build.specs.declared.fault.BuildFault.TheVariants as build
use Rattle.scip_build.specs.declared.fault.FileFault.TheVariants as file
use Rattle.scip_wire.specs.Decodes.{Decodes}
use Rattle.scip_wire.specs.Spelling.{document_record, joined_pieces, spelling_of, max_index_len}
use Rattle.scip_wire.specs.WellFormed.{IsFitDocument, IsFitInfo, IsFitMetadata, IsWellFormed}
use Rattle.scip_wire.specs.Writing.{Leaves}
use Rattle.scip_wire.specs.declared.write_fault.WriteFault.{WriteFault}
use Rattle.scip_wire.specs.declared.write_fault.WriteFault.TheVariants as writing
use Rattle.protoscip.specs.Faults.{fault_of_build, fault_of_writing}
use Rattle.protoscip.specs.Indexes.{recorded_of, IsSpelled, Indexes}
use Rattle.protoscip.specs.Writing.{IsRecordOf, WritesIndex}
use Rattle.protoscip.specs.Writing.WritesIndex.{index_is_written, index_is_cut_off, index_is_too_large}
use Rattle.protoscip.specs.FaultLines.{HasFilesOf}
use Rattle.protoscip.specs.declared.fault.Fault.{Fault}

pub not_above : (n m : ℕ) → (m < n → ⊥) → n ≤ m
not_above n m never = let h : n < suc m = lt_of_not-le never in omega arith

abbrev pub SpellingDecodes : Type 0
SpellingDecodes = (i : Index) → IsWellFormed i → length (spelling_of i) ≤ max_index_len → Decodes (spelling_of i) i

abbrev pub OneDecoding : Type 0
OneDecoding = (bytes : List ℕ) (index other : Index) → Decodes bytes index → Decodes bytes other → index ≡ other

abbrev pub stopped : WriteFault → Result (Unit {0}) WriteFault
stopped e = Err e

-- the bytes of an index that isn't too large
pub spelled : SpellingDecodes → OneDecoding → (i : Index) → IsWellFormed i → length (spelling_of i) ≤ max_index_len
    → IsSpelled i (spelling_of i)
spelled decodes one i known small =
    let is = decodes i known small in
    record { spelling = refl; small = small; decodes = is; alone = λ other d. one (spelling_of i) other i d is }

module _ (decodes : SpellingDecodes) (one : OneDecoding) (index : Index) (known : IsWellFormed index) where
  -- where TooLarge, which is said exactly of an index with too many bytes, isn't said
  pub spelled_unless : (Says : Type 0) → Says ↔ (max_index_len < length (spelling_of index)) → (Says → ⊥)
      → IsSpelled index (spelling_of index)
  spelled_unless Says large never =
      spelled decodes one index known
      (not_above (length (spelling_of index)) max_index_len (λ above. never (large.1 above)))

  module _ {W : Type 0} (out : Writer W) where
    -- an index isn't written, or cut off
    pub not_written : (e : WriteFault) → (stopped e ≡ stopped writing.TooLarge)
        ↔ (max_index_len < length (spelling_of index)) → Leaves out (spelling_of index) e
        → WritesIndex index out (Err (fault_of_writing e))
    not_written writing.TooLarge large leaves = index_is_too_large (large.0 refl) leaves
    not_written (writing.Write count) large leaves =
        index_is_cut_off (spelled_unless (stopped (writing.Write count) ≡ stopped writing.TooLarge) large (λ same. cc))
        leaves

-- ---- the parts of an index, of whose documents the records are kept

abbrev pub JoinsPieces : Type 0
JoinsPieces = (i : Index)
    → spelling_of i ≡ joined_pieces i.metadata (map document_record i.documents) i.external_symbols

records_are : (documents : List Document) (records : List (List ℕ)) → AllZip IsRecordOf documents records
    → records ≡ map document_record documents
records_are [] [] are = refl
records_are [] (r ∷ rs) are = absurd are
records_are (d ∷ ds) [] are = absurd are
records_are (d ∷ ds) (r ∷ rs) are =
    let here : r ≡ document_record d = are.0.record_is in
    let more = records_are ds rs are.1 in
    λ i. here i ∷ more i

documents_fit : (documents : List Document) (records : List (List ℕ)) → AllZip IsRecordOf documents records
    → All IsFitDocument documents
documents_fit [] [] are = All-nil IsFitDocument
documents_fit [] (r ∷ rs) are = absurd are
documents_fit (d ∷ ds) [] are = absurd are
documents_fit (d ∷ ds) (r ∷ rs) are = All-cons IsFitDocument d ds are.0.fit (documents_fit ds rs are.1)

module _ (index : Index) (parts : Parts (List ℕ)) (are : ArePartsOf IsRecordOf index parts) where
  -- one after another they are its spelling
  pub pieces_are : JoinsPieces → joined_pieces parts.metadata parts.documents parts.external_symbols ≡ spelling_of index
  pieces_are joins =
      let records = records_are index.documents parts.documents are.documents in
      (λ i. joined_pieces (are.metadata i) (records i) (are.external_symbols i)) ∙ sym (joins index)

  -- and what is known of them is known of it
  pub known_whole : IfSome parts.metadata IsFitMetadata → All IsFitInfo parts.external_symbols → IsWellFormed index
  known_whole metadata external_symbols = record {
    metadata = subst (λ (m : Option Metadata). IfSome m IsFitMetadata) are.metadata metadata;
    documents = documents_fit index.documents parts.documents are.documents;
    external_symbols = subst (λ (es : List SymbolInformation). All IsFitInfo es) are.external_symbols external_symbols;
  }

module _ {W : Type 0} (allows : Seen → Choice → Type 0) (settings : Settings) (tree : List TreeFile) (workers : ℕ) where
  -- a tree isn't built
  pub unbuilt : (sink : SinkOf W) (out : W) (e : BuildFault)
      → IsBuildFault allows settings tree workers e
      → Indexes allows settings tree workers (writing sink out out) (Err (fault_of_build e))
  unbuilt sink out build.Spawn is = (is, refl)
  unbuilt sink out build.Memory is = (is, refl)
  unbuilt sink out (build.File number (file.Lex e)) is = (is, refl)
  unbuilt sink out (build.File number (file.Syntax e)) is = (is, refl)
  unbuilt sink out (build.File number file.Unread) is = (is, refl)
  unbuilt sink out (build.Duplicate first second) is = (is, refl)
  unbuilt sink out (build.MissingImport place) is = (is, refl)
  unbuilt sink out (build.Unresolved place) is = (is, refl)
  unbuilt sink out (build.Ambiguous place) is = (is, refl)
  unbuilt sink out (build.OptionGap place) is = (is, refl)

  module _ (out : Writer W) (built : Built) (is : IsBuilt allows settings tree built) where
    -- its index isn't written, or cut off
    pub unwritten : (e : Fault) → WritesIndex built.index out (Err e)
        → Indexes allows settings tree workers out (Err e)
    unwritten _ (index_is_too_large large left) = ((built, is, large), left)
    unwritten _ (index_is_cut_off spells cut) = (
      recorded_of built.choices built.told,
      spelling_of built.index,
      record { index = built.index; built = is; spelled = spells },
      cut,
    )

    -- it is written
    pub written : (done : Unit {0}) → WritesIndex built.index out (Ok done)
        → Indexes allows settings tree workers out
        (Ok (recorded_of built.choices built.told))
    written done (index_is_written spells wrote) = (
      spelling_of built.index,
      record { index = built.index; built = is; spelled = spells },
      wrote,
    )

-- writing an index has no fault of a file
pub no_files : {W : Type 0} (tree : List TreeFile) (out : Writer W) (index : Index) (e : Fault)
    → WritesIndex index out (Err e) → HasFilesOf tree e
no_files tree out index _ (index_is_too_large large left) = tt
no_files tree out index _ (index_is_cut_off spells cut) = tt
