-- What there is one of: merged lists of pieces, documents of a source, lists of external entries, indexes.
use Rattle.std.proofs.Common.{◌≡◌, ◌∙◌, ℕ, List, sym, ap, subst}
use Rattle.std.specs.declared.cmp.Ordering.{Ordering}
use Rattle.std.specs.Ordering.{nat_cmp}
use Rattle.std.specs.Cmp.{IsTotalOrder}
use Rattle.std.specs.Cmp.Lexicographic.{slice_cmp}
use Rattle.std.specs.List.Sorted.{IsStrictlySortedBy}
use Rattle.std.proofs.lemmas.List.Sorted.{Contains-permutation, IsPermutation-sym}
use Rattle.std.proofs.lemmas.Option.{same_Some}
use Rattle.scip_records.specs.declared.records.Document.{Document}
use Rattle.proto_visibility.specs.Files.{File}
use Rattle.scip_model.specs.Indexes.{IsAscendingListOf, document_cmp}
use Rattle.scip_model.specs.Laws.{OneDocument, OneListOfExternals, OneIndex}
use Rattle.scip_model.specs.Pieces.{IsRising, AreMerged, OneMergedList}
use Rattle.scip_model.proofs.OccurrenceOrderLemmas.{occurrence_total}
use Rattle.scip_model.proofs.IndexSortLemmas.{ascends-by, one-ascending}
use Rattle.scip_model.proofs.EntrySourceLemmas.{infos_total}
use Rattle.scip_model.proofs.PieceLemmas.{documents_total}

rises-by-path : (paths : List (List ℕ)) (pieces documents : List Document) → IsRising paths
    → AreMerged paths pieces documents → IsStrictlySortedBy document_cmp documents
rises-by-path paths pieces documents rising merged =
    ascends-by (λ (d : Document). d.relative_path) (slice_cmp nat_cmp) documents
    (subst IsRising (sym merged.in_order) rising)

pub one-merged : OneMergedList
one-merged paths pieces documents others rising first second =
    one-ascending documents_total documents others (rises-by-path paths pieces documents rising first)
    (rises-by-path paths pieces others rising second)
    (λ z there. Contains-permutation pieces others z second.same
    (Contains-permutation documents pieces z (IsPermutation-sym pieces documents first.same) there))
    (λ z there. Contains-permutation pieces documents z first.same
    (Contains-permutation others pieces z (IsPermutation-sym pieces others second.same) there))

one-list : {X : Type 0} {cmp : X → X → Ordering} (total : IsTotalOrder cmp) (IsWanted : X → Type 0) (xs ys : List X)
    → IsAscendingListOf cmp IsWanted xs → IsAscendingListOf cmp IsWanted ys → xs ≡ ys
one-list total IsWanted xs ys first second =
    one-ascending total xs ys first.ascends second.ascends (λ z there. (second.exact z).1 ((first.exact z).0 there))
    (λ z there. (first.exact z).1 ((second.exact z).0 there))

pub one-document : OneDocument
one-document asked files chosen ids encoding source text document other first second =
    let file : first.file ≡ second.file = same_Some first.file second.file (sym first.numbered ∙ second.numbered) in
    let path : document.relative_path ≡ other.relative_path =
    first.relative_path ∙ (ap (λ (f : File). f.path) file ∙ sym second.relative_path) in
    let occurrences = one-list occurrence_total _ document.occurrences other.occurrences first.occurrences
    second.occurrences in
    let symbols = one-list infos_total _ document.symbols other.symbols first.symbols second.symbols in
    let language : document.language ≡ other.language = first.language ∙ sym second.language in
    let units : document.position_encoding ≡ other.position_encoding =
    first.position_encoding ∙ sym second.position_encoding in
    λ i. record {
      relative_path = path i;
      occurrences = occurrences i;
      symbols = symbols i;
      language = language i;
      position_encoding = units i;
    }

pub one-list-of-externals : OneListOfExternals
one-list-of-externals asked files texts chosen ids entries others first second =
    one-list infos_total _ entries others first second

pub one-index : OneIndex
one-index asked files texts chosen ids encoding project_root index other first second =
    let metadata : index.metadata ≡ other.metadata = first.metadata_is ∙ sym second.metadata_is in
    let documents = one-list documents_total _ index.documents other.documents first.documents second.documents in
    let externals = one-list infos_total _ index.external_symbols other.external_symbols first.externals
    second.externals in
    λ i. record { metadata = metadata i; documents = documents i; external_symbols = externals i }
