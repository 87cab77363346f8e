-- Documents stay in order where they are placed.
use Rattle.std.proofs.Common.{◌≡◌, ◌∙◌, ℕ, List, [], ◌∷◌, ◌++◌, map, sym, refl, subst}
use Rattle.std.specs.Prelude.{codes}
use Rattle.std.specs.declared.cmp.Ordering.TheVariants.{Less}
use Rattle.std.specs.Ordering.{nat_cmp}
use Rattle.std.specs.Cmp.Lexicographic.{slice_cmp}
use Rattle.std.specs.List.{AllByRecursion}
use Rattle.std.specs.List.Sorted.{IsStrictlySortedBy}
use Rattle.proto_decl.specs.Values.{Seen}
use Rattle.index_hooks.specs.declared.choice.Choice.{Choice}
use Rattle.scip_records.specs.declared.records.Document.{Document}
use Rattle.scip_records.specs.declared.records.Index.{Index}
use Rattle.scip_model.specs.Indexes.{document_cmp}
use Rattle.scip_model.proofs.SymbolTableOrderLemmas.{same_front}
use Rattle.scip_build.specs.Placing.{document_at, path_at}
use Rattle.scip_build.specs.PlacingLaws.{BuiltIsInOrder}

-- paths compare below a folder as they do without it
same_order : (folder path other : List ℕ)
    → slice_cmp nat_cmp (path_at folder path) (path_at folder other) ≡ slice_cmp nat_cmp path other
same_order [] path other = refl
same_order (first ∷ others) path other =
    same_front (first ∷ others) (codes "/" ++ path) (codes "/" ++ other) ∙ same_front (codes "/") path other

all_placed : (folder : List ℕ) (document : Document) (documents : List Document)
    → AllByRecursion (λ other. document_cmp document other ≡ Less) documents
    → AllByRecursion (λ other. document_cmp (document_at folder document) other ≡ Less)
    (map (document_at folder) documents)
all_placed folder document [] all = tt
all_placed folder document (other ∷ others) all =
    (same_order folder document.relative_path other.relative_path ∙ all.0, all_placed folder document others all.1)

placed_ascend : (folder : List ℕ) (documents : List Document) → IsStrictlySortedBy document_cmp documents
    → IsStrictlySortedBy document_cmp (map (document_at folder) documents)
unfolding IsStrictlySortedBy
placed_ascend folder [] ascends = tt
placed_ascend folder (document ∷ documents) ascends =
    (all_placed folder document documents ascends.0, placed_ascend folder documents ascends.1)

pub built_is_in_order : (allows : Seen → Choice → Type 0) → BuiltIsInOrder allows
built_is_in_order allows settings tree built is =
    subst (λ (i : Index). IsStrictlySortedBy document_cmp i.documents) (sym is.placed)
    (placed_ascend settings.at is.plain.documents is.of_files.index.documents.ascends)
