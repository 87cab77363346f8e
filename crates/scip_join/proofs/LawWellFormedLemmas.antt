-- The join of well-formed indexes is well-formed.
use Rattle.std.proofs.Common.{◌≡◌, inl, arith, ℕ, pos, Option, None, Some}
use Rattle.std.proofs.Common.{List, [], ◌∷◌, reverse, get_or, refl, sym, ap}
use Rattle.std.proofs.Common.{subst}
use Rattle.std.specs.Prelude.{IfSome, FitsSigned}
use Rattle.std.specs.List.{All, Contains, enumerate_from}
use Rattle.std.specs.Str.{IsUtf8}
use Rattle.std.specs.Int.{w32}
use Rattle.std.proofs.lemmas.List.Elements.{All-contains, All-contains_itself}
use Rattle.std.proofs.lemmas.List.Sorted.{Contains-permutation, IsPermutation-reverse, IsPermutation-sym}
use Rattle.basics.proofs.ElementLemmas.{In, from_map, from_filter, from_flat_map, from_numbered, contained}
use Rattle.basics.proofs.ElementLemmas.{from_contained}
use Rattle.basics.proofs.FirstLemmas as firsts
use Rattle.scip_records.specs.declared.records.Index.{Index}
use Rattle.scip_records.specs.declared.records.Metadata.{Metadata}
use Rattle.scip_records.specs.declared.records.Document.{Document}
use Rattle.scip_records.specs.declared.records.SymbolInformation.{SymbolInformation}
use Rattle.scip_wire.specs.WellFormed.{IsFitDocument, IsFitInfo, IsFitMetadata, IsWellFormed}
use Rattle.scip_join.specs.Joined.{IsLatest, IsExternal, documents_in, numbered_documents, has_path, has_symbol}
use Rattle.scip_join.specs.Joined.{all_externals, first_metadata, metadata_with}
use Rattle.scip_join.specs.Laws.{JoinIsWellFormed}

abbrev Numbered : Type 0
Numbered = ℕ × Document

-- what holds of each element by membership
pub all_of : {X : Type 0} (P : X → Type 0) (xs : List X) → ((x : X) → Contains xs x → P x) → All P xs
all_of P xs each = λ k d within. each (get_or xs k d) (All-contains_itself xs k d within)

pub in_turned : {X : Type 0} (x : X) (xs : List X) → In x (reverse xs) → In x xs
in_turned x xs is =
    from_contained xs x (Contains-permutation (reverse xs) xs x
    (IsPermutation-sym xs (reverse xs) (IsPermutation-reverse xs)) (contained (reverse xs) x is))

-- a document that is the latest of its path is one of an index
pub from_latest : (indexes : List Index) (d : Document) → IsLatest indexes d
    → (i : Index) × Contains indexes i × Contains i.documents d
from_latest indexes d is =
    let there : In (is.index, d) (numbered_documents indexes) =
    in_turned (is.index, d) (numbered_documents indexes)
    (from_filter (has_path d.relative_path) (is.index, d) (reverse (numbered_documents indexes))
    (subst (λ l. In (is.index, d) l) (sym is.latest) (inl refl))).0 in
    let at = from_flat_map documents_in (is.index, d) (enumerate_from 0 indexes) there in
    let index = from_numbered 0 at.0 indexes at.1 in
    let one = from_map (λ (x : Document). (at.0.0, x)) (is.index, d) at.0.1.documents at.2 in
    let same : d ≡ one.0 = ap (λ (n : Numbered). n.1) one.2 in (
      at.0.1,
      firsts.contained indexes index.0 at.0.1 index.2,
      subst (λ x. Contains at.0.1.documents x) (sym same) (contained at.0.1.documents one.0 one.1),
    )

-- an external entry of a join is one of an index
pub from_external : (indexes : List Index) (documents : List Document) (e : SymbolInformation)
    → IsExternal indexes documents e → (i : Index) × Contains indexes i × Contains i.external_symbols e
from_external indexes documents e is =
    let there : In e (all_externals indexes) =
    (from_filter (has_symbol e.symbol) e (all_externals indexes)
    (subst (λ l. In e l) (sym is.first) (inl refl))).0 in
    let at = from_flat_map (λ (i : Index). i.external_symbols) e indexes there in
    (at.0, contained indexes at.0 at.1, contained at.0.external_symbols e at.2)

fits_zero : FitsSigned w32 (pos 0)
fits_zero = record { sfits = omega arith }

fits_with : (root : Option (List ℕ)) (metadata : Option Metadata) → IfSome root IsUtf8 → IfSome metadata IsFitMetadata
    → IfSome (metadata_with root metadata) IsFitMetadata
fits_with None metadata utf8 fit = fit
fits_with (Some root) None utf8 fit = record {
  version = fits_zero;
  tool_info = tt;
  project_root = utf8;
  text_document_encoding = fits_zero;
}
fits_with (Some root) (Some m) utf8 fit = record {
  version = fit.version;
  tool_info = fit.tool_info;
  project_root = utf8;
  text_document_encoding = fit.text_document_encoding;
}

first_fits : (indexes : List Index) → All IsWellFormed indexes → IfSome (first_metadata indexes) IsFitMetadata
first_fits [] all = tt
first_fits (i ∷ indexes) all = (all 0 i (omega arith)).metadata

pub well_formed : JoinIsWellFormed
well_formed root indexes joined utf8 all is = record {
  metadata = subst (λ m. IfSome m IsFitMetadata) (sym is.metadata)
      (fits_with root (first_metadata indexes) utf8 (first_fits indexes all));
  documents = all_of IsFitDocument joined.documents (λ d there.
      let from = from_latest indexes d ((is.documents d).0 there) in
      All-contains IsFitDocument from.0.documents d (All-contains IsWellFormed indexes from.0 all from.1).documents
      from.2);
  external_symbols = all_of IsFitInfo joined.external_symbols (λ e there.
      let from = from_external indexes joined.documents e ((is.externals e).0 there) in
      All-contains IsFitInfo from.0.external_symbols e
      (All-contains IsWellFormed indexes from.0 all from.1).external_symbols from.2);
}
