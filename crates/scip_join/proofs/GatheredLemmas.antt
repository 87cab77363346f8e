-- What is kept of indexes, and of one more.
use Rattle.std.proofs.Common.{◌≡◌, ◌≢◌, inl, inr, Bool, true, false, not, ◌&&◌, ℕ, suc, ◌+◌}
use Rattle.std.proofs.Common.{Option, None, Some, List, [], ◌∷◌, ◌++◌, length, map, cond}
use Rattle.std.proofs.Common.{refl, sym, ◌∙◌, ap, ap₂, subst, arith, append-nil, nat_eq, length-append}
use Rattle.std.specs.List.{enumerate_from, flat_map}
use Rattle.std.specs.Str.{bytes_eq}
use Rattle.std.proofs.lemmas.Bool.{cases_Bool, cond-false, false≢true}
use Rattle.std.proofs.lemmas.List.{map-append}
use Rattle.std.proofs.lemmas.List.Concat.{flat_map-append}
use Rattle.basics.proofs.ListLemmas.{map_twice}
use Rattle.basics.proofs.TestLemmas.{not_zero}
use Rattle.scip_records.specs.declared.records.Index.{Index}
use Rattle.scip_records.specs.declared.records.Document.{Document}
use Rattle.scip_join.specs.declared.choices.JoinChoices.{JoinChoices}
use Rattle.scip_join.specs.Joined.{documents_in, numbered_documents, all_externals, first_metadata}
use Rattle.scip_join.specs.Refused.{contradict, encoding_of, root_of, HasOtherEncoding, HasOtherRoot}
use Rattle.scip_join.specs.Gathered.{Gathered, gathered, piece_of, pieces_in}
use Rattle.scip_join.specs.Steps.{IsAdded, is_other, is_other_of}
use Rattle.scip_join.proofs.TableLemmas.{bytes_equal, equal_bytes}

enumerate_more : {X : Type 0} (n : ℕ) (xs : List X) (x : X)
    → enumerate_from n (xs ++ x ∷ []) ≡ enumerate_from n xs ++ (n + length xs, x) ∷ []
enumerate_more n [] x = ap (λ k. (k, x) ∷ []) (omega arith)
enumerate_more {X} n (y ∷ xs) x =
    let more : n + 1 + length xs ≡ n + suc (length xs) = omega arith in
    ap (λ (l : List (ℕ × X)). (n, y) ∷ l)
    (enumerate_more (n + 1) xs x ∙ ap (λ k. enumerate_from (n + 1) xs ++ (k, x) ∷ []) more)

documents_more : (indexes : List Index) (index : Index)
    → numbered_documents (indexes ++ index ∷ []) ≡ numbered_documents indexes ++ documents_in (length indexes, index)
documents_more indexes index =
    let from_zero : 0 + length indexes ≡ length indexes = omega arith in
    ap (flat_map documents_in) (enumerate_more 0 indexes index
    ∙ ap (λ (k : ℕ). enumerate_from 0 indexes ++ (k, index) ∷ []) from_zero)
    ∙ flat_map-append documents_in (enumerate_from 0 indexes) ((length indexes, index) ∷ [])
    ∙ ap (λ l. numbered_documents indexes ++ l) (append-nil (documents_in (length indexes, index)))

pub pieces_more : (indexes : List Index) (index : Index)
    → map piece_of (numbered_documents (indexes ++ index ∷ []))
    ≡ map piece_of (numbered_documents indexes) ++ pieces_in (length indexes) index.documents
pieces_more indexes index =
    ap (map piece_of) (documents_more indexes index)
    ∙ map-append piece_of (numbered_documents indexes) (documents_in (length indexes, index))
    ∙ ap (λ l. map piece_of (numbered_documents indexes) ++ l)
    (map_twice piece_of (λ (d : Document). (length indexes, d)) index.documents)

pub externals_more : (indexes : List Index) (index : Index)
    → all_externals (indexes ++ index ∷ []) ≡ all_externals indexes ++ index.external_symbols
externals_more indexes index =
    flat_map-append (λ (i : Index). i.external_symbols) indexes (index ∷ [])
    ∙ ap (λ l. all_externals indexes ++ l) (append-nil index.external_symbols)

pub metadata_more : (indexes : List Index) (index : Index)
    → first_metadata (indexes ++ index ∷ [])
    ≡ cond (nat_eq (length indexes) 0) index.metadata (first_metadata indexes)
metadata_more [] index = refl
metadata_more (i ∷ indexes) index =
    sym (cond-false (nat_eq (length (i ∷ indexes)) 0) index.metadata i.metadata (not_zero (length indexes)))

count_more : (indexes : List Index) (index : Index) → length (indexes ++ index ∷ []) ≡ length indexes + 1
count_more indexes index = omega (arith, length-append indexes (index ∷ []))

-- what is kept of one more index
pub one_more : (choices : JoinChoices) (indexes : List Index) (index : Index) (new : Gathered)
    → IsAdded (gathered choices indexes) index new → new ≡ gathered choices (indexes ++ index ∷ [])
one_more choices indexes index new added =
    let count : new.count ≡ length (indexes ++ index ∷ []) = added.count ∙ sym (count_more indexes index) in
    let metadata : new.metadata ≡ first_metadata (indexes ++ index ∷ []) =
    added.metadata ∙ sym (metadata_more indexes index) in
    let pieces : new.pieces ≡ map piece_of (numbered_documents (indexes ++ index ∷ [])) =
    added.pieces ∙ sym (pieces_more indexes index) in
    let externals : new.externals ≡ all_externals (indexes ++ index ∷ []) =
    added.externals ∙ sym (externals_more indexes index) in
    λ i. record {
      choices = added.choices i;
      count = count i;
      metadata = metadata i;
      pieces = pieces i;
      externals = externals i;
    }

-- ---- another root is told just where there is one

apart : (a b : Bool) → (not a && not b) ≡ true → (a ≡ false) × (b ≡ false)
apart true b e = absurd (false≢true e)
apart false true e = absurd (false≢true e)
apart false false e = (refl, refl)

apart_of : (asked : Option (List ℕ)) (count : ℕ) (first own : List ℕ) → is_other_of asked count first own ≡ true
    → (asked ≡ None) × (count ≢ 0) × (first ≢ own)
apart_of (Some root) count first own is = absurd (false≢true is)
apart_of None count first own is =
    let parts = apart (nat_eq count 0) (bytes_eq first own) is in (
      refl,
      λ e. false≢true (sym parts.0 ∙ ap (λ (n : ℕ). nat_eq n 0) e),
      λ e. false≢true (sym parts.1 ∙ bytes_equal first own e),
    )

other_told : (choices : JoinChoices) (indexes : List Index) (index : Index)
    → is_other (gathered choices indexes) index.metadata ≡ true → HasOtherRoot choices indexes index
other_told choices [] index is =
    absurd ((apart_of choices.project_root 0 (root_of None) (root_of index.metadata) is).1 refl)
other_told choices (i ∷ indexes) index is =
    let parts = apart_of choices.project_root (length (i ∷ indexes)) (root_of i.metadata) (root_of index.metadata) is in
    record { none_asked = parts.0; differs = λ e. parts.2 (sym e) }

bytes_differ : (a b : List ℕ) → a ≢ b → bytes_eq a b ≡ false
bytes_differ a b differs = elim (cases_Bool (bytes_eq a b)) [
  | inl holds ↦ absurd (differs (equal_bytes a b holds))
  | inr fails ↦ fails
]

told_other : (choices : JoinChoices) (indexes : List Index) (index : Index) → HasOtherRoot choices indexes index
    → is_other (gathered choices indexes) index.metadata ≡ true
told_other choices [] index other = absurd (other.differs refl)
told_other choices (i ∷ indexes) index other =
    let first = root_of i.metadata in
    let own = root_of index.metadata in
    subst (λ (asked : Option (List ℕ)). is_other_of asked (length (i ∷ indexes)) first own ≡ true)
    (sym other.none_asked)
    (ap₂ (λ a b. not a && not b) (not_zero (length indexes))
    (bytes_differ first own (λ e. other.differs (sym e))))

module _ (choices : JoinChoices) (indexes : List Index) (index : Index) (old : Gathered) (b : Bool)
    (is : old ≡ gathered choices indexes) (tells : b ≡ is_other old index.metadata) where
  pub told : b ≡ true → HasOtherRoot choices indexes index
  told e =
      other_told choices indexes index
      (subst (λ (g : Gathered). is_other g index.metadata ≡ true) is (sym tells ∙ e))

  pub untold : b ≡ false → HasOtherRoot choices indexes index → ⊥
  untold e other =
      false≢true (sym e ∙ tells ∙ subst (λ (g : Gathered). is_other g index.metadata ≡ true) (sym is)
      (told_other choices indexes index other))

-- ---- so is another encoding

module _ (choices : JoinChoices) (indexes : List Index) (index : Index) (old : Gathered) (b : Bool)
    (is : old ≡ gathered choices indexes)
    (tells : b ≡ contradict (encoding_of old.metadata) (encoding_of index.metadata)) where
  as_first : b ≡ contradict (encoding_of (first_metadata indexes)) (encoding_of index.metadata)
  as_first = tells ∙ ap (λ (g : Gathered). contradict (encoding_of g.metadata) (encoding_of index.metadata)) is

  pub said : b ≡ true → HasOtherEncoding indexes index
  said e = sym as_first ∙ e

  pub unsaid : b ≡ false → HasOtherEncoding indexes index → ⊥
  unsaid e other = false≢true (sym e ∙ as_first ∙ other)
