-- The shards of an index in order have it as their join.
use Rattle.std.proofs.Common.{◌≡◌, ◌≢◌, inl, inr, ℕ}
use Rattle.std.proofs.Common.{◌+◌, ◌≤◌, Bool, true, None, List, []}
use Rattle.std.proofs.Common.{◌∷◌, ◌++◌, length, map, reverse, refl, sym, ◌∙◌, ap, subst, arith}
use Rattle.std.specs.declared.cmp.Ordering.TheVariants.{Less}
use Rattle.std.specs.Ordering.{nat_cmp}
use Rattle.std.specs.Cmp.Lexicographic.{slice_cmp}
use Rattle.std.specs.List.{All, AllByRecursion, Contains, enumerate_from, filter, flat_map}
use Rattle.std.specs.List.Sorted.{IsStrictlySortedBy}
use Rattle.std.specs.Str.{bytes_eq}
use Rattle.std.proofs.lemmas.Bool.{cases_Bool, cond-true, cond-false, false≢true}
use Rattle.std.proofs.lemmas.List.{map-append, length-map}
use Rattle.std.proofs.lemmas.List.Sorted.{Contains-permutation, IsPermutation-reverse, IsPermutation-sym}
use Rattle.basics.proofs.ElementLemmas.{In, in_map, from_map, in_filter, from_filter, contained, from_contained}
use Rattle.basics.proofs.ListLemmas.{map_twice}
use Rattle.basics.proofs.StrictOrderLemmas.{not_below_itself}
use Rattle.scip_records.specs.declared.records.Index.{Index}
use Rattle.scip_records.specs.declared.records.Document.{Document}
use Rattle.scip_records.specs.declared.records.SymbolInformation.{SymbolInformation}
use Rattle.scip_join.specs.Joined.{documents_in, numbered_documents, has_path, latest_with}
use Rattle.scip_join.specs.Joined.{IsLatest, IsExternal, IsJoin, all_externals, define, has_symbol, first_metadata}
use Rattle.scip_join.specs.Refused.{AreOnce}
use Rattle.scip_join.specs.Laws.{all_documents, IsInOrder, AreShards, ShardsMakeTheWhole}
use Rattle.scip_join.proofs.TableLemmas.{equal_bytes, bytes_equal, cmp, total}
use Rattle.scip_join.proofs.JoinedLemmas.{filter_map_of}
use Rattle.scip_join.proofs.RefusedLemmas.{same_length}
use Rattle.scip_join.proofs.LawWellFormedLemmas.{in_turned}

abbrev Numbered : Type 0
Numbered = ℕ × Document

abbrev document_of : Numbered → Document
document_of n = n.1

-- ---- lists that rise strictly have each key once

module _ {X : Type 0} (key : X → List ℕ) where
  not_equal : (x y : X) → cmp key x y ≡ Less → key x ≡ key y → ⊥
  not_equal x y less same =
      not_below_itself (total key) x (subst (λ t. slice_cmp nat_cmp (key x) t ≡ Less) (sym same) less)

  above : (x : X) (xs : List X) → AllByRecursion (λ y. cmp key x y ≡ Less) xs → (y : X) → In y xs
      → cmp key x y ≡ Less
  above x [] all y is = absurd is
  above x (z ∷ xs) all y (inl e) = subst (λ w. cmp key x w ≡ Less) (sym e) all.0
  above x (z ∷ xs) all y (inr is) = above x xs all.1 y is

  pub one_with : (xs : List X) → IsStrictlySortedBy (cmp key) xs → (x y : X) → In x xs → In y xs → key x ≡ key y
      → x ≡ y
  unfolding IsStrictlySortedBy
  one_with [] up x y a b same = absurd a
  one_with (z ∷ xs) up x y (inl a) (inl b) same = a ∙ sym b
  one_with (z ∷ xs) up x y (inl a) (inr b) same =
      absurd (not_equal z y (above z xs up.0 y b) (ap key (sym a) ∙ same))
  one_with (z ∷ xs) up x y (inr a) (inl b) same =
      absurd (not_equal z x (above z xs up.0 x a) (ap key (sym b) ∙ sym same))
  one_with (z ∷ xs) up x y (inr a) (inr b) same = one_with xs up.1 x y a b same

  none_above : (k : List ℕ) (x : X) (xs : List X) → bytes_eq (key x) k ≡ true
      → AllByRecursion (λ y. cmp key x y ≡ Less) xs → filter (λ y. bytes_eq (key y) k) xs ≡ []
  none_above k x [] has all = refl
  none_above k x (y ∷ xs) has all = elim (cases_Bool (bytes_eq (key y) k)) [
    | inl holds ↦ absurd (not_equal x y all.0
        (equal_bytes (key x) k has ∙ sym (equal_bytes (key y) k holds)))
    | inr fails ↦ cond-false (bytes_eq (key y) k) (y ∷ filter (λ z. bytes_eq (key z) k) xs)
        (filter (λ z. bytes_eq (key z) k) xs) fails ∙ none_above k x xs has all.1
  ]

  pub once_in : (xs : List X) → IsStrictlySortedBy (cmp key) xs → (k : List ℕ)
      → length (filter (λ y. bytes_eq (key y) k) xs) ≤ 1
  unfolding IsStrictlySortedBy
  once_in [] up k = omega arith
  once_in (x ∷ xs) up k = elim (cases_Bool (bytes_eq (key x) k)) [
    | inl holds ↦ (let is : filter (λ z. bytes_eq (key z) k) (x ∷ xs) ≡ x ∷ [] =
        cond-true (bytes_eq (key x) k) (x ∷ filter (λ z. bytes_eq (key z) k) xs)
        (filter (λ z. bytes_eq (key z) k) xs) holds ∙ ap (λ l. x ∷ l) (none_above k x xs holds up.0) in
        omega (arith, ap length is))
    | inr fails ↦ (let is : filter (λ z. bytes_eq (key z) k) (x ∷ xs) ≡ filter (λ z. bytes_eq (key z) k) xs =
        cond-false (bytes_eq (key x) k) (x ∷ filter (λ z. bytes_eq (key z) k) xs)
        (filter (λ z. bytes_eq (key z) k) xs) fails in
        omega (arith, ap length is, once_in xs up.1 k))
  ]

-- ---- documents, with and without the numbers of their indexes

documents_from : (n : ℕ) (indexes : List Index)
    → map document_of (flat_map documents_in (enumerate_from n indexes)) ≡ all_documents indexes
documents_from n [] = refl
documents_from n (i ∷ indexes) =
    map-append document_of (documents_in (n, i)) (flat_map documents_in (enumerate_from (n + 1) indexes))
    ∙ ap (λ l. l ++ map document_of (flat_map documents_in (enumerate_from (n + 1) indexes)))
    (map_twice document_of (λ (d : Document). (n, d)) i.documents ∙ map_itself i.documents)
    ∙ ap (λ l. i.documents ++ l) (documents_from (n + 1) indexes)
  where
    map_itself : (ds : List Document) → map (λ (d : Document). d) ds ≡ ds
    map_itself [] = refl
    map_itself (d ∷ ds) = ap (λ l. d ∷ l) (map_itself ds)

abbrev has_this_path : List ℕ → Document → Bool
has_this_path path d = bytes_eq d.relative_path path

pub as_many : (indexes : List Index) (path : List ℕ)
    → length (latest_with indexes path) ≡ length (filter (has_this_path path) (all_documents indexes))
as_many indexes path =
    let all = numbered_documents indexes in
    same_length (has_path path) all (reverse all) (IsPermutation-reverse all)
    ∙ sym (length-map (filter (has_path path) all) document_of)
    ∙ ap length (sym (filter_map_of (has_this_path path) document_of all))
    ∙ ap (λ l. length (filter (has_this_path path) l)) (documents_from 0 indexes)

-- ---- shards

module _ (whole : Index) (shards : List Index) (order : IsInOrder whole) (are : AreShards whole shards) where
  pub once : AreOnce shards
  once path =
      let many : length (filter (has_this_path path) (all_documents shards))
      ≡ length (filter (has_this_path path) whole.documents) =
      sym (same_length (has_this_path path) (all_documents shards) whole.documents are.parted) in
      omega (
        arith,
        as_many shards path,
        many,
        once_in (λ (d : Document). d.relative_path) whole.documents order.by_path path,
      )

  from_latest : (d : Document) → IsLatest shards d → Contains whole.documents d
  from_latest d is =
      let there : In (is.index, d) (numbered_documents shards) =
      in_turned (is.index, d) (numbered_documents shards)
      (from_filter (has_path d.relative_path) (is.index, d) (reverse (numbered_documents shards))
      (subst (λ l. In (is.index, d) l) (sym is.latest) (inl refl))).0 in
      let among : In d (all_documents shards) =
      subst (λ l. In d l) (documents_from 0 shards)
      (in_map document_of (is.index, d) (numbered_documents shards) there) in
      Contains-permutation (all_documents shards) whole.documents d are.parted
      (contained (all_documents shards) d among)

  only_one : (n : Numbered) (l : List Numbered) → In n l → length l ≤ 1 → l ≡ n ∷ []
  only_one n [] is le = absurd is
  only_one n (m ∷ []) (inl e) le = ap (λ x. x ∷ []) (sym e)
  only_one n (m ∷ []) (inr is) le = absurd is
  only_one n (m ∷ k ∷ l) is le = absurd (omega (arith, le))

  to_latest : (d : Document) → Contains whole.documents d → IsLatest shards d
  to_latest d there =
      let among : In d (all_documents shards) =
      from_contained (all_documents shards) d (Contains-permutation whole.documents (all_documents shards) d
      (IsPermutation-sym (all_documents shards) whole.documents are.parted) there) in
      let at = from_map document_of d (numbered_documents shards)
      (subst (λ l. In d l) (sym (documents_from 0 shards)) among) in
      let all = numbered_documents shards in
      let turned : In at.0 (reverse all) =
      from_contained (reverse all) at.0 (Contains-permutation all (reverse all) at.0 (IsPermutation-reverse all)
      (contained all at.0 at.1)) in
      let passes : has_path d.relative_path at.0 ≡ true =
      bytes_equal at.0.1.relative_path d.relative_path (ap (λ (x : Document). x.relative_path) (sym at.2)) in
      let alone : latest_with shards d.relative_path ≡ at.0 ∷ [] =
      only_one at.0 (latest_with shards d.relative_path)
      (in_filter (has_path d.relative_path) at.0 passes (reverse all) turned) (once d.relative_path) in
      record {
        index = at.0.0;
        earlier = [];
        latest = alone ∙ ap (λ (x : Document). (at.0.0, x) ∷ []) (sym at.2);
      }

  from_external : (e : SymbolInformation) → IsExternal shards whole.documents e → Contains whole.external_symbols e
  from_external e is =
      let there : In e (all_externals shards) =
      (from_filter (has_symbol e.symbol) e (all_externals shards)
      (subst (λ l. In e l) (sym is.first) (inl refl))).0 in
      elim (are.own e (contained (all_externals shards) e there)) [
        | inl own ↦ own
        | inr defined ↦ absurd (false≢true (sym is.undefined ∙ defined))
      ]

  -- the first external entry of a symbol that the whole has is the whole's own
  is_own : (e h : SymbolInformation) → Contains whole.external_symbols e → In h (all_externals shards)
      → h.symbol ≡ e.symbol → h ≡ e
  is_own e h there is same = elim (are.own h (contained (all_externals shards) h is)) [
    | inl own ↦ one_with (λ (x : SymbolInformation). x.symbol) whole.external_symbols order.by_symbol h e
        (from_contained whole.external_symbols h own) (from_contained whole.external_symbols e there) same
    | inr defined ↦ absurd (false≢true
        (sym (order.undefined e there) ∙ ap (define whole.documents) (sym same) ∙ defined))
  ]

  to_external : (e : SymbolInformation) → Contains whole.external_symbols e → IsExternal shards whole.documents e
  to_external e there = by (filter (has_symbol e.symbol) (all_externals shards)) refl
    where
      among : In e (filter (has_symbol e.symbol) (all_externals shards))
      among = in_filter (has_symbol e.symbol) e (bytes_equal e.symbol e.symbol refl) (all_externals shards)
          (from_contained (all_externals shards) e (are.each e there))

      by : (l : List SymbolInformation) → filter (has_symbol e.symbol) (all_externals shards) ≡ l
          → IsExternal shards whole.documents e
      by [] is = absurd (subst (λ l. In e l) is among)
      by (h ∷ later) is =
          let at = from_filter (has_symbol e.symbol) h (all_externals shards)
          (subst (λ l. In h l) (sym is) (inl refl)) in
          let own : h ≡ e = is_own e h there at.0 (equal_bytes h.symbol e.symbol at.1) in
          record {
            later = later;
            first = is ∙ ap (λ x. x ∷ later) own;
            undefined = order.undefined e there;
          }

  metadata_is : whole.metadata ≡ first_metadata shards
  metadata_is = by shards are.some are.metadata
    where
      by : (all : List Index) → all ≢ [] → All (λ (shard : Index). shard.metadata ≡ whole.metadata) all
          → whole.metadata ≡ first_metadata all
      by [] some all = absurd (some refl)
      by (s ∷ rest) some all = sym (all 0 s (omega arith))

  pub join : IsJoin None shards whole
  join = record {
    metadata = metadata_is;
    documents = λ d. (to_latest d, from_latest d);
    by_path = order.by_path;
    externals = λ e. (to_external e, from_external e);
    by_symbol = order.by_symbol;
  }

pub make_the_whole : ShardsMakeTheWhole
make_the_whole = record { join = join; once = once }
