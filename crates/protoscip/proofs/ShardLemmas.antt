-- What is built of parts of a tree without faults are shards of the whole's index.
use Rattle.std.proofs.Common.{◌≡◌, ◌≢◌, ◌∙◌, ◌⊎◌, inl, inr, ℕ, ◌+◌, Bool, true, false, List, [], ◌∷◌, ◌++◌, length}
use Rattle.std.proofs.Common.{map}
use Rattle.std.proofs.Common.{ap, sym, refl, subst, arith, get_or, ◌||◌}
use Rattle.std.specs.List.{All, AllByRecursion, Contains, IsDistinct, flat_map, list_any, remove}
use Rattle.std.specs.List.Sorted.{IsPermutation}
use Rattle.std.specs.Ordering.{eq_by_cmp, nat_cmp}
use Rattle.std.specs.Cmp.Lexicographic.{slice_cmp}
use Rattle.std.proofs.lemmas.Bool.{cases_Bool, false≢true}
use Rattle.std.proofs.lemmas.Cmp.{eq_by_cmp_equiv, nat_list_cmp_total}
use Rattle.std.proofs.lemmas.Map.Keys.{IsDistinct-IsPermutation, IsDistinct-from_sorted}
use Rattle.std.proofs.lemmas.Slice.Eq.{bytes_eq-Decides}
use Rattle.std.proofs.lemmas.List.Elements.{Contains-get_or}
use Rattle.std.proofs.lemmas.List.{map-append, length-map}
use Rattle.std.proofs.lemmas.List.Sorted.{Contains-permutation, IsPermutation-cons}
use Rattle.std.proofs.lemmas.List.Sorted.{IsPermutation-map, IsPermutation-refl, IsPermutation-remove}
use Rattle.std.proofs.lemmas.List.Sorted.{IsPermutation-sym}
use Rattle.std.proofs.lemmas.List.Sorted.{IsPermutation-trans, length_permutation}
use Rattle.basics.proofs.ElementLemmas.{In, from_contained, from_flat_map, from_map, in_map}
use Rattle.basics.proofs.ElementLemmas.{contained as in_contained}
use Rattle.proto_decl.specs.Values.{Seen}
use Rattle.index_hooks.specs.declared.choice.Choice.{Choice}
use Rattle.scip_records.specs.declared.records.Document.{Document}
use Rattle.scip_records.specs.declared.records.Index.{Index}
use Rattle.scip_records.specs.declared.records.SymbolInformation.{SymbolInformation}
use Rattle.scip_model.specs.Packages.{ArePackages}
use Rattle.scip_join.specs.Joined.{all_externals, define, has_symbol}
use Rattle.scip_join.specs.Laws.{AreShards, IsInOrder, ShardsMakeTheWhole, all_documents}
use Rattle.scip_join.proofs.QueryLemmas.{in_flat_map}
use Rattle.scip_build.specs.Placing.{path_at}
use Rattle.scip_build.specs.Parts.{BuiltTree, HasDocuments, IsBuiltAlike, IsBuiltPart, IsBuiltTree, IsFaultless}
use Rattle.scip_build.specs.Parts.{PartsAreBuiltAlike, source_paths}
use Rattle.scip_build.specs.PlacingLaws.{BuiltIsInOrder}
use Rattle.scip_build.proofs.PartBuiltLemmas.{sorted_paths}
use Rattle.protoscip.specs.Shards.{AreBuiltParts, PartsMakeTheWhole, index_of}

-- two paths are one
abbrev same_path : List ℕ → List ℕ → Bool
same_path = eq_by_cmp (slice_cmp nat_cmp)

-- ---- lists of one length, of which one has all of the other, each once

module _ {X : Type 0} (key : X → List ℕ) where
  -- no other one has its key
  abbrev pub AreOnce : List X → Type 0
  AreOnce [] = Unit {0}
  AreOnce (x ∷ xs) = ((other : X) → In other xs → key x ≡ key other → ⊥) × AreOnce xs

  pub permuted : (xs ys : List X) → AreOnce xs → ((x : X) → In x xs → In x ys) → length xs ≡ length ys
      → IsPermutation xs ys
  permuted [] [] once all same = IsPermutation-refl []
  permuted [] (y ∷ ys) once all same = absurd (omega (arith, same))
  permuted (x ∷ xs) ys once all same =
      let at = in_contained ys x (all x (inl refl)) in
      let moved = IsPermutation-remove ys at.0 x at.1 (sym at.2) in
      let rest = permuted xs (remove ys at.0) once.1 (λ z there.
      by z there (remove ys at.0) (from_contained (x ∷ remove ys at.0) z
      (Contains-permutation ys (x ∷ remove ys at.0) z moved (in_contained ys z (all z (inr there))))))
      (omega (arith, same, length_permutation ys (x ∷ remove ys at.0) moved)) in
      IsPermutation-trans (x ∷ xs) (x ∷ remove ys at.0) ys (IsPermutation-cons x xs (remove ys at.0) rest)
      (IsPermutation-sym ys (x ∷ remove ys at.0) moved)
    where
      by : (z : X) → In z xs → (left : List X) → In z (x ∷ left) → In z left
      by z there left (inl is) = absurd (once.0 z there (ap key (sym is)))
      by z there left (inr behind) = behind

  every : {Y : Type 0} (P : Y → Type 0) (ys : List Y) → AllByRecursion P ys → (y : Y) → In y ys → P y
  every P [] all y there = absurd there
  every P (z ∷ ys) all y (inl is) = subst P (sym is) all.0
  every P (z ∷ ys) all y (inr there) = every P ys all.1 y there

  -- keys that differ are there once
  pub once_by_keys : (xs : List X) → IsDistinct same_path (map key xs) → AreOnce xs
  unfolding IsDistinct
  once_by_keys [] distinct = tt
  once_by_keys (x ∷ xs) distinct = (
    λ other there same. false≢true
        (sym (every (λ k. same_path (key x) k ≡ false) (map key xs) distinct.0 (key other) (in_map key other xs there))
        ∙ (ap (same_path (key x)) (sym same) ∙ (eq_by_cmp_equiv nat_list_cmp_total).refl (key x))),
    once_by_keys xs distinct.1,
  )

any_holds : {X : Type 0} (test : X → Bool) (x : X) (xs : List X) → In x xs → test x ≡ true → list_any test xs ≡ true
any_holds test x [] there holds = absurd there
any_holds test x (y ∷ xs) (inl is) holds = first (test y) (list_any test xs) (ap test (sym is) ∙ holds)
  where
    first : (a b : Bool) → a ≡ true → (a || b) ≡ true
    first true b e = refl
    first false b e = absurd (false≢true e)
any_holds test x (y ∷ xs) (inr there) holds = second (test y) (list_any test xs) (any_holds test x xs there holds)
  where
    second : (a b : Bool) → b ≡ true → (a || b) ≡ true
    second true b e = refl
    second false b e = e

-- ---- the documents of all parts

abbrev path_in : Document → List ℕ
path_in document = document.relative_path

abbrev sources_of : BuiltTree → List (List ℕ)
sources_of part = source_paths part.tree

paths_of_all : (at : List ℕ) (parts : List BuiltTree) → ((part : BuiltTree) → In part parts → HasDocuments part)
    → ((part : BuiltTree) → In part parts → part.settings.at ≡ at)
    → map path_in (all_documents (map index_of parts)) ≡ map (path_at at) (flat_map sources_of parts)
paths_of_all at [] have same = refl
paths_of_all at (part ∷ parts) have same =
    map-append path_in part.built.index.documents (all_documents (map index_of parts))
    ∙ (ap (λ l. l ++ map path_in (all_documents (map index_of parts)))
    (have part (inl refl) ∙ ap (λ folder. map (path_at folder) (sources_of part)) (same part (inl refl)))
    ∙ (ap (λ l. map (path_at at) (sources_of part) ++ l)
    (paths_of_all at parts (λ other there. have other (inr there)) (λ other there. same other (inr there)))
    ∙ sym (map-append (path_at at) (sources_of part) (flat_map sources_of parts))))

module _ (allows : Seen → Choice → Type 0) (laws : PartsAreBuiltAlike allows) (in_order : BuiltIsInOrder allows)
    (whole : BuiltTree) (is : IsBuiltTree allows whole) (free : IsFaultless allows whole is)
    (parts : List BuiltTree) (are : AreBuiltParts allows whole is parts) where
  abbrev shards_of : List Index
  shards_of = map index_of parts

  part_of : (part : BuiltTree) → In part parts → IsBuiltPart allows whole is part
  part_of part there = are.each part (in_contained parts part there)

  alike_of : (part : BuiltTree) → In part parts → IsBuiltAlike whole part
  alike_of part there = laws.parts whole is free part (part_of part there)

  paths_are : map path_in (all_documents shards_of) ≡ map (path_at whole.settings.at) (flat_map sources_of parts)
  paths_are = paths_of_all whole.settings.at parts
      (λ part there. laws.paths part (part_of part there).of_whole.is_tree (part_of part there).built (alike_of part there).none)
      (λ part there. (part_of part there).of_whole.set.same.at)

  same_paths : IsPermutation (map path_in (all_documents shards_of)) (map path_in whole.built.index.documents)
  same_paths =
      let moved = IsPermutation-map (path_at whole.settings.at) (flat_map sources_of parts) (source_paths whole.tree)
      are.parted in
      subst (λ l. IsPermutation l (map path_in whole.built.index.documents)) (sym paths_are)
      (subst (IsPermutation (map (path_at whole.settings.at) (flat_map sources_of parts)))
      (sym (laws.paths whole free.is_tree is free.none)) moved)

  distinct : IsDistinct same_path (map path_in (all_documents shards_of))
  distinct =
      let sorted = in_order whole.settings whole.tree whole.built is in
      IsDistinct-IsPermutation same_path (eq_by_cmp_equiv nat_list_cmp_total).symm
      (map path_in whole.built.index.documents) (map path_in (all_documents shards_of))
      (IsPermutation-sym (map path_in (all_documents shards_of)) (map path_in whole.built.index.documents) same_paths)
      (IsDistinct-from_sorted (slice_cmp nat_cmp) (map path_in whole.built.index.documents)
      (sorted_paths whole.built.index.documents sorted))

  of_shard : {Y : Type 0} (f : Index → List Y) (y : Y) → In y (flat_map f shards_of)
      → (part : BuiltTree) × In part parts × In y (f part.built.index)
  of_shard f y there =
      let from = from_flat_map f y shards_of there in
      let part = from_map index_of from.0 parts from.1 in
      (part.0, part.1, subst (λ i. In y (f i)) part.2 from.2)

  parted : IsPermutation (all_documents shards_of) whole.built.index.documents
  parted = permuted path_in (all_documents shards_of) whole.built.index.documents
      (once_by_keys path_in (all_documents shards_of) distinct)
      (λ document there.
      let part = of_shard (λ (i : Index). i.documents) document there in
      from_contained whole.built.index.documents document ((alike_of part.0 part.1).documents document
      (in_contained part.0.built.index.documents document part.2)))
      (sym (length-map (all_documents shards_of) path_in)
      ∙ (sym (length_permutation (map path_in (all_documents shards_of)) (map path_in whole.built.index.documents)
      same_paths) ∙ length-map whole.built.index.documents path_in))

  each : (entry : SymbolInformation) → Contains whole.built.index.external_symbols entry
      → Contains (all_externals shards_of) entry
  each entry listed =
      let comes = laws.externals whole is free entry listed in
      let among = Contains-permutation (source_paths whole.tree) (flat_map sources_of parts) comes.source
      (IsPermutation-sym (flat_map sources_of parts) (source_paths whole.tree) are.parted) comes.listed in
      let from = from_flat_map sources_of comes.source parts
      (from_contained (flat_map sources_of parts) comes.source among) in
      let has = comes.each from.0 (part_of from.0 from.1) (in_contained (sources_of from.0) comes.source from.2) in
      in_contained (all_externals shards_of) entry
      (in_flat_map (λ (i : Index). i.external_symbols) entry (index_of from.0) shards_of
      (in_map index_of from.0 parts from.1)
      (from_contained from.0.built.index.external_symbols entry has))

  own : (entry : SymbolInformation) → Contains (all_externals shards_of) entry
      → Contains whole.built.index.external_symbols entry
      ⊎ (define whole.built.index.documents entry.symbol ≡ true)
  own entry listed =
      let part = of_shard (λ (i : Index). i.external_symbols) entry
      (from_contained (all_externals shards_of) entry listed) in
      elim ((alike_of part.0 part.1).externals entry (in_contained part.0.built.index.external_symbols entry part.2)) [
        | inl there ↦ inl there
        | inr defined ↦ inr (any_holds (λ (d : Document). list_any (has_symbol entry.symbol) d.symbols) defined.document
            whole.built.index.documents (from_contained whole.built.index.documents defined.document defined.listed)
            (any_holds (has_symbol entry.symbol) entry defined.document.symbols
            (from_contained defined.document.symbols entry defined.has)
            ((bytes_eq-Decides entry.symbol entry.symbol).1 refl)))
      ]

  metadata : All (λ (shard : Index). shard.metadata ≡ whole.built.index.metadata) shards_of
  metadata k d within =
      let shard = get_or shards_of k d in
      let from = from_map index_of shard parts
      (from_contained shards_of shard (Contains-get_or shards_of k d within)) in
      ap (λ (i : Index). i.metadata) from.2 ∙ (alike_of from.0 from.1).metadata

  some : shards_of ≢ []
  some none = are.some (nothing parts none)
    where
      nothing : (ps : List BuiltTree) → map index_of ps ≡ [] → ps ≡ []
      nothing [] e = refl
      nothing (p ∷ ps) e = absurd (cc)

  pub shards_are : AreShards whole.built.index shards_of
  shards_are = record { some = some; metadata = metadata; parted = parted; each = each; own = own }

-- ---- the index is in order

from_any : {X : Type 0} (test : X → Bool) (xs : List X) → list_any test xs ≡ true
    → (x : X) × In x xs × (test x ≡ true)
from_any test [] holds = absurd (false≢true holds)
from_any {X = X} test (x ∷ xs) holds = by (test x) refl holds (from_any test xs)
  where
    by : (b : Bool) → test x ≡ b → (b || list_any test xs) ≡ true
        → (list_any test xs ≡ true → (y : X) × In y xs × (test y ≡ true)) → (y : X) × In y (x ∷ xs) × (test y ≡ true)
    by true is any more = (x, inl refl, is)
    by false is any more = let rest = more any in (rest.0, inr rest.1, rest.2)

module _ (allows : Seen → Choice → Type 0) (laws : PartsAreBuiltAlike allows) (in_order : BuiltIsInOrder allows)
    (whole : BuiltTree) (is : IsBuiltTree allows whole) (free : IsFaultless allows whole is)
    (packages : ArePackages whole.settings.«package») where
  undefined : (entry : SymbolInformation) → Contains whole.built.index.external_symbols entry
      → define whole.built.index.documents entry.symbol ≡ false
  undefined entry listed = elim (cases_Bool (define whole.built.index.documents entry.symbol)) [
    | inr fails ↦ fails
    | inl holds ↦ (
        let document = from_any (λ (d : Document). list_any (has_symbol entry.symbol) d.symbols)
        whole.built.index.documents holds in
        let other = from_any (has_symbol entry.symbol) document.0.symbols document.2 in
        absurd ((laws.apart whole is free packages).undefined entry other.0 listed (record {
          document = document.0;
          listed = in_contained whole.built.index.documents document.0 document.1;
          has = in_contained document.0.symbols other.0 other.1;
        }) ((bytes_eq-Decides other.0.symbol entry.symbol).0 other.2)))
  ]

  pub is_in_order : IsInOrder whole.built.index
  is_in_order = record {
    by_path = in_order whole.settings whole.tree whole.built is;
    by_symbol = (laws.apart whole is free packages).by_symbol;
    undefined = undefined;
  }

pub parts_make_the_whole : (allows : Seen → Choice → Type 0) → PartsAreBuiltAlike allows → BuiltIsInOrder allows
    → ShardsMakeTheWhole → PartsMakeTheWhole allows
parts_make_the_whole allows laws in_order joined = record {
  shards = λ whole is free parts are. shards_are allows laws in_order whole is free parts are;
  join = λ whole is free packages parts are.
      joined.join whole.built.index (map index_of parts) (is_in_order allows laws in_order whole is free packages)
      (shards_are allows laws in_order whole is free parts are);
}
