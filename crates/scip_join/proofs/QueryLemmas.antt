-- What queries over a join answer.
use Rattle.std.proofs.Common.{◌≡◌, ◌⊎◌, inl, inr, ℕ, ◌+◌, Bool, true}
use Rattle.std.proofs.Common.{false, not, ◌&&◌, ◌||◌, List, [], ◌∷◌, ◌++◌, map}
use Rattle.std.proofs.Common.{refl, sym, ◌∙◌, ap, subst}
use Rattle.std.specs.List.{enumerate_from, filter, flat_map}
use Rattle.std.proofs.lemmas.List.{map-append}
use Rattle.std.proofs.lemmas.List.Elements.{filter-append}
use Rattle.basics.proofs.ElementLemmas.{In, from_map, from_flat_map}
use Rattle.basics.proofs.ElementLemmas.{contained, from_contained}
use Rattle.basics.proofs.ListLemmas.{map_twice}
use Rattle.scip_records.specs.declared.records.Index.{Index}
use Rattle.scip_records.specs.declared.records.Document.{Document}
use Rattle.scip_records.specs.declared.records.Occurrence.{Occurrence}
use Rattle.scip_query.specs.Sites.{Site, Numbered, numbered_documents, sites_in, sites_of}
use Rattle.scip_query.specs.References.{is_definition, is_of}
use Rattle.scip_join.specs.Joined.{IsLatest}
use Rattle.scip_join.specs.Queries.{shown, has, in_document, in_index, AnswersByDocument, AnswersTheUnion}
use Rattle.scip_join.proofs.JoinedLemmas.{filter_map_of}
use Rattle.scip_join.proofs.LawWellFormedLemmas.{from_latest}

abbrev Shown : Type 0
Shown = Document × Occurrence

-- ---- sites, document by document

-- of numbered items those that pass a test, without their numbers
numbered : {X Y : Type 0} (test : X → Bool) (f : X → Y) (n : ℕ) (xs : List X)
    → map (λ (p : ℕ × X). f p.1) (filter (λ (p : ℕ × X). test p.1) (enumerate_from n xs)) ≡ map f (filter test xs)
numbered test f n [] = refl
numbered {Y = Y} test f n (x ∷ xs) = by (test x) refl (numbered test f (n + 1) xs)
  where
    by : (b : Bool) → test x ≡ b
        → map (λ p. f p.1) (filter (λ p. test p.1) (enumerate_from (n + 1) xs)) ≡ map f (filter test xs)
        → map (λ p. f p.1) (filter (λ p. test p.1) (enumerate_from n (x ∷ xs))) ≡ map f (filter test (x ∷ xs))
    by true e rest = rw e (ap (λ (l : List Y). f x ∷ l) rest)
    by false e rest = rw e rest

module _ (keeps : Site → Bool) (test : Occurrence → Bool)
    (alike : (site : Site) → keeps site ≡ test site.occurrence) where
  filter_alike : (sites : List Site) → filter keeps sites ≡ filter (λ (site : Site). test site.occurrence) sites
  filter_alike sites = λ i. filter (λ site. alike site i) sites

  of_document : (d : Numbered) → map shown (filter keeps (sites_in d)) ≡ in_document test d.document
  of_document d =
      let site : ℕ × Occurrence → Site = λ o. record {
        place = record { document = d.number; occurrence = o.0 };
        document = d.document;
        occurrence = o.1;
      } in
      let all = enumerate_from 0 d.document.occurrences in
      ap (map shown) (filter_alike (map site all)
      ∙ filter_map_of (λ (s : Site). test s.occurrence) site all)
      ∙ map_twice shown site (filter (λ (o : ℕ × Occurrence). test o.1) all)
      ∙ numbered test (λ (o : Occurrence). (d.document, o)) 0 d.document.occurrences

  of_documents : (ds : List Numbered)
      → map shown (filter keeps (flat_map sites_in ds)) ≡ flat_map (λ (d : Numbered). in_document test d.document) ds
  of_documents [] = refl
  of_documents (d ∷ ds) =
      ap (map shown) (filter-append keeps (sites_in d) (flat_map sites_in ds))
      ∙ map-append shown (filter keeps (sites_in d)) (filter keeps (flat_map sites_in ds))
      ∙ ap (λ l. l ++ map shown (filter keeps (flat_map sites_in ds))) (of_document d)
      ∙ ap (λ l. in_document test d.document ++ l) (of_documents ds)

  without_numbers : (n : ℕ) (documents : List Document)
      → flat_map (λ (d : Numbered). in_document test d.document)
      (map (λ (d : ℕ × Document). record { number = d.0; document = d.1 }) (enumerate_from n documents))
      ≡ flat_map (in_document test) documents
  without_numbers n [] = refl
  without_numbers n (d ∷ documents) = ap (λ l. in_document test d ++ l) (without_numbers (n + 1) documents)

  pub by_document : (index : Index) → map shown (filter keeps (sites_of index)) ≡ in_index test index
  by_document index =
      of_documents (numbered_documents index) ∙ without_numbers 0 index.documents

either : (a b c : Bool) → c ≡ false → (a && (not c || b)) ≡ a
either true b true e = absurd cc
either true b false e = refl
either false b true e = refl
either false b false e = refl

defining : (a b c d : Bool) → c ≡ false → ((a && (not c || b)) && d) ≡ (a && d)
defining a b c d e = ap (λ x. x && d) (either a b c e)

pub answers_by_document : AnswersByDocument
answers_by_document index subject global = (
  by_document (is_of subject) (has subject.symbol)
      (λ site. either (has subject.symbol site.occurrence) _ _ global) index,
  by_document (λ (site : Site). is_of subject site && is_definition site.occurrence)
      (λ (o : Occurrence). has subject.symbol o && is_definition o)
      (λ site. defining (has subject.symbol site.occurrence) _ _ (is_definition site.occurrence) global) index,
)

-- ---- the union

pub in_append : {X : Type 0} (x : X) (xs ys : List X) → In x xs ⊎ In x ys → In x (xs ++ ys)
in_append x [] ys (inl is) = absurd is
in_append x [] ys (inr is) = is
in_append x (z ∷ xs) ys (inl (inl same)) = inl same
in_append x (z ∷ xs) ys (inl (inr is)) = inr (in_append x xs ys (inl is))
in_append x (z ∷ xs) ys (inr is) = inr (in_append x xs ys (inr is))

pub in_flat_map : {X Y : Type 0} (f : X → List Y) (y : Y) (x : X) (xs : List X) → In x xs → In y (f x)
    → In y (flat_map f xs)
in_flat_map f y x [] is there = absurd is
in_flat_map f y x (z ∷ xs) (inl same) there =
    in_append y (f z) (flat_map f xs) (inl (subst (λ w. In y (f w)) same there))
in_flat_map f y x (z ∷ xs) (inr is) there = in_append y (f z) (flat_map f xs) (inr (in_flat_map f y x xs is there))

-- the document of an occurrence that passes is the one where it is found
found_in : (test : Occurrence → Bool) (x : Shown) (d : Document) → In x (in_document test d) → x.0 ≡ d
found_in test x d is =
    let at = from_map (λ (o : Occurrence). (d, o)) x (filter test d.occurrences) is in
    ap (λ (y : Shown). y.0) at.2

in_own : (test : Occurrence → Bool) (x : Shown) (index : Index) → In x (in_index test index)
    → In x.0 index.documents × In x (in_document test x.0)
in_own test x index is =
    let at = from_flat_map (in_document test) x index.documents is in
    let same : x.0 ≡ at.0 = found_in test x at.0 at.2 in (
      subst (λ d. In d index.documents) (sym same) at.1,
      subst (λ d. In x (in_document test d)) (sym same) at.2,
    )

pub answers_the_union : AnswersTheUnion
answers_the_union root indexes joined test is x = (
  λ there.
      let own = in_own test x joined (from_contained (in_index test joined) x there) in
      let latest : IsLatest indexes x.0 = (is.documents x.0).0 (contained joined.documents x.0 own.0) in
      let from = from_latest indexes x.0 latest in
      record {
        latest = latest;
        index = from.0;
        one = from.1;
        found = contained (in_index test from.0) x
            (in_flat_map (in_document test) x x.0 from.0.documents
            (from_contained from.0.documents x.0 from.2) own.1);
      },
  λ of.
      let own = in_own test x of.index (from_contained (in_index test of.index) x of.found) in
      let there : In x.0 joined.documents =
      from_contained joined.documents x.0 ((is.documents x.0).1 of.latest) in
      contained (in_index test joined) x (in_flat_map (in_document test) x x.0 joined.documents there own.1),
)
