-- The sites of an index, and the symbol that a query about a position asks for.
use Rattle.std.proofs.Common.{◌≡◌, ◌∙◌, ℕ, ◌+◌, ◌<◌, List, [], ◌∷◌, Option, Some, None, Result, Ok, Err, ap, sym, refl}
use Rattle.std.proofs.Common.{subst, arith}
use Rattle.std.specs.Prelude.{Bool, true, false, not, ◌&&◌, ◌||◌, ◌==◌, map, Contains}
use Rattle.std.specs.declared.cmp.Ordering.{Ordering}
use Rattle.std.specs.declared.cmp.Ordering.TheVariants.{Less}
use Rattle.std.specs.Ordering.{nat_cmp, ordering_then}
use Rattle.std.specs.Bool.{Decides}
use Rattle.std.specs.List.{slice_get, flat_map, filter, enumerate_from}
use Rattle.std.specs.List.Sorted.{IsStrictlySortedBy}
use Rattle.std.specs.Str.{bytes_eq}
use Rattle.std.proofs.lemmas.Bool.Decides.{Decides-and, Decides-like}
use Rattle.std.proofs.lemmas.Slice.Eq.{bytes_eq-Decides}
use Rattle.scip_records.specs.declared.records.Index.{Index}
use Rattle.scip_records.specs.declared.records.Document.{Document}
use Rattle.scip_records.specs.declared.records.Occurrence.{Occurrence}
use Rattle.scip_model.specs.Indexes.{IsAscendingListOf}
use Rattle.scip_query.specs.OccurrenceAt.{Subject, subject_at, subject_found, subject_of, occurrence_in, stands_at}
use Rattle.scip_query.specs.References.{is_local, is_of, is_definition}
use Rattle.scip_query.specs.Sites.{Site, Numbered, numbered_documents, sites_in, sites_of, document_named}
use Rattle.protoscip.specs.Headline.{IsSite, site_cmp}
use Rattle.protoscip.proofs.FindingListLemmas.{filtered, kept, found}
use Rattle.protoscip.proofs.HeadlineRisingLemmas.{from_numbered, to_numbered, from_flat, to_flat, below, level}
use Rattle.protoscip.proofs.HeadlineRisingLemmas.{before_all}
use Rattle.protoscip.proofs.HeadlineRisingLemmas.{rising_append, rising_filter}
use Rattle.basics.proofs.FirstLemmas.{contained, at_contained}

-- ---- what stands in an index

abbrev pub numbering : ℕ × Document → Numbered
numbering d = record { number = d.0; document = d.1 }

-- a numbered document stands at its number, from some number on
numbered_in : (n : ℕ) (documents : List Document) (d : Numbered)
    → Contains (map numbering (enumerate_from n documents)) d
    → (k : ℕ) × (d.number ≡ n + k) × (slice_get documents k ≡ Some d.document)
numbered_in n documents d there =
    let of = from_numbered numbering n documents there.0 d
    (at_contained (map numbering (enumerate_from n documents)) d there) in
    (there.0, ap (λ (e : Numbered). e.number) of.2, of.1 ∙ ap Some (sym (ap (λ (e : Numbered). e.document) of.2)))

numbered : (index : Index) (d : Numbered) → Contains (numbered_documents index) d
    → slice_get index.documents d.number ≡ Some d.document
numbered index d there =
    let of = numbered_in 0 index.documents d there in
    let same : of.0 ≡ d.number = omega (arith, of.1) in
    let At : ℕ → Type 0 = λ k. slice_get index.documents k ≡ Some d.document in
    subst At same of.2

abbrev pub siting : Numbered → ℕ × Occurrence → Site
siting d o = record {
  place = record { document = d.number; occurrence = o.0 };
  document = d.document;
  occurrence = o.1;
}

-- a site of some of a document's occurrences, from some number on
record IsSited (d : Numbered) (n : ℕ) (occurrences : List Occurrence) (site : Site) : Type 0 where
  k : ℕ
  of_number : site.place.document ≡ d.number
  of_document : site.document ≡ d.document
  place : site.place.occurrence ≡ n + k
  at : slice_get occurrences k ≡ Some site.occurrence

sited_in : (d : Numbered) (n : ℕ) (occurrences : List Occurrence) (site : Site)
    → Contains (map (siting d) (enumerate_from n occurrences)) site → IsSited d n occurrences site
sited_in d n occurrences site there =
    let of = from_numbered (siting d) n occurrences there.0 site
    (at_contained (map (siting d) (enumerate_from n occurrences)) site there) in
    record {
      k = there.0;
      of_number = ap (λ (s : Site). s.place.document) of.2;
      of_document = ap (λ (s : Site). s.document) of.2;
      place = ap (λ (s : Site). s.place.occurrence) of.2;
      at = of.1 ∙ ap Some (sym (ap (λ (s : Site). s.occurrence) of.2));
    }

-- what an index lists as a site is one,
site_from : (index : Index) (site : Site) → Contains (sites_of index) site → IsSite index site
site_from index site there =
    let of = from_flat sites_in (numbered_documents index) site there in
    let is = sited_in of.0 0 of.0.document.occurrences site of.2 in
    let same : is.k ≡ site.place.occurrence = omega (arith, is.place) in
    let At : ℕ → Type 0 = λ n. slice_get index.documents n ≡ Some of.0.document in
    let Has : ℕ → Type 0 = λ n. slice_get of.0.document.occurrences n ≡ Some site.occurrence in
    let In : Document → Type 0 = λ d. slice_get d.occurrences site.place.occurrence ≡ Some site.occurrence in
    record {
      document_is = subst At (sym is.of_number) (numbered index of.0 of.1) ∙ ap Some (sym is.of_document);
      occurrence_is = subst In (sym is.of_document) (subst Has same is.at);
    }

-- and each site is listed
site_to : (index : Index) (site : Site) → IsSite index site → Contains (sites_of index) site
site_to index site is =
    let d : Numbered = record { number = site.place.document; document = site.document } in
    let listed = to_numbered numbering 0 index.documents site.place.document site.document is.document_is in
    let there = to_numbered (siting d) 0 site.document.occurrences site.place.occurrence site.occurrence
    is.occurrence_is in
    let first : 0 + site.place.document ≡ site.place.document = omega arith in
    let second : 0 + site.place.occurrence ≡ site.place.occurrence = omega arith in
    let At : ℕ → Type 0 = λ n. slice_get (numbered_documents index) site.place.document
    ≡ Some (numbering (n, site.document)) in
    let Has : ℕ → Type 0 = λ n. slice_get (sites_in d) site.place.occurrence ≡ Some (siting d (n, site.occurrence)) in
    to_flat sites_in (numbered_documents index) site.place.document d site (subst At first listed)
    (contained (sites_in d) site.place.occurrence site (subst Has second there))

-- ---- the sites rise

earlier_document : (a b : Site) → a.place.document < b.place.document → site_cmp a b ≡ Less
earlier_document a b less =
    ap (λ (o : Ordering). ordering_then o (nat_cmp a.place.occurrence b.place.occurrence))
    (below a.place.document b.place.document less)

earlier_place : (a b : Site) → a.place.document ≡ b.place.document → a.place.occurrence < b.place.occurrence
    → site_cmp a b ≡ Less
earlier_place a b same less =
    ap (λ (n : ℕ). ordering_then (nat_cmp a.place.document n) (nat_cmp a.place.occurrence b.place.occurrence))
    (sym same)
    ∙ (ap (λ (o : Ordering). ordering_then o (nat_cmp a.place.occurrence b.place.occurrence)) (level a.place.document)
    ∙ below a.place.occurrence b.place.occurrence less)

rising_in : (d : Numbered) (n : ℕ) (occurrences : List Occurrence)
    → IsStrictlySortedBy site_cmp (map (siting d) (enumerate_from n occurrences))
unfolding IsStrictlySortedBy
rising_in d n [] = tt
rising_in d n (x ∷ xs) = (
  before_all site_cmp (siting d (n, x)) (map (siting d) (enumerate_from (n + 1) xs)) (λ y there.
      let is = sited_in d (n + 1) xs y there in
      let later : n < y.place.occurrence = omega (arith, is.place) in
      earlier_place (siting d (n, x)) y (sym is.of_number) later),
  rising_in d (n + 1) xs,
)

rising_from : (n : ℕ) (documents : List Document)
    → IsStrictlySortedBy site_cmp (flat_map sites_in (map numbering (enumerate_from n documents)))
unfolding IsStrictlySortedBy
rising_from n [] = tt
rising_from n (x ∷ xs) =
    let d : Numbered = numbering (n, x) in
    rising_append site_cmp (sites_in d) (flat_map sites_in (map numbering (enumerate_from (n + 1) xs)))
    (rising_in d 0 x.occurrences) (rising_from (n + 1) xs) (λ a b here there.
    let first = sited_in d 0 x.occurrences a here in
    let of = from_flat sites_in (map numbering (enumerate_from (n + 1) xs)) b there in
    let number = numbered_in (n + 1) xs of.0 of.1 in
    let second = sited_in of.0 0 of.0.document.occurrences b of.2 in
    let later : a.place.document < b.place.document = omega (arith, first.of_number, second.of_number, number.1) in
    earlier_document a b later)

-- ---- what is asked about

symbol_or : {E : Type 0} → Result Subject E → List ℕ
symbol_or (Ok subject) = subject.symbol
symbol_or (Err miss) = []

in_document : (d : Numbered) (here : Option Occurrence) (subject : Subject) → subject_found d here ≡ Ok subject
    → (o : Occurrence) × (here ≡ Some o) × (o.symbol ≡ subject.symbol)
unfolding symbol_or
in_document d None subject is = absurd (cc)
in_document d (Some o) subject is = (o, refl, ap symbol_or is)

of_document : (named : Option Numbered) (line column : ℕ) (subject : Subject)
    → subject_of named (record { line = line; column = column }) ≡ Ok subject
    → (d : Numbered) × (named ≡ Some d)
    × ((o : Occurrence) × (occurrence_in d.document (record { line = line; column = column }) ≡ Some o)
    × (o.symbol ≡ subject.symbol))
of_document None line column subject is = absurd (cc)
of_document (Some d) line column subject is =
    (d, refl, in_document d (occurrence_in d.document (record { line = line; column = column })) subject is)

-- the document that a path names, and the occurrence there that has the symbol asked
pub record IsAsked (index : Index) (path : List ℕ) (line column : ℕ) (subject : Subject) : Type 0 where
  pub named : Numbered
  pub occurrence : Occurrence
  pub document_is : document_named index path ≡ Some named
  pub stands : occurrence_in named.document (record { line = line; column = column }) ≡ Some occurrence
  pub listed : Contains index.documents named.document
  pub there : Contains named.document.occurrences occurrence
  pub symbol : occurrence.symbol ≡ subject.symbol

pub asked : (index : Index) (path : List ℕ) (line column : ℕ) (subject : Subject)
    → subject_at index path (record { line = line; column = column }) ≡ Ok subject
    → IsAsked index path line column subject
asked index path line column subject is =
    let of = of_document (document_named index path) line column subject is in
    let among = found (λ (d : Numbered). bytes_eq d.document.relative_path path) (numbered_documents index) of.0 of.1 in
    let o = of.2.0 in
    let innermost = found _ (filter (stands_at (record { line = line; column = column })) of.0.document.occurrences) o
    of.2.1 in
    record {
      named = of.0;
      occurrence = o;
      document_is = of.1;
      stands = of.2.1;
      listed = contained index.documents of.0.number of.0.document (numbered index of.0 among);
      there = (filtered (stands_at (record { line = line; column = column })) of.0.document.occurrences o innermost).0;
      symbol = of.2.2;
    }

-- ---- what is answered

module _ (subject : Subject) (global : is_local subject.symbol ≡ false) where
  pub of_symbol : (site : Site) → Decides (is_of subject site) (site.occurrence.symbol ≡ subject.symbol)
  of_symbol site =
      let own : Bool = site.place.document == subject.asked.number in
      let anywhere : (not (is_local subject.symbol) || own) ≡ true = ap (λ (b : Bool). not b || own) global in
      let Same : Type 0 = site.occurrence.symbol ≡ subject.symbol in
      Decides-like {P = Same × Unit {0}} {Q = Same} (is_of subject site) (λ both. both.0) (λ same. (same, tt))
      (Decides-and {P = Same} {Q = Unit {0}} (bytes_eq site.occurrence.symbol subject.symbol)
      (not (is_local subject.symbol) || own) (bytes_eq-Decides site.occurrence.symbol subject.symbol)
      (λ _. tt, λ _. anywhere))

  pub defining : (site : Site)
      → Decides (is_of subject site && is_definition site.occurrence)
      ((site.occurrence.symbol ≡ subject.symbol) × (is_definition site.occurrence ≡ true))
  defining site = Decides-and (is_of subject site) (is_definition site.occurrence) (of_symbol site) (λ e. e, λ e. e)

-- just the sites that pass a test, in order
pub just : (index : Index) (test : Site → Bool) (P : Site → Type 0) → ((site : Site) → Decides (test site) (P site))
    → IsAscendingListOf site_cmp (λ site. IsSite index site × P site) (filter test (sites_of index))
just index test P decides = record {
  exact = λ site. (
    λ there. let f = filtered test (sites_of index) site there in (site_from index site f.0, (decides site).0 f.1),
    λ both.
        let there = site_to index site both.0 in
        kept test (sites_of index) there.0 site (at_contained (sites_of index) site there) ((decides site).1 both.1),
  );
  ascends = rising_filter site_cmp test (sites_of index) (rising_from 0 index.documents);
}
