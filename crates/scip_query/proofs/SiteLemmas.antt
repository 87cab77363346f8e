-- Places and the sites that they stand for.
use Rattle.std.proofs.Common.{◌≡◌, ℕ, ◌+◌, Bool, true, false, not, ◌&&◌, ◌||◌, ◌==◌, List, [], ◌∷◌, ◌++◌, length, map}
use Rattle.std.proofs.Common.{cond, refl, sym, ◌∙◌, ap, subst, append_assoc, arith}
use Rattle.std.specs.Prelude.{Option, None, Some}
use Rattle.std.specs.List.{filter, find, slice_get, AllZip, range_with_len, enumerate_from, flat_map}
use Rattle.std.specs.List.Sorted.{IsNonDecreasingBy}
use Rattle.std.specs.Option.{option_and_then, option_map}
use Rattle.std.specs.Ordering.{nat_cmp, is_eq}
use Rattle.std.specs.Cmp.Lexicographic.{slice_cmp}
use Rattle.std.specs.Str.{bytes_eq}
use Rattle.std.proofs.lemmas.List.{length_push}
use Rattle.std.proofs.lemmas.Map.Text.{is_eq-slice_cmp}
use Rattle.std.proofs.lemmas.Bool.Decides.{nat_tests}
use Rattle.scip_records.specs.declared.records.Index.{Index}
use Rattle.scip_records.specs.declared.records.Document.{Document}
use Rattle.scip_records.specs.declared.records.Occurrence.{Occurrence}
use Rattle.scip_query.specs.declared.place.Place.{Place}
use Rattle.scip_query.specs.Sites.{Site, Numbered, numbered_documents, document_named, sites_in, sites_of}
use Rattle.scip_query.specs.OccurrenceAt.{Subject}
use Rattle.scip_query.specs.References.{is_local, is_of, is_definition, references_of, definitions_of}
use Rattle.scip_query.specs.Tables.{numbers, places_in, places_from, path_or_none, symbol_or_none, path_listed}
use Rattle.scip_query.specs.Tables.{symbol_listed, occurrence_listed}
use Rattle.scip_query.specs.Tables.Searches.{numbered_listed, site_or_none, site_listed}
use Rattle.scip_query.specs.Tables.{defines_listed, definition_or_not}
use Rattle.basics.proofs.RisingLemmas.{IsRising, rising_from_less, rising_same, rising_filtered}
use Rattle.scip_query.proofs.TableZipLemmas.{slice_get_at, zip_append, zip_filter, zip_find}

zip_map : {A B : Type 0} (R : A → B → Type 0) (f : B → A) → ((a : A) (b : B) → R a b → a ≡ f b)
    → (xs : List A) (ys : List B) → AllZip R xs ys → xs ≡ map f ys
zip_map R f is [] [] all = refl
zip_map R f is [] (y ∷ ys) all = absurd all
zip_map R f is (x ∷ xs) [] all = absurd all
zip_map R f is (x ∷ xs) (y ∷ ys) all = ap (λ a. a ∷ xs) (is x y all.0) ∙ ap (λ l. f y ∷ l) (zip_map R f is xs ys all.1)

filter_both : {X : Type 0} (p q : X → Bool) (xs : List X) → filter q (filter p xs) ≡ filter (λ x. p x && q x) xs
filter_both p q [] = refl
filter_both p q (x ∷ xs) = by (filter_both p q xs) (p x) refl where
  by : filter q (filter p xs) ≡ filter (λ y. p y && q y) xs → (b : Bool) → p x ≡ b
      → filter q (filter p (x ∷ xs)) ≡ filter (λ y. p y && q y) (x ∷ xs)
  by rest true passes = rw passes (ap (λ l. cond (q x) (x ∷ l) l) rest)
  by rest false fails = rw fails rest

-- ---- numbers of documents

zip_numbered : (front rest : List Document)
    → AllZip (λ n (d : Numbered). numbered_listed (front ++ rest) n ≡ Some d)
    (range_with_len (length front) (length rest))
    (map (λ (d : ℕ × Document). record { number = d.0; document = d.1 }) (enumerate_from (length front) rest))
zip_numbered front [] = tt
zip_numbered front (d ∷ rest) =
    let mk : ℕ × Document → Numbered = λ e. record { number = e.0; document = e.1 } in
    let numbered : Document → Numbered = λ x. record { number = length front; document = x } in
    let listed = λ (l : List Document) (n : ℕ) (x : Numbered). numbered_listed l n ≡ Some x in (
      ap (option_map numbered) (slice_get_at front d rest),
      subst (λ n. AllZip (listed (front ++ d ∷ rest)) (range_with_len n (length rest)) (map mk (enumerate_from n rest)))
          (length_push front d)
          (subst (λ l. AllZip (listed l) (range_with_len (length (front ++ d ∷ [])) (length rest))
          (map mk (enumerate_from (length (front ++ d ∷ [])) rest))) (append_assoc front (d ∷ []) rest)
          (zip_numbered (front ++ d ∷ []) rest)),
    )

-- the first number of a path stands for the document that the path names
pub named_by_number : (index : Index) (path : List ℕ)
    → option_and_then (numbered_listed index.documents)
    (find (λ n. is_eq (slice_cmp nat_cmp (path_listed index.documents n) path)) (numbers (length index.documents)))
    ≡ document_named index path
named_by_number index path =
    zip_find (numbered_listed index.documents) (λ n. is_eq (slice_cmp nat_cmp (path_listed index.documents n) path))
    (λ (d : Numbered). bytes_eq d.document.relative_path path)
    alike (numbers (length index.documents)) (numbered_documents index) (zip_numbered [] index.documents) where
      by : (n : ℕ) (d : Numbered) (o : Option Document) → slice_get index.documents n ≡ o
          → option_map (λ (x : Document). record { number = n; document = x }) o ≡ Some d
          → is_eq (slice_cmp nat_cmp (path_listed index.documents n) path) ≡ bytes_eq d.document.relative_path path
      by n d None none e = cc
      by n d (Some x) some e =
          let shown : Numbered = record { number = n; document = x } in
          let same : shown ≡ d = cc in
          ap (λ (o : Option Document). is_eq (slice_cmp nat_cmp (path_or_none o) path)) some
          ∙ is_eq-slice_cmp x.relative_path path
          ∙ ap (λ (m : Numbered). bytes_eq m.document.relative_path path) same

      alike : (n : ℕ) (d : Numbered) → numbered_listed index.documents n ≡ Some d
          → is_eq (slice_cmp nat_cmp (path_listed index.documents n) path) ≡ bytes_eq d.document.relative_path path
      alike n d e = by n d (slice_get index.documents n) refl e

-- ---- places of occurrences

zip_in : (documents : List Document) (number : ℕ) (d : Document) → slice_get documents number ≡ Some d
    → (front rest : List Occurrence) → d.occurrences ≡ front ++ rest
    → AllZip (λ (place : Place) (site : Site). site_listed documents place ≡ Some site)
    (map (λ (k : ℕ). record { document = number; occurrence = k }) (range_with_len (length front) (length rest)))
    (map (λ (o : ℕ × Occurrence). record
    { place = record { document = number; occurrence = o.0 }; document = d; occurrence = o.1 })
    (enumerate_from (length front) rest))
zip_in documents number d at front [] all = tt
zip_in documents number d at front (o ∷ rest) all =
    let place : ℕ → Place = λ k. record { document = number; occurrence = k } in
    let site : ℕ × Occurrence → Site = λ e. record { place = place e.0; document = d; occurrence = e.1 } in
    let here : site_listed documents (place (length front)) ≡ Some (site (length front, o)) =
    ap (site_or_none (place (length front))) at
    ∙ ap (option_map (λ (x : Occurrence). site (length front, x)))
    (ap (λ l. slice_get l (length front)) all ∙ slice_get_at front o rest) in (
      here,
      subst (λ n. AllZip (λ (p : Place) (s : Site). site_listed documents p ≡ Some s)
          (map place (range_with_len n (length rest))) (map site (enumerate_from n rest))) (length_push front o)
          (zip_in documents number d at (front ++ o ∷ []) rest (all ∙ sym (append_assoc front (o ∷ []) rest))),
    )

zip_sites : (front rest : List Document)
    → AllZip (λ (place : Place) (site : Site). site_listed (front ++ rest) place ≡ Some site)
    (places_from (length front) rest)
    (flat_map sites_in (map (λ (d : ℕ × Document). record { number = d.0; document = d.1 })
    (enumerate_from (length front) rest)))
zip_sites front [] = tt
zip_sites front (d ∷ rest) =
    let mk : ℕ × Document → Numbered = λ e. record { number = e.0; document = e.1 } in
    let listed = λ (l : List Document) (p : Place) (s : Site). site_listed l p ≡ Some s in
    zip_append (listed (front ++ d ∷ rest)) (places_in (length front) d) (sites_in (mk (length front, d)))
    (places_from (length front + 1) rest)
    (flat_map sites_in (map mk (enumerate_from (length front + 1) rest)))
    (zip_in (front ++ d ∷ rest) (length front) d (slice_get_at front d rest) [] d.occurrences refl)
    (subst (λ n. AllZip (listed (front ++ d ∷ rest)) (places_from n rest)
    (flat_map sites_in (map mk (enumerate_from n rest)))) (length_push front d)
    (subst (λ l. AllZip (listed l) (places_from (length (front ++ d ∷ [])) rest)
    (flat_map sites_in (map mk (enumerate_from (length (front ++ d ∷ [])) rest))))
    (append_assoc front (d ∷ []) rest)
    (zip_sites (front ++ d ∷ []) rest)))

-- the places of an index stand for its sites
pub places_stand : (index : Index)
    → AllZip (λ (place : Place) (site : Site). site_listed index.documents place ≡ Some site)
    (places_from 0 index.documents) (sites_of index)
places_stand index = zip_sites [] index.documents

-- a place that stands for a site is the site's own, and lists its occurrence
pub record Stands (documents : List Document) (place : Place) (site : Site) : Type 0 where
  pub place_is : place ≡ site.place
  pub listed : occurrence_listed documents place ≡ Some site.occurrence
  pub document_is : slice_get documents place.document ≡ Some site.document

pub stands : (documents : List Document) (place : Place) (site : Site) → site_listed documents place ≡ Some site
    → Stands documents place site
stands documents place site e = by (slice_get documents place.document) refl e where
  by : (o : Option Document) → slice_get documents place.document ≡ o → site_or_none place o ≡ Some site
      → Stands documents place site
  by None none f = absurd cc
  by (Some d) some f = within (slice_get d.occurrences place.occurrence) refl f where
    within : (x : Option Occurrence) → slice_get d.occurrences place.occurrence ≡ x
        → option_map (λ (v : Occurrence). record { place = place; document = d; occurrence = v }) x ≡ Some site
        → Stands documents place site
    within None nothing g = absurd cc
    within (Some v) there g =
        let shown : Site = record { place = place; document = d; occurrence = v } in
        let same : shown ≡ site = cc in
        record {
          place_is = ap (λ (s : Site). s.place) same;
          listed = ap (option_and_then (λ (x : Document). slice_get x.occurrences place.occurrence)) some ∙ there
              ∙ ap (λ (s : Site). Some s.occurrence) same;
          document_is = some ∙ ap (λ (s : Site). Some s.document) same;
        }

-- places that stand for sites are the sites' places
pub places_are : (documents : List Document) (places : List Place) (sites : List Site)
    → AllZip (λ (place : Place) (site : Site). site_listed documents place ≡ Some site) places sites
    → places ≡ map (λ (s : Site). s.place) sites
places_are documents places sites all =
    zip_map (λ (place : Place) (site : Site). site_listed documents place ≡ Some site) (λ (s : Site). s.place)
    (λ place site e. (stands documents place site e).place_is) places sites all

and_true : (b : Bool) → b ≡ (b && true)
and_true true = refl
and_true false = refl

or_false : (b : Bool) → b ≡ (false || b)
or_false b = refl

is_eq_nat : (a b : ℕ) → is_eq (nat_cmp a b) ≡ (a == b)
is_eq_nat a b = grind (arith, nat_tests)

-- the places with a symbol stand for the sites with it
has_symbol : (index : Index) (symbol : List ℕ)
    → AllZip (λ (place : Place) (site : Site). site_listed index.documents place ≡ Some site)
    (filter (λ (place : Place). is_eq (slice_cmp nat_cmp (symbol_listed index.documents place) symbol))
    (places_from 0 index.documents))
    (filter (λ (s : Site). bytes_eq s.occurrence.symbol symbol) (sites_of index))
has_symbol index symbol =
    zip_filter (λ (place : Place) (site : Site). site_listed index.documents place ≡ Some site)
    (λ (place : Place). is_eq (slice_cmp nat_cmp (symbol_listed index.documents place) symbol))
    (λ (s : Site). bytes_eq s.occurrence.symbol symbol)
    (λ place site e. ap (λ (o : Option Occurrence). is_eq (slice_cmp nat_cmp (symbol_or_none o) symbol))
    (stands index.documents place site e).listed ∙ is_eq-slice_cmp site.occurrence.symbol symbol)
    (places_from 0 index.documents) (sites_of index) (places_stand index)

-- of a symbol that isn't local, and of one that is
pub global_places : (index : Index) (subject : Subject) → is_local subject.symbol ≡ false
    → AllZip (λ (place : Place) (site : Site). site_listed index.documents place ≡ Some site)
    (filter (λ (place : Place). is_eq (slice_cmp nat_cmp (symbol_listed index.documents place) subject.symbol))
    (places_from 0 index.documents))
    (references_of index subject)
global_places index subject global =
    subst (AllZip (λ (place : Place) (site : Site). site_listed index.documents place ≡ Some site)
    (filter (λ (place : Place). is_eq (slice_cmp nat_cmp (symbol_listed index.documents place) subject.symbol))
    (places_from 0 index.documents)))
    (λ i. filter (λ (s : Site). same s i) (sites_of index)) (has_symbol index subject.symbol) where
      same : (s : Site) → bytes_eq s.occurrence.symbol subject.symbol ≡ is_of subject s
      same s = and_true (bytes_eq s.occurrence.symbol subject.symbol)
          ∙ ap (λ b. bytes_eq s.occurrence.symbol subject.symbol
          && (not b || (s.place.document == subject.asked.number))) (sym global)

pub local_places : (index : Index) (subject : Subject) → is_local subject.symbol ≡ true
    → AllZip (λ (place : Place) (site : Site). site_listed index.documents place ≡ Some site)
    (filter (λ (place : Place). is_eq (nat_cmp place.document subject.asked.number))
    (filter (λ (place : Place). is_eq (slice_cmp nat_cmp (symbol_listed index.documents place) subject.symbol))
    (places_from 0 index.documents)))
    (references_of index subject)
local_places index subject local =
    let R : Place → Site → Type 0 = λ place site. site_listed index.documents place ≡ Some site in
    let with_symbol : List Place =
    filter (λ (place : Place). is_eq (slice_cmp nat_cmp (symbol_listed index.documents place) subject.symbol))
    (places_from 0 index.documents) in
    let found : List Place =
    filter (λ (place : Place). is_eq (nat_cmp place.document subject.asked.number)) with_symbol in
    subst (AllZip R found)
    (filter_both (λ (s : Site). bytes_eq s.occurrence.symbol subject.symbol)
    (λ (s : Site). s.place.document == subject.asked.number) (sites_of index)
    ∙ (λ i. filter (λ (s : Site). same s i) (sites_of index)))
    (zip_filter R (λ (place : Place). is_eq (nat_cmp place.document subject.asked.number))
    (λ (s : Site). s.place.document == subject.asked.number)
    (λ place site e. ap (λ (p : Place). is_eq (nat_cmp p.document subject.asked.number))
    (stands index.documents place site e).place_is ∙ is_eq_nat site.place.document subject.asked.number)
    with_symbol (filter (λ (s : Site). bytes_eq s.occurrence.symbol subject.symbol) (sites_of index))
    (has_symbol index subject.symbol)) where
      same : (s : Site) → (bytes_eq s.occurrence.symbol subject.symbol && (s.place.document == subject.asked.number))
          ≡ is_of subject s
      same s = ap (λ b. bytes_eq s.occurrence.symbol subject.symbol
          && (not b || (s.place.document == subject.asked.number))) (sym local)

-- the places of a subject's references stand for them
pub references_stand : (index : Index) (subject : Subject)
    → AllZip (λ (place : Place) (site : Site). site_listed index.documents place ≡ Some site)
    (map (λ (s : Site). s.place) (references_of index subject)) (references_of index subject)
references_stand index subject = by (is_local subject.symbol) refl where
  by : (b : Bool) → is_local subject.symbol ≡ b
      → AllZip (λ (place : Place) (site : Site). site_listed index.documents place ≡ Some site)
      (map (λ (s : Site). s.place) (references_of index subject)) (references_of index subject)
  by true local =
      let all = local_places index subject local in
      subst (λ l. AllZip (λ (place : Place) (site : Site). site_listed index.documents place ≡ Some site) l
      (references_of index subject)) (places_are index.documents _ (references_of index subject) all) all
  by false global =
      let all = global_places index subject global in
      subst (λ l. AllZip (λ (place : Place) (site : Site). site_listed index.documents place ≡ Some site) l
      (references_of index subject)) (places_are index.documents _ (references_of index subject) all) all

-- those of its places that define a subject stand for its definitions
pub definitions_stand : (index : Index) (subject : Subject) (places : List Place)
    → AllZip (λ (place : Place) (site : Site). site_listed index.documents place ≡ Some site) places
    (references_of index subject)
    → AllZip (λ (place : Place) (site : Site). site_listed index.documents place ≡ Some site)
    (filter (defines_listed index.documents) places) (definitions_of index subject)
definitions_stand index subject places all =
    subst (AllZip (λ (place : Place) (site : Site). site_listed index.documents place ≡ Some site)
    (filter (defines_listed index.documents) places))
    (filter_both (is_of subject) (λ (s : Site). is_definition s.occurrence) (sites_of index))
    (zip_filter (λ (place : Place) (site : Site). site_listed index.documents place ≡ Some site)
    (defines_listed index.documents) (λ (s : Site). is_definition s.occurrence)
    (λ place site e. ap definition_or_not (stands index.documents place site e).listed) places
    (references_of index subject) all)

-- ---- places rise by their documents

rising_places : (n : ℕ) (documents : List Document) → IsRising (λ (p : Place). p.document) n (places_from n documents)
rising_places n [] = tt
rising_places n (d ∷ documents) =
    rising_same (λ (p : Place). p.document) n (λ k. record { document = n; occurrence = k }) (λ k. refl)
    (numbers (length d.occurrences)) (places_from (n + 1) documents)
    (rising_from_less (λ (p : Place). p.document) n (n + 1) (places_from (n + 1) documents) (omega arith)
    (rising_places (n + 1) documents))

-- the places that pass a test do
pub passing_rise : (documents : List Document) (p : Place → Bool)
    → IsNonDecreasingBy (λ (place : Place). place.document) (filter p (places_from 0 documents))
passing_rise documents p =
    rising_filtered (λ (place : Place). place.document) p 0 (places_from 0 documents) (rising_places 0 documents)

-- of places that are those of references, the defining ones are those of definitions
pub defining_are : (index : Index) (subject : Subject) (places : List Place)
    → places ≡ map (λ (s : Site). s.place) (references_of index subject)
    → filter (defines_listed index.documents) places ≡ map (λ (s : Site). s.place) (definitions_of index subject)
defining_are index subject places are =
    places_are index.documents (filter (defines_listed index.documents) places) (definitions_of index subject)
    (definitions_stand index subject places
    (subst (λ l. AllZip (λ (place : Place) (site : Site). site_listed index.documents place ≡ Some site) l
    (references_of index subject)) (sym are) (references_stand index subject)))
