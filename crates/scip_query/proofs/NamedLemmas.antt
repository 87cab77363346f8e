-- What a test keeps of occurrences and entries, one after another.
use Rattle.std.proofs.Common.{◌≡◌, ℕ, ◌+◌, ◌<◌, ◌≤◌, Bool, true, false, List, [], ◌∷◌, ◌++◌, length, map, drop}
use Rattle.std.proofs.Common.{get_or, refl, sym, ◌∙◌, ap, append_assoc, append-nil}
use Rattle.std.specs.List.{filter, flat_map, enumerate_from}
use Rattle.std.proofs.lemmas.List.{drop_all}
use Rattle.std.proofs.lemmas.List.Elements.{filter-append}
use Rattle.scip_records.specs.declared.records.Document.{Document}
use Rattle.scip_records.specs.declared.records.Index.{Index}
use Rattle.scip_records.specs.declared.records.SymbolInformation.{SymbolInformation}
use Rattle.scip_query.specs.Sites.{Site, Numbered, numbered_documents, sites_in, sites_of}
use Rattle.scip_query.specs.Named.{entries_named, is_named}
use Rattle.scip_query.specs.Tables.Named.{kept_if, kept_in, site_in}
use Rattle.scip_query.proofs.TableLemmas.{left_at}

-- one numbered thing more
pub pieces_on : {A X : Type 0} (f : ℕ × A → List X) (number : ℕ) (xs : List A) (x : A) (before after : List X)
    → number < length xs → x ≡ get_or xs number x → after ≡ before ++ f (number, x)
    → after ++ flat_map f (enumerate_from (number + 1) (drop (number + 1) xs))
    ≡ before ++ flat_map f (enumerate_from number (drop number xs))
pieces_on f number xs x before after inside is put =
    let rest = flat_map f (enumerate_from (number + 1) (drop (number + 1) xs)) in
    ap (λ l. l ++ rest) put ∙ append_assoc before (f (number, x)) rest
    ∙ ap (λ l. before ++ flat_map f (enumerate_from number l)) (sym (left_at xs number x inside is))

-- all of them
pub pieces_done : {A X : Type 0} (f : ℕ × A → List X) (number : ℕ) (xs : List A) (found all : List X)
    → length xs ≤ number → found ++ flat_map f (enumerate_from number (drop number xs)) ≡ all → found ≡ all
pieces_done f number xs found all past e =
    sym (append-nil found)
    ∙ ap (λ l. found ++ flat_map f (enumerate_from number l)) (sym (drop_all number xs past))
    ∙ e

-- what is kept of each is what a test keeps of all
pub kept_all : {X : Type 0} (test : X → Bool) (xs : List X) → flat_map (kept_if test) xs ≡ filter test xs
kept_all test [] = refl
kept_all test (x ∷ xs) = by (test x) refl (kept_all test xs) where
  by : (t : Bool) → test x ≡ t → flat_map (kept_if test) xs ≡ filter test xs
      → flat_map (kept_if test) (x ∷ xs) ≡ filter test (x ∷ xs)
  by true is rest = rw is (ap (λ l. x ∷ l) rest)
  by false is rest = rw is rest

kept_seen : {A X : Type 0} (test : X → Bool) (view : A → X) (xs : List A)
    → flat_map (λ a. kept_if test (view a)) xs ≡ filter test (map view xs)
kept_seen test view [] = refl
kept_seen test view (a ∷ xs) = by (test (view a)) refl (kept_seen test view xs) where
  by : (t : Bool) → test (view a) ≡ t → flat_map (λ x. kept_if test (view x)) xs ≡ filter test (map view xs)
      → flat_map (λ x. kept_if test (view x)) (a ∷ xs) ≡ filter test (map view (a ∷ xs))
  by true is rest = rw is (ap (λ l. view a ∷ l) rest)
  by false is rest = rw is rest

filter_pieces : {A X : Type 0} (test : X → Bool) (f : A → List X) (g : A → List X)
    → ((a : A) → g a ≡ filter test (f a)) → (xs : List A) → flat_map g xs ≡ filter test (flat_map f xs)
filter_pieces test f g same [] = refl
filter_pieces test f g same (a ∷ xs) =
    ap (λ l. l ++ flat_map g xs) (same a)
    ∙ ap (λ l. filter test (f a) ++ l) (filter_pieces test f g same xs)
    ∙ sym (filter-append test (f a) (flat_map f xs))

-- of all occurrences of an index
pub kept_sites : (index : Index) (test : Site → Bool)
    → flat_map (kept_in test) (numbered_documents index) ≡ filter test (sites_of index)
kept_sites index test =
    filter_pieces test sites_in (kept_in test)
    (λ (d : Numbered). kept_seen test (site_in d) (enumerate_from 0 d.document.occurrences)) (numbered_documents index)

-- of all entries of an index
pub kept_entries : (index : Index) (text : List ℕ)
    → flat_map (λ (d : Document). flat_map (kept_if (is_named text)) d.symbols) index.documents
    ++ flat_map (kept_if (is_named text)) index.external_symbols ≡ entries_named index text
kept_entries index text =
    let symbols : Document → List SymbolInformation = λ d. d.symbols in
    ap (λ l. l ++ flat_map (kept_if (is_named text)) index.external_symbols)
    (filter_pieces (is_named text) symbols (λ (d : Document). flat_map (kept_if (is_named text)) d.symbols)
    (λ (d : Document). kept_all (is_named text) d.symbols) index.documents)
    ∙ ap (λ l. filter (is_named text) (flat_map symbols index.documents) ++ l)
    (kept_all (is_named text) index.external_symbols)
    ∙ sym (filter-append (is_named text) (flat_map symbols index.documents) index.external_symbols)
