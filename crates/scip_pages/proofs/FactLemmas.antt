-- Facts that serve for a symbol.
use Rattle.std.proofs.Common.{◌≡◌, ◌∙◌, sym, refl, ap, ℕ, ◌==◌, Bool, true, false, not, ◌&&◌, ◌||◌}
use Rattle.std.proofs.Common.{cond, List, [], ◌++◌, map, length}
use Rattle.std.specs.Prelude.{Option, Some, nat_lt}
use Rattle.std.specs.List.{find, flat_map, slice_get, filter}
use Rattle.std.specs.Option.{option_map, option_and_then, unwrap_or}
use Rattle.std.specs.Str.{bytes_eq}
use Rattle.std.proofs.lemmas.Slice.Eq.{bytes_eq-Decides}
use Rattle.std.proofs.lemmas.Bool.{and_parts, ltb-true, eqb-true}
use Rattle.basics.proofs.ListLemmas.{item_at as get_some}
use Rattle.scip_records.specs.declared.records.Index.{Index}
use Rattle.scip_records.specs.declared.records.Document.{Document}
use Rattle.scip_records.specs.declared.records.SymbolInformation.{SymbolInformation}
use Rattle.scip_query.specs.Sites.{Site, sites_of}
use Rattle.scip_query.specs.OccurrenceAt.{Subject}
use Rattle.scip_query.specs.References.{is_local, references_of}
use Rattle.scip_query.specs.Entries.{entry_of}
use Rattle.scip_query.specs.BySymbol.{references_in, entry_in}
use Rattle.scip_query.specs.declared.place.Place.{Place}
use Rattle.scip_pages.specs.declared.facts.Fact.{Fact}
use Rattle.scip_pages.specs.Site.{Sources}
use Rattle.scip_pages.specs.Targets.{is_shown_definition}
use Rattle.scip_pages.specs.Facts.{Tells, IsFact, is_asked_alike, serves}

-- a symbol that is asked for in a document
abbrev asked_in : ℕ → List ℕ → Document → Subject
asked_in number symbol document =
    record { asked = record { number = number; document = document }; symbol = symbol }

-- ---- what is asked of a symbol that isn't local

-- its occurrences
abbrev everywhere : Index → List ℕ → List Place
everywhere index symbol =
    map (λ (site : Site). site.place)
    (filter (λ (site : Site). bytes_eq site.occurrence.symbol symbol && true) (sites_of index))

in_all : (index : Index) (symbol : List ℕ) (number : ℕ) (document : Document) → is_local symbol ≡ false
    → slice_get index.documents number ≡ Some document → references_in index number symbol ≡ everywhere index symbol
in_all index symbol number document global listed =
    ap (λ (o : Option Document). unwrap_or (option_map (λ (s : Subject). map (λ (site : Site). site.place)
    (references_of index s)) (option_map (asked_in number symbol) o)) []) listed
    ∙ ap (λ (b : Bool). map (λ (site : Site). site.place)
    (filter (λ (site : Site). bytes_eq site.occurrence.symbol symbol && (not b || (site.place.document == number)))
    (sites_of index))) global

-- its entry
abbrev pub described : Index → List ℕ → Option SymbolInformation
described index symbol =
    find (λ (entry : SymbolInformation). bytes_eq entry.symbol symbol)
    (flat_map (λ (d : Document). d.symbols) index.documents ++ index.external_symbols)

entry_in_all : (index : Index) (symbol : List ℕ) (number : ℕ) (document : Document) → is_local symbol ≡ false
    → slice_get index.documents number ≡ Some document → entry_in index number symbol ≡ described index symbol
entry_in_all index symbol number document global listed =
    ap (λ (o : Option Document). option_and_then (entry_of index) (option_map (asked_in number symbol) o)) listed
    ∙ ap (λ (b : Bool). find (λ (entry : SymbolInformation). bytes_eq entry.symbol symbol)
    (cond b document.symbols (flat_map (λ (d : Document). d.symbols) index.documents ++ index.external_symbols)))
    global

-- so what is asked of it is the same in all documents
alike : {Y : Type 0} (index : Index) (symbol : List ℕ) (asked : ℕ → Y) (answer : Y)
    → ((number : ℕ) (document : Document) → is_local symbol ≡ false
    → slice_get index.documents number ≡ Some document → asked number ≡ answer)
    → (a b : ℕ) → is_asked_alike (length index.documents) symbol a b ≡ true → asked a ≡ asked b
alike {Y = Y} index symbol asked answer anywhere a b e = by (a == b) (is_local symbol) refl refl e
  where
    by : (same local : Bool) → (a == b) ≡ same → is_local symbol ≡ local
        → cond same true (cond local false (nat_lt a (length index.documents) && nat_lt b (length index.documents)))
        ≡ true
        → asked a ≡ asked b
    by true local s l e = ap asked (eqb-true a b s)
    by false true s l e = absurd cc
    by false false s l e =
        let two = and_parts (nat_lt a (length index.documents)) (nat_lt b (length index.documents)) e in
        let here = get_some index.documents a (ltb-true a (length index.documents) two.0) in
        let there = get_some index.documents b (ltb-true b (length index.documents) two.1) in
        anywhere a here.0 l here.1 ∙ sym (anywhere b there.0 l there.1)

-- ---- facts

-- a fact that serves tells where the symbol is, and its entry
pub served_tells : (index : Index) (sources : Sources) (fact : Fact) (document : ℕ) (symbol : List ℕ)
    → IsFact index sources fact → serves fact (length index.documents) document symbol ≡ true
    → Tells index sources document symbol fact
served_tells index sources fact document symbol fine e =
    let two = and_parts (bytes_eq fact.symbol.now symbol)
    (is_asked_alike (length index.documents) symbol fact.document document) e in
    let is : fact.symbol.now ≡ symbol = (bytes_eq-Decides fact.symbol.now symbol).0 two.0 in
    let places : references_in index fact.document fact.symbol.now ≡ references_in index document symbol =
    ap (λ (s : List ℕ). references_in index fact.document s) is
    ∙ alike index symbol (λ (n : ℕ). references_in index n symbol) (everywhere index symbol) (in_all index symbol)
    fact.document document two.1 in
    let entries : entry_in index fact.document fact.symbol.now ≡ entry_in index document symbol =
    ap (λ (s : List ℕ). entry_in index fact.document s) is
    ∙ alike index symbol (λ (n : ℕ). entry_in index n symbol) (described index symbol)
    (entry_in_all index symbol) fact.document document two.1 in
    record {
      places_are = fine.places_are ∙ places;
      definition_is = fine.definition_is ∙ ap (find (is_shown_definition index sources)) places;
      entry_is = fine.entry_is ∙ entries;
    }
