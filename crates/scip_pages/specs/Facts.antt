-- What is known of symbols, and of which of them a fact is.
use Rattle.std.specs.Prelude.{◌≡◌, ◌==◌, ℕ, Bool, true, false, cond, nat_lt, ◌&&◌, List, option_copied}
use Rattle.std.specs.List.{All}
use Rattle.std.specs.Str.{bytes_eq}
use Rattle.scip_records.specs.declared.records.Index.{Index}
use Rattle.scip_query.specs.References.{is_local}
use Rattle.scip_query.specs.BySymbol.{references_in, entry_in}
use Rattle.scip_pages.specs.declared.facts.Fact.{Fact}
use Rattle.scip_pages.specs.Site.{Sources}
use Rattle.scip_pages.specs.Targets.{definition_of}

-- a fact tells where a symbol is that is asked for in a document, and which is its entry
pub record Tells (index : Index) (sources : Sources) (document : ℕ) (symbol : List ℕ) (fact : Fact) : Type 0 where
  pub places_are : fact.places.now ≡ references_in index document symbol
  pub definition_is : fact.definition ≡ definition_of index sources document symbol
  pub entry_is : option_copied fact.information ≡ entry_in index document symbol

-- a fact is right
abbrev pub IsFact : Index → Sources → Fact → Type 0
IsFact index sources fact = Tells index sources fact.document fact.symbol.now fact

abbrev pub AreRight : Index → Sources → List Fact → Type 0
AreRight index sources facts = All (IsFact index sources) facts

-- A symbol that isn't local is one symbol in all documents, of which there are so many.
abbrev pub is_asked_alike : ℕ → List ℕ → (a b : ℕ) → Bool
is_asked_alike count symbol a b =
    cond (a == b) true (cond (is_local symbol) false (nat_lt a count && nat_lt b count))

abbrev pub serves : Fact → ℕ → ℕ → List ℕ → Bool
serves fact count document symbol =
    bytes_eq fact.symbol.now symbol && is_asked_alike count symbol fact.document document
