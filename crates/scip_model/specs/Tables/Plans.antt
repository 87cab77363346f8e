-- Documents of which each symbol's text is kept once: occurrences and entries have its number.
use Rattle.std.specs.Prelude.{◌≡◌, ℕ, ◌+◌, ◌-◌, List, [], ◌∷◌, ◌++◌, Option, Some, None, length, map}
use Rattle.std.specs.Prelude.{slice_index_or, if◌then◌else◌, nat_lt, nat_le, ◌&&◌, ◌==◌, ℤ}
use Rattle.std.specs.declared.cmp.Ordering.{Ordering}
use Rattle.std.specs.Ordering.{int_eq, on}
use Rattle.std.specs.List.{slice_get, range_with_len}
use Rattle.std.specs.Option.{option_map}
use Rattle.index_hooks.specs.declared.choice.Choice.{Choice}
use Rattle.proto_lex.specs.declared.position.Encoding.{Encoding}
use Rattle.proto_decl.specs.Facts.{Facts, extents_of}
use Rattle.proto_decl.specs.declared.detail.Detail.{Detail}
use Rattle.proto_decl.specs.declared.declaration.Declaration.{Declaration}
use Rattle.scip_records.specs.Details.{no_details}
use Rattle.scip_records.specs.Range.{RangeNumbers}
use Rattle.scip_records.specs.declared.records.Occurrence.{Occurrence}
use Rattle.scip_records.specs.declared.records.SymbolInformation.{SymbolInformation}
use Rattle.proto_visibility.specs.Files.{File, HasFacts}
use Rattle.scip_symbol.specs.Entities.{OfFile}
use Rattle.scip_symbol.specs.Entities as symbols
use Rattle.scip_symbol.specs.Package.{Package}
use Rattle.scip_model.specs.Detailed.{detail_at, details_shown, file_kind, kind_if_asked, package_kind, text_around}
use Rattle.scip_model.specs.Named.{Home, home_of_file, text_of, package_at}
use Rattle.scip_model.specs.OccurrenceOrder.{occurrence_cmp}
use Rattle.scip_model.specs.Packages.{Packages}
use Rattle.scip_model.specs.Occurs.{definition_role, range_over}
use Rattle.scip_model.specs.Tables.Additions.{Adds}
use Rattle.scip_model.specs.Tables.OwnTexts.{declaration_texts, entry_with}
use Rattle.scip_model.specs.declared.document_plan.PlannedOccurrence.{PlannedOccurrence}

-- the text with a number; where none has it, the empty one
abbrev pub text_at : List (List ℕ) → (number : ℕ) → List ℕ
text_at texts number = slice_index_or texts number []

-- the texts, and perhaps more behind them
abbrev pub Grown : (texts later : List (List ℕ)) → Type 0
Grown texts later = (more : List (List ℕ)) × (later ≡ texts ++ more)

-- the number is this text's, whatever the texts grow to
abbrev pub IsNumberOf : (texts : List (List ℕ)) → (text : List ℕ) → (number : ℕ) → Type 0
IsNumberOf texts text number = (later : List (List ℕ)) → Grown texts later → text_at later number ≡ text

-- the ranges over all of a source's declarations, if details are asked for, and the number of the first declaration's
-- symbol
pub record Around : Type 0 where
  pub first : ℕ
  pub ranges : List RangeNumbers

abbrev pub around_by : Facts → List RangeNumbers → Around
around_by facts ranges = record { first = 1 + length facts.package_name; ranges = ranges }

abbrev pub ranges_over : Encoding → (text : List ℕ) → Option (List Detail) → List RangeNumbers
ranges_over encoding text details = map (range_over encoding text) (extents_of details)

abbrev pub around_in : Encoding → (text : List ℕ) → Facts → Around
around_in encoding text facts = around_by facts (ranges_over encoding text facts.details)

-- the range around what has these roles and a symbol with this number: around a declaration's definition
abbrev pub range_around : Around → (roles : ℤ) → (number : ℕ) → Option RangeNumbers
range_around around roles number =
    if int_eq roles definition_role && nat_le around.first number
    then slice_get around.ranges (number - around.first) else None

-- what is planned, with its symbol's text
abbrev pub occurrence_of : Around → List (List ℕ) → PlannedOccurrence → Occurrence
occurrence_of around texts planned = record {
  range = planned.range;
  symbol = text_at texts planned.symbol;
  symbol_roles = planned.symbol_roles;
  enclosing_range = range_around around planned.symbol_roles planned.symbol;
}

-- the order of what is planned, which ranges around don't count for
abbrev pub planned_cmp : List (List ℕ) → PlannedOccurrence → PlannedOccurrence → Ordering
planned_cmp texts = on (occurrence_of (record { first = 0; ranges = [] }) texts) occurrence_cmp

-- what is planned is these occurrences, whatever the texts grow to
abbrev pub ArePlanned : Around → (texts : List (List ℕ)) → List PlannedOccurrence → List Occurrence → Type 0
ArePlanned around texts planned occurrences =
    (later : List (List ℕ)) → Grown texts later → map (occurrence_of around later) planned ≡ occurrences

-- these are added to what was planned
abbrev pub AreAdded : Around → (texts : List (List ℕ)) → (old new : List PlannedOccurrence) → List Occurrence
    → Type 0
AreAdded around texts old new occurrences =
    (later : List (List ℕ)) → Grown texts later
    → map (occurrence_of around later) new ≡ map (occurrence_of around later) old ++ occurrences

-- those of a kind are added to what was planned
abbrev pub AddsPlanned : Around → (texts : List (List ℕ)) → (Occurrence → Type 0)
    → (old new : List PlannedOccurrence) → Type 0
AddsPlanned around texts IsNew old new =
    (later : List (List ℕ)) → Grown texts later
    → Adds IsNew (map (occurrence_of around later) old) (map (occurrence_of around later) new)

-- of the first component, the first two, and so on
abbrev pub package_texts_up_to : (run : Package) → Facts → (count : ℕ) → List (List ℕ)
package_texts_up_to run facts count = map (λ index. text_of run (package_at facts (index + 1))) (range_with_len 0 count)

-- What a source has itself: number 0 is the file's, then come those of its packages, which belong to the run, then
-- those of its declarations.
abbrev pub own_texts : Home → (run : Package) → Facts → List (List ℕ)
own_texts home run facts =
    text_of home.id (OfFile home.path)
    ∷ (package_texts_up_to run facts (length facts.package_name) ++ declaration_texts home facts)

-- the texts of what the source has itself are among these, first
abbrev pub HasOwnTexts : List File → Packages → (source : ℕ) → (texts : List (List ℕ)) → Type 0
HasOwnTexts files ids source texts =
    (facts : Facts) × HasFacts files source facts
    × Grown (own_texts (home_of_file files ids source) ids.run facts) texts

-- the number is that of an entity's text
abbrev pub IsNumberIn : (texts : List (List ℕ)) → Package → Option symbols.Entity → (number : ℕ) → Type 0
IsNumberIn texts id entity number =
    (text : List ℕ) × (option_map (text_of id) entity ≡ Some text) × IsNumberOf texts text number

-- the number of the package of the first components, so many, is that count; the number of a declaration
abbrev pub declaration_number : Facts → (index : ℕ) → ℕ
declaration_number facts index = 1 + length facts.package_name + index

-- the symbols of what each declaration is in, if details are asked for
abbrev pub arounds_if : Option (List Detail) → List (List ℕ) → List (List ℕ)
arounds_if None texts = []
arounds_if (Some details) texts = texts

abbrev pub arounds_in : Home → Facts → List (List ℕ)
arounds_in home facts = arounds_if facts.details (map (text_around home facts) facts.declarations)

-- a symbol of which nothing else is known
abbrev pub bare_entry : (symbol : List ℕ) → SymbolInformation
bare_entry symbol = record { symbol = symbol; documentation = []; display_name = []; details = no_details }

-- what documents a declaration, its name, and its details with the symbol of what it is in
abbrev pub shown_as : (symbol : List ℕ) → Option Declaration → Option Detail → (around : List ℕ) → Option Choice
    → SymbolInformation
shown_as symbol None detail around choice = bare_entry symbol
shown_as symbol (Some declared) detail around None = bare_entry symbol
shown_as symbol (Some declared) detail around (Some choice) =
    entry_with symbol declared (details_shown declared detail around) choice

-- what the entry with a number is of, of those before the declarations'
abbrev pub first_kind : (number : ℕ) → ℤ
first_kind number = if number == 0 then file_kind else package_kind

-- The entry with a number, of those of a source: the file is shown by its path, and its packages by these names. The
-- declarations are in what has these symbols.
module _ (texts : List (List ℕ)) (path : List ℕ) (names : List (List ℕ)) (facts : Facts) (choices : List Choice)
    (arounds : List (List ℕ)) where
  abbrev pub undocumented : (number : ℕ) → SymbolInformation
  undocumented number = record {
    symbol = text_at texts number;
    documentation = [];
    display_name = text_at (path ∷ names) number;
    details = kind_if_asked facts.details (first_kind number);
  }

  abbrev pub documented : (number index : ℕ) → SymbolInformation
  documented number index =
      shown_as (text_at texts number) (slice_get facts.declarations index) (detail_at facts index)
      (text_at arounds index) (slice_get choices index)

  abbrev pub entry_of : (number : ℕ) → SymbolInformation
  entry_of number =
      if nat_lt number (length (path ∷ names)) then undocumented number
      else documented number (number - length (path ∷ names))
