-- The entries of a source, as the code lists them: its packages', and those of its declarations that are kept; and
-- their numbers.
use Rattle.std.specs.Prelude.{ℕ, ◌+◌, List, [], ◌∷◌, ◌++◌, length, map, if◌then◌else◌, slice_index_or, ◌≡◌, Some}
use Rattle.std.specs.List.{range_with_len, slice_get}
use Rattle.proto_decl.specs.Facts.{Facts}
use Rattle.proto_decl.specs.declared.declaration.Declaration.{Declaration}
use Rattle.proto_decl.specs.Names.{package_of}
use Rattle.proto_decl.specs.declared.uses.Component.{Component}
use Rattle.index_hooks.specs.declared.choice.Choice.{Choice}
use Rattle.scip_symbol.specs.Package.{Package}
use Rattle.scip_records.specs.declared.records.SymbolInformation.{SymbolInformation}
use Rattle.scip_model.specs.Chosen.{Chosen}
use Rattle.scip_model.specs.Detailed.{detail_at}
use Rattle.scip_model.specs.Entries.{file_entry, package_entry, declaration_entry}
use Rattle.scip_model.specs.Named.{Home}
use Rattle.scip_model.specs.Tables.Plans.{declaration_number}

-- of the first component, the first two, and so on
abbrev pub package_entries_up_to : Package → Facts → (count : ℕ) → List SymbolInformation
package_entries_up_to id facts count = map (λ index. package_entry id facts (index + 1)) (range_with_len 0 count)

abbrev pub package_entries : Package → Facts → List SymbolInformation
package_entries id facts = package_entries_up_to id facts (length facts.package_name)

abbrev pub entry_if_kept : Home → Facts → (index : ℕ) → Declaration → Choice → List SymbolInformation
entry_if_kept home facts index declared choice =
    if choice.keep then declaration_entry home facts declared (detail_at facts index) choice ∷ [] else []

-- of declarations from the one with this number on, with the choice for each
abbrev pub kept_entries : Home → Facts → (index : ℕ) → List Declaration → List Choice → List SymbolInformation
kept_entries home facts index [] choices = []
kept_entries home facts index (declared ∷ others) [] = []
kept_entries home facts index (declared ∷ others) (choice ∷ choices) =
    entry_if_kept home facts index declared choice ++ kept_entries home facts (index + 1) others choices

-- the file's, its packages', which belong to the run, and its declarations'
abbrev pub source_entries : Home → (run : Package) → Facts → List Choice → List SymbolInformation
source_entries home run facts choices =
    file_entry home.id home.path facts.details
    ∷ (package_entries run facts ++ kept_entries home facts 0 facts.declarations choices)

-- the choices for a file's declarations
abbrev pub choices_for : Chosen → (file : ℕ) → List Choice
choices_for chosen file = slice_index_or chosen file []

-- ---- what shows packages, and which numbers are those of declarations' entries

-- of the first component, the first two, and so on
abbrev pub package_names_up_to : List Component → (count : ℕ) → List (List ℕ)
package_names_up_to components count = map (λ index. package_of components (index + 1)) (range_with_len 0 count)

abbrev pub package_names : List Component → List (List ℕ)
package_names components = package_names_up_to components (length components)

-- each declaration's entry is the one with its number
abbrev pub AreNumbered : Home → Facts → List Choice → (entry : ℕ → SymbolInformation) → Type 0
AreNumbered home facts choices entry =
    (index : ℕ) (declared : Declaration) (choice : Choice) → slice_get facts.declarations index ≡ Some declared
    → slice_get choices index ≡ Some choice
    → entry (declaration_number facts index) ≡ declaration_entry home facts declared (detail_at facts index) choice
