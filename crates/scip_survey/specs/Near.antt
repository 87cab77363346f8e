-- Of the names that an index shows symbols by, the one that is nearest to a text.
use Rattle.std.specs.Prelude.{ℕ, ◌==◌, nat_eq, nat_le, cond, List, [], ◌∷◌, length, Option}
use Rattle.std.specs.List.{find, flat_map, list_all, slice_split}
use Rattle.std.specs.Str.{chars}
use Rattle.strsim.specs.Edits.{levenshtein_row}
use Rattle.scip_records.specs.declared.records.Index.{Index}
use Rattle.scip_records.specs.declared.records.SymbolInformation.{SymbolInformation}
use Rattle.scip_query.specs.Named.{all_entries}

-- how many characters have to be put in, taken out or changed to make one text of another (Levenshtein's distance)
abbrev pub distance : (text name : List ℕ) → ℕ
distance text name = levenshtein_row nat_eq (chars text) (chars name) (length (chars name))

-- the first of some names than which none is nearer
abbrev pub nearest_of : (text : List ℕ) → List (List ℕ) → Option (List ℕ)
nearest_of text names =
    find (λ name. list_all (λ other. nat_le (distance text name) (distance text other)) names) names

-- the name that an entry shows its symbol by, if it has one
abbrev pub name_in : SymbolInformation → List (List ℕ)
name_in entry = cond (length entry.display_name == 0) [] (entry.display_name ∷ [])

-- the names of all entries
abbrev pub names_of : Index → List (List ℕ)
names_of index = flat_map name_in (all_entries index)

-- the last of some texts, or another if there is none
abbrev pub last_of : (otherwise : List ℕ) → List (List ℕ) → List ℕ
last_of otherwise [] = otherwise
last_of otherwise (text ∷ texts) = last_of text texts

-- of a text what is behind its last dot is compared
abbrev pub nearest_name : Index → (text : List ℕ) → Option (List ℕ)
nearest_name index text = nearest_of (last_of [] (slice_split (λ b. b == 46) text)) (names_of index)
