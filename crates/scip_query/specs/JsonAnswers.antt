-- An answer in JSON (RFC 8259): one object on a line, with its keys in the order of their bytes. Its one key says what is
-- found, or that there is an error. (The keys are this project's own.)
use Rattle.std.specs.Prelude.{◌≡◌, ℕ, ℤ, List, ◌++◌, codes, map, Some}
use Rattle.scip_records.specs.Range.{RangeNumbers}
use Rattle.scip_records.specs.declared.records.SymbolInformation.{SymbolInformation}
use Rattle.serde_json.specs.Data.{Data, boolean, number, unsigned, string, array, item, no_items}
use Rattle.serde_json.specs.Data.{object, member, no_members}
use Rattle.serde_json.specs.Find.{of_integer}
use Rattle.serde_json.specs.Read.{read}
use Rattle.serde_json.specs.View.{items_of}
use Rattle.serde_json.specs.Written.{compact_text}
use Rattle.scip_query.specs.Sites.{Site}
use Rattle.scip_query.specs.Kinds.{kind_text}
use Rattle.scip_query.specs.Outline.{Outlined}
use Rattle.scip_query.specs.Finding.{Found}
use Rattle.scip_query.specs.Answers.{Answer, Sites, Texts, Entries, Outlines, Finds, Misses}
use Rattle.scip_query.specs.declared.miss.Miss.{Miss}
use Rattle.scip_query.specs.declared.miss.Miss.TheVariants.{NoDocument, NothingThere}

abbrev pub count_value : ℕ → Data
count_value n = number (unsigned n)

abbrev pub integer_value : ℤ → Data
integer_value z = number (of_integer z)

-- a range as in `scip.proto` (Occurrence.range), but always of four numbers
abbrev pub range_value : RangeNumbers → Data
range_value range =
    array (item (count_value range.start_line)
    (item (count_value range.start_column)
    (item (count_value range.end_line)
    (item (count_value range.end_column) no_items))))

abbrev pub site_value : Site → Data
site_value site = object
    (member (codes "path") (string site.document.relative_path)
    (member (codes "range") (range_value site.occurrence.range)
    (member (codes "roles") (integer_value site.occurrence.symbol_roles)
    (member (codes "symbol") (string site.occurrence.symbol) no_members))))

-- what an entry says of its symbol. (A kind is named as `out` names it.)
abbrev pub entry_value : SymbolInformation → Data
entry_value entry = object
    (member (codes "display_name") (string entry.display_name)
    (member (codes "documentation") (array (items_of (map string entry.documentation)))
    (member (codes "enclosing_symbol") (string entry.details.enclosing_symbol)
    (member (codes "kind") (string (kind_text entry.details.kind))
    (member (codes "signature") (string entry.details.signature.text)
    (member (codes "symbol") (string entry.symbol) no_members))))))

abbrev pub outlined_value : Outlined → Data
outlined_value o = object
    (member (codes "depth") (count_value o.depth)
    (member (codes "kind") (string (kind_text o.kind))
    (member (codes "range") (range_value o.occurrence.range)
    (member (codes "symbol") (string o.occurrence.symbol) no_members))))

abbrev pub found_value : Found → Data
found_value f = object
    (member (codes "exact") (boolean f.exact)
    (member (codes "path") (string f.path)
    (member (codes "range") (range_value f.occurrence.range)
    (member (codes "roles") (integer_value f.occurrence.symbol_roles)
    (member (codes "symbol") (string f.occurrence.symbol) no_members)))))

-- things of a kind
abbrev pub list_value : {X : Type 0} → (X → Data) → (key : List ℕ) → List X → Data
list_value value key found = object (member key (array (items_of (map value found))) no_members)

abbrev pub error_value : List ℕ → Data
error_value text = object (member (codes "error") (string text) no_members)

abbrev pub miss_value : Miss → Data
miss_value NoDocument = error_value (codes "no document")
miss_value NothingThere = error_value (codes "nothing there")

abbrev pub answer_value : Answer → Data
answer_value (Sites sites) = list_value site_value (codes "occurrences") sites
answer_value (Texts texts) = list_value string (codes "texts") texts
answer_value (Entries entries) = list_value entry_value (codes "symbols") entries
answer_value (Outlines outline) = list_value outlined_value (codes "outline") outline
answer_value (Finds found) = list_value found_value (codes "definitions") found
answer_value (Misses miss) = miss_value miss

-- the line of a value: its text, without spaces between tokens, and a line end
abbrev pub json_line : Data → List ℕ
json_line value = compact_text value ++ codes "\n"

-- a line is read back as a value (by the reader of `serde_json`)
abbrev pub IsReadBack : (line : List ℕ) → Data → Type 0
IsReadBack line value = (text : List ℕ) × (line ≡ text ++ codes "\n") × (read text ≡ Some value)
