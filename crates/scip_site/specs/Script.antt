-- The list of symbols that the first page searches.
-- (ECMAScript, 12.9.4 "String Literals", 13.2.4 "Array Initializer")
use Rattle.std.specs.Prelude.{ℕ, ◌+◌, ◌-◌, ◌*◌, ◌/◌, ◌%◌, ◌==◌, Bool, nat_lt, ◌||◌, cond, List, [], ◌∷◌, ◌++◌, drop}
use Rattle.std.specs.Prelude.{codes}
use Rattle.std.specs.List.{flat_map}
use Rattle.std.specs.Fmt.{decimal}
use Rattle.scip_records.specs.declared.records.Index.{Index}
use Rattle.scip_query.specs.Tables.{occurrence_listed, symbol_listed}
use Rattle.scip_query.specs.declared.place.Place.{Place}
use Rattle.scip_pages.specs.declared.columns.ColumnUnit.{ColumnUnit}
use Rattle.scip_pages.specs.Urls.{encoded}
use Rattle.scip_pages.specs.Shown.{shown_symbol}
use Rattle.scip_pages.specs.Site.{line_listed, page_path}
use Rattle.scip_pages.specs.Uses.{marked_text}

-- a byte of a text between quotes: what ends the text or a script, and what isn't shown, is `\u` and its digits
abbrev pub digit : ℕ → ℕ
digit value = cond (nat_lt value 10) (value + 48) (value + 87)

abbrev pub is_coded : ℕ → Bool
is_coded b = nat_lt b 32 || (b == 34) || (b == 92) || (b == 60) || (b == 127)

abbrev pub quoted_byte : ℕ → List ℕ
quoted_byte b = cond (is_coded b) (codes "\\u00" ++ digit (b / 16) ∷ (digit (b % 16) ∷ [])) (b ∷ [])

abbrev pub quoted : List ℕ → List ℕ
quoted text = codes "\"" ++ flat_map quoted_byte text ++ codes "\""

-- a definition: its line, its name, if it has one, and its symbol as it is shown
abbrev pub name_and_symbol : (name symbol : List ℕ) → List ℕ
name_and_symbol name symbol = quoted name ++ codes "," ++ quoted symbol ++ codes "],"

abbrev pub named_line : ℕ → (name symbol : List ℕ) → List ℕ
named_line line name symbol = codes "[" ++ decimal line ++ codes "," ++ name_and_symbol name symbol

abbrev pub name_text : ℕ → (name symbol : List ℕ) → List ℕ
name_text line [] symbol = []
name_text line (byte ∷ name) symbol = named_line line (byte ∷ name) symbol

abbrev pub named_text : Index → ColumnUnit → List (List ℕ) → Place → List ℕ
named_text index unit lines place =
    name_text (line_listed index.documents place) (marked_text unit lines (occurrence_listed index.documents place))
    (shown_symbol (symbol_listed index.documents place))

-- a page: its URL, its path, and what it defines first
abbrev pub page_text : List ℕ → List ℕ
page_text path = codes "[" ++ quoted (encoded (page_path path)) ++ codes "," ++ quoted path ++ codes ",["

abbrev pub listing_text : Index → ColumnUnit → List (List ℕ) → List ℕ → List Place → List ℕ
listing_text index unit lines path firsts =
    page_text path ++ flat_map (named_text index unit lines) firsts ++ codes "]],\n"

-- ---- what a reader of scripts makes of a literal

abbrev pub value_of : ℕ → ℕ
value_of d = cond (nat_lt d 97) (d - 48) (d - 87)

-- Behind a `\` these pages have `u00` and two digits.
abbrev pub two_digits : List ℕ → List ℕ
two_digits [] = []
two_digits (high ∷ []) = []
two_digits (high ∷ (low ∷ rest)) = (16 * value_of high + value_of low) ∷ []

abbrev pub byte_of : List ℕ → List ℕ
byte_of behind = two_digits (drop 3 behind)

-- what a byte stands for with what is behind it, and how many of those belong to it
abbrev pub read_behind : ℕ → List ℕ → List ℕ
read_behind n [] = []
read_behind n (byte ∷ behind) =
    cond (n == 0) (cond (byte == 92) (byte_of behind) (byte ∷ [])) []
    ++ read_behind (cond (n == 0) (cond (byte == 92) 5 0) (n - 1)) behind
