-- What is wrong with an index, as lines for people, and in JSON. (The words are this project's own.)
use Rattle.std.specs.Prelude.{ℕ, ◌+◌, Bool, true, false, List, [], ◌++◌, codes, Option, None, Some}
use Rattle.std.specs.Fmt.{decimal}
use Rattle.std.specs.List.{flat_map}
use Rattle.serde_json.specs.Data.{Data, array, member, no_items, no_members, object, string}
use Rattle.scip_records.specs.declared.records.Occurrence.{Occurrence}
use Rattle.scip_query.specs.JsonAnswers.{IsReadBack, json_line, range_value}
use Rattle.scip_survey.specs.Flaws.{Flawed}
use Rattle.scip_survey.specs.declared.flaws.Flaw.{Flaw}
use Rattle.scip_survey.specs.declared.flaws.Flaw.TheVariants.{RepeatedPath, NoLanguage, NoUnit, RangeBackwards}
use Rattle.scip_survey.specs.declared.flaws.Flaw.TheVariants.{RangeOutside, NoEntry, TwoDefinitions}

abbrev pub name_of : Flaw → List ℕ
name_of RepeatedPath = codes "RepeatedPath"
name_of NoLanguage = codes "NoLanguage"
name_of NoUnit = codes "NoUnit"
name_of RangeBackwards = codes "RangeBackwards"
name_of RangeOutside = codes "RangeOutside"
name_of NoEntry = codes "NoEntry"
name_of TwoDefinitions = codes "TwoDefinitions"

-- `PATH: NAME`, or `PATH:L:C: NAME SYMBOL`, counted from 1
abbrev pub place_text : Option Occurrence → List ℕ
place_text None = []
place_text (Some o) =
    codes ":" ++ decimal (o.range.start_line + 1) ++ codes ":" ++ decimal (o.range.start_column + 1)

abbrev pub symbol_text : Option Occurrence → List ℕ
symbol_text None = []
symbol_text (Some o) = codes " " ++ o.symbol

abbrev pub flaw_line : Flawed → List ℕ
flaw_line f =
    f.path ++ place_text f.occurrence ++ codes ": " ++ name_of f.flaw ++ symbol_text f.occurrence ++ codes "\n"

-- an object with the range's numbers, none where a document as such is flawed, and the symbol, empty there
abbrev pub range_of : Option Occurrence → Data
range_of None = array no_items
range_of (Some o) = range_value o.range

abbrev pub symbol_of : Option Occurrence → List ℕ
symbol_of None = []
symbol_of (Some o) = o.symbol

abbrev pub flaw_value : Flawed → Data
flaw_value f = object
    (member (codes "flaw") (string (name_of f.flaw))
    (member (codes "path") (string f.path)
    (member (codes "range") (range_of f.occurrence)
    (member (codes "symbol") (string (symbol_of f.occurrence)) no_members))))

abbrev pub flaw_text : (json : Bool) → Flawed → List ℕ
flaw_text true f = json_line (flaw_value f)
flaw_text false f = flaw_line f

abbrev pub flaws_text : (json : Bool) → List Flawed → List ℕ
flaws_text json flaws = flat_map (flaw_text json) flaws

-- the line of what is wrong in JSON is read back as its value
pub record ReadsBack (f : Flawed) : Type 0 where
  pub back : IsReadBack (json_line (flaw_value f)) (flaw_value f)
