-- A report as a log in the Static Analysis Results Interchange Format (SARIF 2.1.0, OASIS): one run, a result for each
-- finding, and a rule for each name. Keys are in the order of their bytes.
use Rattle.std.specs.Prelude.{ℕ, ◌+◌, ◌-◌, ◌^◌, Bool, List, [], ◌∷◌, ◌++◌, Option, None, Some, codes, map}
use Rattle.std.specs.Prelude.{if◌then◌else◌}
use Rattle.std.specs.List.{find, list_any}
use Rattle.std.specs.Str.{bytes_eq}
use Rattle.percent_encoding.specs.Percent.{percent_encode}
use Rattle.percent_encoding.specs.declared.ascii_set.AsciiSet.{AsciiSet}
use Rattle.serde_json.specs.Data.{Data, number, unsigned, string, array, item, no_items}
use Rattle.serde_json.specs.Data.{object, Members, member, no_members}
use Rattle.serde_json.specs.View.{items_of}
use Rattle.fault_reports.specs.declared.finding.FindingKind.{FindingKind}
use Rattle.fault_reports.specs.declared.finding.Point.{Point}
use Rattle.fault_reports.specs.Rules.{lexing_text}
use Rattle.fault_reports.specs.Findings.{Found, FoundPlace, end_of, level_of, related_of, said_of, start_of}

-- a text in a message (3.11)
abbrev pub message_value : List ℕ → Data
message_value text = object (member (codes "text") (string text) no_members)

-- from a place to the end of its line: its line and its column, and how many bytes come before it (3.30.5, 3.30.6,
-- 3.30.8, 3.30.11)
abbrev pub point_value : Point → Data
point_value start = object
    (member (codes "byteOffset") (number (unsigned start.at))
    (member (codes "startColumn") (number (unsigned start.column))
    (member (codes "startLine") (number (unsigned start.line)) no_members)))

-- to where it ends, and how many bytes it has (3.30.7, 3.30.8, 3.30.12)
abbrev pub range_value : (start end : Point) → Data
range_value start end = object
    (member (codes "byteLength") (number (unsigned (end.at - start.at)))
    (member (codes "byteOffset") (number (unsigned start.at))
    (member (codes "endColumn") (number (unsigned end.column))
    (member (codes "endLine") (number (unsigned end.line))
    (member (codes "startColumn") (number (unsigned start.column))
    (member (codes "startLine") (number (unsigned start.line)) no_members))))))

-- its end only where it is known
abbrev pub region_value : (start : Point) → (end : Option Point) → Data
region_value start None = point_value start
region_value start (Some end) = range_value start end

-- only where there is an offset
abbrev pub region_members : (start end : Option Point) → Members
region_members None end = no_members
region_members (Some start) end = member (codes "region") (region_value start end) no_members

-- the bytes of a path that a reference escapes, bit by bit: all but `-`, `.`, `/` and digits (45 to 57), capital
-- letters (65 to 90), `_` (95), small letters (97 to 122) and `~` (126) (RFC 3986, 2.3 and 3.3)
abbrev pub escaped : AsciiSet
escaped = record {
  mask = (2 ^ 128 - 1) - ((2 ^ 58 - 2 ^ 45) + (2 ^ 91 - 2 ^ 65) + 2 ^ 95 + (2 ^ 123 - 2 ^ 97) + 2 ^ 126);
}

-- a file by the bytes of its path, escaped as a relative reference is (3.4.3), and a place of it (3.29)
abbrev pub physical_value : FoundPlace → Data
physical_value place = object
    (member (codes "artifactLocation")
    (object (member (codes "uri") (string (percent_encode escaped place.bytes)) no_members))
    (region_members (start_of place) (end_of place)))

-- where a finding is (3.28), none if it is of no file
abbrev pub locations_value : Option FoundPlace → Data
locations_value None = array no_items
locations_value (Some place) =
    array (item (object (member (codes "physicalLocation") (physical_value place) no_members)) no_items)

-- where its full name is first given, or the file that can't be read, with a sentence
abbrev pub related_value : FindingKind → Option FoundPlace → Data
related_value kind None = array no_items
related_value kind (Some place) =
    array (item (object
    (member (codes "message") (message_value (related_of kind))
    (member (codes "physicalLocation") (physical_value place) no_members))) no_items)

-- a result (3.27)
abbrev pub result_value : Found → Data
result_value found = object
    (member (codes "level") (string (level_of found.kind))
    (member (codes "locations") (locations_value found.place)
    (member (codes "message") (message_value (said_of found))
    (member (codes "relatedLocations") (related_value found.kind found.first)
    (member (codes "ruleId") (string found.name) no_members)))))

-- ---- rules

-- a text is one of these
abbrev pub is_among : List (List ℕ) → List ℕ → Bool
is_among names name = list_any (λ other. bytes_eq other name) names

-- with a name, if it isn't there
abbrev pub with_name : List (List ℕ) → List ℕ → List (List ℕ)
with_name names name = if is_among names name then names else names ++ name ∷ []

-- the names that aren't among those before, each once, in the order in which they first come
abbrev pub new_names : (before names : List (List ℕ)) → List (List ℕ)
new_names before [] = []
new_names before (name ∷ names) =
    if is_among before name then new_names before names else name ∷ new_names (before ++ name ∷ []) names

-- what is said first of a fault with a name
abbrev pub message_or_none : Option Found → List ℕ
message_or_none None = []
message_or_none (Some found) = found.message

abbrev pub first_message : List Found → List ℕ → List ℕ
first_message findings name = message_or_none (find (λ (found : Found). bytes_eq found.name name) findings)

-- a rule (3.49): in short what is said of the first fault with its name, and what holds of each
abbrev pub help_text : List ℕ
help_text = codes "docs/USAGE.md of protoscip has an example of each fault, and what --explain says of it."

abbrev pub rule_value : List Found → List ℕ → Data
rule_value findings name = object
    (member (codes "fullDescription") (message_value (lexing_text name))
    (member (codes "help") (message_value help_text)
    (member (codes "id") (string name)
    (member (codes "shortDescription") (message_value (first_message findings name)) no_members))))

abbrev pub rules_value : List Found → Data
rules_value findings =
    array (items_of (map (rule_value findings) (new_names [] (map (λ (found : Found). found.name) findings))))

-- ---- the log

-- the tool (3.18, 3.19)
abbrev pub tool_value : List Found → Data
tool_value findings = object
    (member (codes "driver") (object
    (member (codes "name") (string (codes "protoscip"))
    (member (codes "rules") (rules_value findings)
    (member (codes "version") (string (codes "1")) no_members)))) no_members)

-- the run (3.14): columns count characters (3.14.27)
abbrev pub run_value : List Found → Data
run_value findings = object
    (member (codes "columnKind") (string (codes "unicodeCodePoints"))
    (member (codes "results") (array (items_of (map result_value findings)))
    (member (codes "tool") (tool_value findings) no_members)))

-- the log (3.13)
abbrev pub log_value : List Found → Data
log_value findings = object
    (member (codes "$schema") (string (codes "https://json.schemastore.org/sarif-2.1.0.json"))
    (member (codes "runs") (array (item (run_value findings) no_items))
    (member (codes "version") (string (codes "2.1.0")) no_members)))
