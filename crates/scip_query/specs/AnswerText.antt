-- What is answered to commands. (The texts are this project's own.)
use Rattle.std.specs.Prelude.{ℕ, ℤ, ◌==◌, nat_le, cond, List, [], ◌∷◌, ◌++◌, length, Option, None, Some, Result, Ok}
use Rattle.std.specs.Prelude.{Err, codes}
use Rattle.std.specs.List.{flat_map, slice_split}
use Rattle.std.specs.Fmt.{decimal, signed_decimal}
use Rattle.scip_records.specs.Range.{RangeNumbers}
use Rattle.scip_records.specs.declared.records.Index.{Index}
use Rattle.scip_records.specs.declared.records.SymbolInformation.{SymbolInformation}
use Rattle.scip_query.specs.Sites.{Site}
use Rattle.scip_query.specs.Nearest.{nearest_at}
use Rattle.scip_query.specs.References.{references_at}
use Rattle.scip_query.specs.Documentation.{documentation_at, symbols_of}
use Rattle.scip_query.specs.declared.command.Question.TheVariants.{Definitions, References, Documentation}
use Rattle.scip_query.specs.Commands.{Command, Ask, Symbols, space, max_command_length, command_lines}
use Rattle.scip_query.specs.CommandReading.{command_of}
use Rattle.scip_query.specs.declared.miss.Miss.{Miss}
use Rattle.scip_query.specs.declared.miss.Miss.TheVariants.{NoDocument, NothingThere}

abbrev pub line_end : List ℕ
line_end = 10 ∷ []

-- how many: `= N`
abbrev pub count_line : ℕ → List ℕ
count_line n = codes "= " ++ decimal n ++ line_end

-- where an occurrence begins and ends, its roles and a name, which is its document's path in an answer: `L C L2 E ROLE
-- NAME`
abbrev pub line_of : RangeNumbers → ℤ → List ℕ → List ℕ
line_of range roles name =
    decimal range.start_line ++ space ++ decimal range.start_column ++ space
    ++ decimal range.end_line ++ space ++ decimal range.end_column ++ space
    ++ signed_decimal roles ++ space ++ name ++ line_end

abbrev pub site_line : Site → List ℕ
site_line site = line_of site.occurrence.range site.occurrence.symbol_roles site.document.relative_path

-- a text, each of its lines after `| `
abbrev pub quoted_line : List ℕ → List ℕ
quoted_line line = codes "| " ++ line ++ line_end

abbrev pub quoted : List ℕ → List ℕ
quoted text = flat_map quoted_line (slice_split (λ b. b == 10) text)

abbrev pub symbol_line : SymbolInformation → List ℕ
symbol_line entry = entry.symbol ++ line_end

abbrev pub miss_text : Miss → List ℕ
miss_text NoDocument = codes "? no document\n"
miss_text NothingThere = codes "? nothing there\n"

-- a part for each thing found, and how many there are; or why there are none
abbrev pub listing : {X : Type 0} → (X → List ℕ) → Result (List X) Miss → List ℕ
listing line (Ok found) = flat_map line found ++ count_line (length found)
listing line (Err miss) = miss_text miss

-- the answer to a command
abbrev pub answer_of : Index → Command → List ℕ
answer_of index (Ask Definitions p path) = listing site_line (nearest_at index path p)
answer_of index (Ask References p path) = listing site_line (references_at index path p)
answer_of index (Ask Documentation p path) = listing quoted (documentation_at index path p)
answer_of index (Symbols path) = listing symbol_line (symbols_of index path)

-- the answer to a line: to its command, or that it is none. No line of more than `max_command_length` bytes is one
abbrev pub answer_or_refusal : Index → Option Command → List ℕ
answer_or_refusal index None = codes "? bad command\n"
answer_or_refusal index (Some command) = answer_of index command

abbrev pub answer_to : Index → List ℕ → List ℕ
answer_to index line = answer_or_refusal index (cond (nat_le (length line) max_command_length) (command_of line) None)

-- the answers to lines of commands, one after another
abbrev pub answer_text : Index → List ℕ → List ℕ
answer_text index commands = flat_map (answer_to index) (command_lines commands)
