-- What is answered to commands in each manner. (The texts are this project's own.)
use Rattle.std.specs.Prelude.{ℕ, zero, suc, nat_le, cond, List, [], ◌∷◌, ◌++◌, length, Option, None, Some, Ok, codes}
use Rattle.std.specs.List.{flat_map}
use Rattle.std.specs.Result.{result_map_both}
use Rattle.std.specs.Str.{bytes_eq}
use Rattle.std.specs.Fmt.{decimal}
use Rattle.scip_records.specs.Range.{RangeNumbers}
use Rattle.scip_records.specs.Texts.{unless_empty}
use Rattle.scip_records.specs.declared.records.Index.{Index}
use Rattle.scip_query.specs.AnswerText.{line_end, line_of, site_line, symbol_line, quoted, miss_text, listing}
use Rattle.scip_query.specs.AnswerText.{answer_of, answer_to}
use Rattle.scip_query.specs.Answers.{Answer, Sites, Texts, Entries, Outlines, Finds, Misses, help_text, more_given_to}
use Rattle.scip_query.specs.JsonAnswers.{answer_value, error_value, json_line}
use Rattle.scip_query.specs.Commands.{space, max_command_length, command_lines}
use Rattle.scip_query.specs.MoreCommands.{MoreCommand, Known, Signature, Outline, Find, Help, Entry, Named}
use Rattle.scip_query.specs.MoreCommandReading.{more_command_of}
use Rattle.scip_query.specs.Entries.{signature_at}
use Rattle.scip_query.specs.Kinds.{kind_text}
use Rattle.scip_query.specs.Outline.{Outlined, outline_of}
use Rattle.scip_query.specs.Finding.{Found, found_by}
use Rattle.scip_query.specs.Named.{definitions_named, references_named, entries_named, entries_at}
use Rattle.scip_query.specs.declared.command.Question.TheVariants.{Definitions, References, Documentation}
use Rattle.scip_query.specs.declared.manner.Manner.{Manner}
use Rattle.scip_query.specs.declared.manner.Manner.TheVariants.{Plain, More, Spoken, Json}

-- two spaces for each level
abbrev pub indent : ℕ → List ℕ
indent zero = []
indent (suc depth) = 32 ∷ 32 ∷ indent depth

-- where a definition begins, its symbol's kind, and its symbol: `L C KIND SYMBOL`
abbrev pub definition_line : RangeNumbers → List ℕ → List ℕ → List ℕ
definition_line range kind symbol =
    decimal range.start_line ++ space ++ decimal range.start_column ++ space ++ kind ++ space ++ symbol ++ line_end

abbrev pub outline_line : Outlined → List ℕ
outline_line o = indent o.depth ++ definition_line o.occurrence.range (kind_text o.kind) o.occurrence.symbol

-- the line that `def` gives, and the symbol
abbrev pub found_lines : Found → List ℕ
found_lines f = line_of f.occurrence.range f.occurrence.symbol_roles f.path ++ f.occurrence.symbol ++ line_end

abbrev pub more_answer_of : Index → MoreCommand → List ℕ
more_answer_of index (Known command) = answer_of index command
more_answer_of index (Signature p path) =
    listing quoted (result_map_both unless_empty (λ miss. miss) (signature_at index path p))
more_answer_of index (Outline path) = listing outline_line (outline_of index path)
more_answer_of index (Find text) = listing found_lines (Ok (found_by index text))
more_answer_of index Help = listing quoted (Ok (help_text ∷ []))
more_answer_of index (Entry p path) = listing symbol_line (entries_at index path p)
more_answer_of index (Named Definitions name) = listing site_line (Ok (definitions_named index name))
more_answer_of index (Named References name) = listing site_line (Ok (references_named index name))
more_answer_of index (Named Documentation name) = listing symbol_line (Ok (entries_named index name))

-- the text of any answer: for the answer to a command it is that text (a law of the crate)
abbrev pub text_of : Answer → List ℕ
text_of (Sites sites) = listing site_line (Ok sites)
text_of (Texts texts) = listing quoted (Ok texts)
text_of (Entries entries) = listing symbol_line (Ok entries)
text_of (Outlines outline) = listing outline_line (Ok outline)
text_of (Finds found) = listing found_lines (Ok found)
text_of (Misses miss) = miss_text miss

abbrev pub more_or_refusal : Index → Option MoreCommand → List ℕ
more_or_refusal index None = codes "? bad command\n"
more_or_refusal index (Some command) = more_answer_of index command

abbrev pub more_answer_to : Index → List ℕ → List ℕ
more_answer_to index line =
    more_or_refusal index (cond (nat_le (length line) max_command_length) (more_command_of line) None)

-- a sentence in place of a text that begins with a question mark
abbrev pub spoken : List ℕ → List ℕ
spoken answer =
    cond (bytes_eq answer (codes "? no document\n")) (codes "The index has no document with this path.\n")
    (cond (bytes_eq answer (codes "? nothing there\n")) (codes "There is no symbol at this place.\n")
    (cond (bytes_eq answer (codes "? bad command\n")) (codes "This is no command. Type help for a list.\n") answer))

-- the answer to a line as one of JSON
abbrev pub json_or_refusal : Index → Option MoreCommand → List ℕ
json_or_refusal index None = json_line (error_value (codes "bad command"))
json_or_refusal index (Some command) = json_line (answer_value (more_given_to index command))

abbrev pub json_answer_to : Index → List ℕ → List ℕ
json_answer_to index line =
    json_or_refusal index (cond (nat_le (length line) max_command_length) (more_command_of line) None)

-- an index, and how commands about it are taken
pub record Asked : Type 0 where
  pub index : Index
  pub manner : Manner

abbrev pub reply_in : Manner → Index → List ℕ → List ℕ
reply_in Plain index line = answer_to index line
reply_in More index line = more_answer_to index line
reply_in Spoken index line = spoken (more_answer_to index line)
reply_in Json index line = json_answer_to index line

-- the answer to a line
abbrev pub reply_to : Asked → List ℕ → List ℕ
reply_to asked line = reply_in asked.manner asked.index line

-- the answers to lines of commands, one after another
abbrev pub replies_to : Asked → List ℕ → List ℕ
replies_to asked commands = flat_map (reply_to asked) (command_lines commands)
