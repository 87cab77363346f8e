-- What a command is answered with, in whatever form that is shown.
use Rattle.std.specs.Prelude.{ℕ, Bool, true, false, List, [], ◌∷◌, ◌++◌, codes, Result, Ok, Err}
use Rattle.std.specs.Result.{result_map_both}
use Rattle.scip_records.specs.Texts.{unless_empty}
use Rattle.scip_records.specs.declared.records.Index.{Index}
use Rattle.scip_records.specs.declared.records.SymbolInformation.{SymbolInformation}
use Rattle.scip_query.specs.Sites.{Site}
use Rattle.scip_query.specs.Nearest.{nearest_at}
use Rattle.scip_query.specs.References.{references_at}
use Rattle.scip_query.specs.Documentation.{documentation_at, symbols_of}
use Rattle.scip_query.specs.Entries.{signature_at}
use Rattle.scip_query.specs.Outline.{Outlined, outline_of}
use Rattle.scip_query.specs.Finding.{Found, found_by}
use Rattle.scip_query.specs.Named.{definitions_named, references_named, entries_named, entries_at}
use Rattle.scip_query.specs.Commands.{Command, Ask, Symbols}
use Rattle.scip_query.specs.MoreCommands.{MoreCommand, Known, Signature, Outline, Find, Help, Entry, Named}
use Rattle.scip_query.specs.declared.command.Question.TheVariants.{Definitions, References, Documentation}
use Rattle.scip_query.specs.declared.miss.Miss.{Miss}

-- what is found, of a kind, or why there is nothing
pub data Answer : Type 0 where
  Sites : (sites : List Site) → Answer
  Texts : (texts : List (List ℕ)) → Answer
  Entries : (entries : List SymbolInformation) → Answer
  Outlines : (outline : List Outlined) → Answer
  Finds : (found : List Found) → Answer
  Misses : (miss : Miss) → Answer

abbrev pub given : {X : Type 0} → (List X → Answer) → Result (List X) Miss → Answer
given kind (Ok found) = kind found
given kind (Err miss) = Misses miss

-- whether something is found
abbrev pub are_some : {X : Type 0} → List X → Bool
are_some [] = false
are_some (x ∷ xs) = true

abbrev pub is_found : Answer → Bool
is_found (Sites sites) = are_some sites
is_found (Texts texts) = are_some texts
is_found (Entries entries) = are_some entries
is_found (Outlines outline) = are_some outline
is_found (Finds found) = are_some found
is_found (Misses miss) = false

-- what commands there are. (The text is this project's own.)
abbrev pub help_text : List ℕ
help_text =
    codes "def L C PATH: where the symbol at a position is defined; lines and columns count from 0\n"
    ++ codes "ref L C PATH: where it occurs\n"
    ++ codes "doc L C PATH: its documentation\n"
    ++ codes "sig L C PATH: how it is declared\n"
    ++ codes "sym PATH: the symbols of a file\n"
    ++ codes "out PATH: its definitions, in order of place\n"
    ++ codes "find TEXT: definitions by name, or the end of a full name, or how one begins\n"
    ++ codes "pos PATH:LINE:COL: as def; lines and columns count from 1\n"
    ++ codes "help: these lines"

-- the answer to a command
abbrev pub given_to : Index → Command → Answer
given_to index (Ask Definitions p path) = given Sites (nearest_at index path p)
given_to index (Ask References p path) = given Sites (references_at index path p)
given_to index (Ask Documentation p path) = given Texts (documentation_at index path p)
given_to index (Symbols path) = given Entries (symbols_of index path)

abbrev pub more_given_to : Index → MoreCommand → Answer
more_given_to index (Known command) = given_to index command
more_given_to index (Signature p path) =
    given Texts (result_map_both unless_empty (λ miss. miss) (signature_at index path p))
more_given_to index (Outline path) = given Outlines (outline_of index path)
more_given_to index (Find text) = Finds (found_by index text)
more_given_to index Help = Texts (help_text ∷ [])
more_given_to index (Entry p path) = given Entries (entries_at index path p)
more_given_to index (Named Definitions name) = Sites (definitions_named index name)
more_given_to index (Named References name) = Sites (references_named index name)
more_given_to index (Named Documentation name) = Entries (entries_named index name)
