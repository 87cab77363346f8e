-- Places as editors show them: their columns count characters of the source's line.
use Rattle.std.specs.Prelude.{ℕ, min, List, take, Option, None, Some}
use Rattle.scip_query.specs.Commands.{Ask}
use Rattle.scip_query.specs.MoreCommands.{MoreCommand, Known, Entry}
use Rattle.scip_query.specs.declared.position.Position.{Position}
use Rattle.scip_pages.specs.Columns.{offset_of, units_in}
use Rattle.scip_pages.specs.Told.{line_in, source_at}
use Rattle.scip_pages.specs.declared.columns.ColumnUnit.TheVariants.{Utf32}
use Rattle.scip_pages.specs.declared.told.Source.{Source}

-- a column that fits 32 bits, as those of ranges do
abbrev pub held : ℕ → ℕ
held n = min n 4294967295

-- the place behind so many bytes of its line, as the document counts
abbrev pub counted_at : Source → Position → Option ℕ → Position
counted_at s p None = p
counted_at s p (Some offset) =
    record { line = p.line; column = held (units_in s.unit (take offset (line_in s p.line))) }

-- the place behind so many characters; as it is, if its line doesn't have them
abbrev pub counted_in : Source → Position → Position
counted_in s p = counted_at s p (offset_of Utf32 (line_in s p.line) p.column)

abbrev pub counted_by : Option Source → Position → Position
counted_by None p = p
counted_by (Some s) p = counted_in s p

-- the path of the document about a place of which a command asks
abbrev pub place_path : MoreCommand → Option (List ℕ)
place_path (Known (Ask question p path)) = Some path
place_path (Entry p path) = Some path
place_path command = None

-- the command whose place counts as its document does
abbrev pub placed : List Source → MoreCommand → MoreCommand
placed sources (Known (Ask question p path)) = Known (Ask question (counted_by (source_at sources path) p) path)
placed sources (Entry p path) = Entry (counted_by (source_at sources path) p) path
placed sources command = command
