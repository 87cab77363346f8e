-- The code's commands, findings and answers as those of the definitions.
use Rattle.std.specs.Prelude.{map}
use Rattle.std.specs.Borrow.{Bor}
use Rattle.scip_records.specs.declared.records.SymbolInformation.{SymbolInformation}
use Rattle.scip_query.specs.Sites
use Rattle.scip_query.specs.Answers
use Rattle.scip_query.specs.CommandViews.{command_view, text_of}
use Rattle.scip_query.specs.MoreCommands
use Rattle.scip_query.specs.Outline
use Rattle.scip_query.specs.Finding
use Rattle.scip_query.specs.declared.more_command.MoreCommand.{MoreCommand}
use Rattle.scip_query.specs.declared.more_command.MoreCommand.TheVariants as more
use Rattle.scip_query.specs.declared.outline.Outlined.{Outlined}
use Rattle.scip_query.specs.declared.finding.Found.{Found}
use Rattle.scip_query.specs.declared.site.Site.{Site}
use Rattle.scip_query.specs.declared.answers.Answer.{Answer}
use Rattle.scip_query.specs.declared.answers.Answer.TheVariants as answer

abbrev pub more_view : MoreCommand → MoreCommands.MoreCommand
more_view (more.Known command) = MoreCommands.Known (command_view command)
more_view (more.Signature position path) = MoreCommands.Signature position path.now
more_view (more.Outline path) = MoreCommands.Outline path.now
more_view (more.Find text) = MoreCommands.Find text.now
more_view more.Help = MoreCommands.Help
more_view (more.Entry position path) = MoreCommands.Entry position path.now
more_view (more.Named question name) = MoreCommands.Named question name.now

abbrev pub outlined_view : Outlined → Outline.Outlined
outlined_view o = record { depth = o.depth; kind = o.kind; occurrence = o.occurrence.now }

abbrev pub found_view : Found → Finding.Found
found_view f = record { exact = f.exact; path = f.path.now; occurrence = f.occurrence.now }

abbrev pub site_view : Site → Sites.Site
site_view s = record { place = s.place; document = s.document.now; occurrence = s.occurrence.now }

abbrev pub entry_view : Bor SymbolInformation → SymbolInformation
entry_view entry = entry.now

abbrev pub answer_view : Answer → Answers.Answer
answer_view (answer.Sites sites) = Answers.Sites (map site_view sites.items)
answer_view (answer.Texts texts) = Answers.Texts (map text_of texts.items)
answer_view (answer.Entries entries) = Answers.Entries (map entry_view entries.items)
answer_view (answer.Outline outline) = Answers.Outlines (map outlined_view outline.items)
answer_view (answer.Found found) = Answers.Finds (map found_view found.items)
answer_view (answer.Missed miss) = Answers.Misses miss
