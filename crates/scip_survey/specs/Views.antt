-- What is wrong, as the definitions have it.
use Rattle.std.specs.Prelude.{option_copied}
use Rattle.scip_query.specs.Sites.{Numbered}
use Rattle.scip_survey.specs.Flaws
use Rattle.scip_survey.specs.declared.flaws.Flawed.{Flawed}
use Rattle.scip_survey.specs.declared.flaws.Looked.{Looked}

abbrev pub flawed_view : Flawed → Flaws.Flawed
flawed_view f = record { flaw = f.flaw; path = f.path.now; occurrence = option_copied f.occurrence }

abbrev pub document_view : Looked → Numbered
document_view looked = record { number = looked.number; document = looked.document.now }
