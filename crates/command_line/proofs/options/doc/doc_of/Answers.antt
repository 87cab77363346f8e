use Rattle.std.proofs.Common.{◌∙◌, ap, Some}
use Rattle.std.specs.Prelude.{option_map}
use Rattle.command_line.specs.Options.Doc.{doc_in}
use Rattle.command_line.proofs.options.doc.doc_of.Goals as goal

pub returns-in-Some : goal.returns-in-Some
returns-in-Some c = ap Some c.doc_in.ensures ∙ ap (option_map doc_in) c.in-Some.ensures

pub returns-in-None : goal.returns-in-None
returns-in-None c = ap (option_map doc_in) c.in-None.ensures
