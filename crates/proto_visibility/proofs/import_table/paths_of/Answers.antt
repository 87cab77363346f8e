use Rattle.std.proofs.Common.{sym, ◌∙◌}
use Rattle.proto_visibility.proofs.ImportTableLemmas.{paths_of_all}
use Rattle.proto_visibility.proofs.import_table.paths_of.Goals as goal

pub returns : goal.returns
returns c = paths_of_all c.args.files.now c.args.numbers (sym c.has_left_out.ensures ∙ c.if-has_left_out.false)
    c.requires.numbers
