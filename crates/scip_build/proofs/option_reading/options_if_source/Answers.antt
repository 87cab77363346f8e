use Rattle.std.proofs.Common.{◌∙◌}
use Rattle.scip_build.proofs.OptionReadingLemmas.{package_of_names}
use Rattle.scip_build.proofs.option_reading.options_if_source.Goals as goal

pub options_of-requires-clause-packaged : goal.options_of-requires-clause-packaged
options_of-requires-clause-packaged c =
    c.as_str.ensures ∙ (c.in_ok-name.ensures
    ∙ package_of_names c.args.lexed.now.text c.args.tree.now c.package_name.result.now
    (c.package_name.ensures ∙ c.requires.packaged))
