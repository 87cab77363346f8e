use Rattle.std.proofs.Common.{◌∙◌}
use Rattle.option_link_tests.proofs.PackageLemmas.{package_of_names}
use Rattle.option_link_tests.proofs.files.known_of_tree.Goals as goal

pub options_of-requires-clause-packaged : goal.options_of-requires-clause-packaged
options_of-requires-clause-packaged c =
    c.as_str.ensures.value ∙ (c.in_ok-package.ensures
    ∙ package_of_names c.args.tokens.now.text c.args.file.now c.package_name.result.now
    (c.package_name.ensures ∙ c.in_ok-facts.ensures.package_name))
