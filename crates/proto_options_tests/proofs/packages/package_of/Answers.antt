use Rattle.std.proofs.Common.{◌≡◌, ◌∙◌, IfOk, ℕ, List, string_bytes, subst}
use Rattle.proto_options_tests.proofs.PackageLemmas.{package_of_names}
use Rattle.proto_options_tests.proofs.packages.package_of.Goals as goal

pub returns : goal.returns
returns c =
    subst (λ (scope : List ℕ). IfOk c.package_name-2.result (λ name. string_bytes name ≡ scope))
    (package_of_names c.args.tokens.now.text c.args.file.now c.package_name.result.now
    (c.package_name.ensures ∙ c.in_ok-facts.ensures.package_name))
    c.package_name-2.ensures
