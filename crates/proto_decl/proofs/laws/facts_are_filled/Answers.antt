use Rattle.std.proofs.Common.{List, sym, subst}
use Rattle.proto_decl.specs.Facts.{UsesAreFilled}
use Rattle.proto_decl.specs.declared.uses.Use.{Use}
use Rattle.proto_decl.proofs.UseFilledLemmas.{uses_filled}
use Rattle.proto_decl.proofs.NameLemmas.{named_some}
use Rattle.proto_decl.proofs.laws.facts_are_filled.Goals as goal

pub returns-clause-uses : goal.returns-clause-uses
returns-clause-uses c = λ facts origin.
    subst (λ (uses : List Use). UsesAreFilled uses) (sym origin.of_file.uses)
    (uses_filled origin.lexed.text origin.file
    (c.names_have_components.ensures origin.lexed.text origin.lexed.tokens origin.file
    origin.derives).parts)

pub returns-clause-names : goal.returns-clause-names
returns-clause-names c = λ facts origin.
    let named = c.names_are_spelled.ensures origin.form facts.number origin.lexed origin.file facts origin.is_lexed
    origin.derives origin.of_file in
    λ k d h. named_some origin.lexed.text facts.declarations _ (named k d h)
