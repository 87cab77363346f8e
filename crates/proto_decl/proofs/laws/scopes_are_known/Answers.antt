use Rattle.std.proofs.Common.{subst, sym, List}
use Rattle.std.specs.List.{All}
use Rattle.proto_lex.specs.Lexed.{part_of}
use Rattle.proto_parse.proofs.Walk.Then.{package_is}
use Rattle.proto_decl.proofs.SpanMarkLemmas.{OfNames}
use Rattle.proto_decl.specs.Names.{IsSimple}
use Rattle.proto_decl.specs.declared.uses.Component.{Component}
use Rattle.proto_decl.proofs.OutlineScopedLemmas.{names_simple, package_simple, stand_in_scopes}
use Rattle.proto_decl.proofs.UseScopeLemmas.{uses_in_scopes}
use Rattle.proto_decl.proofs.laws.scopes_are_known.Goals as goal

pub returns-clause-declarations : goal.returns-clause-declarations
returns-clause-declarations c = λ facts origin.
    let among = c.spans_of_tokens.ensures.items origin.lexed.text origin.lexed.tokens origin.file
    origin.derives in
    stand_in_scopes origin.form facts.number origin.lexed origin.file facts origin.of_file
    (names_simple origin.lexed origin.is_lexed among)

pub returns-clause-package_name : goal.returns-clause-package_name
returns-clause-package_name c = λ facts origin.
    let among = c.spans_of_tokens.ensures.package_name origin.lexed.text origin.lexed.tokens origin.file
    origin.derives in
    subst (λ (components : List Component). All (λ (component : Component). IsSimple component.name) components)
    (sym origin.of_file.package_name)
    (package_simple origin.lexed.text origin.file.package_name
    (subst (OfNames (λ span. IsSimple (part_of origin.lexed.text span))) (sym (package_is origin.file))
    (names_simple origin.lexed origin.is_lexed among)))

pub returns-clause-uses : goal.returns-clause-uses
returns-clause-uses c = λ facts origin.
    uses_in_scopes origin.form facts.number origin.lexed origin.file facts origin.of_file
