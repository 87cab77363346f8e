use Rattle.std.specs.Prelude.{◌≢◌, []}
use Rattle.std.proofs.lemmas.List.Elements.{All-weaker}
use Rattle.proto_decl.specs.Laws.{IsNamedAt}
use Rattle.proto_decl.specs.declared.declaration.Declaration.{Declaration}
use Rattle.proto_decl.proofs.NameLemmas.{path_some}
use Rattle.proto_decl.proofs.OutlineIdentifierLemmas.{facts_named}
use Rattle.proto_decl.proofs.laws.names_are_identifiers.Goals as goal

pub returns-clause-named : goal.returns-clause-named
returns-clause-named c = λ facts origin.
    facts_named origin.form facts.number origin.lexed origin.file facts origin.is_lexed origin.of_file
    (c.spans_of_tokens.ensures.items origin.lexed.text origin.lexed.tokens origin.file origin.derives)
    (c.spans_of_tokens.ensures.package_name origin.lexed.text origin.lexed.tokens origin.file
    origin.derives)

pub returns-clause-held : goal.returns-clause-held
returns-clause-held c = λ facts origin.
    c.declarations_stand_in_declarations.ensures origin.form facts.number origin.lexed origin.file facts origin.of_file
    (facts_named origin.form facts.number origin.lexed origin.file facts origin.is_lexed origin.of_file
    (c.spans_of_tokens.ensures.items origin.lexed.text origin.lexed.tokens origin.file origin.derives)
    (c.spans_of_tokens.ensures.package_name origin.lexed.text origin.lexed.tokens origin.file
    origin.derives))

pub returns-clause-paths : goal.returns-clause-paths
returns-clause-paths c = λ facts origin.
    All-weaker (IsNamedAt origin.lexed.text facts.declarations) (λ (d : Declaration). d.path ≢ [])
    (path_some origin.lexed.text facts.declarations) facts.declarations
    (c.names_are_spelled.ensures origin.form facts.number origin.lexed origin.file facts origin.is_lexed
    origin.derives origin.of_file)
