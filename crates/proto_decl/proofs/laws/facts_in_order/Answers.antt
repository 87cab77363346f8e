use Rattle.std.proofs.Common.{sym, subst, List, ap, map, refl}
use Rattle.proto_lex.specs.declared.span.Span.{Span}
use Rattle.proto_lex.specs.Lexed.{AreInOrder}
use Rattle.proto_parse.specs.Lexeme.{lexemes_of}
use Rattle.proto_parse.specs.Walk.{Mark, Among, MarksAreInOrder, marks_of_items, marks_of_imports}
use Rattle.proto_parse.proofs.Walk.Then.{imports_are}
use Rattle.proto_decl.specs.Declares.{outlines_of}
use Rattle.proto_decl.specs.Facts.{Facts, AreOfSomeFile, NamesInOrder, use_spans}
use Rattle.proto_decl.specs.declared.imports.Imported.{Imported}
use Rattle.proto_decl.proofs.OutlineOrderLemmas.{names_in_order, uses_in_order, imports_in_order}
use Rattle.proto_decl.proofs.FactLemmas.{same_names, package_placed}
use Rattle.proto_decl.proofs.laws.facts_in_order.Goals as goal
use Rattle.proto_decl.proofs.laws.facts_in_order.Goals.{After-names_have_components}

abbrev placed : List Span → Type 0
placed spans = AreInOrder 0 spans

ordered : (c : After-names_have_components) (facts : Facts) (origin : AreOfSomeFile facts) (marks : List Mark)
    → Among marks (lexemes_of origin.lexed.text origin.lexed.tokens) → MarksAreInOrder 0 marks
ordered c facts origin marks among =
    c.spans_in_order.ensures origin.lexed.text origin.lexed.tokens marks among origin.is_lexed.tokens_in_order

items_ordered : (c : After-names_have_components) (facts : Facts) (origin : AreOfSomeFile facts)
    → MarksAreInOrder 0 (marks_of_items origin.file)
items_ordered c facts origin =
    ordered c facts origin (marks_of_items origin.file)
    (c.spans_of_tokens.ensures.items origin.lexed.text origin.lexed.tokens origin.file origin.derives)

names : (c : After-names_have_components) (facts : Facts) → AreOfSomeFile facts → NamesInOrder facts.declarations
names c facts origin =
    subst placed (sym (same_names origin.form.comments origin.lexed
    (outlines_of origin.lexed.text origin.file) facts.declarations origin.of_file.declarations))
    (names_in_order origin.lexed.text origin.file (items_ordered c facts origin))

pub returns-clause-names : goal.returns-clause-names
returns-clause-names c = names (goal.at.returns-clause-names c).After-names_have_components

pub returns-clause-uses : goal.returns-clause-uses
returns-clause-uses c = λ facts origin.
    subst placed (sym (ap use_spans origin.of_file.uses))
    (uses_in_order origin.lexed.text origin.file
    (items_ordered (goal.at.returns-clause-uses c).After-names_have_components facts origin))

pub returns-clause-imports : goal.returns-clause-imports
returns-clause-imports c = λ facts origin.
    let file = origin.file in
    let before = (goal.at.returns-clause-imports c).After-names_have_components in
    let among = c.spans_of_tokens.ensures.imports origin.lexed.text origin.lexed.tokens file
    origin.derives in
    let filled = c.names_have_components.ensures origin.lexed.text origin.lexed.tokens file
    origin.derives
    in
    subst placed (sym (ap (map (λ (imported : Imported). imported.span)) origin.of_file.imports))
    (imports_in_order origin.lexed.text file.imports 0 filled.imports
    (subst (MarksAreInOrder 0) (sym (imports_are file)) (ordered before facts origin (marks_of_imports file) among)))

pub returns-clause-package_name : goal.returns-clause-package_name
returns-clause-package_name c = λ facts origin.
    let lexed = origin.lexed in
    let file = origin.file in
    let before = (goal.at.returns-clause-package_name c).After-names_have_components in
    package_placed origin.form facts.number lexed file facts origin.of_file
    (lexemes_of lexed.text lexed.tokens) file.package_name refl
    (c.spans_of_tokens.ensures.package_place lexed.text lexed.tokens file origin.derives)
    (ordered before facts origin) (names before facts origin)
