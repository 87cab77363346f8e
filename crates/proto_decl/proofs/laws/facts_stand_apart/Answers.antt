use Rattle.std.proofs.Common.{refl}
use Rattle.proto_parse.specs.Lexeme.{lexemes_of}
use Rattle.proto_decl.proofs.LawPlaceLemmas.{marks_of, uses_apart, imports_apart}
use Rattle.proto_decl.proofs.laws.facts_stand_apart.Goals as goal

pub returns : goal.returns
returns c = λ facts origin.
    let lexed = origin.lexed in
    let text = lexed.text in
    let file = origin.file in
    let marks = marks_of origin.form facts.number lexed file facts origin.of_file (lexemes_of text lexed.tokens)
    (c.spans_of_tokens.ensures.items text lexed.tokens file origin.derives) file.package_name refl
    (c.spans_of_tokens.ensures.package_place text lexed.tokens file origin.derives) in
    record {
      uses = uses_apart origin.form facts.number lexed file facts origin.of_file marks
          (c.spans_in_order.ensures text lexed.tokens marks.marks marks.among origin.is_lexed.tokens_in_order);
      imports = imports_apart origin.form facts.number lexed file facts origin.of_file marks
          origin.is_lexed.tokens_in_order
          (c.spans_of_tokens.ensures.imports text lexed.tokens file origin.derives)
          (c.names_have_components.ensures text lexed.tokens file origin.derives).imports;
    }
