use Rattle.std.proofs.Common.{List, ◌≡◌, sym, ap, subst, map}
use Rattle.std.specs.List.{All}
use Rattle.proto_lex.specs.declared.span.Span.{Span}
use Rattle.proto_lex.specs.declared.token.Token.{Token}
use Rattle.proto_lex.specs.Lexed.{Lexed, IsLexed, IsPart, AreInOrder}
use Rattle.proto_decl.specs.Facts.{component_spans, use_spans}
use Rattle.proto_decl.specs.declared.imports.Imported.{Imported}
use Rattle.proto_decl.proofs.ExtentLemmas.{extents_whole}
use Rattle.proto_decl.proofs.SpanLemmas.{OfToken, parts_hold, imports_hold, package_holds}
use Rattle.proto_decl.proofs.FactPartLemmas.{uses_part, package_part, names_part, imports_part}
use Rattle.proto_decl.proofs.laws.facts_stand_in_text.Goals as goal

parts : (lexed : Lexed) → IsLexed lexed.text lexed.tokens lexed.comments
    → All (λ (t : Token). OfToken (IsPart lexed.text) (IsPart lexed.text) t.kind t.span) lexed.tokens
parts lexed is = λ k d h. (is.token_parts k d h, λ literal. is.token_parts k d h)

abbrev at_spans : List Imported → List Span
at_spans imports = map (λ (imported : Imported). imported.span) imports

pub returns : goal.returns
returns c = λ facts origin.
    let lexed = origin.lexed in
    let text = lexed.text in
    let file = origin.file in
    let P = IsPart text in
    let moved : (found wanted : List Span) → found ≡ wanted → All P wanted → All P found =
    λ found wanted e all. subst (λ (spans : List Span). All P spans) (sym e) all in
    let each = parts lexed origin.is_lexed in
    let filled = c.names_have_components.ensures text lexed.tokens file origin.derives in
    record {
      package_name = moved _ _ (ap component_spans origin.of_file.package_name)
          (package_part text file.package_name
          (package_holds P P text lexed.tokens file each
          (c.spans_of_tokens.ensures.package_name text lexed.tokens file origin.derives)));
      imports = moved _ _ (ap at_spans origin.of_file.imports)
          (imports_part text file.imports 0 filled.imports
          (imports_hold P P text lexed.tokens file each
          (c.spans_of_tokens.ensures.imports text lexed.tokens file origin.derives))
          (subst (λ (spans : List Span). AreInOrder 0 spans) (ap at_spans origin.of_file.imports)
          (c.facts_in_order.ensures.imports facts origin)));
      names = names_part text facts.declarations facts.declarations
          (c.names_are_spelled.ensures origin.form facts.number lexed file facts origin.is_lexed origin.derives
          origin.of_file);
      uses = moved _ _ (ap use_spans origin.of_file.uses)
          (uses_part text file (parts_hold P P text lexed.tokens file each
          (c.spans_of_tokens.ensures.items text lexed.tokens file origin.derives)));
      extents = extents_whole lexed origin.is_lexed origin.form.details file facts.details origin.of_file.details;
    }
