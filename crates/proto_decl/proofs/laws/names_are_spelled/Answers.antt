use Rattle.std.specs.List.{All}
use Rattle.proto_lex.specs.declared.token.Token.{Token}
use Rattle.proto_lex.specs.Lexed.{Lexed, IsLexed, IsPart}
use Rattle.proto_decl.proofs.SpanLemmas.{OfToken, parts_hold}
use Rattle.proto_decl.proofs.NameLemmas.{declarations_named}
use Rattle.proto_decl.proofs.laws.names_are_spelled.Goals as goal

parts : (lexed : Lexed) → IsLexed lexed.text lexed.tokens lexed.comments
    → All (λ (t : Token). OfToken (IsPart lexed.text) (IsPart lexed.text) t.kind t.span) lexed.tokens
parts lexed is = λ k d h. (is.token_parts k d h, λ literal. is.token_parts k d h)

pub returns : goal.returns
returns c = λ form number lexed file facts is derives of_file.
    declarations_named form.comments lexed file facts.declarations
    (parts_hold (IsPart lexed.text) (IsPart lexed.text) lexed.text lexed.tokens file (parts lexed is)
    (c.spans_of_tokens.ensures.items lexed.text lexed.tokens file derives)) of_file.declarations
