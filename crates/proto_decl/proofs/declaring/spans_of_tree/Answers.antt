use Rattle.std.specs.List.{All}
use Rattle.proto_lex.specs.declared.token.Token.{Token}
use Rattle.proto_lex.specs.Lexed.{IsPart}
use Rattle.proto_decl.specs.Imports.{IsLiteral}
use Rattle.proto_decl.specs.Spans.{OfPart}
use Rattle.proto_decl.proofs.OutlineLemmas.{parts-outer}
use Rattle.proto_decl.proofs.SpanLemmas.{OfToken, parts_hold, imports_hold, package_holds}
use Rattle.proto_decl.proofs.declaring.spans_of_tree.Goals as goal
use Rattle.proto_decl.proofs.declaring.spans_of_tree.Goals.{After-spans_of_tokens}

of_tokens : (c : After-spans_of_tokens)
    → All (λ (t : Token). OfToken (IsPart c.args.lexed.now.text) (IsLiteral c.args.lexed.now.text) t.kind t.span)
    c.args.lexed.now.tokens
of_tokens c =
    let is = c.are_lexed.ensures in
    λ k d h. (
      is.token_parts k d h,
      λ literal. record { part = is.token_parts k d h; spelled = rw literal at (is.spelled k d h) },
    )

pub returns-clause-package_name : goal.returns-clause-package_name
returns-clause-package_name c =
    package_holds (IsPart c.args.lexed.now.text)
    (IsLiteral c.args.lexed.now.text) c.args.lexed.now.text c.args.lexed.now.tokens c.args.file.now
    (of_tokens (goal.at.returns-clause-package_name c).After-spans_of_tokens)
    (c.spans_of_tokens.ensures.package_name c.args.lexed.now.text c.args.lexed.now.tokens c.args.file.now
    c.requires)

pub returns-clause-imports : goal.returns-clause-imports
returns-clause-imports c =
    imports_hold (IsPart c.args.lexed.now.text)
    (IsLiteral c.args.lexed.now.text) c.args.lexed.now.text c.args.lexed.now.tokens c.args.file.now
    (of_tokens (goal.at.returns-clause-imports c).After-spans_of_tokens)
    (c.spans_of_tokens.ensures.imports c.args.lexed.now.text c.args.lexed.now.tokens c.args.file.now
    c.requires)

pub returns-clause-items : goal.returns-clause-items
returns-clause-items c =
    parts-outer (OfPart (IsPart c.args.lexed.now.text)) c.args.file.now.items
    (parts_hold (IsPart c.args.lexed.now.text)
    (IsLiteral c.args.lexed.now.text) c.args.lexed.now.text c.args.lexed.now.tokens c.args.file.now
    (of_tokens (goal.at.returns-clause-items c).After-spans_of_tokens)
    (c.spans_of_tokens.ensures.items c.args.lexed.now.text c.args.lexed.now.tokens c.args.file.now
    c.requires))
