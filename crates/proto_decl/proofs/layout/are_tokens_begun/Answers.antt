use Rattle.std.proofs.Common.{arith}
use Rattle.proto_lex.specs.declared.token.Token.{Token}
use Rattle.proto_decl.proofs.LayoutNearLemmas.{begin_by_last}
use Rattle.proto_decl.proofs.layout.are_tokens_begun.Goals as goal

pub returns : goal.returns
returns c = λ is. (
  omega arith,
  begin_by_last (λ (x : Token). x.span) c.args.offset c.args.count c.args.tokens.now c.requires _ (omega arith)
      (omega arith) is,
)
