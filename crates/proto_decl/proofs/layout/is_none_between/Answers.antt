use Rattle.std.proofs.Common.{ap, length, arith}
use Rattle.proto_decl.proofs.LayoutLemmas.{between-test}
use Rattle.proto_decl.proofs.layout.is_none_between.Goals as goal

pub returns : goal.returns
returns c =
    between-test c.args.lexed.now.tokens c.tokens-tokens.result.now c.args.from c.args.upto c.tokens_ended-ended.result
    _ c.tokens-tokens.ensures.value c.tokens-tokens.ensures.in_order
    c.tokens_ended-ended.ensures.parted (omega (arith, ap length c.tokens-tokens.ensures.value))
