use Rattle.std.proofs.Common.{arith}
use Rattle.proto_lex.specs.declared.token.Token.{Token}
use Rattle.proto_decl.proofs.LayoutNearLemmas.{parted_by_next, one_more, parted_at_end}
use Rattle.proto_decl.proofs.layout.tokens_begun_near.Goals as goal

pub returns-then-offset-tokens : goal.returns-then-offset-tokens
returns-then-offset-tokens c = (
  omega arith,
  parted_by_next (λ (x : Token). x.span) c.args.offset c.loop-count.count c.args.tokens.now c.requires _
      c.loop-count-test.true c.loop-count.invariant.begin c.if-offset-tokens.true,
)

pub loop-count-preserved : goal.loop-count-preserved
loop-count-preserved c = record {
  within = omega arith;
  begin = one_more (λ (x : Token). x.span) c.args.offset c.loop-count.count c.args.tokens.now c.requires _
      (omega arith) c.if-offset-tokens.false;
}

pub returns : goal.returns
returns c = (
  c.loop-count.invariant.within,
  parted_at_end (λ (x : Token). x.span) c.args.offset c.loop-count.count c.args.tokens.now c.requires
      (omega arith) c.loop-count.invariant.begin,
)
