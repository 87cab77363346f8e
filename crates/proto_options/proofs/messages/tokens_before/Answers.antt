use Rattle.std.proofs.Common.{rules, subst, sym, ltb, List}
use Rattle.std.specs.List.Sorted.{IsPartitionedBy}
use Rattle.std.proofs.lemmas.List.Sorted.{IsPartitionPoint-from_clause, IsPartitionedBy-ltb}
use Rattle.proto_lex.specs.declared.token.Token.{Token}
use Rattle.proto_decl.proofs.LayoutLineLemmas.{starts_rise, parted_less}
use Rattle.proto_options.proofs.messages.tokens_before.Goals as goal

pub returns-clause-parted : goal.returns-clause-parted
returns-clause-parted c =
    let tokens = c.args.lexed.now.tokens in
    let bound = c.args.offset in
    let key = λ (t : Token). t.span.start in
    let parted = IsPartitionedBy-ltb key tokens bound
    (λ i j d le h. starts_rise (λ (t : Token). t.span) 0 i j d tokens c.tokens.ensures.in_order le h) in
    let listed = subst (λ (xs : List Token). IsPartitionedBy (λ t. ltb (key t) bound) xs)
    (sym c.tokens.ensures.value) parted in
    let point = IsPartitionPoint-from_clause
    (λ (t : Token). ltb (key t) bound) c.tokens.result.now c.partition_point.result
    c.partition_point.ensures.partitioned listed (λ a r q k. search rules) in
    parted_less key bound c.partition_point.result tokens
    (rw c.tokens.ensures.value at c.partition_point.ensures.bound) (rw c.tokens.ensures.value at point)
