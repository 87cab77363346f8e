use Rattle.std.proofs.Common.{rules, subst, sym, ltb, List}
use Rattle.std.specs.List.Sorted.{IsPartitionedBy}
use Rattle.std.proofs.lemmas.List.Sorted.{IsPartitionPoint-from_clause, IsPartitionedBy-ltb}
use Rattle.proto_lex.specs.declared.token.Comment.{Comment}
use Rattle.proto_decl.proofs.LayoutLineLemmas.{starts_rise, parted_less}
use Rattle.proto_decl.proofs.layout.comments_begun.Goals as goal

pub returns-in-None-clause-parted : goal.returns-in-None-clause-parted
returns-in-None-clause-parted c =
    let comments = c.args.lexed.now.comments in
    let bound = c.args.offset in
    let key = λ (t : Comment). t.span.start in
    let parted = IsPartitionedBy-ltb key comments bound
    (λ i j d le h. starts_rise (λ (t : Comment). t.span) 0 i j d comments c.comments-comments.ensures.in_order le h) in
    let listed = subst (λ (xs : List Comment). IsPartitionedBy (λ t. ltb (key t) bound) xs)
    (sym c.comments-comments.ensures.value) parted in
    let point = IsPartitionPoint-from_clause
    (λ (t : Comment). ltb (key t) bound) c.comments-comments.result.now c.partition_point.result
    c.partition_point.ensures.partitioned listed (λ a r q k. search rules) in
    parted_less key bound c.partition_point.result comments
    (rw c.comments-comments.ensures.value at c.partition_point.ensures.bound)
    (rw c.comments-comments.ensures.value at point)

pub returns-in-None-clause-within : goal.returns-in-None-clause-within
returns-in-None-clause-within c = rw c.comments-comments.ensures.value at c.partition_point.ensures.bound

pub returns-in-Some-clause-within : goal.returns-in-Some-clause-within
returns-in-Some-clause-within c = (rw c.comments-comments.ensures.value at c.in-Some.ensures).0

pub returns-in-Some-clause-parted : goal.returns-in-Some-clause-parted
returns-in-Some-clause-parted c = (rw c.comments-comments.ensures.value at c.in-Some.ensures).1
