use Rattle.std.proofs.Common.{arith}
use Rattle.proto_decl.proofs.LayoutNextStartLemmas.{found_start, found_within, unfound}
use Rattle.proto_decl.proofs.layout.next_start.Goals as goal

pub overflow_add-result : goal.overflow_add-result
overflow_add-result c =
    omega (
      arith,
      found_within c.args.text.now c.args.from c.args.upto c.between.result.now c.between.ensures c.in-Some.index
          c.in-Some.ensures,
    )

pub overflow_add-result-in-Some : goal.overflow_add-result-in-Some
overflow_add-result-in-Some c =
    omega (
      arith,
      found_within c.args.text.now c.args.from c.args.upto c.between.result.now c.between.ensures c.in-Some.index
          c.in-Some.ensures,
    )

pub returns-in-Some : goal.returns-in-Some
returns-in-Some c =
    found_start c.args.text.now c.args.from c.args.upto c.between.result.now c.between.ensures c.in-Some.index
    c.in-Some.ensures

pub returns-in-None : goal.returns-in-None
returns-in-None c =
    unfound c.args.text.now c.args.from c.args.upto c.between.result.now c.between.ensures c.in-None.ensures
