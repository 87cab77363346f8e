use Rattle.std.proofs.Common.{arith}
use Rattle.proto_decl.proofs.LayoutFreeLemmas.{free_at_start, by_next}
use Rattle.proto_decl.proofs.layout.free_from.Goals as goal

pub returns-then-begun-eq0 : goal.returns-then-begun-eq0
returns-then-begun-eq0 c = free_at_start c.args.lexed.now c.args.first c.args.begun c.requires (omega arith)

pub returns : goal.returns
returns c =
    by_next c.args.lexed.now c.args.first c.args.begun c.requires (omega arith) c.tokens.result.now
    c.tokens.ensures.value c.tokens.ensures.in_order c.text.result.now c.text.ensures _ c.next_start.result
    c.next_start.ensures
