use Rattle.std.proofs.Common.{arith}
use Rattle.proto_decl.proofs.LayoutFreeLemmas.{not_leading, leading}
use Rattle.proto_decl.proofs.comments.leads.Goals as goal

pub returns-then-comment-from-clause-leads : goal.returns-then-comment-from-clause-leads
returns-then-comment-from-clause-leads c =
    λ offset free above. not_leading c.args.lexed.now c.args.comment c.args.from c.args.next c.requires.some
    c.requires.apart c.requires.next (omega arith) offset free

pub returns-clause-leads : goal.returns-clause-leads
returns-clause-leads c =
    leading c.args.lexed.now c.args.comment c.args.from c.args.next c.requires.some c.requires.apart c.requires.next
    (omega arith) c.text.result.now c.text.ensures c.is_adjoining.result c.is_adjoining.ensures
