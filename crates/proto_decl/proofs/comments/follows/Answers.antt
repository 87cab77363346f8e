use Rattle.std.proofs.Common.{arith}
use Rattle.std.proofs.lemmas.Bool.{false≢true}
use Rattle.proto_decl.proofs.LayoutLineEndLemmas.{one_line}
use Rattle.proto_decl.proofs.comments.follows.Goals as goal

pub returns-then-is_on_later_line : goal.returns-then-is_on_later_line
returns-then-is_on_later_line c =
    let later = c.is_on_later_line.ensures.0 c.if-is_on_later_line.true in
    ((λ e. absurd (false≢true e)), (λ h. absurd (omega (arith, later, h.0))))

pub returns : goal.returns
returns c =
    let same = one_line c.args.lexed.now.text c.args.closing.end c.args.comment.start c.is_on_later_line.result
    c.requires c.is_on_later_line.ensures c.if-is_on_later_line.false in
    ((λ e. (same, c.is_none_between.ensures.0 e)), (λ h. c.is_none_between.ensures.1 h.1))
