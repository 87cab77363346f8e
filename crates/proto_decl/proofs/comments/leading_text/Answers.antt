use Rattle.std.proofs.Common.{sym, subst}
use Rattle.std.proofs.lemmas.Result.{IfOk-weaker}
use Rattle.proto_decl.specs.Comments.{IsLeadingText}
use Rattle.proto_decl.specs.Comments.IsLeadingText.{leading, not_first}
use Rattle.proto_decl.proofs.comments.leading_text.Goals as goal

pub returns-in-None : goal.returns-in-None
returns-in-None c =
    subst (IsLeadingText c.args.form c.args.lexed.now c.args.first) (sym c.borrowed.ensures)
    (not_first c.in-None.ensures)

pub returns-in-Some : goal.returns-in-Some
returns-in-Some c =
    IfOk-weaker c.texts_in.result _ _
    (λ text same. subst (IsLeadingText c.args.form c.args.lexed.now c.args.first) (sym same)
    (leading c.in-Some.ensures.0 c.leading_comments.ensures.longest))
    c.texts_in.ensures
