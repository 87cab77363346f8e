use Rattle.std.proofs.Common.{[], sym, subst}
use Rattle.std.proofs.lemmas.List.Elements.{All-cons, All-nil}
use Rattle.std.proofs.lemmas.Result.{IfOk-weaker}
use Rattle.comment_texts.specs.Comments.{IsCommentIn}
use Rattle.proto_decl.specs.Comments.{IsTrailingText}
use Rattle.proto_decl.specs.Comments.IsTrailingText.{trailing, none}
use Rattle.proto_decl.proofs.comments.trailing_text.Goals as goal

pub texts_in-requires : goal.texts_in-requires
texts_in-requires c =
    All-cons (IsCommentIn c.args.lexed.now.text) c.in-Some.comment [] c.in-Some.ensures.stands
    (All-nil (IsCommentIn c.args.lexed.now.text))

pub returns-in-Some : goal.returns-in-Some
returns-in-Some c =
    IfOk-weaker c.texts_in.result _ _
    (λ text same. subst (IsTrailingText c.args.form c.args.lexed.now c.args.closing) (sym same)
    (trailing c.in-Some.ensures.found))
    c.texts_in.ensures

pub returns-in-None : goal.returns-in-None
returns-in-None c = subst (IsTrailingText c.args.form c.args.lexed.now c.args.closing) (sym c.borrowed.ensures)
    (none c.in-None.ensures.found)
