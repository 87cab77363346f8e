use Rattle.std.proofs.Common.{◌∙◌, sym, subst, List, ℕ}
use Rattle.comment_texts.specs.Comments.{IsCommentIn}
use Rattle.proto_decl.proofs.comments.text_of.Goals as goal

pub between_marks-between-requires : goal.between_marks-between-requires
between_marks-between-requires c =
    subst (λ (text : List ℕ). IsCommentIn text c.args.comment) (sym (c.as_str.ensures.same ∙ c.text.ensures)) c.requires
