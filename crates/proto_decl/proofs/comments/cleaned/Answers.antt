use Rattle.std.proofs.Common.{◌∙◌, sym, subst, List, ℕ}
use Rattle.std.specs.List.{All}
use Rattle.comment_texts.specs.Comments.{IsCommentIn}
use Rattle.proto_decl.proofs.comments.cleaned.Goals as goal

pub clean_text-requires : goal.clean_text-requires
clean_text-requires c =
    subst (λ (text : List ℕ). All (IsCommentIn text) c.args.comments.now)
    (sym (c.as_str.ensures.same ∙ c.text.ensures)) c.requires
