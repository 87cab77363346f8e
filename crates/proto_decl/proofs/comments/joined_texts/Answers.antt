use Rattle.std.proofs.Common.{◌∙◌, ◌++◌, ◌∷◌, [], ap, refl, sym, ℕ, List, string_bytes, append_assoc}
use Rattle.proto_lex.specs.declared.token.Comment.{Comment}
use Rattle.proto_lex.specs.declared.token.CommentKind.TheVariants.{Line}
use Rattle.proto_decl.specs.Comments.{text_of}
use Rattle.proto_decl.proofs.CommentTextLemmas.{joined_more}
use Rattle.proto_decl.proofs.comments.joined_texts.Goals as goal

pub loop-comment-preserved : goal.loop-comment-preserved
loop-comment-preserved c =
    let default : Comment = record { kind = Line; span = record { start = 0; end = 0 } } in
    let old = string_bytes c.loop-comment.joined in
    let text = c.text_of-in-loop-comment.result.now in
    let pushed = c.in_ok-push_next_line.ensures
    ∙ (sym (append_assoc old (10 ∷ []) text)
    ∙ ap (λ (t : List ℕ). (old ++ 10 ∷ []) ++ t) c.text_of-in-loop-comment.ensures) in
    joined_more 10 (text_of c.args.lexed.now) c.args.first _ c.args.others.now c.loop-comment.comment-index default old
    (string_bytes c.push_next_line.new.joined) c.loop-comment-test.true refl c.loop-comment.invariant pushed
