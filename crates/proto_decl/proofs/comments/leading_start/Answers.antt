use Rattle.proto_decl.proofs.CommentStartLemmas.{begins_at_first, begins_at_token, begins_unled}
use Rattle.proto_decl.proofs.comments.leading_start.Goals as goal

pub returns-in_default : goal.returns-in_default
returns-in_default c = begins_unled c.args.lexed.now c.args.first c.in_default.ensures

pub returns-in-empty : goal.returns-in-empty
returns-in-empty c =
    begins_at_token c.args.lexed.now c.args.first c.leading_comments.result.now c.leading_comments.ensures.longest
    c.in-empty.len_below

pub returns-in-len1-up : goal.returns-in-len1-up
returns-in-len1-up c =
    begins_at_first c.args.lexed.now c.args.first c.leading_comments.result.now _ c.in-Some.ensures.0
    c.leading_comments.ensures.longest c.in-len1-up.len_at_least
