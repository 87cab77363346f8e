use Rattle.proto_decl.proofs.LawLemmas.{one_leading_text, one_trailing_text}
use Rattle.proto_decl.proofs.laws.one_comment_text.Goals as goal

pub returns-clause-leading : goal.returns-clause-leading
returns-clause-leading c = λ form lexed first text other is a b.
    one_leading_text form lexed is.comments_in_order first a b

pub returns-clause-trailing : goal.returns-clause-trailing
returns-clause-trailing c = λ form lexed closing text other is a b.
    one_trailing_text form lexed is.comments_in_order closing a b
