-- An answer is allowed if it is that of the callback.
use Rattle.index_hooks.proofs.WithCommentLemmas.{same_answer}
use Rattle.index_hooks.specs.ReadyPromises.{HasComment}
use Rattle.index_hooks.proofs.with_comment.WithCommentFilterPromise.allows.Goals as goal

pub returns : goal.returns
returns c = same_answer (HasComment c.args.view.now) c.args.keep c.is_commented.result c.is_commented.ensures
