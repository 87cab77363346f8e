use Rattle.std.proofs.Common.{◌∙◌}
use Rattle.std.specs.String.{string_bytes}
use Rattle.scip_query.proofs.MoreAnswerLemmas.{indented}
use Rattle.scip_query.proofs.more_answer.push_indent.Goals as goal

pub loop-level-preserved : goal.loop-level-preserved
loop-level-preserved c =
    c.in_ok-push_str.ensures.bytes
    ∙ indented (string_bytes c.args.text.now) (string_bytes c.loop-level.text) c.loop-level._level
    c.loop-level.invariant
