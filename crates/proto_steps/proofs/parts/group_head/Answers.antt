use Rattle.proto_steps.proofs.AgreeFieldLemmas.{group_head_agrees}
use Rattle.proto_steps.proofs.parts.group_head.Goals as goal

pub returns : goal.returns
returns c = rw (group_head_agrees c.args.custom c.args.first c.args.label c.args.parser.now) c.group_head.ensures
