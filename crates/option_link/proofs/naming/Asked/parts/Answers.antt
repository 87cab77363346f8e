use Rattle.std.proofs.Common.{◌∙◌}
use Rattle.option_link.proofs.PartLemmas.{parts_by}
use Rattle.option_link.proofs.naming.Asked.parts.Goals as goal

pub returns : goal.returns
returns c =
    parts_by c.args.self.files.names.now c.args.name.now c.args.place c.in_ok-parts.parts.items c.args.behind
    c.in_ok-parts.ensures c.from_vec.result (c.from_vec.ensures ∙ c.in_ok-push.ensures.items)
