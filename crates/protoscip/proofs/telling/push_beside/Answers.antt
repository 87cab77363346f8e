use Rattle.std.proofs.Common.{◌∙◌, subst, sym}
use Rattle.protoscip.specs.FaultLines.{HaveFilesOf}
use Rattle.protoscip.proofs.ToldBesideLemmas.{read_have}
use Rattle.protoscip.proofs.telling.push_beside.Goals as goal

pub push_lines-requires-in-len1-up : goal.push_lines-requires-in-len1-up
push_lines-requires-in-len1-up c =
    subst (HaveFilesOf c.args.tree.now) (sym (c.as_slice.ensures.value ∙ c.in_ok-read-in-len1-up.ensures))
    (read_have c.args.tree.now c.args.told.now c.requires)
