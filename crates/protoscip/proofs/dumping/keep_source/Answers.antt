use Rattle.std.proofs.Common.{subst, List}
use Rattle.source_tree.specs.Files.{TreeFile}
use Rattle.scip_build.specs.AsRead.{AreReadIn}
use Rattle.protoscip.proofs.dumping.keep_source.Goals as goal

pub returns : goal.returns
returns c =
    subst (λ (files : List TreeFile). AreReadIn c.args.dialect files c.in_ok-tree.field-0)
    c.in_ok-source.ensures c.in_ok-tree.ensures
