use Rattle.std.proofs.Common.{subst}
use Rattle.proto_visibility.specs.Files.{HaveOrigins, HaveOwnPaths}
use Rattle.proto_visibility.specs.declared.clash.Duplicates.TheVariants.{Keep}
use Rattle.proto_visibility.specs.Linked.{HaveClearNames}
use Rattle.proto_visibility.proofs.DuplicateLemmas.{clear_each}
use Rattle.proto_visibility.proofs.namespace.Namespace.linked.Goals as goal

pub returns-clause-own : goal.returns-clause-own
returns-clause-own c = subst HaveOwnPaths c.self.view_is c.self.invariant.checked.own_paths

pub returns-clause-clear : goal.returns-clause-clear
returns-clause-clear c = subst (HaveClearNames Keep) c.self.view_is
    (clear_each c.self.inside.duplicates c.self.inside.files.now c.self.invariant.checked.clear_names)

pub returns-clause-origins : goal.returns-clause-origins
returns-clause-origins c = subst HaveOrigins c.self.view_is c.self.invariant.checked.origins
