use Rattle.std.proofs.Common.{subst}
use Rattle.proto_visibility.specs.Files.{HaveOrigins, HaveOwnPaths}
use Rattle.proto_link.proofs.linker.Linker.linked.Goals as goal

pub returns-clause-own : goal.returns-clause-own
returns-clause-own c = subst HaveOwnPaths c.self.view_is c.linked.ensures.own

pub returns-clause-origins : goal.returns-clause-origins
returns-clause-origins c = subst HaveOrigins c.self.view_is c.linked.ensures.origins
