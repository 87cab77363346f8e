use Rattle.std.proofs.Common.{subst}
use Rattle.proto_visibility.specs.declared.clash.Duplicates.TheVariants.{Keep}
use Rattle.proto_visibility.specs.Files.{HaveOrigins}
use Rattle.proto_visibility.specs.Linked.{HaveClearNames}
use Rattle.option_link.proofs.table.DeclarationTable.linked.Goals as goal

pub returns-clause-clear : goal.returns-clause-clear
returns-clause-clear c = subst (HaveClearNames Keep) c.linker.ensures c.linked.ensures.clear

pub returns-clause-origins : goal.returns-clause-origins
returns-clause-origins c = subst HaveOrigins c.linker.ensures c.linked.ensures.origins
