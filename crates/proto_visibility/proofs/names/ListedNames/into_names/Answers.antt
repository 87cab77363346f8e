use Rattle.std.proofs.Common.{List, subst}
use Rattle.proto_visibility.specs.Files.{File}
use Rattle.proto_visibility.specs.Tables.GivenNames.{AreNames}
use Rattle.proto_visibility.proofs.names.ListedNames.into_names.Goals as goal

pub returns : goal.returns
returns c = subst (λ (fs : List File). AreNames fs c.self.inside.names) c.self.view_is c.self.invariant
