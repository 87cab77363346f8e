use Rattle.std.proofs.Common.{subst}
use Rattle.proto_visibility.specs.Linked.{HaveClearNames}
use Rattle.proto_visibility.proofs.namespace.Namespace.duplicates.Goals as goal

pub returns : goal.returns
returns c =
    subst (HaveClearNames c.self.inside.duplicates) c.self.view_is c.self.invariant.checked.clear_names
