use Rattle.std.proofs.Common.{IfOk, List, subst}
use Rattle.proto_visibility.specs.Files.{File}
use Rattle.proto_visibility.specs.Absences.{AreMissing}
use Rattle.proto_visibility.proofs.namespace.Namespace.missing_imports.Goals as goal

pub returns : goal.returns
returns c = subst (λ (files : List File). IfOk c.all_absent.result (λ places. AreMissing files places.items))
    c.self.view_is c.all_absent.ensures
