use Rattle.std.proofs.Common.{IfOk, List, subst}
use Rattle.proto_visibility.specs.Files.{File}
use Rattle.proto_visibility.specs.Absences.{AreMissing}
use Rattle.proto_link.proofs.linker.Linker.missing_imports.Goals as goal

pub returns : goal.returns
returns c = subst (λ (files : List File). IfOk c.missing_imports.result (λ places. AreMissing files places.items))
    c.self.view_is c.missing_imports.ensures
