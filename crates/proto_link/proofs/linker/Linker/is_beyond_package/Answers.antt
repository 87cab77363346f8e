use Rattle.std.proofs.Common.{◌↔◌, IfOk, IsTrue, List, subst}
use Rattle.proto_visibility.specs.Files.{File}
use Rattle.proto_link.specs.Uncertain.{IsBeyondPackage}
use Rattle.proto_link.proofs.linker.Linker.is_beyond_package.Goals as goal

pub returns : goal.returns
returns c =
    subst (λ (files : List File). IfOk c.is_beyond_package.result
    (λ is. IsTrue is ↔ IsBeyondPackage files c.args.file c.args.start.now)) c.self.view_is c.is_beyond_package.ensures
