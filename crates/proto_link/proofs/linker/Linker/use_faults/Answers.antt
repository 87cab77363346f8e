use Rattle.std.proofs.Common.{◌↔◌, IfOk, List, subst}
use Rattle.std.specs.Prelude.{Contains}
use Rattle.proto_visibility.specs.declared.fault.LinkFault.{LinkFault}
use Rattle.proto_visibility.specs.Files.{File}
use Rattle.proto_link.specs.Targets.{IsUseFault}
use Rattle.proto_link.proofs.linker.Linker.use_faults.Goals as goal

pub returns : goal.returns
returns c =
    subst (λ (files : List File). IfOk c.use_faults_of.result (λ faults. (fault : LinkFault)
    → Contains faults.items fault ↔ IsUseFault files c.args.file fault)) c.self.view_is c.use_faults_of.ensures
