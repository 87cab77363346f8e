use Rattle.std.proofs.Common.{◌↔◌, IfOk, List, subst}
use Rattle.std.specs.Prelude.{Contains}
use Rattle.proto_visibility.specs.Files.{File}
use Rattle.proto_link.specs.declared.uncertain_use.UncertainUse.{UncertainUse}
use Rattle.proto_link.specs.Uncertain.{IsUncertain}
use Rattle.proto_link.proofs.linker.Linker.uncertain_uses.Goals as goal

pub returns : goal.returns
returns c =
    subst (λ (files : List File). IfOk c.uncertain_uses_of.result (λ uses. (uncertain : UncertainUse)
    → Contains uses.items uncertain ↔ IsUncertain files uncertain)) c.self.view_is c.uncertain_uses_of.ensures
