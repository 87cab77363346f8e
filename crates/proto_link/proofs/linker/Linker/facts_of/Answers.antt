use Rattle.std.proofs.Common.{List, MatchOption, subst}
use Rattle.proto_decl.specs.Facts.{Facts}
use Rattle.proto_visibility.specs.Files.{File, HasFacts}
use Rattle.proto_link.proofs.linker.Linker.facts_of.Goals as goal

pub returns : goal.returns
returns c =
    subst (λ (fs : List File). MatchOption c.facts_of.result ((facts : Facts) → HasFacts fs c.args.number facts → ⊥)
    (λ facts. HasFacts fs c.args.number facts.now)) c.self.view_is c.facts_of.ensures
