use Rattle.std.proofs.Common.{◌↔◌, List, sym, subst}
use Rattle.std.specs.Prelude.{Contains}
use Rattle.proto_decl.specs.declared.uses.Use.{Use}
use Rattle.proto_visibility.specs.declared.fault.LinkFault.{LinkFault}
use Rattle.proto_link.specs.Targets.{IsUseFault}
use Rattle.proto_link.proofs.UseFaultLemmas.{AreFaultsOf, of_facts, of_nothing}
use Rattle.proto_link.proofs.ResolveLemmas.{ok_each}
use Rattle.proto_link.proofs.use_faults.use_faults_of.Goals as goal

pub returns-in-Some : goal.returns-in-Some
returns-in-Some c =
    let files = c.args.namespace.now in
    let file = c.args.file in
    ok_each (λ faults. AreFaultsOf files file c.uses.result.now faults.items)
    (λ faults. (fault : LinkFault) → Contains faults.items fault ↔ IsUseFault files file fault)
    c.faults_of.result c.faults_of.ensures (λ faults are.
    of_facts files file c.in-Some.facts.now faults.items c.in-Some.ensures
    (subst (λ (uses : List Use). AreFaultsOf files file uses faults.items) c.uses.ensures are))

pub returns-in-None : goal.returns-in-None
returns-in-None c = λ fault.
    subst (λ (faults : List LinkFault). Contains faults fault ↔ IsUseFault c.args.namespace.now c.args.file fault)
    (sym c.new.ensures.items) (of_nothing c.args.namespace.now c.args.file c.in-None.ensures fault)
