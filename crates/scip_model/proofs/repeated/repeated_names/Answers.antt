use Rattle.std.proofs.Common.{subst}
use Rattle.proto_visibility.specs.Linked.{HaveClearNames}
use Rattle.proto_visibility.specs.declared.clash.Duplicates.{Duplicates}
use Rattle.scip_model.proofs.RepeatedLemmas.{are-none}
use Rattle.scip_model.proofs.repeated.repeated_names.Goals as goal

pub returns-in-Refuse : goal.returns-in-Refuse
returns-in-Refuse c =
    rw c.new.ensures.items
    (are-none c.args.linker.now
    (subst (λ (word : Duplicates). HaveClearNames word c.args.linker.now) c.in-Refuse.is c.duplicates.ensures).clear)
