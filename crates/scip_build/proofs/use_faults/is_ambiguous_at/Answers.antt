use Rattle.std.proofs.Common.{◌↔◌, IsTrue, List, subst}
use Rattle.std.specs.Prelude.{Contains}
use Rattle.proto_visibility.specs.declared.fault.LinkFault.{LinkFault}
use Rattle.proto_visibility.specs.declared.fault.LinkFault.TheVariants.{Ambiguous}
use Rattle.scip_build.proofs.use_faults.is_ambiguous_at.Goals as goal

pub returns : goal.returns
returns c =
    let fault = Ambiguous c.args.place in
    let has = subst (λ (faults : List LinkFault). IsTrue c.has_ambiguous.result ↔ Contains faults fault)
    c.as_slice.ensures.value c.has_ambiguous.ensures in (
      λ t. (c.in_ok-faults.ensures fault).0 (has.0 t),
      λ is. has.1 ((c.in_ok-faults.ensures fault).1 is),
    )
