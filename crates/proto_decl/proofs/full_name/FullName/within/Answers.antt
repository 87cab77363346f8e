use Rattle.std.proofs.Common.{◌∙◌, ap, sym}
use Rattle.proto_decl.specs.Names.{qualified, hash64_front}
use Rattle.proto_decl.proofs.full_name.FullName.within.Goals as goal

pub invariant_of-result : goal.invariant_of-result
invariant_of-result c = c.hash64.ensures ∙ sym (ap hash64_front c.scope.ensures)

pub returns : goal.returns
returns c = ap (λ s. qualified s c.args.name.now) c.scope.ensures
