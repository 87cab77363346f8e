use Rattle.std.proofs.Common.{◌∙◌, ap}
use Rattle.proto_decl.specs.Names.{hash64_on, hash64}
use Rattle.proto_decl.proofs.FullNameLemmas.{hash64_behind}
use Rattle.proto_decl.proofs.full_name.FullName.hash64.Goals as goal

pub returns : goal.returns
returns c =
    c.hash64_on.ensures
    ∙ (ap (λ m. hash64_on m c.self.inside.name.now) c.self.invariant
    ∙ (hash64_behind c.self.inside.scope.now c.self.inside.name.now ∙ ap hash64 c.self.view_is))
