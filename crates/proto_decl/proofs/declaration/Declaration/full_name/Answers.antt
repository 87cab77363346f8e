use Rattle.std.proofs.Common.{◌∙◌, ap}
use Rattle.proto_decl.specs.Values.{Declaration}
use Rattle.proto_decl.specs.Names.{qualified}
use Rattle.proto_decl.proofs.declaration.Declaration.full_name.Goals as goal

pub returns : goal.returns
returns c =
    c.within.ensures
    ∙ (ap (qualified c.self.inside.surrounding.scope) c.as_str.ensures
    ∙ ap (λ (d : Declaration). d.full_name) c.self.view_is)
