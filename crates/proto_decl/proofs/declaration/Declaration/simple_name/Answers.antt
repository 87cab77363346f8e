use Rattle.std.proofs.Common.{◌∙◌, ap, sym}
use Rattle.proto_decl.specs.Values.{Declaration}
use Rattle.proto_decl.specs.Declares.{simple_name}
use Rattle.proto_decl.proofs.NameLemmas.{simple_name-push}
use Rattle.proto_decl.proofs.declaration.Declaration.simple_name.Goals as goal

pub returns : goal.returns
returns c =
    c.as_str.ensures
    ∙ (sym (simple_name-push c.self.inside.surrounding.path c.self.inside.last)
    ∙ ap (λ (d : Declaration). simple_name d.path) c.self.view_is)
