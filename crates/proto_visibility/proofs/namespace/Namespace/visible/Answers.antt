use Rattle.std.proofs.Common.{◌↔◌, ◌<◌, IsTrue, List, length, sym, subst}
use Rattle.proto_visibility.specs.Files.{File}
use Rattle.proto_visibility.specs.Sees.{Sees}
use Rattle.proto_visibility.proofs.namespace.Namespace.visible.Goals as goal

pub row-requires : goal.row-requires
row-requires c =
    subst (λ n. c.args.file < n) (sym c.self.invariant.checked.rows_are.one_each)
    (subst (λ (fs : List File). c.args.file < length fs) (sym c.self.view_is) c.requires.file)

pub returns : goal.returns
returns c =
    let sees = c.self.invariant.checked.rows_are.each c.args.file c.row.result c.row.ensures c.args.other in
    subst (λ (fs : List File). IsTrue c.has.result ↔ Sees fs c.args.file c.args.other) c.self.view_is (
      λ t. sees.0 (c.has.ensures.0 t),
      λ s. c.has.ensures.1 (sees.1 s),
    )
