use Rattle.std.proofs.Common.{◌∙◌, sym}
use Rattle.proto_decl.proofs.FullNameLemmas.{same_scopes}
use Rattle.proto_decl.proofs.full_name.are_same.Goals as goal

pub returns-then-scope-other_scope : goal.returns-then-scope-other_scope
returns-then-scope-other_scope c =
    c.are_same_parts.ensures
    ∙ sym (same_scopes c.args.scope.now c.args.other_scope.now c.args.name.now c.args.other_name.now
    c.if-scope-other_scope.true)
