use Rattle.std.proofs.Common.{List, ℕ, sym, ◌∙◌}
use denote.Ref.{Bor}
use Rattle.proto_decl.proofs.FullNameLemmas.{qualified_empty, scope_behind}
use Rattle.proto_decl.proofs.full_name.behind_scope.Goals as goal

pub returns-then-is_empty : goal.returns-then-is_empty
returns-then-is_empty c =
    sym (qualified_empty c.args.outer.now c.args.scope.now (sym c.is_empty.ensures ∙ c.if-is_empty.true))

pub returns : goal.returns
returns c =
    scope_behind (λ (rest : Bor (List ℕ)). rest.now) c.behind.result c.args.scope.now c.args.outer.now
    (sym c.is_empty.ensures ∙ c.if-is_empty.false) c.behind.ensures
