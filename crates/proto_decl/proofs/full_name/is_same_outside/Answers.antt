use Rattle.proto_decl.proofs.FullNameLemmas.{found_outside, not_outside, no_rest}
use Rattle.proto_decl.proofs.full_name.is_same_outside.Goals as goal

pub returns-in-Some-behind : goal.returns-in-Some-behind
returns-in-Some-behind c =
    found_outside c.args.scope.now c.args.name.now c.args.inner_scope.now c.args.inner_name.now
    c.in-Some.between.now c.in-Some-behind.rest.now c.eq.result c.requires c.in-Some.ensures
    c.in-Some-behind.ensures c.eq.ensures

pub returns-in-None-behind : goal.returns-in-None-behind
returns-in-None-behind c = (
  λ t. cc,
  λ e. absurd (no_rest c.args.scope.now c.args.name.now c.args.inner_scope.now c.args.inner_name.now
      c.in-Some.between.now c.requires c.in-Some.ensures c.in-None-behind.ensures e),
)

pub returns-in-None : goal.returns-in-None
returns-in-None c = (
  λ t. cc,
  λ e. absurd (not_outside c.args.scope.now c.args.name.now c.args.inner_scope.now c.args.inner_name.now c.requires
      c.in-None.ensures e),
)
