use Rattle.std.proofs.Common.{◌≡◌, sym, ◌∙◌}
use Rattle.std.proofs.lemmas.Option.{none-some}
use Rattle.proto_options.specs.declared.fields.FieldKind.TheVariants as kinds
use Rattle.option_link.proofs.LoopLemmas.{never_so, iff_as}
use Rattle.option_link.proofs.members.is_own_group.Goals as goal

pub returns-in-Some : goal.returns-in-Some
returns-in-Some c = never_so _ (λ its. none-some _ (sym its.0 ∙ c.in-Some.is))

pub returns-in-None : goal.returns-in-None
returns-in-None c =
    iff_as c.is_group.result (c.args.fact.kind ≡ kinds.Group) _ (λ group. (c.in-None.is, group)) (λ its. its.1)
    c.is_group.ensures
