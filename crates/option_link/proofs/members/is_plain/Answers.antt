use Rattle.std.proofs.Common.{◌≡◌, sym, ◌∙◌}
use Rattle.std.proofs.lemmas.Bool.{false≢true}
use Rattle.std.proofs.lemmas.Option.{none-some}
use Rattle.proto_options.specs.declared.fields.FieldKind.TheVariants as kinds
use Rattle.option_link.proofs.LoopLemmas.{never_so, iff_as, not_so, always_so}
use Rattle.option_link.proofs.members.is_plain.Goals as goal

pub returns-in-Some : goal.returns-in-Some
returns-in-Some c = never_so _ (λ its. none-some _ (sym its.0 ∙ c.in-Some.is))

pub returns-then-not-in_braces : goal.returns-then-not-in_braces
returns-then-not-in_braces c =
    always_so _ (c.in-None.is, λ braces. absurd (false≢true (sym c.if-not-in_braces.true ∙ braces)))

pub returns-else-not-in_braces : goal.returns-else-not-in_braces
returns-else-not-in_braces c =
    iff_as _ (c.args.fact.kind ≡ kinds.Group → ⊥) _ (λ not. (c.in-None.is, λ braces. not))
    (λ its. its.1 c.if-not-in_braces.false) (not_so c.is_group.result (c.args.fact.kind ≡ kinds.Group)
    c.is_group.ensures)
