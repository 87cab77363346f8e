use Rattle.std.proofs.Common.{ℕ, Option, Some, MatchOption, IfOk, sym, subst}
use Rattle.proto_options.specs.declared.fields.FieldKind.TheVariants as kinds
use Rattle.option_link.specs.Fields.{MapGives, TypeGives}
use Rattle.option_link.specs.Fields.MapGives.{scalar, named}
use Rattle.option_link.specs.declared.contexts.Context.{Context}
use Rattle.option_link.specs.declared.contexts.Context.TheVariants as inside
use Rattle.option_link.proofs.LoopLemmas.{found_as}
use Rattle.option_link.proofs.FieldLemmas.{mapped_gives_to}
use Rattle.option_link.proofs.fields.KnownFiles.mapped_gives.Goals as goal

pub returns-in-Some : goal.returns-in-Some
returns-in-Some c =
    let files = c.args.self.names.now in
    let map = c.args.map in
    let start = c.in-Some.start in
    subst (λ (v : Option ℕ). IfOk c.type_gives.result (λ found. MatchOption found
    ((context : Context) → MapGives files map (kinds.Map v) context → ⊥) (MapGives files map (kinds.Map v))))
    (sym c.in-Some.is)
    (found_as c.type_gives.result ((context : Context) → TypeGives files map.file start context → ⊥)
    ((context : Context) → MapGives files map (kinds.Map (Some start)) context → ⊥) (TypeGives files map.file start)
    (MapGives files map (kinds.Map (Some start)))
    (λ none context gives. none context (mapped_gives_to files map start context gives))
    (λ context gives. named gives) c.type_gives.ensures)

pub returns-in-None : goal.returns-in-None
returns-in-None c =
    subst (λ (v : Option ℕ). MapGives c.args.self.names.now c.args.map (kinds.Map v) inside.Scalar) (sym c.in-None.is)
    scalar
