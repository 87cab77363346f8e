use Rattle.std.proofs.Common.{MatchOption, IfOk, sym, subst}
use Rattle.proto_options.specs.declared.fields.FieldKind.{FieldKind}
use Rattle.option_link.specs.Fields.{MapGives}
use Rattle.option_link.specs.declared.contexts.Context.{Context}
use Rattle.option_link.proofs.FieldLemmas.{scalar_maps_none, named_maps_none, group_maps_none}
use Rattle.option_link.proofs.fields.KnownFiles.map_gives.Goals as goal

pub returns-in-Map : goal.returns-in-Map
returns-in-Map c =
    subst (λ (k : FieldKind). IfOk c.mapped_gives.result (λ found. MatchOption found
    ((context : Context) → MapGives c.args.self.names.now c.args.map k context → ⊥)
    (MapGives c.args.self.names.now c.args.map k))) (sym c.in-Map.is) c.mapped_gives.ensures

pub returns-in-Scalar : goal.returns-in-Scalar
returns-in-Scalar c =
    subst (λ (k : FieldKind). (context : Context) → MapGives c.args.self.names.now c.args.map k context → ⊥)
    (sym c.in-Scalar.is) (scalar_maps_none c.args.self.names.now c.args.map)

pub returns-in-Named : goal.returns-in-Named
returns-in-Named c =
    subst (λ (k : FieldKind). (context : Context) → MapGives c.args.self.names.now c.args.map k context → ⊥)
    (sym c.in-Named.is) (named_maps_none c.args.self.names.now c.args.map c.in-Named.field-0)

pub returns-in-Group : goal.returns-in-Group
returns-in-Group c =
    subst (λ (k : FieldKind). (context : Context) → MapGives c.args.self.names.now c.args.map k context → ⊥)
    (sym c.in-Group.is) (group_maps_none c.args.self.names.now c.args.map)
