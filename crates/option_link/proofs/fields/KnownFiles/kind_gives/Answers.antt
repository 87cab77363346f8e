use Rattle.std.proofs.Common.{◌≡◌, MatchOption, IfOk, sym, ap, ◌∙◌, subst}
use Rattle.proto_decl.specs.declared.declaration.Declaration.{Declaration}
use Rattle.proto_decl.specs.declared.declaration.DeclarationKind.TheVariants.{Message}
use Rattle.proto_options.specs.declared.fields.FieldKind.{FieldKind}
use Rattle.proto_options.specs.declared.fields.FieldKind.TheVariants as kinds
use Rattle.option_link.specs.Places.{StandsAs}
use Rattle.option_link.specs.Fields.{KindGives, TypeGives}
use Rattle.option_link.specs.Fields.KindGives.{scalar, named, group, entries}
use Rattle.option_link.specs.declared.contexts.Context.{Context}
use Rattle.option_link.specs.declared.contexts.Context.TheVariants as inside
use Rattle.option_link.specs.declared.place.DeclaredPlace.{DeclaredPlace}
use Rattle.option_link.proofs.LoopLemmas.{found_as}
use Rattle.option_link.proofs.FieldLemmas.{named_gives_to, group_gives_none}
use Rattle.option_link.proofs.fields.KnownFiles.kind_gives.Goals as goal

pub returns-in-Scalar : goal.returns-in-Scalar
returns-in-Scalar c =
    subst (λ (k : FieldKind). KindGives c.args.self.names.now c.args.field k inside.Scalar) (sym c.in-Scalar.is) scalar

pub returns-in-Named : goal.returns-in-Named
returns-in-Named c =
    let files = c.args.self.names.now in
    let field = c.args.field in
    let start = c.in-Named.start in
    subst (λ (k : FieldKind). IfOk c.type_gives.result (λ found. MatchOption found
    ((context : Context) → KindGives files field k context → ⊥) (KindGives files field k))) (sym c.in-Named.is)
    (found_as c.type_gives.result ((context : Context) → TypeGives files field.file start context → ⊥)
    ((context : Context) → KindGives files field (kinds.Named start) context → ⊥) (TypeGives files field.file start)
    (KindGives files field (kinds.Named start))
    (λ none context gives. none context (named_gives_to files field start context gives))
    (λ context gives. named gives) c.type_gives.ensures)

pub returns-in-Group : goal.returns-in-Group
returns-in-Group c =
    let files = c.args.self.names.now in
    let field = c.args.field in
    let is = c.behind.ensures in
    subst (λ (k : FieldKind). IfOk c.group_gives.result (λ found. MatchOption found
    ((context : Context) → KindGives files field k context → ⊥) (KindGives files field k))) (sym c.in-Group.is)
    (found_as c.group_gives.result ((d : Declaration) → StandsAs files Message c.behind.result d → ⊥)
    ((context : Context) → KindGives files field kinds.Group context → ⊥)
    (λ context. (context ≡ inside.Message c.behind.result)
    × ((d : Declaration) × StandsAs files Message c.behind.result d)) (KindGives files field kinds.Group)
    (λ none. group_gives_none files field (λ d stands. none d
    (subst (λ (p : DeclaredPlace). StandsAs files Message p d) (sym is) stands)))
    (λ context its. subst (KindGives files field kinds.Group) (sym (its.0 ∙ ap inside.Message is))
    (group (subst (λ (p : DeclaredPlace). StandsAs files Message p its.1.0) is its.1.1))) c.group_gives.ensures)

pub returns-in-Map : goal.returns-in-Map
returns-in-Map c =
    subst (λ (k : FieldKind). KindGives c.args.self.names.now c.args.field k (inside.Entries c.args.field))
    (sym c.in-Map.is) entries
