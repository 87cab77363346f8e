use Rattle.std.proofs.Common.{◌≡◌, ◌<◌, ◌++◌, ◌∷◌, [], List, ℕ, Some, cond, length, refl, sym, ap, ◌∙◌, subst, arith}
use Rattle.std.specs.List.{slice_get}
use Rattle.std.specs.Str.{bytes_eq}
use Rattle.std.proofs.lemmas.Option.{slice_get_read}
use Rattle.proto_decl.specs.declared.declaration.DeclarationKind.{DeclarationKind}
use Rattle.proto_visibility.specs.Knows.{is_aggregate}
use Rattle.proto_visibility.specs.Knows.NameKind.{OfDeclaration}
use Rattle.proto_visibility.specs.declared.names.DeclaredAt.{DeclaredAt}
use Rattle.proto_visibility.specs.Tables.GivenNames.{owned_at, IsDeclaredOf}
use Rattle.proto_visibility.proofs.NameLemmas.{up_to_more, up_to_skip, up_to_all, declared_here, not_declared}
use Rattle.proto_visibility.proofs.NameLemmas.{declared_within}
use Rattle.proto_visibility.proofs.names.add_declarations.Goals as goal

pub loop-index-preserved-then-not-admits : goal.loop-index-preserved-then-not-admits
loop-index-preserved-then-not-admits c =
    let declarations = c.args.declarations.now in
    let declaration = c.index-declarations-index.result in
    let index = c.loop-index.index in
    let within : index < length declarations = omega arith in
    let stands : slice_get declarations index ≡ Some declaration =
    slice_get_read declarations (length declarations) index declaration refl within c.index-declarations-index.is in
    up_to_skip (owned_at c.args.names.now) (IsDeclaredOf c.args.number declarations)
    (owned_at c.loop-index.names) index
    (not_declared c.args.number declarations index declaration stands
    (ap (λ k. is_aggregate (OfDeclaration k)) (sym c.kind-kind.ensures)
    ∙ (sym c.admits.ensures ∙ c.if-not-admits.true)))
    c.loop-index.invariant

pub loop-index-preserved : goal.loop-index-preserved
loop-index-preserved c =
    let declarations = c.args.declarations.now in
    let declaration = c.index-declarations-index.result in
    let index = c.loop-index.index in
    let now = owned_at c.loop-index.names in
    let new = owned_at c.add_declared.new.names in
    let within : index < length declarations = omega arith in
    let stands : slice_get declarations index ≡ Some declaration =
    slice_get_read declarations (length declarations) index declaration refl within c.index-declarations-index.is in
    let one : DeclarationKind → DeclaredAt = λ kind. record { file = c.args.number; index = index; kind = kind } in
    let after = λ (name : List ℕ). subst
    (λ key. new name ≡ cond (bytes_eq key name) (now name ++ one declaration.kind ∷ []) (now name)) c.full_name.ensures
    (subst (λ kind. new name ≡ cond (bytes_eq c.full_name.result name) (now name ++ one kind ∷ []) (now name))
    c.kind-kind.ensures (c.in_ok-add_declared.ensures name)) in
    up_to_more (owned_at c.args.names.now) (IsDeclaredOf c.args.number declarations) now new index
    (declared_here c.args.number declarations index declaration stands now new
    (ap (λ k. is_aggregate (OfDeclaration k)) (sym c.kind-kind.ensures)
    ∙ (sym c.admits.ensures ∙ c.if-not-admits.false))
    after) c.loop-index.invariant

pub returns : goal.returns
returns c =
    let declarations = c.args.declarations.now in
    up_to_all (owned_at c.args.names.now) (IsDeclaredOf c.args.number declarations)
    (owned_at c.loop-index.names) c.loop-index.index (length declarations) (omega arith)
    (declared_within c.args.number declarations) c.loop-index.invariant
