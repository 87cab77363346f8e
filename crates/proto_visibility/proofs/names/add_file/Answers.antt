use Rattle.std.proofs.Common.{List, ℕ, ◌↔◌, ◌⊎◌, sym, ◌∙◌, ap, subst}
use Rattle.std.specs.List.{Contains}
use Rattle.std.specs.Option.{option_map}
use Rattle.proto_decl.specs.declared.declaration.Declaration.{Declaration}
use Rattle.proto_visibility.specs.declared.names.DeclaredAt.{DeclaredAt}
use Rattle.proto_visibility.specs.Files.{File}
use Rattle.proto_visibility.specs.Tables.GivenNames.{owned_at, IsDeclaredOf}
use Rattle.proto_visibility.proofs.NameLemmas.{declared_in_file, on_ok}
use Rattle.proto_visibility.proofs.names.add_file.Goals as goal

pub returns-in-Some : goal.returns-in-Some
returns-in-Some c =
    let old = owned_at c.args.names.now in
    let new = owned_at c.add_declarations.new.names in
    let known = sym (ap (λ (f : File). f.facts) c.file.view_is) ∙ ap (option_map (λ facts. facts.now)) c.in-Some.is in
    on_ok c.add_declarations.result c.add_declarations.ensures
    (λ its. declared_in_file c.args.number c.args.file.now c.in-Some.facts.now old new known
    (subst (λ (ds : List Declaration). (name : List ℕ) (one : DeclaredAt) → Contains (new name) one
    ↔ (Contains (old name) one ⊎ ((index : ℕ) × IsDeclaredOf c.args.number ds index name one)))
    c.declarations.ensures its))
