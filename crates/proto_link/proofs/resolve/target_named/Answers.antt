use Rattle.std.proofs.Common.{◌≤◌, List, ℕ, length, refl, sym, ◌∙◌, subst}
use Rattle.std.specs.String.{string_bytes}
use Rattle.proto_decl.specs.Names.{components_of}
use Rattle.proto_decl.specs.declared.uses.Component.{Component}
use Rattle.std.proofs.lemmas.Bool.{false≢true}
use Rattle.proto_visibility.specs.Knows.{IsGiving, IsGivenTwice, IsOwner, admits, is_type}
use Rattle.proto_link.proofs.TargetLemmas.{is_twice, not_twice, owner_gives, target_is, used_fit}
use Rattle.proto_link.proofs.TargetLemmas.{with_owner, within_files, without_owner}
use Rattle.proto_link.proofs.resolve.target_named.Goals as goal

pub parts_of-requires-clause-owner : goal.parts_of-requires-clause-owner
parts_of-requires-clause-owner c =
    let files = c.args.namespace.now in
    within_files files (admits c.role_wanted-role.result) c.as_str.result.now c.in-Some.owner
    c.in-Some.ensures.gives.giving

pub parts_of-requires-clause-gives : goal.parts_of-requires-clause-gives
parts_of-requires-clause-gives c =
    let files = c.args.namespace.now in
    let file = c.args.file in
    let type_use = c.args.type_use.now in
    let name = string_bytes c.args.name in
    let role = admits c.role_wanted-role.result in
    let owned = subst (λ (n : List ℕ). IsOwner files file role n c.in-Some.owner) c.as_str.ensures.value
    c.in-Some.ensures in
    subst (λ (n : List ℕ). IsGiving files is_type n c.in-Some.owner) (sym c.as_str-in-Some.ensures.value)
    (owner_gives files file type_use name role c.requires.resolves c.role_wanted-role.ensures.role c.in-Some.owner owned)

pub parts_of-requires-clause-count : goal.parts_of-requires-clause-count
parts_of-requires-clause-count c =
    let files = c.args.namespace.now in
    let name = string_bytes c.args.name in
    let few = used_fit files c.args.file c.args.type_use.now name c.requires.resolves in
    let used : length c.as_slice-used.result.now ≤ length (components_of name) =
    subst (λ (cs : List Component). length cs ≤ length (components_of name)) (sym c.as_slice-used.ensures) few in
    subst (λ (n : List ℕ). length c.as_slice-used.result.now ≤ length (components_of n))
    (sym c.as_str-in-Some.ensures.value) used

pub returns-in-Some-clause-target : goal.returns-in-Some-clause-target
returns-in-Some-clause-target c =
    let files = c.args.namespace.now in
    let file = c.args.file in
    let type_use = c.args.type_use.now in
    let name = string_bytes c.args.name in
    let role = admits c.role_wanted-role.result in
    let owned = subst (λ (n : List ℕ). IsOwner files file role n c.in-Some.owner) c.as_str.ensures.value
    c.in-Some.ensures in
    target_is files file type_use c.in-Some.owner name c.as_str-in-Some.result.now c.from_string.result
    c.as_slice-used.result.now c.in_ok-parts-in-Some.parts.items c.from_vec.result
    (with_owner files file type_use name role c.requires.resolves c.role_wanted-role.ensures.role c.in-Some.owner owned)
    c.as_str-in-Some.ensures.value c.as_slice-used.ensures c.in_ok-parts-in-Some.ensures c.from_string.ensures
    c.from_vec.ensures

pub returns-then-is_given_twice-clause-refused : goal.returns-then-is_given_twice-clause-refused
returns-then-is_given_twice-clause-refused c =
    let files = c.args.namespace.now in
    let file = c.args.file in
    let type_use = c.args.type_use.now in
    let name = string_bytes c.args.name in
    let role = admits c.role_wanted-role.result in
    let twice = subst (λ (n : List ℕ). IsGivenTwice files file role n) c.as_str-in-None.ensures.value
    (c.is_given_twice.ensures.0 c.if-is_given_twice.true) in
    rw c.ambiguous.ensures
    (is_twice files file type_use name role c.requires.resolves c.role_wanted-role.ensures.role twice, refl)

pub returns-clause-refused : goal.returns-clause-refused
returns-clause-refused c =
    let files = c.args.namespace.now in
    let file = c.args.file in
    let type_use = c.args.type_use.now in
    let name = string_bytes c.args.name in
    let role = admits c.role_wanted-role.result in
    let none = subst (λ (n : List ℕ). (owner : ℕ) → IsOwner files file role n owner → ⊥) c.as_str.ensures.value
    c.in-None.ensures in
    let once : IsGivenTwice files file role name → ⊥ =
    λ twice. false≢true (sym c.if-is_given_twice.false ∙ c.is_given_twice.ensures.1
    (subst (λ (n : List ℕ). IsGivenTwice files file role n) (sym c.as_str-in-None.ensures.value) twice)) in
    rw c.unresolved.ensures (
      without_owner files file type_use name role c.requires.resolves c.role_wanted-role.ensures.role none,
      not_twice files file type_use name role c.requires.resolves c.role_wanted-role.ensures.role once,
      refl,
    )
