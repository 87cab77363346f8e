use Rattle.std.proofs.Common.{◌↔◌, List, ℕ, MatchOption, IsTrue, sym, subst}
use Rattle.std.specs.String.{string_bytes}
use Rattle.proto_visibility.specs.Knows.{IsOwner, admits}
use Rattle.proto_link.specs.Resolves.{Resolves}
use Rattle.proto_link.specs.Uncertain.{HasTarget}
use Rattle.proto_link.specs.Tables.Found.{HasNoName}
use Rattle.proto_link.proofs.UncertainLemmas.{target_iff}
use Rattle.proto_link.proofs.uncertain.has_target.Goals as goal

pub returns-in-Some : goal.returns-in-Some
returns-in-Some c =
    let files = c.args.namespace.now in
    let file = c.args.file in
    let type_use = c.args.type_use.now in
    let role = admits c.role_wanted-role.result in
    let name = string_bytes c.in-Some.name in
    let found = subst (λ f. MatchOption f (HasNoName files file type_use)
    (λ n. Resolves files file type_use (string_bytes n))) c.in-Some.is c.in_ok-name.ensures in
    let owned = subst (λ (n : List ℕ). MatchOption c.owner_of.result ((owner : ℕ) → IsOwner files file role n owner → ⊥)
    (IsOwner files file role n)) c.as_str.ensures.value c.owner_of.ensures in
    subst (λ r. IsTrue r ↔ HasTarget files file type_use) (sym c.is_some.ensures)
    (target_iff files file type_use name role found c.role_wanted-role.ensures.role c.owner_of.result owned)
