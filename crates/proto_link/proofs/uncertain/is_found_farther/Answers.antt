use Rattle.std.proofs.Common.{◌-◌, List, ℕ, MatchOption, IsTrue, ◌↔◌, length, map, take, drop, subst}
use Rattle.proto_decl.specs.Names.{package_of}
use Rattle.proto_decl.specs.Facts.{Facts}
use Rattle.proto_decl.specs.declared.uses.Component.{Component}
use Rattle.proto_visibility.specs.Files.{HasFacts}
use Rattle.proto_visibility.specs.Knows.{admits}
use Rattle.proto_link.specs.Resolves.{Innermost}
use Rattle.proto_link.specs.Uncertain.{IsFartherOut, IsFoundFarther, first_wanted}
use Rattle.proto_link.proofs.ResolveLemmas.{ok_each}
use Rattle.proto_link.proofs.UncertainLemmas.{first_words, found_by}
use Rattle.proto_link.proofs.uncertain.is_found_farther.Goals as goal

pub returns-in-Some : goal.returns-in-Some
returns-in-Some c =
    let files = c.args.namespace.now in
    let file = c.args.file in
    let type_use = c.args.type_use.now in
    let components = c.as_slice.result.now in
    let first = c.first-item.result in
    let others = map (λ (x : Component). x.name) (take (length components - 1) (drop 1 components)) in
    let start = c.in-Some.start.now in
    let role = admits c.first_role-role.result in
    let text = c.as_str.result.now in
    let scope = c.as_str-scope.result.now in
    let words = first_words type_use components first c.as_slice.ensures c.in-len1-up.len_at_least c.first-item.is in
    let found = subst (λ f. MatchOption f ((s : List ℕ) → Innermost files file role text scope s → ⊥)
    (λ s. Innermost files file role text scope s.now)) c.in-Some.is c.in_ok-start-in-len1-up.ensures in
    let by_role = subst (λ r. Innermost files file r text scope start) c.first_role-role.ensures found in
    let wanted = first_wanted type_use.is_extended others in
    let by_text = subst (λ t. Innermost files file wanted t scope start) c.as_str.ensures by_role in
    let by_scope = subst (λ s. Innermost files file wanted first.name s start) c.as_str-scope.ensures by_text in
    ok_each (λ is. IsTrue is ↔ ((facts : Facts) × HasFacts files file facts
    × IsFartherOut (package_of facts.package_name (length facts.package_name)) start))
    (λ is. IsTrue is ↔ IsFoundFarther files file type_use) c.is_beyond_package.result c.is_beyond_package.ensures
    (λ is beyond. found_by files file type_use first.name others words start c.if-type_use.false by_scope is beyond)
